-- The first descriptor is not whole, or it is added.
use Rattle.std.proofs.Common.{◌∙◌, ap, sym, subst, List, ℕ, ◌++◌, ◌∷◌, []}
use Rattle.std.proofs.lemmas.Result.{err_from_is_err_and}
use Rattle.usb_descriptor.specs.Descriptor.{front_of, SplitsFirst}
use Rattle.usb_descriptor.specs.Fault.{fault_of}
use Rattle.usb_descriptor.specs.Tally.{Tallies}
use Rattle.usb_descriptor.proofs.Faults.{cut_short}
use Rattle.usb_descriptor.proofs.tally.Tally.add_first.Goals as goal

pub returns-in_default : goal.returns-in_default
returns-in_default c = λ ds h. cut_short ds (front_of c.args.bytes.now) h.configuration c.in_default.ensures

pub returns-in_err-add : goal.returns-in_err-add
returns-in_err-add c = λ ds h.
    let p = err_from_is_err_and c.from_residual.result c.from_residual.ensures.1 in
    rw (p.1, p.2) (ap (fault_of ds) (sym c.in-Some.ensures.first) ∙ c.in_err-add.ensures ds h)

pub returns : goal.returns
returns c = λ ds h.
    let split = c.in-Some.ensures in
    let taken = c.in_ok-add.ensures ds h in
    let P : List ℕ → Type 0 = λ d. SplitsFirst c.args.bytes.now d c.in-Some.rest.now in
    let Q : List ℕ → Type 0 = λ d. Tallies (ds ++ d ∷ []) c.add.new.self in
    record {
      split = subst P split.first split;
      none = ap (fault_of ds) (sym split.first) ∙ taken.0;
      tallies = subst Q split.first taken.1;
    }
