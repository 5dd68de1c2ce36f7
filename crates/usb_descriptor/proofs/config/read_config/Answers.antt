-- The verdict, in terms of the faults and their places.
use Rattle.std.proofs.Common.{ℕ, List, Result, subst, sym, IfErr, OnOk}
use Rattle.usb_descriptor.specs.declared.fault.DescWhy.{DescWhy}
use Rattle.usb_descriptor.specs.declared.fault.DescFault.{DescFault}
use Rattle.usb_descriptor.specs.Place.{StandsAt, ComesFirst}
use Rattle.usb_descriptor.proofs.Places.{verdict_stands, verdict_first, verdict_faultless}
use Rattle.usb_descriptor.proofs.config.read_config.Goals as goal

pub returns-clause-faultless : goal.returns-clause-faultless
returns-clause-faultless c =
    let bytes = c.args.bytes.now in
    let P : Result (List ℕ) DescFault → Type 0 = λ r. OnOk r ((why : DescWhy) (at : ℕ) → StandsAt bytes why at → ⊥) in
    subst P (sym c.judged.ensures) (verdict_faultless bytes)

pub returns-clause-stands : goal.returns-clause-stands
returns-clause-stands c =
    let bytes = c.args.bytes.now in
    let P : Result (List ℕ) DescFault → Type 0 = λ r. IfErr r (λ f. StandsAt bytes f.why f.at) in
    subst P (sym c.judged.ensures) (verdict_stands bytes)

pub returns-clause-first : goal.returns-clause-first
returns-clause-first c =
    let bytes = c.args.bytes.now in
    let P : Result (List ℕ) DescFault → Type 0 = λ r. IfErr r (λ f. (why : DescWhy) (at : ℕ) → StandsAt bytes why at → ComesFirst f why at) in
    subst P (sym c.judged.ensures) (verdict_first bytes)
