-- The walk ends at the next interface descriptor, at a HID descriptor, or at the end.
use Rattle.std.proofs.Common.{sym, ◌∙◌, ap, arith, length}
use Rattle.std.proofs.lemmas.Bool.{ne_eqb, eq-eqb, eqb-true, eqb-false}
use Rattle.std.proofs.lemmas.List.{nil_from_length}
use Rattle.usb_descriptor.specs.Descriptor.{kind_of}
use Rattle.usb_descriptor.proofs.Cuts.{first_whole, rest_whole}
use Rattle.usb_descriptor.proofs.Walks.{hid_in, hid_at_interface, hid_here, hid_passed, hid_nowhere}
use Rattle.usb_descriptor.proofs.view.first_hid.Goals as goal

pub split_whole-requires : goal.split_whole-requires
split_whole-requires c =
    first_whole c.loop-rest.rest.now (omega (arith, eqb-false _ 0 (sym c.loop-rest-test.ensures))) c.loop-rest.invariant.whole

pub returns-in-4-clause-value : goal.returns-in-4-clause-value
returns-in-4-clause-value c =
    sym (hid_at_interface c.loop-rest.rest.now c.split_whole.result.0.now c.split_whole.result.1.now c.split_whole.ensures
    (eq-eqb (kind_of c.split_whole.result.0.now) 4 c.in-4.is))
    ∙ c.loop-rest.invariant.same

pub returns-in-33-clause-value : goal.returns-in-33-clause-value
returns-in-33-clause-value c =
    let d = c.split_whole.result.0.now in
    sym (hid_here c.loop-rest.rest.now d c.split_whole.result.1.now c.split_whole.ensures
    (ne_eqb (kind_of d) 4 (λ is. omega (arith, is, c.in-33.is))) (eq-eqb (kind_of d) 33 c.in-33.is))
    ∙ c.loop-rest.invariant.same

pub loop-rest-preserved : goal.loop-rest-preserved
loop-rest-preserved c =
    let d = c.split_whole.result.0.now in
    let rest = c.loop-rest.rest.now in
    let after = c.split_whole.result.1.now in
    record {
      whole = rest_whole rest d after c.split_whole.ensures c.loop-rest.invariant.whole;
      same = sym (hid_passed rest d after c.split_whole.ensures (ne_eqb (kind_of d) 4 (λ is. omega arith)) (ne_eqb (kind_of d) 33 (λ is. omega arith)))
          ∙ c.loop-rest.invariant.same;
    }

pub returns-clause-value : goal.returns-clause-value
returns-clause-value c =
    let rest = c.loop-rest.rest.now in
    sym hid_nowhere ∙ ap hid_in (sym (nil_from_length rest (eqb-true (length rest) 0 (sym c.loop-rest-test.ensures)))) ∙ c.loop-rest.invariant.same
