-- One place after another shows the next key, until none is left.
use Rattle.std.proofs.Common.{◌≡◌, suc, ◌+◌, ◌-◌, arith, refl, ◌∙◌}
use Rattle.std.proofs.lemmas.List.{length-set}
use Rattle.emulated_keyboard.specs.Report.{filled, key_report}
use Rattle.emulated_keyboard.proofs.ReportLaws.{shown_next, empty_next, shown_whole}
use Rattle.emulated_keyboard.proofs.report.report_of.Goals as goal

pub places-init : goal.places-init
unfolding key_report filled
places-init c =
    rw c.modifiers_of.ensures
    (record { shown = refl; empty = refl; size = refl; to_last = omega arith })

pub places-preserved : goal.places-preserved
places-preserved c =
    let places : 8 - c.places.place ≡ suc (8 - (c.places.place + 1)) = omega arith in
    record {
      shown = shown_next c.args.keys.now c.places.report c.places.place (8 - c.places.place) (8 - (c.places.place + 1)) c.in-Some.usage places c.places.next
          (omega (arith, c.places.invariant.size)) c.places.invariant.shown c.in-Some.ensures.some c.in-Some.ensures.inside.1;
      empty = empty_next c.args.keys.now c.places.report c.places.place (8 - c.places.place) (8 - (c.places.place + 1)) c.in-Some.usage places c.places.invariant.empty;
      size = length-set c.places.report c.places.place c.in-Some.usage ∙ c.places.invariant.size;
      to_last = omega (arith, c.in-Some.ensures.inside);
    }

pub returns-after-places : goal.returns-after-places
returns-after-places c =
    shown_whole c.args.keys.now c.places.report c.places.place (8 - c.places.place) _ (omega arith) c.places.invariant.shown c.places.invariant.empty
