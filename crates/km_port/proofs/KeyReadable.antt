-- Each report that a keyboard makes shows its keys.
use Rattle.std.proofs.Common.{◌≡◌, ℕ, Bool, true, false, List, [], ◌∷◌, Some, refl, sym, subst, if◌then◌else◌}
use Rattle.input_latch.specs.declared.key_latch.KeyChange.{KeyChange}
use Rattle.input_latch.specs.KeyHistory.{Took, delivered, held_after, next_change}
use Rattle.emulated_keyboard.specs.Delivery.{Moment, Showed, Selected, Left, BusReset, SetUp, ToggleRestarted, Asked, Read, Sides, both, after, sides_of, ShowsAccepted}
use Rattle.emulated_keyboard.specs.KeyboardHistory.{Polled, is_entered, is_unread, is_due, shown, last_made, made_by, given_at}
use Rattle.emulated_keyboard.specs.LatchCalls.{latch_after}
use Rattle.emulated_keyboard.specs.Report.{key_report}
use Rattle.emulated_keyboard.specs.declared.given.Given.{Given}
use Rattle.emulated_keyboard.specs.declared.given.Given.TheVariants.{Again, Due, Next, Repeated, Nothing}
use Rattle.emulated_keyboard.proofs.DeliveryLaws.{shows_accepted-all}
use Rattle.emulated_keyboard.proofs.SpanLaws.{told-all}
use Rattle.km_port.specs.Reports.{keys_in}
use Rattle.km_port.proofs.FewKeys.{IsFew, few-none, few_of_accepted}
use Rattle.km_port.proofs.ReadBack.{keys-read}

module _ (sides : Sides) (before : IsFew (last_made sides.keyboard)) where
  few_given : (given : Given) (tick : ℕ) (acked : Bool) → is_entered sides.keyboard ≡ true
      → ShowsAccepted (both (latch_after given sides.latch) (Polled tick given acked ∷ sides.keyboard))
      → IsFew (made_by given (shown sides.keyboard) (last_made sides.keyboard))
  few_given Again tick acked entered now = before
  few_given Due tick acked entered now = few-none
  few_given (Next change) tick acked entered now =
      subst (λ (changes : List KeyChange). IsFew (held_after changes)) (sym (now.shown_first entered))
      (few_of_accepted (Took (Some change) ∷ sides.latch) (delivered (Took (Some change) ∷ sides.latch)))
  few_given Repeated tick acked entered now = before
  few_given Nothing tick acked entered now = before

  few_apart : (unread due : Bool) → IsFew (made_by (if unread then Again else if due then Due else Nothing) (shown sides.keyboard) (last_made sides.keyboard))
  few_apart true due = before
  few_apart false true = few-none
  few_apart false false = before

  few_moved : (moment : Moment) (selected : Bool) → is_entered sides.keyboard ≡ selected → ShowsAccepted (after moment selected sides)
      → IsFew (last_made (after moment selected sides).keyboard)
  few_moved (Showed keys) true is now = before
  few_moved (Showed keys) false is now = before
  few_moved (Selected tick) true is now = before
  few_moved (Selected tick) false is now = before
  few_moved Left true is now = before
  few_moved Left false is now = before
  few_moved (BusReset tick) true is now = few-none
  few_moved (BusReset tick) false is now = few-none
  few_moved SetUp true is now = few-none
  few_moved SetUp false is now = few-none
  few_moved ToggleRestarted selected is now = before
  few_moved (Asked tick request bytes) selected is now = before
  few_moved (Read tick acked) true is now = few_given (given_at (next_change sides.latch) tick sides.keyboard) tick acked is now
  few_moved (Read tick acked) false is now = few_apart (is_unread sides.keyboard) (is_due sides.keyboard)

few-made : (past : List Moment) → IsFew (last_made (sides_of past).keyboard)
unfolding sides_of
few-made [] = few-none
few-made (moment ∷ past) = few_moved (sides_of past) (few-made past) moment (is_entered (sides_of past).keyboard) refl (shows_accepted-all (moment ∷ past))

-- the keys of a report can be read from it
abbrev pub IsReadable : List Bool → Type 0
IsReadable keys = keys_in (key_report keys) ≡ keys

pub readable-made : (past : List Moment) → IsReadable (last_made (sides_of past).keyboard)
readable-made past = keys-read (last_made (sides_of past).keyboard) (told-all past).form (few-made past)
