-- An emulated keyboard that its latch serves, after any moments: what its last report shows.
use Rattle.std.proofs.Common.{◌≡◌, ℕ, Bool, true, false, List, [], ◌∷◌, IsTrue, refl, sym}
use Rattle.std.proofs.lemmas.Bool.{false≢true}
use Rattle.psd_base.specs.KeySet.{is_passed_on, no_keys, IsKeySet}
use Rattle.psd_base.proofs.KeySetLemmas.{no_keys-form}
use Rattle.input_latch.specs.declared.key_latch.KeyChange.{KeyChange}
use Rattle.input_latch.specs.KeyHistory.{next_change, held_from, held_after}
use Rattle.input_latch.specs.PassedKeys.{usage_of}
use Rattle.input_latch.proofs.AcceptedChanges.{next_passed_on}
use Rattle.emulated_keyboard.specs.declared.given.Given.{Given}
use Rattle.emulated_keyboard.specs.declared.given.Given.TheVariants.{Again, Due, Next, Repeated, Nothing}
use Rattle.emulated_keyboard.specs.KeyboardHistory.{KeyboardEntry, Parted, Reset, Restarted, shown, last_made, is_unread, was_left, is_due, toggle_of, settings, lamps, idle_since, is_entered, given_next, given_at, given_apart}
use Rattle.emulated_keyboard.specs.KeyboardStands.{KeyboardValue, KeyboardStands}
use Rattle.emulated_keyboard.specs.KeyboardSteps.{IsPassedOn, given_step, requested_step}
use Rattle.emulated_keyboard.specs.Delivery.{Moment, Showed, Selected, Left, BusReset, SetUp, ToggleRestarted, Asked, Read, Sides, after, sides_of}
use Rattle.emulated_keyboard.proofs.DeliveryLaws.{next_named}
use Rattle.emulated_keyboard.proofs.KeyboardLaws.{not_due, not_shown, left_where_due, stands_entered, stands_configured, stands_polled, stands_polled_apart}
use Rattle.emulated_keyboard.proofs.RequestLaws.{stands_requested}

-- the value that a history tells
abbrev pub value_of : List KeyboardEntry → KeyboardValue
value_of past = record {
  last = last_made past;
  unread = is_unread past;
  left = was_left past;
  toggle = toggle_of past;
  settings = settings past;
  lamps = lamps past;
  idle_since = idle_since past;
  entered = is_entered past;
}

-- it stands for that history where the last report shows what it should
told_by : (past : List KeyboardEntry) → IsKeySet (last_made past)
    → (is_entered past ≡ true → is_due past ≡ false → last_made past ≡ held_after (shown past))
    → (is_entered past ≡ true → was_left past ≡ true → shown past ≡ [])
    → (is_entered past ≡ false → was_left past ≡ false → last_made past ≡ no_keys)
    → KeyboardStands (value_of past) past
told_by past form shows fresh apart = record {
  last = refl;
  unread = refl;
  left = refl;
  toggle = refl;
  set = refl;
  lit = refl;
  since = refl;
  entered = refl;
  form = form;
  shows = shows;
  fresh = fresh;
  apart = apart;
}

told : (keyboard : KeyboardValue) (past : List KeyboardEntry) → KeyboardStands keyboard past → KeyboardStands (value_of past) past
told keyboard past stands = told_by past stands.form stands.shows stands.fresh stands.apart

told_new : KeyboardStands (value_of []) []
unfolding held_from
told_new = told_by [] no_keys-form (λ entered. absurd (false≢true entered)) (λ entered. absurd (false≢true entered)) (λ _ _. refl)

-- the change that a poll shows is that of a key that is passed on
passed_by : (given : Given) → ((change : KeyChange) → given ≡ Next change → IsTrue (is_passed_on (usage_of change))) → IsPassedOn given
passed_by Again named = tt
passed_by Due named = tt
passed_by (Next change) named = named change refl
passed_by Repeated named = tt
passed_by Nothing named = tt

module _ (sides : Sides) (stands : KeyboardStands (value_of sides.keyboard) sides.keyboard) where
  told_parted : KeyboardStands (value_of (Parted ∷ sides.keyboard)) (Parted ∷ sides.keyboard)
  told_parted =
      told_by (Parted ∷ sides.keyboard) stands.form (λ entered. absurd (false≢true entered)) (λ entered. absurd (false≢true entered))
      (λ _ stayed. absurd (false≢true (sym stayed)))

  told_reset : (tick : ℕ) → KeyboardStands (value_of (Reset tick ∷ sides.keyboard)) (Reset tick ∷ sides.keyboard)
  told_reset tick =
      let configured = stands_configured (value_of sides.keyboard) sides.keyboard stands in
      told_by (Reset tick ∷ sides.keyboard) configured.form configured.shows configured.fresh configured.apart

  told_restarted : KeyboardStands (value_of (Restarted ∷ sides.keyboard)) (Restarted ∷ sides.keyboard)
  told_restarted = told_by (Restarted ∷ sides.keyboard) stands.form stands.shows stands.fresh stands.apart

  told_polled : (tick : ℕ) (acked selected : Bool) → is_entered sides.keyboard ≡ selected
      → KeyboardStands (value_of (after (Read tick acked) selected sides).keyboard) (after (Read tick acked) selected sides).keyboard
  told_polled tick acked true is =
      let given = given_at (next_change sides.latch) tick sides.keyboard in
      told (given_step given acked tick (value_of sides.keyboard)) _
      (stands_polled (value_of sides.keyboard) sides.keyboard stands given tick acked is
      (λ shows. not_due (is_unread sides.keyboard) (is_due sides.keyboard) (given_next (next_change sides.latch) tick sides.keyboard) shows)
      (left_where_due (next_change sides.latch) tick sides.keyboard given refl)
      (passed_by given (λ change named. next_passed_on sides.latch change (next_named (is_unread sides.keyboard) (is_due sides.keyboard) (next_change sides.latch) tick sides.keyboard change named))))
  told_polled tick acked false is =
      told (given_step (given_apart sides.keyboard) acked (idle_since sides.keyboard) (value_of sides.keyboard)) _
      (stands_polled_apart (value_of sides.keyboard) sides.keyboard stands (given_apart sides.keyboard) acked is (not_shown (is_unread sides.keyboard) (is_due sides.keyboard)))

  told_moved : (moment : Moment) (selected : Bool) → is_entered sides.keyboard ≡ selected → KeyboardStands (value_of (after moment selected sides).keyboard) (after moment selected sides).keyboard
  told_moved (Showed keys) true is = stands
  told_moved (Showed keys) false is = stands
  told_moved (Selected tick) true is = stands
  told_moved (Selected tick) false is = told _ _ (stands_entered (value_of sides.keyboard) sides.keyboard stands tick is)
  told_moved Left true is = told_parted
  told_moved Left false is = stands
  told_moved (BusReset tick) true is = told_reset tick
  told_moved (BusReset tick) false is = told_reset tick
  told_moved SetUp true is = told _ _ (stands_configured (value_of sides.keyboard) sides.keyboard stands)
  told_moved SetUp false is = told _ _ (stands_configured (value_of sides.keyboard) sides.keyboard stands)
  told_moved ToggleRestarted selected is = told_restarted
  told_moved (Asked tick request bytes) selected is = told (requested_step tick request bytes (value_of sides.keyboard)) _ (stands_requested (value_of sides.keyboard) sides.keyboard tick request bytes stands)
  told_moved (Read tick acked) selected is = told_polled tick acked selected is

pub told-all : (past : List Moment) → KeyboardStands (value_of (sides_of past).keyboard) (sides_of past).keyboard
unfolding sides_of
told-all [] = told_new
told-all (moment ∷ past) = told_moved (sides_of past) (told-all past) moment (is_entered (sides_of past).keyboard) refl
