-- Where the idle rate is 0 no report is repeated.
use Rattle.std.proofs.Common.{◌≡◌, ℕ, ◌+◌, ◌*◌, Bool, true, false, ◌&&◌, ◌==◌, List, [], ◌∷◌, ◌++◌, Option, Some, None, refl, sym, ap, ◌∙◌, nat_lt, nat_le, if◌then◌else◌}
use Rattle.std.proofs.lemmas.Bool.{false≢true, and_parts, eqb-true}
use Rattle.input_latch.specs.declared.key_latch.KeyChange.{KeyChange}
use Rattle.input_latch.specs.KeyHistory.{next_change}
use Rattle.control_pipe.specs.HidSettings.{settings_after}
use Rattle.emulated_keyboard.specs.declared.given.Given.{Given}
use Rattle.emulated_keyboard.specs.declared.given.Given.TheVariants.{Again, Due, Next, Repeated, Nothing}
use Rattle.emulated_keyboard.specs.KeyboardHistory.{KeyboardEntry, Entered, Parted, Reset, Configured, Restarted, Requested, Polled, PolledApart, is_unread, is_due, is_idle, is_time, idle_rate, idle_since, settings, shown, last_made, made_by, is_entered, given_next, given_at}
use Rattle.emulated_keyboard.specs.HostReading.{Origin, Earlier, ByChange, ByTime, origin, ReadReport, fresh_with, fresh_reports, made_by_change, never_repeats}
use Rattle.emulated_keyboard.specs.Delivery.{Moment, Showed, Selected, Left, BusReset, SetUp, ToggleRestarted, Asked, Read, Sides, after, sides_of, AllByChange}
use Rattle.emulated_keyboard.proofs.HostReadingLaws.{made_by_change-append}

-- throughout the span the rate is 0
rate_is_zero : (past : List KeyboardEntry) → never_repeats past ≡ true → idle_rate past ≡ 0
rate_is_zero [] never = absurd (false≢true never)
rate_is_zero (Entered tick ∷ past) never = eqb-true (idle_rate past) 0 never
rate_is_zero (Parted ∷ past) never = absurd (false≢true never)
rate_is_zero (Reset tick ∷ past) never = absurd (false≢true never)
rate_is_zero (Configured ∷ past) never = eqb-true (idle_rate past) 0 never
rate_is_zero (Restarted ∷ past) never = rate_is_zero past never
rate_is_zero (Requested tick request bytes ∷ past) never =
    eqb-true (settings_after request (settings past)).idle_rate 0 (and_parts (never_repeats past) ((settings_after request (settings past)).idle_rate == 0) never).1
rate_is_zero (Polled tick given acked ∷ past) never = rate_is_zero past never
rate_is_zero (PolledApart given acked ∷ past) never = rate_is_zero past never

never_time : (rate since tick : ℕ) → rate ≡ 0 → is_time rate since tick ≡ false
never_time rate since tick zero_rate = ap (λ (r : ℕ). nat_lt 0 r && nat_le (since + 4 * r) tick) zero_rate

-- whether a report was repeated
abbrev by_time : Origin → Bool
by_time Earlier = false
by_time ByChange = false
by_time ByTime = true

record NoRepeats (past : List KeyboardEntry) : Type 0 where
  origin : never_repeats past ≡ true → by_time (origin past) ≡ false
  alone : never_repeats past ≡ true → made_by_change (fresh_reports past) ≡ fresh_reports past

abbrev is_repeated : Given → Bool
is_repeated Again = false
is_repeated Due = false
is_repeated (Next change) = false
is_repeated Repeated = true
is_repeated Nothing = false

not_repeated : (unread due : Bool) (next : Option KeyChange) (tick : ℕ) (past : List KeyboardEntry) → is_idle tick past ≡ false
    → is_repeated (if unread then Again else if due then Due else given_next next tick past) ≡ false
not_repeated true due next tick past never = refl
not_repeated false true next tick past never = refl
not_repeated false false None tick past never = ap (λ (b : Bool). is_repeated (if b then Repeated else Nothing)) never
not_repeated false false (Some change) tick past never = refl

-- a report by a change stands with the others
with_report : (o : Origin) (keys : List Bool) (reports : List ReadReport) → by_time o ≡ false → made_by_change reports ≡ reports → made_by_change (fresh_with o keys reports) ≡ fresh_with o keys reports
with_report Earlier keys reports not_timed alone = alone
with_report ByChange keys reports not_timed alone = made_by_change-append reports keys ∙ ap (λ (rs : List ReadReport). rs ++ record { keys = keys; by_change = true } ∷ []) alone
with_report ByTime keys reports not_timed alone = absurd (false≢true (sym not_timed))

sent_report : (o : Origin) (keys : List Bool) (reports : List ReadReport) (acked : Bool) → by_time o ≡ false → made_by_change reports ≡ reports
    → made_by_change (if acked then fresh_with o keys reports else reports) ≡ (if acked then fresh_with o keys reports else reports)
sent_report o keys reports true not_timed alone = with_report o keys reports not_timed alone
sent_report o keys reports false not_timed alone = alone

module _ (past : List KeyboardEntry) (before : NoRepeats past) where
  no_repeats_polled : (given : Given) (tick : ℕ) (acked : Bool) → (never_repeats past ≡ true → is_repeated given ≡ false) → NoRepeats (Polled tick given acked ∷ past)
  no_repeats_polled Again tick acked timely = record {
    origin = before.origin;
    alone = λ never. sent_report (origin past) (last_made past) (fresh_reports past) acked (before.origin never) (before.alone never);
  }
  no_repeats_polled Due tick acked timely = record {
    origin = λ never. refl;
    alone = λ never. sent_report Earlier (made_by Due (shown past) (last_made past)) (fresh_reports past) acked refl (before.alone never);
  }
  no_repeats_polled (Next change) tick acked timely = record {
    origin = λ never. refl;
    alone = λ never. sent_report ByChange (made_by (Next change) (shown past) (last_made past)) (fresh_reports past) acked refl (before.alone never);
  }
  no_repeats_polled Repeated tick acked timely = record {
    origin = λ never. absurd (false≢true (sym (timely never)));
    alone = λ never. absurd (false≢true (sym (timely never)));
  }
  no_repeats_polled Nothing tick acked timely = record { origin = before.origin; alone = before.alone }

none_in_past : (past : List KeyboardEntry) → never_repeats past ≡ false → NoRepeats past
none_in_past past never = record { origin = λ is. absurd (false≢true (sym never ∙ is)); alone = λ is. absurd (false≢true (sym never ∙ is)) }

module _ (sides : Sides) (before : NoRepeats sides.keyboard) where
  no_repeats_moved : (moment : Moment) (selected : Bool) → NoRepeats (after moment selected sides).keyboard
  no_repeats_moved (Showed keys) true = before
  no_repeats_moved (Showed keys) false = before
  no_repeats_moved (Selected tick) true = before
  no_repeats_moved (Selected tick) false = record { origin = λ never. refl; alone = λ never. refl }
  no_repeats_moved Left true = none_in_past (Parted ∷ sides.keyboard) refl
  no_repeats_moved Left false = before
  no_repeats_moved (BusReset tick) true = none_in_past (Reset tick ∷ sides.keyboard) refl
  no_repeats_moved (BusReset tick) false = none_in_past (Reset tick ∷ sides.keyboard) refl
  no_repeats_moved SetUp true = record { origin = λ never. refl; alone = λ never. refl }
  no_repeats_moved SetUp false = record { origin = λ never. refl; alone = λ never. refl }
  no_repeats_moved ToggleRestarted selected = record { origin = before.origin; alone = before.alone }
  no_repeats_moved (Asked tick request bytes) selected =
      let still : never_repeats (Requested tick request bytes ∷ sides.keyboard) ≡ true → never_repeats sides.keyboard ≡ true =
      λ never. (and_parts (never_repeats sides.keyboard) ((settings_after request (settings sides.keyboard)).idle_rate == 0) never).0 in
      record { origin = λ never. before.origin (still never); alone = λ never. before.alone (still never) }
  no_repeats_moved (Read tick acked) true =
      no_repeats_polled sides.keyboard before (given_at (next_change sides.latch) tick sides.keyboard) tick acked
      (λ never. not_repeated (is_unread sides.keyboard) (is_due sides.keyboard) (next_change sides.latch) tick sides.keyboard
      (never_time (idle_rate sides.keyboard) (idle_since sides.keyboard) tick (rate_is_zero sides.keyboard never)))
  no_repeats_moved (Read tick acked) false = record { origin = λ never. refl; alone = before.alone }

no_repeats-all : (past : List Moment) → NoRepeats (sides_of past).keyboard
unfolding sides_of
no_repeats-all [] = none_in_past [] refl
no_repeats-all (moment ∷ past) = no_repeats_moved (sides_of past) (no_repeats-all past) moment (is_entered (sides_of past).keyboard)

pub all_by_change-all : (past : List Moment) → AllByChange (sides_of past)
all_by_change-all past = (no_repeats-all past).alone
