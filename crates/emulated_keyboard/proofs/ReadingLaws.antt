-- The host reads what was accepted, moment by moment.
use Rattle.std.proofs.Common.{◌≡◌, ℕ, ◌+◌, ◌≤◌, Bool, true, false, not, ◌&&◌, List, [], ◌∷◌, ◌++◌, length, take, Option, Some, None, refl, sym, ap, ◌∙◌, subst, arith, if◌then◌else◌}
use Rattle.std.proofs.lemmas.Bool.{false≢true}
use Rattle.std.proofs.lemmas.List.{take_all}
use Rattle.psd_base.specs.KeySet.{has_no_key}
use Rattle.input_latch.specs.declared.key_latch.KeyChange.{KeyChange}
use Rattle.input_latch.specs.KeyHistory.{KeyEntry, Shown, delivered, held_after, accepted, next_change}
use Rattle.emulated_keyboard.specs.declared.given.Given.{Given}
use Rattle.emulated_keyboard.specs.declared.given.Given.TheVariants.{Again, Due, Next, Repeated, Nothing}
use Rattle.emulated_keyboard.specs.KeyboardHistory.{KeyboardEntry, Polled, is_again, is_unread, is_due, was_left, is_entered, last_made, made_by, left_after, shown, given_next, given_at, is_idle}
use Rattle.emulated_keyboard.specs.KeyboardStands.{KeyboardStands}
use Rattle.emulated_keyboard.specs.LatchCalls.{latch_after}
use Rattle.emulated_keyboard.specs.HostReading.{Origin, Earlier, ByChange, ByTime, origin, origin_by, ReadReport, fresh_with, fresh_reports}
use Rattle.emulated_keyboard.specs.Delivery.{Moment, Showed, Selected, Left, BusReset, SetUp, ToggleRestarted, Asked, Read, Sides, both, after, sides_of, ShowsAccepted, ReadsAccepted, ReadAll}
use Rattle.emulated_keyboard.proofs.DeliveryLaws.{keeps_shown, none_left, nothing_at_none, next_named, polled, none_given, shows_accepted-all}
use Rattle.emulated_keyboard.proofs.HostReadingLaws.{take-of_take, ReadSoFar, read_none, read_change, read_repeat, read_still}
use Rattle.emulated_keyboard.proofs.SpanLaws.{value_of, told-all}

-- whether a report was made in the span
abbrev made_here : Origin → Bool
made_here Earlier = false
made_here ByChange = true
made_here ByTime = true

-- how many changes are in a report that isn't acknowledged yet
abbrev pending : Bool → Origin → ℕ
pending false origin = 0
pending true Earlier = 0
pending true ByChange = 1
pending true ByTime = 0

record Reads (sides : Sides) : Type 0 where
  n : ℕ
  so_far : is_entered sides.keyboard ≡ true → ReadSoFar (accepted sides.latch) n (fresh_reports sides.keyboard)
  counted : is_entered sides.keyboard ≡ true → n + pending (is_unread sides.keyboard) (origin sides.keyboard) ≡ delivered sides.latch
  stays : made_here (origin sides.keyboard) ≡ true → was_left sides.keyboard ≡ false

-- a report that is acknowledged
acked_now : (latch : List KeyEntry) (o : Origin) (n : ℕ) (keys : List Bool) (reports : List ReadReport)
    → ReadSoFar (accepted latch) n reports → n + pending true o ≡ delivered latch → delivered latch ≤ length (accepted latch)
    → (made_here o ≡ true → keys ≡ held_after (take (delivered latch) (accepted latch)))
    → ReadSoFar (accepted latch) (delivered latch) (fresh_with o keys reports)
acked_now latch Earlier n keys reports so_far counted within shows =
    let same : n ≡ delivered latch = omega arith in
    subst (λ (m : ℕ). ReadSoFar (accepted latch) m reports) same so_far
acked_now latch ByChange n keys reports so_far counted within shows =
    subst (λ (m : ℕ). ReadSoFar (accepted latch) m (reports ++ record { keys = keys; by_change = true } ∷ [])) counted
    (read_change latch n (omega arith) reports keys (shows refl ∙ ap (λ (m : ℕ). held_after (take m (accepted latch))) (sym counted)) so_far)
acked_now latch ByTime n keys reports so_far counted within shows =
    let same : n ≡ delivered latch = omega arith in
    subst (λ (m : ℕ). ReadSoFar (accepted latch) m (reports ++ record { keys = keys; by_change = false } ∷ [])) same
    (read_repeat (accepted latch) n reports keys (shows refl ∙ ap (λ (m : ℕ). held_after (take m (accepted latch))) (sym same)) so_far)

-- a report that is sent, acknowledged or not
record Sent (latch : List KeyEntry) (o : Origin) (keys : List Bool) (reports : List ReadReport) (acked : Bool) : Type 0 where
  n : ℕ
  so_far : ReadSoFar (accepted latch) n (if acked then fresh_with o keys reports else reports)
  counted : n + pending (not acked) o ≡ delivered latch

sent : (latch : List KeyEntry) (o : Origin) (n : ℕ) (keys : List Bool) (reports : List ReadReport) (acked : Bool)
    → ReadSoFar (accepted latch) n reports → n + pending true o ≡ delivered latch → delivered latch ≤ length (accepted latch)
    → (made_here o ≡ true → keys ≡ held_after (take (delivered latch) (accepted latch)))
    → Sent latch o keys reports acked
sent latch o n keys reports true so_far counted within shows = record { n = delivered latch; so_far = acked_now latch o n keys reports so_far counted within shows; counted = omega arith }
sent latch o n keys reports false so_far counted within shows = record { n = n; so_far = so_far; counted = counted }

and_false : (left : Bool) (b : Bool) → left ≡ false → (left && b) ≡ false
and_false left b is = ap (λ (l : Bool). l && b) is

module _ (sides : Sides) (law : ShowsAccepted sides) (before : Reads sides) (entered : is_entered sides.keyboard ≡ true) where
  pending_none : (o : Origin) → is_unread sides.keyboard ≡ false → before.n ≡ delivered sides.latch
  pending_none o read =
      let counted = before.counted entered in
      let none : pending (is_unread sides.keyboard) (origin sides.keyboard) ≡ 0 = ap (λ (b : Bool). pending b (origin sides.keyboard)) read in
      omega (arith, counted, none)

  stays_after : (given : Given) → made_here (origin_by given (origin sides.keyboard)) ≡ true → left_after given (was_left sides.keyboard) ≡ false
  stays_after Again here = before.stays here
  stays_after Due here = absurd (false≢true here)
  stays_after (Next change) here = refl
  stays_after Repeated here = refl
  stays_after Nothing here = before.stays here

  module _ (given : Given) (tick : ℕ) (acked : Bool)
      (stands : KeyboardStands (value_of (Polled tick given acked ∷ sides.keyboard)) (Polled tick given acked ∷ sides.keyboard))
      (now : ShowsAccepted (both (latch_after given sides.latch) (Polled tick given acked ∷ sides.keyboard))) where
    keys_now : made_here (origin_by given (origin sides.keyboard)) ≡ true
        → made_by given (shown sides.keyboard) (last_made sides.keyboard) ≡ held_after (take (delivered (latch_after given sides.latch)) (accepted (latch_after given sides.latch)))
    keys_now here =
        stands.shows entered (and_false (left_after given (was_left sides.keyboard)) (not (has_no_key (made_by given (shown sides.keyboard) (last_made sides.keyboard)))) (stays_after given here))
        ∙ ap (λ (changes : List KeyChange). held_after changes) (now.shown_first entered)

    sent_now : ReadSoFar (accepted (latch_after given sides.latch)) before.n (fresh_reports sides.keyboard)
        → before.n + pending true (origin_by given (origin sides.keyboard)) ≡ delivered (latch_after given sides.latch)
        → Sent (latch_after given sides.latch) (origin_by given (origin sides.keyboard)) (made_by given (shown sides.keyboard) (last_made sides.keyboard)) (fresh_reports sides.keyboard) acked
    sent_now so_far counted = sent (latch_after given sides.latch) (origin_by given (origin sides.keyboard)) before.n (made_by given (shown sides.keyboard) (last_made sides.keyboard)) (fresh_reports sides.keyboard) acked so_far counted now.within keys_now

  reads_polled : (given : Given) (tick : ℕ) (acked : Bool)
      → KeyboardStands (value_of (Polled tick given acked ∷ sides.keyboard)) (Polled tick given acked ∷ sides.keyboard)
      → ShowsAccepted (both (latch_after given sides.latch) (Polled tick given acked ∷ sides.keyboard))
      → (is_again given ≡ true → is_unread sides.keyboard ≡ true) → (is_again given ≡ false → is_unread sides.keyboard ≡ false)
      → Reads (both (latch_after given sides.latch) (Polled tick given acked ∷ sides.keyboard))
  unfolding accepted
  reads_polled Again tick acked stands now again other =
      let counted : before.n + pending true (origin sides.keyboard) ≡ delivered sides.latch = ap (λ (b : Bool). before.n + pending b (origin sides.keyboard)) (sym (again refl)) ∙ before.counted entered in
      let s = sent_now Again tick acked stands now (before.so_far entered) counted in
      record { n = s.n; so_far = λ _. s.so_far; counted = λ _. s.counted; stays = stays_after Again }
  reads_polled Due tick acked stands now again other =
      let s = sent_now Due tick acked stands now (before.so_far entered) (omega (arith, pending_none Earlier (other refl))) in
      record { n = s.n; so_far = λ _. s.so_far; counted = λ _. s.counted; stays = stays_after Due }
  reads_polled (Next change) tick acked stands now again other =
      let s = sent_now (Next change) tick acked stands now (before.so_far entered) (ap (λ (m : ℕ). m + 1) (pending_none ByChange (other refl))) in
      record { n = s.n; so_far = λ _. s.so_far; counted = λ _. s.counted; stays = stays_after (Next change) }
  reads_polled Repeated tick acked stands now again other =
      let s = sent_now Repeated tick acked stands now (before.so_far entered) (omega (arith, pending_none ByTime (other refl))) in
      record { n = s.n; so_far = λ _. s.so_far; counted = λ _. s.counted; stays = stays_after Repeated }
  reads_polled Nothing tick acked stands now again other =
      record { n = before.n; so_far = before.so_far; counted = before.counted; stays = before.stays }

-- which case tells that the last report isn't acknowledged
again_is_unread : (unread due : Bool) (rest : Given) → is_again rest ≡ false → is_again (if unread then Again else if due then Due else rest) ≡ true → unread ≡ true
again_is_unread true due rest not_again is = refl
again_is_unread false true rest not_again is = absurd (false≢true is)
again_is_unread false false rest not_again is = absurd (false≢true (sym not_again ∙ is))

other_is_read : (unread due : Bool) (rest : Given) → is_again (if unread then Again else if due then Due else rest) ≡ false → unread ≡ false
other_is_read true due rest is = absurd (false≢true (sym is))
other_is_read false due rest is = refl

next_not_again : (next : Option KeyChange) (tick : ℕ) (past : List KeyboardEntry) → is_again (given_next next tick past) ≡ false
next_not_again None tick past = by (is_idle tick past) where
  by : (b : Bool) → is_again (if b then Repeated else Nothing) ≡ false
  by true = refl
  by false = refl
next_not_again (Some change) tick past = refl

module _ (sides : Sides) (law : ShowsAccepted sides) (before : Reads sides) where
  shown_more : (keys : List Bool) → is_entered sides.keyboard ≡ true → take before.n (accepted (Shown keys ∷ sides.latch)) ≡ take before.n (accepted sides.latch)
  shown_more keys entered =
      let few : before.n ≤ delivered sides.latch = omega (arith, before.counted entered) in
      sym (take-of_take before.n (delivered sides.latch) (accepted (Shown keys ∷ sides.latch)) few)
      ∙ ap (λ (changes : List KeyChange). take before.n changes) (keeps_shown keys sides.latch law.within).same
      ∙ take-of_take before.n (delivered sides.latch) (accepted sides.latch) few

  reads_read : (tick : ℕ) (acked selected : Bool) → is_entered sides.keyboard ≡ selected
      → KeyboardStands (value_of (after (Read tick acked) selected sides).keyboard) (after (Read tick acked) selected sides).keyboard
      → Reads (after (Read tick acked) selected sides)
  reads_read tick acked true is stands =
      let rest = given_next (next_change sides.latch) tick sides.keyboard in
      let given = given_at (next_change sides.latch) tick sides.keyboard in
      reads_polled sides law before is given tick acked stands
      (polled sides law given tick acked is (λ change named. next_named (is_unread sides.keyboard) (is_due sides.keyboard) (next_change sides.latch) tick sides.keyboard change named))
      (again_is_unread (is_unread sides.keyboard) (is_due sides.keyboard) rest (next_not_again (next_change sides.latch) tick sides.keyboard))
      (other_is_read (is_unread sides.keyboard) (is_due sides.keyboard) rest)
  reads_read tick acked false is stands = record { n = 0; so_far = λ e. absurd (false≢true (sym is ∙ e)); counted = λ e. absurd (false≢true (sym is ∙ e)); stays = λ here. absurd (false≢true here) }

  reads_moved : (moment : Moment) (selected : Bool) → is_entered sides.keyboard ≡ selected
      → KeyboardStands (value_of (after moment selected sides).keyboard) (after moment selected sides).keyboard
      → Reads (after moment selected sides)
  unfolding accepted
  reads_moved (Showed keys) true is stands = record {
    n = before.n;
    so_far = λ e. read_still (accepted sides.latch) (accepted (Shown keys ∷ sides.latch)) before.n (fresh_reports sides.keyboard) (shown_more keys e) (before.so_far e);
    counted = before.counted;
    stays = before.stays;
  }
  reads_moved (Showed keys) false is stands = before
  reads_moved (Selected tick) true is stands = before
  reads_moved (Selected tick) false is stands = record {
    n = 0;
    so_far = λ _. read_none (accepted sides.latch);
    counted = λ _. nothing_pending (is_unread sides.keyboard) ∙ sym (none_given sides law is);
    stays = λ here. absurd (false≢true here);
  } where
    nothing_pending : (unread : Bool) → 0 + pending unread Earlier ≡ 0
    nothing_pending true = refl
    nothing_pending false = refl
  reads_moved Left true is stands = record { n = 0; so_far = λ e. absurd (false≢true e); counted = λ e. absurd (false≢true e); stays = λ here. absurd (false≢true here) }
  reads_moved Left false is stands = before
  reads_moved (BusReset tick) true is stands = record { n = 0; so_far = λ _. read_none []; counted = λ _. refl; stays = λ here. absurd (false≢true here) }
  reads_moved (BusReset tick) false is stands = record { n = 0; so_far = λ e. absurd (false≢true (sym is ∙ e)); counted = λ e. absurd (false≢true (sym is ∙ e)); stays = λ here. absurd (false≢true here) }
  reads_moved SetUp true is stands = record { n = 0; so_far = λ _. read_none []; counted = λ _. refl; stays = λ here. absurd (false≢true here) }
  reads_moved SetUp false is stands = record { n = 0; so_far = λ e. absurd (false≢true (sym is ∙ e)); counted = λ e. absurd (false≢true (sym is ∙ e)); stays = λ here. absurd (false≢true here) }
  reads_moved ToggleRestarted selected is stands = record { n = before.n; so_far = before.so_far; counted = before.counted; stays = before.stays }
  reads_moved (Asked tick request bytes) selected is stands = record { n = before.n; so_far = before.so_far; counted = before.counted; stays = before.stays }
  reads_moved (Read tick acked) selected is stands = reads_read tick acked selected is stands

reads-all : (past : List Moment) → Reads (sides_of past)
unfolding sides_of
reads-all [] = record { n = 0; so_far = λ e. absurd (false≢true e); counted = λ e. absurd (false≢true e); stays = λ here. absurd (false≢true here) }
reads-all (moment ∷ past) = reads_moved (sides_of past) (shows_accepted-all past) (reads-all past) moment (is_entered (sides_of past).keyboard) refl (told-all (moment ∷ past))

pub reads_accepted-all : (past : List Moment) → ReadsAccepted (sides_of past)
reads_accepted-all past =
    let reads = reads-all past in
    record {
      read = λ e. (reads.so_far e).read ∙ ap (λ (m : ℕ). take m (accepted (sides_of past).latch)) (sym (reads.so_far e).number);
      by_change = λ e. (reads.so_far e).read_alone ∙ ap (λ (m : ℕ). take m (accepted (sides_of past).latch)) (sym (reads.so_far e).number);
      within = λ e. omega (arith, (reads.so_far e).number, reads.counted e, (shows_accepted-all past).within);
    }

pub read_all-all : (tick : ℕ) (past : List Moment) → ReadAll tick (sides_of past)
read_all-all tick past entered nothing =
    let sides = sides_of past in
    let reads = reads-all past in
    let none = nothing_at_none (is_unread (sides_of past).keyboard) (is_due (sides_of past).keyboard) (next_change (sides_of past).latch) tick (sides_of past).keyboard nothing in
    let read = other_is_read (is_unread (sides_of past).keyboard) (is_due (sides_of past).keyboard) (given_next (next_change (sides_of past).latch) tick (sides_of past).keyboard) (ap (λ (g : Given). is_again g) nothing) in
    let all = none_left (accepted (sides_of past).latch) (delivered (sides_of past).latch) none in
    (reads.so_far entered).read ∙ take_all reads.n (accepted (sides_of past).latch) (omega (arith, all, pending_none (sides_of past) (shows_accepted-all past) reads entered Earlier read))
