-- What a pointer latch stands for after each call.
use Rattle.std.proofs.Common.{◌≡◌, ℕ, zero, suc, ◌+◌, ◌-◌, ◌<◌, ◌≤◌, ℤ, Bool, true, false, List, [], ◌∷◌, ◌++◌, length, map, drop, take, slice_get, refl, sym, ap, ◌∙◌, subst, arith, Option, Some, None, length-append, length-drop, not, ◌&&◌, if◌then◌else◌}
use Rattle.std.proofs.lemmas.List.{drop-drop, drop-append-le}
use Rattle.psd_base.specs.KeySet.{has_key, keys_from}
use Rattle.psd_base.specs.declared.sample.Sample.{Sample}
use Rattle.input_latch.specs.declared.motion.Join.{Join}
use Rattle.input_latch.specs.declared.motion.Join.TheVariants.{Apart, TooFar, Sum}
use Rattle.input_latch.specs.declared.offered.Offered.{Offered}
use Rattle.input_latch.specs.declared.offered.TheConstants.{PLACES}
use Rattle.input_latch.specs.declared.pointer_latch.PointerChange.{PointerChange}
use Rattle.input_latch.specs.declared.pointer_latch.PointerChange.TheVariants.{Press, Release, Motion}
use Rattle.input_latch.specs.Buttons.{is_down, only_from, only_in, no_buttons, number_of_buttons}
use Rattle.input_latch.specs.Motion.{is_zero, join_of}
use Rattle.input_latch.specs.PointerHistory.{PointerEntry, Sampled, Took, Flushed, Cleared, last_shown, delivered, motion_in, changes_of, held_with, held_from, held_after, last_change, before_last, Effect, Appended, Added, TurnedAway, PassedOver, has_free, effect_of_motion, effect_on, changed, counted_by, Offering, offered_one, offered_all, accepted, counts_of, undelivered}
use Rattle.input_latch.specs.PointerLatchStands.{PointerLatchValue, PointerLatchStands}
use Rattle.input_latch.specs.PointerSteps.{PointerState, pointer_state, with_effect, step_of, apart_step, steps_of}
use Rattle.input_latch.specs.Verdict.{Taken, Refused, counted, nothing_offered}

pub none_held : number_of_buttons no_buttons ≡ 0
unfolding no_buttons keys_from
none_held = refl

-- held buttons, change by change
pub held_from-append : (buttons : List Bool) (changes : List PointerChange) (change : PointerChange) → held_from buttons (changes ++ change ∷ []) ≡ held_with (held_from buttons changes) change
unfolding held_from
held_from-append buttons [] change = refl
held_from-append buttons (first ∷ changes) change = held_from-append (held_with buttons first) changes change

-- whether a change is a motion
abbrev pub is_motion : Option PointerChange → Bool
is_motion None = false
is_motion (Some (Press button)) = false
is_motion (Some (Release button)) = false
is_motion (Some (Motion x y wheel)) = true

-- a motion at the end holds nothing
held_before_last : (buttons : List Bool) (changes : List PointerChange) → is_motion (last_change changes) ≡ true → held_from buttons (before_last changes) ≡ held_from buttons changes
unfolding held_from last_change before_last
held_before_last buttons [] is = absurd (cc)
held_before_last buttons (Press button ∷ []) is = absurd (cc)
held_before_last buttons (Release button ∷ []) is = absurd (cc)
held_before_last buttons (Motion x y wheel ∷ []) is = refl
held_before_last buttons (first ∷ second ∷ changes) is = held_before_last (held_with buttons first) (second ∷ changes) is

-- the last change is that of what is left after some
last_change-drop : (given : ℕ) (changes : List PointerChange) → given < length changes → last_change (drop given changes) ≡ last_change changes
unfolding last_change
last_change-drop zero changes h = refl
last_change-drop (suc given) [] h = absurd (omega arith)
last_change-drop (suc given) (change ∷ []) h = absurd (omega arith)
last_change-drop (suc given) (first ∷ second ∷ changes) h = last_change-drop given (second ∷ changes) (omega arith)

pub length-before_last : (changes : List PointerChange) → length (before_last changes) ≡ length changes - 1
unfolding before_last
length-before_last [] = refl
length-before_last (change ∷ []) = refl
length-before_last (first ∷ second ∷ changes) = omega (arith, length-before_last (second ∷ changes))

before_last-drop : (given : ℕ) (changes : List PointerChange) → given < length changes → drop given (before_last changes) ≡ before_last (drop given changes)
unfolding before_last
before_last-drop zero changes h = refl
before_last-drop (suc given) [] h = absurd (omega arith)
before_last-drop (suc given) (change ∷ []) h = absurd (omega arith)
before_last-drop (suc given) (first ∷ second ∷ changes) h = before_last-drop given (second ∷ changes) (omega arith)

-- what the code reads and keeps
pub last_change-read : (changes : List PointerChange) → last_change changes ≡ slice_get changes (length changes - 1)
unfolding last_change
last_change-read [] = refl
last_change-read (change ∷ []) = refl
last_change-read (first ∷ second ∷ changes) =
    last_change-read (second ∷ changes) ∙ at (length changes) (length (second ∷ changes) - 1) (length (first ∷ second ∷ changes) - 1) (omega arith) (omega arith)
  where
    at : (n m k : ℕ) → m ≡ n → k ≡ suc n → slice_get (second ∷ changes) m ≡ slice_get (first ∷ second ∷ changes) k
    at n m k a b = rw (a, b) refl

pub before_last-kept : (changes : List PointerChange) → before_last changes ≡ take (length changes - 1) changes
unfolding before_last
before_last-kept [] = refl
before_last-kept (change ∷ []) = refl
before_last-kept (first ∷ second ∷ changes) =
    let n : length (first ∷ second ∷ changes) - 1 ≡ suc (length (second ∷ changes) - 1) = omega arith in
    rw n (ap (λ (rest : List PointerChange). first ∷ rest) (before_last-kept (second ∷ changes)))

-- a motion is added to a motion alone, and to one that is undelivered
abbrev joins : Join → Bool
joins Apart = false
joins TooFar = false
joins (Sum x y wheel) = true

abbrev pub adds : Effect → Bool
adds Appended = false
adds (Added x y wheel) = true
adds TurnedAway = false
adds PassedOver = false

joins_motion : (last : Option PointerChange) (x y wheel : ℤ) → joins (join_of last x y wheel) ≡ true → is_motion last ≡ true
joins_motion None x y wheel is = is
joins_motion (Some (Press button)) x y wheel is = is
joins_motion (Some (Release button)) x y wheel is = is
joins_motion (Some (Motion a b c)) x y wheel is = refl

adds_join : (join : Join) (undelivered : ℕ) (holds : List Bool) → adds (effect_of_motion join undelivered holds) ≡ true → joins join ≡ true
adds_join Apart undelivered holds is = absurd (by_free (has_free 1 undelivered holds) is) where
  by_free : (free : Bool) → adds (if free then Appended else TurnedAway) ≡ true → ⊥
  by_free true is = absurd (cc)
  by_free false is = absurd (cc)
adds_join TooFar undelivered holds is = is
adds_join (Sum x y wheel) undelivered holds is = refl

pub adds_motion : (undelivered : List PointerChange) (holds : List Bool) (change : PointerChange) → adds (effect_on undelivered holds change) ≡ true → is_motion (last_change undelivered) ≡ true
adds_motion undelivered holds (Press button) is = absurd (by_free (has_free 2 (length undelivered) holds) is) where
  by_free : (free : Bool) → adds (if free then Appended else TurnedAway) ≡ true → ⊥
  by_free true is = absurd (cc)
  by_free false is = absurd (cc)
adds_motion undelivered holds (Release button) is = absurd (by_held (has_key holds (button - 1)) is) where
  by_held : (there : Bool) → adds (if there then Appended else PassedOver) ≡ true → ⊥
  by_held true is = absurd (cc)
  by_held false is = absurd (cc)
adds_motion undelivered holds (Motion x y wheel) is =
    joins_motion (last_change undelivered) x y wheel (adds_join (join_of (last_change undelivered) x y wheel) (length undelivered) holds is)

pub some_left : (changes : List PointerChange) → is_motion (last_change changes) ≡ true → 1 ≤ length changes
unfolding last_change
some_left [] is = absurd (cc)
some_left (change ∷ changes) is = omega arith

-- a latch that stands so far, in the middle of an offering
record Follows (given : ℕ) (state : PointerState) (offering : Offering) : Type 0 where
  waiting : state.latch.waiting ≡ drop given offering.accepted
  holds : state.latch.holds ≡ held_after offering.accepted
  counts : state.counts ≡ offering.counts
  within : given ≤ length offering.accepted

follows_effect : (effect : Effect) (given : ℕ) (state : PointerState) (offering : Offering) (change : PointerChange) → (adds effect ≡ true → is_motion (last_change state.latch.waiting) ≡ true) → Follows given state offering
    → Follows given (pointer_state (with_effect effect change state.latch) (counted_by effect state.counts)) (record { accepted = changed effect change offering.accepted; counts = counted_by effect offering.counts })
follows_effect Appended given state offering change motion f = record {
  waiting = ap (λ (changes : List PointerChange). changes ++ change ∷ []) f.waiting ∙ sym (drop-append-le given offering.accepted (change ∷ []) f.within);
  holds = ap (λ (buttons : List Bool). held_with buttons change) f.holds ∙ sym (held_from-append no_buttons offering.accepted change);
  counts = ap (λ (counts : Offered). counted_by Appended counts) f.counts;
  within = omega (arith, f.within, length-append offering.accepted (change ∷ []));
}
follows_effect (Added x y wheel) given state offering change motion f =
    let last : is_motion (last_change (drop given offering.accepted)) ≡ true = rw (← f.waiting) (motion refl) in
    let left : given < length offering.accepted = omega (arith, some_left (drop given offering.accepted) last, length-drop given offering.accepted) in
    let whole : is_motion (last_change offering.accepted) ≡ true = rw (← last_change-drop given offering.accepted left) last in
    record {
      waiting =
          ap (λ (changes : List PointerChange). before_last changes ++ Motion x y wheel ∷ []) f.waiting
          ∙ ap (λ (changes : List PointerChange). changes ++ Motion x y wheel ∷ []) (sym (before_last-drop given offering.accepted left))
          ∙ sym (drop-append-le given (before_last offering.accepted) (Motion x y wheel ∷ []) (omega (arith, length-before_last offering.accepted)));
      holds =
          f.holds ∙ sym (held_before_last no_buttons offering.accepted whole)
          ∙ sym (held_from-append no_buttons (before_last offering.accepted) (Motion x y wheel));
      counts = ap (λ (counts : Offered). counted_by Appended counts) f.counts;
      within = omega (arith, length-append (before_last offering.accepted) (Motion x y wheel ∷ []), length-before_last offering.accepted);
    }
follows_effect TurnedAway given state offering change motion f = record {
  waiting = f.waiting;
  holds = f.holds;
  counts = ap (λ (counts : Offered). counted_by TurnedAway counts) f.counts;
  within = f.within;
}
follows_effect PassedOver given state offering change motion f = f

follows_one : (given : ℕ) (state : PointerState) (offering : Offering) (change : PointerChange) → Follows given state offering
    → Follows given (step_of state change) (offered_one given offering change)
follows_one given state offering change f =
    let same : effect_on (drop given offering.accepted) (held_after offering.accepted) change ≡ effect_on state.latch.waiting state.latch.holds change =
    ap (λ (changes : List PointerChange). effect_on changes (held_after offering.accepted) change) (sym f.waiting) ∙ ap (λ (buttons : List Bool). effect_on state.latch.waiting buttons change) (sym f.holds) in
    subst (λ (effect : Effect). Follows given (step_of state change) (record { accepted = changed effect change offering.accepted; counts = counted_by effect offering.counts }))
    (sym same)
    (follows_effect (effect_on state.latch.waiting state.latch.holds change) given state offering change (adds_motion state.latch.waiting state.latch.holds change) f)

follows_all : (changes : List PointerChange) (given : ℕ) (state : PointerState) (offering : Offering) → Follows given state offering
    → Follows given (steps_of state changes) (offered_all given offering changes)
unfolding steps_of offered_all
follows_all [] given state offering f = f
follows_all (change ∷ changes) given state offering f =
    follows_all changes given (step_of state change) (offered_one given offering change) (follows_one given state offering change f)

pub steps_of-append : (state : PointerState) (first second : List PointerChange) → steps_of state (first ++ second) ≡ steps_of (steps_of state first) second
unfolding steps_of
steps_of-append state [] second = refl
steps_of-append state (change ∷ first) second = steps_of-append (step_of state change) first second

-- no change keeps the buttons that were shown last
pub last_kept : (changes : List PointerChange) (state : PointerState) → (steps_of state changes).latch.last ≡ state.latch.last
unfolding steps_of
last_kept [] state = refl
last_kept (change ∷ changes) state = last_kept changes (step_of state change)

module _ (latch : PointerLatchValue) (past : List PointerEntry) (stands : PointerLatchStands latch past) where
  pub stands_flushed : PointerLatchStands (record { waiting = []; holds = no_buttons; last = latch.last }) (Flushed ∷ past)
  unfolding accepted held_from
  stands_flushed = record { waiting = refl; holds = refl; last = stands.last; given = omega arith; places = omega (arith, none_held) }

  pub stands_took : (given : Option PointerChange) → given ≡ slice_get latch.waiting 0 → PointerLatchStands (record latch { waiting = drop 1 latch.waiting }) (Took given ∷ past)
  unfolding accepted
  stands_took None is =
      let empty = nothing_left latch.waiting (sym is) in
      record {
        waiting = rw empty refl ∙ sym empty ∙ stands.waiting;
        holds = stands.holds;
        last = stands.last;
        given = stands.given;
        places = stands.places;
      }
    where
      nothing_left : (changes : List PointerChange) → slice_get changes 0 ≡ None → changes ≡ []
      nothing_left [] none = refl
      nothing_left (change ∷ changes) none = absurd (cc)
  stands_took (Some change) is =
      let some = something_left latch.waiting (sym is) in
      let size : length latch.waiting ≡ length (accepted past) - delivered past = ap (λ (changes : List PointerChange). length changes) stands.waiting ∙ length-drop (delivered past) (accepted past) in
      record {
        waiting = ap (λ (changes : List PointerChange). drop 1 changes) stands.waiting ∙ drop-drop 1 (delivered past) (accepted past);
        holds = stands.holds;
        last = stands.last;
        given = omega arith;
        places = omega (arith, stands.places, length-drop (delivered past + 1) (accepted past), length-drop (delivered past) (accepted past));
      }
    where
      something_left : (changes : List PointerChange) → slice_get changes 0 ≡ Some change → 1 ≤ length changes
      something_left [] none = absurd (cc)
      something_left (first ∷ changes) none = omega arith

  shown_start : Follows (delivered past) (pointer_state latch nothing_offered) (record { accepted = accepted past; counts = nothing_offered })
  shown_start = record { waiting = stands.waiting; holds = stands.holds; counts = refl; within = stands.given }

  -- the latch after all changes of a sample
  module _ (sample : Sample) (now : PointerLatchValue) (counts : Offered)
      (is : pointer_state now counts ≡ steps_of (pointer_state latch nothing_offered) (changes_of latch.last sample)) where
    shown_follows : Follows (delivered past) (pointer_state now counts) (offered_all (delivered past) (record { accepted = accepted past; counts = nothing_offered }) (changes_of (last_shown past) sample))
    shown_follows =
        subst (λ (state : PointerState). Follows (delivered past) state (offered_all (delivered past) (record { accepted = accepted past; counts = nothing_offered }) (changes_of (last_shown past) sample)))
        (ap (λ (last : ℕ). steps_of (pointer_state latch nothing_offered) (changes_of last sample)) (sym stands.last) ∙ sym is)
        (follows_all (changes_of (last_shown past) sample) (delivered past) (pointer_state latch nothing_offered) (record { accepted = accepted past; counts = nothing_offered }) shown_start)

    pub stands_shown : length now.waiting + number_of_buttons now.holds ≤ PLACES → PointerLatchStands (record now { last = sample.buttons }) (Sampled sample ∷ past)
    unfolding accepted
    stands_shown places = record {
      waiting = shown_follows.waiting;
      holds = shown_follows.holds;
      last = refl;
      given = shown_follows.within;
      places = rw (← shown_follows.waiting, ← shown_follows.holds) places;
    }

    pub counts_shown : counts ≡ counts_of sample past
    counts_shown = shown_follows.counts

-- what was flushed, without the buttons that were shown last, is cleared
pub stands_last : (latch : PointerLatchValue) (past : List PointerEntry) → PointerLatchStands latch (Flushed ∷ past) → PointerLatchStands (record latch { last = 0 }) (Cleared ∷ past)
unfolding accepted
stands_last latch past stands = record { waiting = stands.waiting; holds = stands.holds; last = refl; given = stands.given; places = stands.places }

pub stands_new : PointerLatchStands (record { waiting = []; holds = no_buttons; last = 0 }) []
unfolding accepted held_from
stands_new = record { waiting = refl; holds = refl; last = refl; given = omega arith; places = omega (arith, none_held) }

-- a button is offered, or passed over
pub only_from-yes : (buttons others button m n : ℕ) → m ≡ suc n → (is_down buttons button && not (is_down others button)) ≡ true → only_from buttons others button m ≡ button ∷ only_from buttons others (button + 1) n
unfolding only_from
only_from-yes buttons others button m n is only = rw (is, only) refl

pub only_from-no : (buttons others button m n : ℕ) → m ≡ suc n → (is_down buttons button && not (is_down others button)) ≡ false → only_from buttons others button m ≡ only_from buttons others (button + 1) n
unfolding only_from
only_from-no buttons others button m n is only = rw (is, only) refl

pub only_from-none : (buttons others button n : ℕ) → n ≡ 0 → only_from buttons others button n ≡ []
unfolding only_from
only_from-none buttons others button n none = rw none refl

both_ways : (b : Bool) → (b && not b) ≡ false
both_ways true = refl
both_ways false = refl

only_from-same : (buttons button n : ℕ) → only_from buttons buttons button n ≡ []
unfolding only_from
only_from-same buttons button zero = refl
only_from-same buttons button (suc n) = rw (both_ways (is_down buttons button)) (only_from-same buttons (button + 1) n)

-- buttons that are as before change nothing
pub nothing_changed : (state : PointerState) (last buttons : ℕ) → last ≡ buttons → state ≡ steps_of state (map Release (only_in last buttons) ++ map Press (only_in buttons last))
unfolding steps_of
nothing_changed state last buttons same = rw (same, only_from-same buttons 1 5) refl

-- one step more of a list, or the same list
pub next_step : (wrap : ℕ → PointerChange) (start state now : PointerState) (all rest after : List ℕ) (button : ℕ)
    → steps_of start (map wrap all) ≡ steps_of state (map wrap rest) → rest ≡ button ∷ after → now ≡ step_of state (wrap button)
    → steps_of start (map wrap all) ≡ steps_of now (map wrap after)
unfolding steps_of
next_step wrap start state now all rest after button so_far next is =
    so_far ∙ ap (λ (buttons : List ℕ). steps_of state (map wrap buttons)) next ∙ ap (λ (at : PointerState). steps_of at (map wrap after)) (sym is)

pub same_step : (wrap : ℕ → PointerChange) (start state : PointerState) (all rest after : List ℕ)
    → steps_of start (map wrap all) ≡ steps_of state (map wrap rest) → rest ≡ after → steps_of start (map wrap all) ≡ steps_of state (map wrap after)
same_step wrap start state all rest after so_far is = so_far ∙ ap (λ (buttons : List ℕ). steps_of state (map wrap buttons)) is

pub no_step : (wrap : ℕ → PointerChange) (start state : PointerState) (all rest : List ℕ) → steps_of start (map wrap all) ≡ steps_of state (map wrap rest) → rest ≡ [] → state ≡ steps_of start (map wrap all)
unfolding steps_of
no_step wrap start state all rest so_far none = sym (so_far ∙ ap (λ (buttons : List ℕ). steps_of state (map wrap buttons)) none)

-- both parts of the buttons, and all of a sample
pub two_steps : (state first second : PointerState) (a b : List PointerChange) → first ≡ steps_of state a → second ≡ steps_of first b → second ≡ steps_of state (a ++ b)
two_steps state first second a b f s = s ∙ ap (λ (now : PointerState). steps_of now b) f ∙ sym (steps_of-append state a b)

pub sample_steps : (latch : PointerLatchValue) (sample : Sample) (first second : PointerState)
    → first ≡ steps_of (pointer_state latch nothing_offered) (map Release (only_in latch.last sample.buttons) ++ map Press (only_in sample.buttons latch.last))
    → second ≡ steps_of first (motion_in sample)
    → second ≡ steps_of (pointer_state latch nothing_offered) (changes_of latch.last sample)
sample_steps latch sample first second f s =
    two_steps (pointer_state latch nothing_offered) first second (map Release (only_in latch.last sample.buttons) ++ map Press (only_in sample.buttons latch.last)) (motion_in sample) f s

-- the motion of a sample is one change, or none
pub still_steps : (state : PointerState) (sample : Sample) → (is_zero sample.x && is_zero sample.y && is_zero sample.wheel) ≡ true → state ≡ steps_of state (motion_in sample)
unfolding steps_of
still_steps state sample still = rw still refl

pub moved_steps : (state now : PointerState) (sample : Sample) → (is_zero sample.x && is_zero sample.y && is_zero sample.wheel) ≡ false
    → now ≡ step_of state (Motion sample.x sample.y sample.wheel) → now ≡ steps_of state (motion_in sample)
unfolding steps_of
moved_steps state now sample moved is = rw moved is

-- a motion by what it and the change before it come to
module _ (latch : PointerLatchValue) (counts : Offered) (x y wheel : ℤ) (last : Option PointerChange) (is : last ≡ last_change latch.waiting) where
  motion_step : (join : Join) → join ≡ join_of last x y wheel
      → pointer_state (with_effect (effect_of_motion join (length latch.waiting) latch.holds) (Motion x y wheel) latch) (counted_by (effect_of_motion join (length latch.waiting) latch.holds) counts)
      ≡ step_of (pointer_state latch counts) (Motion x y wheel)
  motion_step join joined =
      ap (λ (j : Join). pointer_state (with_effect (effect_of_motion j (length latch.waiting) latch.holds) (Motion x y wheel) latch) (counted_by (effect_of_motion j (length latch.waiting) latch.holds) counts))
      (joined ∙ ap (λ (change : Option PointerChange). join_of change x y wheel) is)

  pub sum_step : (a b c : ℤ) → Sum a b c ≡ join_of last x y wheel
      → pointer_state (record latch { waiting = take (length latch.waiting - 1) latch.waiting ++ Motion a b c ∷ [] }) (counted Taken counts)
      ≡ step_of (pointer_state latch counts) (Motion x y wheel)
  sum_step a b c joined =
      ap (λ (changes : List PointerChange). pointer_state (record latch { waiting = changes ++ Motion a b c ∷ [] }) (counted Taken counts)) (sym (before_last-kept latch.waiting))
      ∙ motion_step (Sum a b c) joined

  pub far_step : TooFar ≡ join_of last x y wheel → pointer_state latch (counted Refused counts) ≡ step_of (pointer_state latch counts) (Motion x y wheel)
  far_step joined = motion_step TooFar joined

  pub apart_is_step : Apart ≡ join_of last x y wheel → apart_step (pointer_state latch counts) (Motion x y wheel) ≡ step_of (pointer_state latch counts) (Motion x y wheel)
  apart_is_step joined = motion_step Apart joined

  pub some_before : (a b c : ℤ) → Sum a b c ≡ join_of last x y wheel → 0 < length latch.waiting
  some_before a b c joined =
      omega (arith, some_left latch.waiting (rw (← is) (joins_motion last x y wheel (ap (λ (j : Join). joins j) (sym joined)))))
