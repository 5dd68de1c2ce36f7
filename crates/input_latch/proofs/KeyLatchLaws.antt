-- What a key latch stands for after each call.
use Rattle.std.proofs.Common.{◌≡◌, ℕ, ◌+◌, ◌-◌, ◌≤◌, Bool, true, false, not, ◌&&◌, List, [], ◌∷◌, ◌++◌, length, map, drop, slice_get, refl, sym, ap, ◌∙◌, subst, arith, Option, Some, None, length-append, length-drop, nat_le, nat_lt, ◌||◌, IfSome, IsTrue}
use Rattle.std.proofs.lemmas.Bool.{and_parts, leb-true}
use Rattle.std.proofs.lemmas.List.{drop-drop, drop-append-le}
use Rattle.psd_base.specs.KeySet.{is_passed_on, is_ordinary, no_keys, has_key, difference, keys_from}
use Rattle.psd_base.proofs.KeySetLemmas.{has_key-difference}
use Rattle.psd_base.proofs.KeyWordLemmas.{keys_from-none}
use Rattle.input_latch.specs.declared.key_class.KeyClass.{KeyClass}
use Rattle.input_latch.specs.declared.key_class.KeyClass.TheVariants.{Ordinary, Modifier}
use Rattle.input_latch.specs.declared.key_latch.KeyChange.{KeyChange}
use Rattle.input_latch.specs.declared.key_latch.KeyChange.TheVariants.{Press, Release}
use Rattle.input_latch.specs.declared.key_latch.TheConstants.{KEYS_MAX}
use Rattle.input_latch.specs.declared.offered.Offered.{Offered}
use Rattle.input_latch.specs.declared.offered.TheConstants.{PLACES}
use Rattle.input_latch.specs.KeyClass.{first_of, last_of, keys_of, number_in, number_of_keys}
use Rattle.input_latch.specs.KeyHistory.{KeyEntry, Shown, Took, Flushed, Cleared, last_shown, delivered, changes_between, held_with, held_from, held_after, can_press, verdict_on, Offering, offered_one, offered_all, accepted, counts_of}
use Rattle.input_latch.specs.KeyLatchStands.{KeyLatchValue, KeyLatchStands}
use Rattle.input_latch.specs.PassedKeys.{usage_of, are_passed_on}
use Rattle.input_latch.specs.KeySteps.{KeyState, key_state, with_verdict, step_of, steps_of}
use Rattle.input_latch.specs.Verdict.{Verdict, Taken, Refused, PassedOver, counted, appended, nothing_offered}
use Rattle.input_latch.proofs.KeyCounts.{number_in-none}

pub none_held : number_of_keys no_keys ≡ 0
none_held = omega (arith, number_in-none.0, number_in-none.1)

-- held keys, change by change
pub held_from-append : (keys : List Bool) (changes : List KeyChange) (change : KeyChange) → held_from keys (changes ++ change ∷ []) ≡ held_with (held_from keys changes) change
unfolding held_from
held_from-append keys [] change = refl
held_from-append keys (first ∷ changes) change = held_from-append (held_with keys first) changes change

-- a latch that stands so far, in the middle of an offering
record Follows (given : ℕ) (state : KeyState) (offering : Offering) : Type 0 where
  waiting : state.latch.waiting ≡ drop given offering.accepted
  holds : state.latch.holds ≡ held_after offering.accepted
  counts : state.counts ≡ offering.counts
  within : given ≤ length offering.accepted

follows_verdict : (verdict : Verdict) (given : ℕ) (state : KeyState) (offering : Offering) (change : KeyChange) → Follows given state offering
    → Follows given (key_state (with_verdict verdict change state.latch) (counted verdict state.counts)) (record { accepted = appended verdict change offering.accepted; counts = counted verdict offering.counts })
follows_verdict Taken given state offering change f = record {
  waiting = ap (λ (changes : List KeyChange). changes ++ change ∷ []) f.waiting ∙ sym (drop-append-le given offering.accepted (change ∷ []) f.within);
  holds = ap (λ (keys : List Bool). held_with keys change) f.holds ∙ sym (held_from-append no_keys offering.accepted change);
  counts = ap (λ (counts : Offered). counted Taken counts) f.counts;
  within = omega (arith, f.within, length-append offering.accepted (change ∷ []));
}
follows_verdict Refused given state offering change f = record {
  waiting = f.waiting;
  holds = f.holds;
  counts = ap (λ (counts : Offered). counted Refused counts) f.counts;
  within = f.within;
}
follows_verdict PassedOver given state offering change f = f

follows_one : (given : ℕ) (state : KeyState) (offering : Offering) (change : KeyChange) → Follows given state offering
    → Follows given (step_of state change) (offered_one given offering change)
follows_one given state offering change f =
    let size : length state.latch.waiting ≡ length offering.accepted - given = ap (λ (changes : List KeyChange). length changes) f.waiting ∙ length-drop given offering.accepted in
    let same : verdict_on (length offering.accepted - given) (held_after offering.accepted) change ≡ verdict_on (length state.latch.waiting) state.latch.holds change =
    ap (λ (n : ℕ). verdict_on n (held_after offering.accepted) change) (sym size) ∙ ap (λ (keys : List Bool). verdict_on (length state.latch.waiting) keys change) (sym f.holds) in
    subst (λ (verdict : Verdict). Follows given (step_of state change) (record { accepted = appended verdict change offering.accepted; counts = counted verdict offering.counts }))
    (sym same)
    (follows_verdict (verdict_on (length state.latch.waiting) state.latch.holds change) given state offering change f)

follows_all : (changes : List KeyChange) (given : ℕ) (state : KeyState) (offering : Offering) → Follows given state offering
    → Follows given (steps_of state changes) (offered_all given offering changes)
unfolding steps_of offered_all
follows_all [] given state offering f = f
follows_all (change ∷ changes) given state offering f =
    follows_all changes given (step_of state change) (offered_one given offering change) (follows_one given state offering change f)

pub steps_of-append : (state : KeyState) (first second : List KeyChange) → steps_of state (first ++ second) ≡ steps_of (steps_of state first) second
unfolding steps_of
steps_of-append state [] second = refl
steps_of-append state (change ∷ first) second = steps_of-append (step_of state change) first second

-- no change keeps the set that was shown last
last_kept : (changes : List KeyChange) (state : KeyState) → (steps_of state changes).latch.last ≡ state.latch.last
unfolding steps_of
last_kept [] state = refl
last_kept (change ∷ changes) state = last_kept changes (step_of state change)

module _ (latch : KeyLatchValue) (past : List KeyEntry) (stands : KeyLatchStands latch past) where
  pub stands_flushed : KeyLatchStands (record { waiting = []; holds = no_keys; last = latch.last }) (Flushed ∷ past)
  unfolding accepted held_from
  stands_flushed = record { waiting = refl; holds = refl; last = stands.last; given = omega arith; places = omega (arith, none_held) }

  pub stands_took : (given : Option KeyChange) → given ≡ slice_get latch.waiting 0 → KeyLatchStands (record latch { waiting = drop 1 latch.waiting }) (Took given ∷ past)
  unfolding accepted
  stands_took None is =
      let empty = nothing_left latch.waiting (sym is) in
      record {
        waiting = rw empty refl ∙ sym empty ∙ stands.waiting;
        holds = stands.holds;
        last = stands.last;
        given = stands.given;
        places = stands.places;
      }
    where
      nothing_left : (changes : List KeyChange) → slice_get changes 0 ≡ None → changes ≡ []
      nothing_left [] none = refl
      nothing_left (change ∷ changes) none = absurd (cc)
  stands_took (Some change) is =
      let some = something_left latch.waiting (sym is) in
      let size : length latch.waiting ≡ length (accepted past) - delivered past = ap (λ (changes : List KeyChange). length changes) stands.waiting ∙ length-drop (delivered past) (accepted past) in
      record {
        waiting = ap (λ (changes : List KeyChange). drop 1 changes) stands.waiting ∙ drop-drop 1 (delivered past) (accepted past);
        holds = stands.holds;
        last = stands.last;
        given = omega arith;
        places = omega (arith, stands.places, length-drop (delivered past + 1) (accepted past), length-drop (delivered past) (accepted past));
      }
    where
      something_left : (changes : List KeyChange) → slice_get changes 0 ≡ Some change → 1 ≤ length changes
      something_left [] none = absurd (cc)
      something_left (first ∷ changes) none = omega arith

  shown_start : Follows (delivered past) (key_state latch nothing_offered) (record { accepted = accepted past; counts = nothing_offered })
  shown_start = record { waiting = stands.waiting; holds = stands.holds; counts = refl; within = stands.given }

  -- the latch after all changes of a set that was shown
  module _ (keys : List Bool) (now : KeyLatchValue) (counts : Offered)
      (is : key_state now counts ≡ steps_of (key_state latch nothing_offered) (changes_between latch.last keys)) where
    shown_follows : Follows (delivered past) (key_state now counts) (offered_all (delivered past) (record { accepted = accepted past; counts = nothing_offered }) (changes_between (last_shown past) keys))
    shown_follows =
        subst (λ (state : KeyState). Follows (delivered past) state (offered_all (delivered past) (record { accepted = accepted past; counts = nothing_offered }) (changes_between (last_shown past) keys)))
        (ap (λ (last : List Bool). steps_of (key_state latch nothing_offered) (changes_between last keys)) (sym stands.last) ∙ sym is)
        (follows_all (changes_between (last_shown past) keys) (delivered past) (key_state latch nothing_offered) (record { accepted = accepted past; counts = nothing_offered }) shown_start)

    pub stands_shown : length now.waiting + number_of_keys now.holds ≤ PLACES → KeyLatchStands (record now { last = keys }) (Shown keys ∷ past)
    unfolding accepted
    stands_shown places = record {
      waiting = shown_follows.waiting;
      holds = shown_follows.holds;
      last = refl;
      given = shown_follows.within;
      places = rw (← shown_follows.waiting, ← shown_follows.holds) places;
    }

    pub counts_shown : counts ≡ counts_of keys past
    counts_shown = shown_follows.counts

-- what was flushed, without the set that was shown last, is cleared
pub stands_last : (latch : KeyLatchValue) (past : List KeyEntry) → KeyLatchStands latch (Flushed ∷ past) → KeyLatchStands (record latch { last = no_keys }) (Cleared ∷ past)
unfolding accepted
stands_last latch past stands = record { waiting = stands.waiting; holds = stands.holds; last = refl; given = stands.given; places = stands.places }

pub stands_new : KeyLatchStands (record { waiting = []; holds = no_keys; last = no_keys }) []
unfolding accepted held_from
stands_new = record { waiting = refl; holds = refl; last = refl; given = omega arith; places = omega (arith, none_held) }

-- a set that is shown again changes nothing
both_ways : (b : Bool) → (b && not b) ≡ false
both_ways true = refl
both_ways false = refl

none_of : (class : KeyClass) (keys : List Bool) → keys_of class (difference keys keys) ≡ []
none_of class keys = keys_from-none (difference keys keys) (first_of class) (last_of class) (λ usage low high. has_key-difference keys keys usage refl ∙ both_ways (has_key keys usage))

pub changes_between-same : (keys : List Bool) → changes_between keys keys ≡ []
changes_between-same keys = rw (none_of Ordinary keys, none_of Modifier keys) refl

-- the next key of a class is offered, or there is none
pub next_step : (wrap : ℕ → KeyChange) (start state now : KeyState) (all : List ℕ) (keys : List Bool) (first last usage : ℕ)
    → steps_of start (map wrap all) ≡ steps_of state (map wrap (keys_from keys first (last + 1 - first)))
    → keys_from keys first (last + 1 - first) ≡ usage ∷ keys_from keys (usage + 1) (last - usage)
    → now ≡ step_of state (wrap usage)
    → steps_of start (map wrap all) ≡ steps_of now (map wrap (keys_from keys (usage + 1) (last + 1 - (usage + 1))))
unfolding steps_of
next_step wrap start state now all keys first last usage so_far next is =
    let n : last + 1 - (usage + 1) ≡ last - usage = omega arith in
    so_far ∙ ap (λ (usages : List ℕ). steps_of state (map wrap usages)) next
    ∙ rw (n, is) refl

pub no_step : (wrap : ℕ → KeyChange) (start state : KeyState) (all rest : List ℕ) → steps_of start (map wrap all) ≡ steps_of state (map wrap rest) → rest ≡ [] → state ≡ steps_of start (map wrap all)
unfolding steps_of
no_step wrap start state all rest so_far none = sym (so_far ∙ ap (λ (usages : List ℕ). steps_of state (map wrap usages)) none)

-- all four parts of a set that was shown
pub four_steps : (state first second third fourth : KeyState) (a b c d : List KeyChange)
    → first ≡ steps_of state a → second ≡ steps_of first b → third ≡ steps_of second c → fourth ≡ steps_of third d
    → fourth ≡ steps_of state (a ++ b ++ c ++ d)
four_steps state first second third fourth a b c d f s t l =
    l ∙ ap (λ (now : KeyState). steps_of now d) (t ∙ ap (λ (now : KeyState). steps_of now c) (s ∙ ap (λ (now : KeyState). steps_of now b) f ∙ sym (steps_of-append state a b)) ∙ sym (steps_of-append state (a ++ b) c))
    ∙ sym (steps_of-append state (a ++ b ++ c) d)

pub snapshot_steps : (latch : KeyLatchValue) (keys gone come last : List Bool) (first second third fourth : KeyState)
    → gone ≡ difference last keys → come ≡ difference keys last → last ≡ latch.last
    → first ≡ steps_of (key_state latch nothing_offered) (map Release (keys_of Ordinary gone))
    → second ≡ steps_of first (map Release (keys_of Modifier gone))
    → third ≡ steps_of second (map Press (keys_of Modifier come))
    → fourth ≡ steps_of third (map Press (keys_of Ordinary come))
    → fourth ≡ steps_of (key_state latch nothing_offered) (changes_between latch.last keys)
snapshot_steps latch keys gone come last first second third fourth g c l one two three four =
    let order : map Release (keys_of Ordinary gone) ++ map Release (keys_of Modifier gone) ++ map Press (keys_of Modifier come) ++ map Press (keys_of Ordinary come) ≡ changes_between latch.last keys = rw (g, c, l) refl in
    four_steps (key_state latch nothing_offered) first second third fourth (map Release (keys_of Ordinary gone)) (map Release (keys_of Modifier gone)) (map Press (keys_of Modifier come)) (map Press (keys_of Ordinary come)) one two three four
    ∙ ap (λ (changes : List KeyChange). steps_of (key_state latch nothing_offered) changes) order

-- the set that was shown before
module _ (latch : KeyLatchValue) (past : List KeyEntry) (keys : List Bool) (stands : KeyLatchStands latch past) (same : keys ≡ latch.last) where
  nothing_new : key_state latch nothing_offered ≡ steps_of (key_state latch nothing_offered) (changes_between latch.last keys)
  unfolding steps_of
  nothing_new = rw (same, changes_between-same latch.last) refl

  pub stands_again : KeyLatchStands latch (Shown keys ∷ past)
  stands_again =
      subst (λ (last : List Bool). KeyLatchStands (record latch { last = last }) (Shown keys ∷ past)) same
      (stands_shown latch past stands keys latch nothing_offered nothing_new (rw (stands.waiting, stands.holds) stands.places))

  pub counts_again : nothing_offered ≡ counts_of keys past
  counts_again = counts_shown latch past stands keys latch nothing_offered nothing_new

-- a press that can be taken leaves a place for its release
pub can_press-places : (waiting : ℕ) (holds : List Bool) (usage : ℕ) → can_press waiting holds usage ≡ true → waiting + number_of_keys holds + 2 ≤ PLACES
can_press-places waiting holds usage can = leb-true (waiting + number_of_keys holds + 2) PLACES (and_parts (nat_le (waiting + number_of_keys holds + 2) PLACES) (not (is_ordinary usage) || nat_lt (number_in Ordinary holds) KEYS_MAX) can).0

-- changes of keys that are passed on
pub are_passed_on-append : (changes : List KeyChange) (change : KeyChange) → are_passed_on changes ≡ true → is_passed_on (usage_of change) ≡ true → are_passed_on (changes ++ change ∷ []) ≡ true
unfolding are_passed_on
are_passed_on-append [] change all one = rw one refl
are_passed_on-append (first ∷ changes) change all one =
    let p = and_parts (is_passed_on (usage_of first)) (are_passed_on changes) all in
    rw (p.0, are_passed_on-append changes change p.1 one) refl

pub are_passed_on-rest : (changes : List KeyChange) → are_passed_on changes ≡ true → are_passed_on (drop 1 changes) ≡ true
unfolding are_passed_on
are_passed_on-rest [] all = refl
are_passed_on-rest (first ∷ changes) all = (and_parts (is_passed_on (usage_of first)) (are_passed_on changes) all).1

pub are_passed_on-first : (changes : List KeyChange) (given : Option KeyChange) → given ≡ slice_get changes 0 → are_passed_on changes ≡ true → IfSome given (λ change. IsTrue (is_passed_on (usage_of change)))
unfolding are_passed_on
are_passed_on-first [] given is all = subst (λ (o : Option KeyChange). IfSome o (λ change. IsTrue (is_passed_on (usage_of change)))) (sym is) tt
are_passed_on-first (first ∷ changes) given is all =
    subst (λ (o : Option KeyChange). IfSome o (λ change. IsTrue (is_passed_on (usage_of change)))) (sym is) (and_parts (is_passed_on (usage_of first)) (are_passed_on changes) all).0

pub none_passed_on : are_passed_on [] ≡ true
unfolding are_passed_on
none_passed_on = refl
