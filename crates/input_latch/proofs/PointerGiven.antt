-- The changes that a pointer latch gave stay the first that it accepted, and the next one follows them.
use Rattle.std.proofs.Common.{◌≡◌, ℕ, zero, suc, ◌+◌, ◌-◌, ◌<◌, ◌≤◌, true, List, [], ◌∷◌, ◌++◌, length, take, drop, slice_get, Some, None, refl, ap, ◌∙◌, arith, length-append, length-drop}
use Rattle.std.proofs.lemmas.List.{take-append-le, take-take}
use Rattle.psd_base.specs.declared.sample.Sample.{Sample}
use Rattle.input_latch.specs.declared.pointer_latch.PointerChange.{PointerChange}
use Rattle.input_latch.specs.declared.pointer_latch.PointerChange.TheVariants.{Motion as Moved}
use Rattle.input_latch.specs.PointerHistory.{PointerEntry, Sampled, last_shown, delivered, changes_of, held_after, before_last, Effect, Appended, Added, TurnedAway, PassedOver, effect_on, changed, Offering, offered_one, offered_all, accepted}
use Rattle.input_latch.specs.Verdict.{nothing_offered}
use Rattle.input_latch.proofs.PointerLatchLaws.{adds, adds_motion, some_left, length-before_last, before_last-kept}

-- an offering keeps the changes that were given
pub record Keeps (given : ℕ) (before now : List PointerChange) : Type 0 where
  pub same : take given now ≡ take given before
  pub within : given ≤ length now

keeps_effect : (effect : Effect) (given : ℕ) (changes : List PointerChange) (change : PointerChange) → (adds effect ≡ true → given < length changes) → given ≤ length changes → Keeps given changes (changed effect change changes)
keeps_effect Appended given changes change undelivered within = record {
  same = take-append-le given changes (change ∷ []) within;
  within = omega (arith, length-append changes (change ∷ []));
}
keeps_effect (Added x y wheel) given changes change undelivered within =
    let left : given < length changes = undelivered refl in
    let size : length (before_last changes) ≡ length changes - 1 = length-before_last changes in
    record {
      same = take-append-le given (before_last changes) (Moved x y wheel ∷ []) (omega arith) ∙ kept (length changes - 1) (omega arith) (before_last-kept changes);
      within = omega (arith, length-append (before_last changes) (Moved x y wheel ∷ []));
    }
  where
    kept : (n : ℕ) → given ≤ n → before_last changes ≡ take n changes → take given (before_last changes) ≡ take given changes
    kept n h is = ap (λ (cs : List PointerChange). take given cs) is ∙ take-take given n changes h
keeps_effect TurnedAway given changes change undelivered within = record { same = refl; within = within }
keeps_effect PassedOver given changes change undelivered within = record { same = refl; within = within }

keeps_all : (changes : List PointerChange) (given : ℕ) (offering : Offering) → given ≤ length offering.accepted → Keeps given offering.accepted (offered_all given offering changes).accepted
unfolding offered_all
keeps_all [] given offering within = record { same = refl; within = within }
keeps_all (change ∷ changes) given offering within =
    let one =
    keeps_effect (effect_on (drop given offering.accepted) (held_after offering.accepted) change) given offering.accepted change
    (λ adds. omega (arith, some_left (drop given offering.accepted) (adds_motion (drop given offering.accepted) (held_after offering.accepted) change adds), length-drop given offering.accepted))
    within in
    let later = keeps_all changes given (offered_one given offering change) one.within in
    record { same = later.same ∙ one.same; within = later.within }

pub keeps_sampled : (sample : Sample) (latch : List PointerEntry) → delivered latch ≤ length (accepted latch) → Keeps (delivered latch) (accepted latch) (accepted (Sampled sample ∷ latch))
unfolding accepted
keeps_sampled sample latch within = keeps_all (changes_of (last_shown latch) sample) (delivered latch) (record { accepted = accepted latch; counts = nothing_offered }) within

-- the next change follows those that were given
pub next_after : (changes : List PointerChange) (given : ℕ) (change : PointerChange) → slice_get (drop given changes) 0 ≡ Some change → (take (given + 1) changes ≡ take given changes ++ change ∷ []) × (given + 1 ≤ length changes)
next_after [] zero change is = absurd (cc)
next_after [] (suc given) change is = absurd (cc)
next_after (first ∷ changes) zero change is =
    let same : first ≡ change = cc in
    (ap (λ (c : PointerChange). c ∷ []) same, omega arith)
next_after (first ∷ changes) (suc given) change is =
    let later = next_after changes given change is in
    let n : suc given + 1 ≡ suc (given + 1) = omega arith in
    (rw n (ap (λ (cs : List PointerChange). first ∷ cs) later.0), omega (arith, later.1))

-- and there is none where all were given
pub none_undelivered : (changes : List PointerChange) (given : ℕ) → slice_get (drop given changes) 0 ≡ None → length changes ≤ given
none_undelivered [] given is = omega arith
none_undelivered (first ∷ changes) zero is = absurd (cc)
none_undelivered (first ∷ changes) (suc given) is = omega (arith, none_undelivered changes given is)
