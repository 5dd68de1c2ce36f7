-- The shortest part of a list of events that holds so many of an input.
use Rattle.std.proofs.Common.{◌≡◌, ℕ, suc, ◌+◌, Bool, true, false, cond, List, [], ◌∷◌, ◌++◌, refl, ap, ◌∙◌, arith}
use Rattle.std.specs.List.{count_by}
use Rattle.std.proofs.lemmas.List.Sums.{sum_by-cons}
use Rattle.psd_base.specs.declared.outlet.Input.{Input}
use Rattle.psd_base.specs.Event.{Seen}
use Rattle.capture_reader.specs.Taken.{is_from, shortest}

-- none is in no events
pub shortest_none : (input : Input) (events : List Seen) → shortest input 0 events ≡ []
unfolding shortest
shortest_none input events = refl

-- Events of which the last is of the input are the shortest part with as many as they have.
pub shortest_is : (input : Input) (events : List Seen) (event : Seen) (later : List Seen) (count : ℕ) → count ≡ count_by (is_from input) events → is_from input event ≡ true
    → shortest input (suc count) (events ++ event ∷ later) ≡ events ++ event ∷ []
unfolding shortest
shortest_is input [] event later count none is =
    rw is (ap (λ n. event ∷ shortest input n later) none)
shortest_is input (first ∷ events) event later count counted is =
    let P : Bool → Type 0 = λ b. count ≡ cond b 1 0 + count_by (is_from input) events
    → first ∷ cond b (shortest input count (events ++ event ∷ later)) (shortest input (suc count) (events ++ event ∷ later)) ≡ first ∷ (events ++ event ∷ []) in
    elim (is_from input first) as P [
      | true ↦ λ one.
          let more : count ≡ suc (count_by (is_from input) events) = omega arith in
          ap (λ n. first ∷ shortest input n (events ++ event ∷ later)) more
          ∙ ap (λ rest. first ∷ rest) (shortest_is input events event later (count_by (is_from input) events) refl is)
      | false ↦ λ none.
          let same : count ≡ count_by (is_from input) events = omega arith in
          ap (λ rest. first ∷ rest) (shortest_is input events event later count same is)
    ] (counted ∙ sum_by-cons (λ event. cond (is_from input event) 1 0) first events)
