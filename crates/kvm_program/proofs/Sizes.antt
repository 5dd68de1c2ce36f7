-- The sizes of all transcripts as a list.
use Rattle.std.proofs.Common.{◌≡◌, ℕ, suc, zero, ◌+◌, ◌<◌, List, [], ◌∷◌, length, map, slice_index, subst, refl, arith}
use Rattle.selector.specs.Panel.{numbers_from}

-- a list is told by its elements
pub map-numbers_from : (sizes : List ℕ) (size_of : ℕ → ℕ) (start count : ℕ) → length sizes ≡ count
    → ((place : ℕ) → place < count → slice_index sizes place ≡ size_of (start + place))
    → sizes ≡ map size_of (numbers_from start count)
map-numbers_from [] size_of start zero long each = refl
map-numbers_from [] size_of start (suc count) long each = absurd (omega arith)
map-numbers_from (size ∷ sizes) size_of start zero long each = absurd (omega arith)
map-numbers_from (size ∷ sizes) size_of start (suc count) long each =
    let head : size ≡ size_of start = subst (λ (n : ℕ). size ≡ size_of n) (omega arith) (each 0 (omega arith)) in
    let tail = map-numbers_from sizes size_of (start + 1) count (omega arith)
    (λ place within. subst (λ (n : ℕ). slice_index sizes place ≡ size_of n) (omega arith) (each (suc place) (omega arith))) in
    cc
