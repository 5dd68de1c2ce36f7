-- Parts of a list.
use Rattle.std.proofs.Common.{◌≡◌, ℕ, ◌+◌, ◌-◌, ◌≤◌, List, ◌++◌, take, drop, slice_range, sym, ap, ◌∙◌, arith, drop-drop, take-append-drop}
use Rattle.std.proofs.lemmas.List.{drop-take, take-take}

-- a part without its first elements
pub slice_range_past : (xs : List ℕ) (start end count : ℕ) → count ≤ end - start → slice_range xs (start + count) end ≡ drop count (slice_range xs start end)
slice_range_past xs start end count within =
    let rest : count + (end - (start + count)) ≡ end - start = omega arith in
    ap (take (end - (start + count))) (sym (drop-drop count start xs))
    ∙ sym (drop-take count (end - (start + count)) (drop start xs))
    ∙ ap (λ size. drop count (take size (drop start xs))) rest

-- two parts side by side
pub take_in_two : (xs : List ℕ) (first second : ℕ) → take (first + second) xs ≡ take first xs ++ slice_range xs first (first + second)
take_in_two xs first second =
    let back : drop first (take (first + second) xs) ≡ take second (drop first xs) = drop-take first second xs in
    let front : take first (take (first + second) xs) ≡ take first xs = take-take first (first + second) xs (omega arith) in
    let size : (first + second) - first ≡ second = omega arith in
    sym (take-append-drop first (take (first + second) xs))
    ∙ ap (λ part. part ++ drop first (take (first + second) xs)) front
    ∙ ap (λ part. take first xs ++ part) (back ∙ ap (λ count. take count (drop first xs)) (sym size))
