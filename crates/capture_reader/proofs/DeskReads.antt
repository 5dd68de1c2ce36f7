-- What reading does to the bytes that are still to come.
use Rattle.std.proofs.Common.{◌≡◌, ℕ, ◌+◌, ◌-◌, Bool, true, false, nat_eq, List, [], ◌∷◌, ◌++◌, take, Option, Some, None, option_map, IfSome, slice_range, refl, sym, ap, ◌∙◌, subst, arith, append_assoc, append-nil}
use Rattle.std.proofs.lemmas.Bool.Decides.{nat_tests}
use Rattle.capture_reader.specs.Window.{coming, still}
use Rattle.capture_reader.proofs.Slices.{take_in_two}

coming_after_read : (bytes items rest : List ℕ) (held count : ℕ) (none : Bool) → nat_eq count 0 ≡ none → take held items ≡ bytes
    → (count ≡ 0 → slice_range items held (held + count) ++ rest ≡ [])
    → coming (record { bytes = slice_range items 0 (held + count); ended = none }) rest ≡ bytes ++ (slice_range items held (held + count) ++ rest)
coming_after_read bytes items rest held count true none kept ended =
    let empty : count ≡ 0 = grind (arith, nat_tests) in
    let size : (held + count) - 0 ≡ held = omega arith in
    ap (λ n. take n items) size ∙ kept ∙ sym (append-nil bytes) ∙ ap (λ xs. bytes ++ xs) (sym (ended empty))
coming_after_read bytes items rest held count false none kept ended =
    let size : (held + count) - 0 ≡ held + count = omega arith in
    ap (λ xs. xs ++ rest) (ap (λ n. take n items) size ∙ take_in_two items held count ∙ ap (λ xs. xs ++ slice_range items held (held + count)) kept)
    ∙ append_assoc bytes (slice_range items held (held + count)) rest

-- a read moves bytes from what is left to what is held, and what is still to come stays
pub still_after_read : (bytes items : List ℕ) (held count : ℕ) (before after : Option (List ℕ)) → take held items ≡ bytes
    → before ≡ option_map (λ rest. slice_range items held (held + count) ++ rest) after
    → (count ≡ 0 → IfSome before (λ rest. rest ≡ []))
    → still (record { bytes = slice_range items 0 (held + count); ended = nat_eq count 0 }) after ≡ still (record { bytes = bytes; ended = false }) before
unfolding still
still_after_read bytes items held count before None kept moved ended = rw moved refl
still_after_read bytes items held count before (Some rest) kept moved ended =
    let at_end : count ≡ 0 → slice_range items held (held + count) ++ rest ≡ [] = λ empty. let P : Option (List ℕ) → Type 0 = λ left. IfSome left (λ xs. xs ≡ []) in subst P moved (ended empty) in
    rw moved (ap Some (coming_after_read bytes items rest held count (nat_eq count 0) refl kept at_end))

-- what was held, and what was read behind it
pub all_read : (items bytes : List ℕ) (held count : ℕ) → take held items ≡ bytes → slice_range items 0 (held + count) ≡ bytes ++ slice_range items held (held + count)
all_read items bytes held count kept =
    let size : (held + count) - 0 ≡ held + count = omega arith in
    ap (λ n. take n items) size ∙ take_in_two items held count ∙ ap (λ xs. xs ++ slice_range items held (held + count)) kept

second_is_empty : (xs ys : List ℕ) → xs ++ ys ≡ [] → ys ≡ []
second_is_empty [] ys none = none
second_is_empty (x ∷ xs) ys none = absurd (cc)

-- a read that met the end leaves nothing
pub end_after_read : (items : List ℕ) (held count : ℕ) (before after : Option (List ℕ)) → before ≡ option_map (λ rest. slice_range items held (held + count) ++ rest) after
    → (count ≡ 0 → IfSome before (λ rest. rest ≡ [])) → nat_eq count 0 ≡ true → IfSome after (λ rest. rest ≡ [])
end_after_read items held count before None moved ended met = tt
end_after_read items held count before (Some rest) moved ended met =
    let empty : count ≡ 0 = grind (arith, nat_tests) in
    second_is_empty (slice_range items held (held + count)) rest (subst (λ (left : Option (List ℕ)). IfSome left (λ xs. xs ≡ [])) moved (ended empty))
