-- What a call took, and what is left of that.
use Rattle.std.proofs.Common.{◌≡◌, ℕ, suc, ◌+◌, ◌<◌, ◌≤◌, Bool, true, false, cond, not, List, [], ◌∷◌, ◌++◌, length, drop, Option, Some, None, option_map, position, refl, sym, ap, ◌∙◌, arith, append_assoc, append-nil, length-append}
use Rattle.std.specs.List.{position_or_len, count_by}
use Rattle.std.proofs.lemmas.List.{drop-append-le}
use Rattle.std.proofs.lemmas.List.Sums.{sum_by-cons}
use Rattle.capture_reader.specs.Script.{is_line_feed}
use Rattle.capture_reader.specs.Taken.{Took, whole_lines}
use Rattle.capture_reader.specs.Window.{Held, HeldMore}
use Rattle.capture_reader.proofs.Places.{position_found, position_within, position_missing, place_among}

-- nothing stands in front of what is left
nothing_taken : (left : Option (List ℕ)) → left ≡ option_map (λ rest. [] ++ rest) left
nothing_taken None = refl
nothing_taken (Some left) = refl

-- bytes stand in front of others
taken_twice : (one other : List ℕ) (left : Option (List ℕ)) → option_map (λ rest. one ++ rest) (option_map (λ rest. other ++ rest) left) ≡ option_map (λ rest. (one ++ other) ++ rest) left
taken_twice one other None = refl
taken_twice one other (Some left) = ap Some (sym (append_assoc one other left))

pub taken_on : (one other : List ℕ) (left left_between left_after : Option (List ℕ)) → left ≡ option_map (λ rest. one ++ rest) left_between
    → left_between ≡ option_map (λ rest. other ++ rest) left_after → left ≡ option_map (λ rest. (one ++ other) ++ rest) left_after
taken_on one other left left_between left_after first then = first ∙ ap (option_map (λ rest. one ++ rest)) then ∙ taken_twice one other left_after

pub held_still : (held : Held) (left : Option (List ℕ)) → HeldMore held held left left
held_still held left = record { bytes = []; left_is = nothing_taken left; held_is = sym (append-nil held.bytes) }

pub held_on : (old between new : Held) (left left_between left_after : Option (List ℕ)) → HeldMore old between left left_between → HeldMore between new left_between left_after
    → HeldMore old new left left_after
held_on old between new left left_between left_after first then = record {
  bytes = first.bytes ++ then.bytes;
  left_is = taken_on first.bytes then.bytes left left_between left_after first.left_is then.left_is;
  held_is = then.held_is ∙ ap (λ bytes. bytes ++ then.bytes) first.held_is ∙ append_assoc old.bytes first.bytes then.bytes;
}

-- what two calls took, one after the other
pub took_on : (before between after : List ℕ → ℕ) (ended ended_after : Bool) (left left_between left_after : Option (List ℕ)) (given more_given total : ℕ) → total ≡ given + more_given
    → Took before between ended left left_between given → Took between after ended_after left_between left_after more_given → (ended_after ≡ false → ended ≡ false)
    → Took before after ended_after left left_after total
took_on before between after ended ended_after left left_between left_after given more_given total sum first then still_open = record {
  bytes = first.bytes ++ then.bytes;
  left_is = taken_on first.bytes then.bytes left left_between left_after first.left_is then.left_is;
  counted = λ unmet more.
      let start : before ((first.bytes ++ then.bytes) ++ more) ≡ between (then.bytes ++ more) + given =
      ap before (append_assoc first.bytes then.bytes more) ∙ first.counted (still_open unmet) (then.bytes ++ more) in
      let end : between (then.bytes ++ more) ≡ after more + more_given = then.counted unmet more in
      omega arith;
}

-- a call that takes nothing
pub took_nothing : (before after : List ℕ → ℕ) (ended : Bool) (left : Option (List ℕ)) (given : ℕ) → ((more : List ℕ) → before more ≡ after more + given)
    → Took before after ended left left given
took_nothing before after ended left given counted = record { bytes = []; left_is = nothing_taken left; counted = λ unmet more. counted more }

-- the line feeds, and the first of them

count_next : (p : ℕ → Bool) (x : ℕ) (xs : List ℕ) → count_by p (x ∷ xs) ≡ cond (p x) 1 0 + count_by p xs
count_next p x xs = sum_by-cons (λ y. cond (p y) 1 0) x xs

none_passes : (p : ℕ → Bool) (xs : List ℕ) → length xs ≤ position_or_len p xs → count_by p xs ≡ 0
none_passes p [] all = refl
none_passes p (x ∷ xs) all =
    count_next p x xs ∙ elim (p x) as (λ b. suc (length xs) ≤ cond (not b) (1 + position_or_len p xs) 0 → cond b 1 0 + count_by p xs ≡ 0) [
      | true ↦ λ within. absurd (omega arith)
      | false ↦ λ within. let none : count_by p xs ≡ 0 = none_passes p xs (omega arith) in omega arith
    ] all

first_passes : (p : ℕ → Bool) (xs : List ℕ) → position_or_len p xs < length xs → count_by p xs ≡ 1 + count_by p (drop (position_or_len p xs + 1) xs)
first_passes p [] below = absurd (omega arith)
first_passes p (x ∷ xs) below =
    count_next p x xs ∙ elim (p x) as (λ b. cond (not b) (1 + position_or_len p xs) 0 < suc (length xs)
    → cond b 1 0 + count_by p xs ≡ 1 + count_by p (drop (cond (not b) (1 + position_or_len p xs) 0 + 1) (x ∷ xs))) [
      | true ↦ λ within. refl
      | false ↦ λ within.
          let next : suc (position_or_len p xs + 1) ≡ 1 + position_or_len p xs + 1 = omega arith in
          let rest : count_by p xs ≡ 1 + count_by p (drop (position_or_len p xs + 1) xs) = first_passes p xs (omega arith) in
          let same : count_by p (drop (suc (position_or_len p xs + 1)) (x ∷ xs)) ≡ count_by p (drop (1 + position_or_len p xs + 1) (x ∷ xs)) = ap (λ n. count_by p (drop n (x ∷ xs))) next in
          omega arith
    ] below

pub no_whole_line : (bytes : List ℕ) → position is_line_feed bytes ≡ None → whole_lines bytes ≡ 0
unfolding whole_lines
no_whole_line bytes none = none_passes is_line_feed bytes (position_missing is_line_feed bytes none)

pub one_whole_line : (bytes more : List ℕ) (size : ℕ) → position is_line_feed bytes ≡ Some size → whole_lines (bytes ++ more) ≡ whole_lines (drop (size + 1) bytes ++ more) + 1
unfolding whole_lines
one_whole_line bytes more size is =
    let within : size < length bytes = position_within is_line_feed bytes size is in
    let at : position_or_len is_line_feed bytes ≡ size = position_found is_line_feed bytes size is in
    let place : position_or_len is_line_feed (bytes ++ more) ≡ size = place_among is_line_feed bytes more (omega arith) ∙ at in
    let split : count_by is_line_feed (bytes ++ more) ≡ 1 + count_by is_line_feed (drop (position_or_len is_line_feed (bytes ++ more) + 1) (bytes ++ more)) =
    first_passes is_line_feed (bytes ++ more) (omega (arith, length-append bytes more)) in
    let behind : count_by is_line_feed (drop (position_or_len is_line_feed (bytes ++ more) + 1) (bytes ++ more)) ≡ count_by is_line_feed (drop (size + 1) bytes ++ more) =
    ap (λ n. count_by is_line_feed (drop (n + 1) (bytes ++ more))) place ∙ ap (count_by is_line_feed) (drop-append-le (size + 1) bytes more (omega arith)) in
    omega arith
