-- The first place in a list that passes a test.
use Rattle.std.proofs.Common.{◌≡◌, ℕ, suc, ◌+◌, ◌<◌, ◌≤◌, Bool, true, false, cond, not, ltb, List, [], ◌∷◌, ◌++◌, length, Some, None, position, refl, ap, arith}
use Rattle.std.proofs.lemmas.Bool.Decides.{nat_tests}
use Rattle.std.proofs.lemmas.Option.{cond_some}
use Rattle.std.specs.List.{position_or_len}

pub position_found : (p : ℕ → Bool) (xs : List ℕ) (i : ℕ) → position p xs ≡ Some i → position_or_len p xs ≡ i
position_found p xs i is = (cond_some (ltb (position_or_len p xs) (length xs)) (position_or_len p xs) i is).1

pub position_within : (p : ℕ → Bool) (xs : List ℕ) (i : ℕ) → position p xs ≡ Some i → i < length xs
position_within p xs i is =
    let test = (cond_some (ltb (position_or_len p xs) (length xs)) (position_or_len p xs) i is).0 in
    let at = position_found p xs i is in grind (arith, nat_tests)

-- a choice of None is made at false
none_at_false : (b : Bool) (i : ℕ) → cond b (Some i) None ≡ None → b ≡ false
none_at_false true i is = cc
none_at_false false i is = refl

pub found_at : (p : ℕ → Bool) (xs : List ℕ) (i : ℕ) → position_or_len p xs ≡ i → i < length xs → position p xs ≡ Some i
found_at p xs i is below =
    let test : ltb (position_or_len p xs) (length xs) ≡ true = grind (arith, nat_tests) in
    rw test (ap Some is)

pub position_missing : (p : ℕ → Bool) (xs : List ℕ) → position p xs ≡ None → length xs ≤ position_or_len p xs
position_missing p xs is =
    let no = none_at_false (ltb (position_or_len p xs) (length xs)) (position_or_len p xs) is in grind (arith, nat_tests)

-- a place in the first part
pub place_among : (p : ℕ → Bool) (xs ys : List ℕ) → position_or_len p xs < length xs → position_or_len p (xs ++ ys) ≡ position_or_len p xs
place_among p [] ys below = absurd (omega arith)
place_among p (x ∷ xs) ys below =
    elim (p x) as (λ b. cond (not b) (1 + position_or_len p xs) 0 < suc (length xs) → cond (not b) (1 + position_or_len p (xs ++ ys)) 0 ≡ cond (not b) (1 + position_or_len p xs) 0) [
      | true ↦ λ within. refl
      | false ↦ λ within. ap (λ n. 1 + n) (place_among p xs ys (omega arith))
    ] below

-- no place in the first part
pub place_behind : (p : ℕ → Bool) (xs ys : List ℕ) → length xs ≤ position_or_len p xs → position_or_len p (xs ++ ys) ≡ length xs + position_or_len p ys
place_behind p [] ys all = omega arith
place_behind p (x ∷ xs) ys all =
    elim (p x) as (λ b. suc (length xs) ≤ cond (not b) (1 + position_or_len p xs) 0 → cond (not b) (1 + position_or_len p (xs ++ ys)) 0 ≡ suc (length xs) + position_or_len p ys) [
      | true ↦ λ within. absurd (omega arith)
      | false ↦ λ within. let step : position_or_len p (xs ++ ys) ≡ length xs + position_or_len p ys = place_behind p xs ys (omega arith) in omega arith
    ] all
