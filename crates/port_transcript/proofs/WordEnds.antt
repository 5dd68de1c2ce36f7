-- Where the first word of some bytes ends.
use Rattle.std.proofs.Common.{◌≡◌, ℕ, ◌≤◌, Bool, true, false, cond, ltb, List, [], ◌∷◌, length, drop, Some, None, position, zero, suc, refl, arith}
use Rattle.std.proofs.lemmas.Bool.Decides.{nat_tests}
use Rattle.std.proofs.lemmas.Option.{cond_some}
use Rattle.std.specs.List.{position_or_len}

pub position_found : (p : ℕ → Bool) (xs : List ℕ) (i : ℕ) → position p xs ≡ Some i → position_or_len p xs ≡ i
position_found p xs i is = (cond_some (ltb (position_or_len p xs) (length xs)) (position_or_len p xs) i is).1

-- a choice of None is made at false
none_at_false : (b : Bool) (i : ℕ) → cond b (Some i) None ≡ None → b ≡ false
none_at_false true i is = cc
none_at_false false i is = refl

pub position_missing : (p : ℕ → Bool) (xs : List ℕ) → position p xs ≡ None → length xs ≤ position_or_len p xs
position_missing p xs is =
    let no = none_at_false (ltb (position_or_len p xs) (length xs)) (position_or_len p xs) is in grind (arith, nat_tests)

pub drop_past : (n : ℕ) (xs : List ℕ) → length xs ≤ n → drop n xs ≡ []
drop_past zero [] few = refl
drop_past zero (x ∷ xs) few = absurd (omega arith)
drop_past (suc n) [] few = refl
drop_past (suc n) (x ∷ xs) few = drop_past n xs (omega arith)
