-- How texts are read: steps of which each may find nothing, and decimal numbers.
use Rattle.std.specs.Prelude.{ℕ, ◌+◌, ◌-◌, ◌*◌, ◌^◌, ◌&&◌, nat_lt, if◌then◌else◌, List, [], ◌∷◌, Option, Some, None}
use Rattle.std.specs.Char.{is_ascii_digit}

-- the second step, if the first gave a value
infixl 10 ◌>>=◌
abbrev pub ◌>>=◌ : {A B : Type 0} → Option A → (A → Option B) → Option B
None >>= f = None
(Some x) >>= f = f x

-- the number with one more digit, below 2 ^ 32
unfoldable pub with_digit : ℕ → ℕ → Option ℕ
with_digit number byte = if is_ascii_digit byte && nat_lt (number * 10 + (byte - 48)) (2 ^ 32) then Some (number * 10 + (byte - 48)) else None

unfoldable pub number_after : ℕ → List ℕ → Option ℕ
number_after number [] = Some number
number_after number (byte ∷ bytes) = with_digit number byte >>= λ more. number_after more bytes

-- the number that a word of decimal digits says; zeros may stand before it, and no digits say 0
unfoldable pub number_in : List ℕ → Option ℕ
number_in word = number_after 0 word
