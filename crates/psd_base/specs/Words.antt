-- The words as lists of bytes.
use Rattle.std.specs.Prelude.{ℕ, List, map}
use Rattle.arrayvec.specs.ArrayVec.{ArrayVec}

abbrev pub bytes_of_words : ArrayVec (ArrayVec ℕ) → List (List ℕ)
bytes_of_words words = map (λ word. word.items) words.items
