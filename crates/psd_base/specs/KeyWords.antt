-- How a key set is kept: four words of 64 bits. The flag of usage u is bit u % 64 of word u / 64.
use Rattle.std.specs.Prelude.{◌≡◌, ℕ, zero, suc, ◌+◌, ◌*◌, ◌/◌, ◌%◌, ◌^◌, ◌<◌, ◌==◌, Bool, List, [], ◌∷◌, length, take, drop, slice_index, if◌then◌else◌}
use Rattle.std.specs.Int.{bit_at}
use Rattle.psd_base.specs.KeySet.{IsKeySet}

abbrev pub flag_in : List ℕ → ℕ → Bool
flag_in words usage = bit_at (slice_index words (usage / 64)) (usage % 64) == 1

-- the flags of these n usages from the first one on
unfoldable pub flags_from : List ℕ → ℕ → ℕ → List Bool
flags_from words usage zero = []
flags_from words usage (suc n) = flag_in words usage ∷ flags_from words (usage + 1) n

abbrev pub flags_of : List ℕ → List Bool
flags_of words = flags_from words 0 256

-- the word with these flags as its bits, the lowest first
unfoldable pub word_of : List Bool → ℕ
word_of [] = 0
word_of (down ∷ flags) = (if down then 1 else 0) + 2 * word_of flags

abbrev pub word_at : List Bool → ℕ → ℕ
word_at flags place = word_of (take 64 (drop (64 * place) flags))

abbrev pub words_of : List Bool → List ℕ
words_of flags = word_at flags 0 ∷ word_at flags 1 ∷ word_at flags 2 ∷ word_at flags 3 ∷ []

-- four words, with flags of usages that are passed on alone
pub record IsWords (words : List ℕ) : Type 0 where
  pub four : length words ≡ 4
  pub fit : (place : ℕ) → slice_index words place < 2 ^ 64
  pub form : IsKeySet (flags_of words)

-- the lowest bit of a word that is set
pub record IsLowestBit (word bit : ℕ) : Type 0 where
  pub below : bit < 64
  pub is_set : bit_at word bit ≡ 1
  pub clear : (place : ℕ) → place < bit → bit_at word place ≡ 0
