-- The flags of the words that keep a key set give the words back.
use Rattle.std.proofs.Common.{◌≡◌, ℕ, zero, suc, ◌+◌, ◌*◌, ◌/◌, ◌%◌, ◌^◌, ◌<◌, ◌≤◌, Bool, true, false, ◌==◌, List, [], ◌∷◌, length, get_or, take, drop, refl, sym, ap, ◌∙◌, arith, pow-suc, if◌then◌else◌}
use Rattle.std.specs.Int.{bit_at}
use Rattle.std.proofs.lemmas.List.{ext_get_or, get_or-take, get_or-drop, length-take}
use Rattle.std.proofs.lemmas.Nat.{pow_pos}
use Rattle.std.proofs.lemmas.Nat.Bits.{bit_at_lowest, bit_at-suc, bit_at-zero, bit_at-lt, same_from_bits_below}
use Rattle.psd_base.specs.KeySet.{has_key}
use Rattle.psd_base.specs.KeyWords.{flag_in, flags_from, flags_of, word_of, word_at, words_of}

pub length-flags_from : (words : List ℕ) (first n : ℕ) → length (flags_from words first n) ≡ n
unfolding flags_from
length-flags_from words first zero = refl
length-flags_from words first (suc n) = ap suc (length-flags_from words (first + 1) n)

get_or-flags_from : (words : List ℕ) (first n k : ℕ) → k < n → get_or (flags_from words first n) k false ≡ flag_in words (first + k)
unfolding flags_from
get_or-flags_from words first zero k h = absurd (omega arith)
get_or-flags_from words first (suc n) zero h = ap (flag_in words) (let e : first ≡ first + 0 = omega arith in e)
get_or-flags_from words first (suc n) (suc k) h =
    get_or-flags_from words (first + 1) n k (omega arith) ∙ ap (flag_in words) (let e : first + 1 + k ≡ first + suc k = omega arith in e)

-- the flags that a contract sees are those of the words
pub has_key-flags_of : (words : List ℕ) (usage : ℕ) → usage < 256 → has_key (flags_of words) usage ≡ flag_in words usage
has_key-flags_of words usage h = get_or-flags_from words 0 256 usage h ∙ ap (flag_in words) (let e : 0 + usage ≡ usage = omega arith in e)

pub flags_of-same : (words : List ℕ) (keys : List Bool) → length keys ≡ 256
    → ((usage : ℕ) → usage < 256 → has_key keys usage ≡ flag_in words usage) → flags_of words ≡ keys
flags_of-same words keys one_each each =
    ext_get_or false (flags_of words) keys (length-flags_from words 0 256 ∙ sym one_each)
    (λ usage h. let small : usage < 256 = omega (arith, length-flags_from words 0 256) in
    has_key-flags_of words usage small ∙ sym (each usage small))

-- a word's bits are its flags
abbrev bit_of : Bool → ℕ
bit_of down = if down then 1 else 0

bit_at-word_of : (flags : List Bool) (place : ℕ) → bit_at (word_of flags) place ≡ (if get_or flags place false then 1 else 0)
unfolding word_of
bit_at-word_of [] place = bit_at-zero place
bit_at-word_of (true ∷ flags) zero = bit_at_lowest (1 + 2 * word_of flags) ∙ omega arith
bit_at-word_of (false ∷ flags) zero = bit_at_lowest (0 + 2 * word_of flags) ∙ omega arith
bit_at-word_of (true ∷ flags) (suc place) =
    bit_at-suc (1 + 2 * word_of flags) place ∙ ap (λ n. bit_at n place) (let e : (1 + 2 * word_of flags) / 2 ≡ word_of flags = omega arith in e) ∙ bit_at-word_of flags place
bit_at-word_of (false ∷ flags) (suc place) =
    bit_at-suc (0 + 2 * word_of flags) place ∙ ap (λ n. bit_at n place) (let e : (0 + 2 * word_of flags) / 2 ≡ word_of flags = omega arith in e) ∙ bit_at-word_of flags place

word_of-fits : (flags : List Bool) (n : ℕ) → length flags ≤ n → word_of flags < 2 ^ n
unfolding word_of
word_of-fits [] n h = pow_pos n
word_of-fits (down ∷ flags) zero h = absurd (omega arith)
word_of-fits (true ∷ flags) (suc n) h = omega (arith, word_of-fits flags n (omega arith), pow-suc 2 n)
word_of-fits (false ∷ flags) (suc n) h = omega (arith, word_of-fits flags n (omega arith), pow-suc 2 n)

bit_from_test : (bit : ℕ) → bit < 2 → (if bit == 1 then 1 else 0) ≡ bit
bit_from_test zero h = refl
bit_from_test (suc zero) h = refl
bit_from_test (suc (suc n)) h = absurd (omega arith)

-- the word at a place is had back from the flags
word_at-flags_of : (words : List ℕ) (place : ℕ) → place < 4 → ((at : ℕ) → get_or words at 0 < 2 ^ 64) → word_at (flags_of words) place ≡ get_or words place 0
word_at-flags_of words place small fit =
    let flags = flags_of words in
    same_from_bits_below 64 (word_at flags place) (get_or words place 0)
    (word_of-fits (take 64 (drop (64 * place) flags)) 64 (omega (arith, length-take 64 (drop (64 * place) flags))))
    (fit place)
    (λ bit h.
    let usage : 64 * place + bit < 256 = omega arith in
    let here : (64 * place + bit) / 64 ≡ place = omega arith in
    let index : (64 * place + bit) % 64 ≡ bit = omega arith in
    let flag : get_or (take 64 (drop (64 * place) flags)) bit false ≡ flag_in words (64 * place + bit) =
    get_or-take 64 (drop (64 * place) flags) bit false h ∙ get_or-drop (64 * place) flags bit false ∙ has_key-flags_of words (64 * place + bit) usage in
    bit_at-word_of (take 64 (drop (64 * place) flags)) bit
    ∙ ap (λ down. bit_of down) flag
    ∙ rw (here, index) (bit_from_test (bit_at (get_or words place 0) bit) (bit_at-lt (get_or words place 0) bit)))

four_words : (words : List ℕ) → length words ≡ 4 → get_or words 0 0 ∷ get_or words 1 0 ∷ get_or words 2 0 ∷ get_or words 3 0 ∷ [] ≡ words
four_words [] h = absurd (cc)
four_words (a ∷ []) h = absurd (omega arith)
four_words (a ∷ b ∷ []) h = absurd (omega arith)
four_words (a ∷ b ∷ c ∷ []) h = absurd (omega arith)
four_words (a ∷ b ∷ c ∷ d ∷ []) h = refl
four_words (a ∷ b ∷ c ∷ d ∷ e ∷ words) h = absurd (omega arith)

pub words_of-flags_of : (words : List ℕ) → length words ≡ 4 → ((at : ℕ) → get_or words at 0 < 2 ^ 64) → words_of (flags_of words) ≡ words
words_of-flags_of words four fit =
    rw (word_at-flags_of words 0 (omega arith) fit, word_at-flags_of words 1 (omega arith) fit, word_at-flags_of words 2 (omega arith) fit, word_at-flags_of words 3 (omega arith) fit)
    (four_words words four)
