-- What writing the words that keep a key set does to its flags.
use Rattle.std.proofs.Common.{◌≡◌, ◌≢◌, ℕ, zero, suc, ◌+◌, ◌-◌, ◌*◌, ◌/◌, ◌%◌, ◌^◌, ◌<◌, ◌≤◌, Bool, true, false, not, ◌&&◌, ◌||◌, ◌==◌, List, [], ◌∷◌, length, get_or, set, bit_and, bit_or, w64, refl, sym, ap, ◌∙◌, subst, inl, inr, arith, replicate, length-set, get_or-set_same, get_or-set_other, max, min, Some, None, IfSome, IfNone, nat_le, nat_eq, if◌then◌else◌}
use Rattle.std.specs.Int.{bit_at, bit_not}
use Rattle.std.specs.Cmp.{booleans_Decides}
use Rattle.std.specs.Cmp.Lexicographic.{pointwise}
use Rattle.std.proofs.lemmas.Slice.Eq.{slice_eq-Decides, bytes_eq-Decides}
use mathlib.Core.Bool.{beq}
use Rattle.std.proofs.lemmas.Bool.{cases_eq, cases_lt, eq-eqb, leb-true, leb-false}
use Rattle.std.proofs.lemmas.Nat.{or_lt, and_le_l, pow_pos, shr-shr}
use Rattle.std.proofs.lemmas.Nat.Bits.{bit_at-zero, bit_at-lt, bit_at_and, bit_at_or, bit_at_not, bit_at_above, bit_at_set_same, bit_at_set_other, bit_at_clear_same, bit_at_clear_other}
use Rattle.psd_base.specs.KeySet.{is_passed_on, no_keys, has_key, with_key, without_key, has_no_key, union, difference, keys_from, IsKeySet}
use Rattle.psd_base.specs.KeyWords.{flag_in, flags_from, flags_of, words_of, IsWords, IsLowestBit}
use Rattle.psd_base.specs.KeyWordLaws.{length-flags_from, has_key-flags_of, flags_of-same, words_of-flags_of}
use Rattle.psd_base.proofs.KeySetLemmas.{has_key-union, length-union, union-form, no_keys-form, has_key-difference, length-difference, difference-form, with_key-form, without_key-form}

-- one word is replaced
module _ (words : List ℕ) (usage word : ℕ) (here : usage / 64 < length words) where
  flag_in-set_same : flag_in (set words (usage / 64) word) usage ≡ (bit_at word (usage % 64) == 1)
  flag_in-set_same = ap (λ n. bit_at n (usage % 64) == 1) (get_or-set_same words (usage / 64) word 0 here)

  -- a word that keeps its other bits keeps the flag of each other usage
  flag_in-set_other : ((i : ℕ) → i < 64 → i ≢ usage % 64 → bit_at word i ≡ bit_at (get_or words (usage / 64) 0) i)
      → (other : ℕ) → other ≢ usage → flag_in (set words (usage / 64) word) other ≡ flag_in words other
  flag_in-set_other kept other differs =
      elim (cases_eq (other / 64) (usage / 64)) [
        | inl same ↦ rw (same, get_or-set_same words (usage / 64) word 0 here) (ap (λ bit. bit == 1) (kept (other % 64) (omega arith) (λ index. differs (omega arith))))
        | inr apart ↦ ap (λ n. bit_at n (other % 64) == 1) (get_or-set_other words (usage / 64) (other / 64) word 0 apart)
      ]

  fit_set : ((place : ℕ) → get_or words place 0 < 2 ^ 64) → word < 2 ^ 64 → (place : ℕ) → get_or (set words (usage / 64) word) place 0 < 2 ^ 64
  fit_set fit small place =
      elim (cases_eq place (usage / 64)) [
        | inl same ↦ rw (same, get_or-set_same words (usage / 64) word 0 here) small
        | inr apart ↦ rw (get_or-set_other words (usage / 64) place word 0 apart) (fit place)
      ]

module _ (words : List ℕ) (usage : ℕ) (are : IsWords words) (small : usage < 256) where
  abbrev place_of : ℕ
  place_of = usage / 64

  here : usage / 64 < length words
  here = omega (arith, are.four)

  abbrev word_with : ℕ
  word_with = bit_or (get_or words (usage / 64) 0) (1 * 2 ^ (usage % 64) % 2 ^ 64)

  abbrev word_without : ℕ
  word_without = bit_and (get_or words (usage / 64) 0) (bit_not w64 (1 * 2 ^ (usage % 64) % 2 ^ 64))

  -- the words with the flag of a usage set
  pub flags_of-with : flags_of (set words (usage / 64) word_with) ≡ with_key (flags_of words) usage
  flags_of-with =
      flags_of-same (set words (usage / 64) word_with) (with_key (flags_of words) usage) (length-set (flags_of words) usage true ∙ length-flags_from words 0 256)
      (λ other h.
      elim (cases_eq other usage) [
        | inl same ↦
            rw same
            (get_or-set_same (flags_of words) usage true false (omega (arith, length-flags_from words 0 256))
            ∙ sym (flag_in-set_same words usage word_with here ∙ eq-eqb (bit_at word_with (usage % 64)) 1 (bit_at_set_same w64 (get_or words (usage / 64) 0) (usage % 64) (omega arith))))
        | inr apart ↦
            get_or-set_other (flags_of words) usage other true false apart ∙ has_key-flags_of words other h
            ∙ sym (flag_in-set_other words usage word_with here (λ i below differs. bit_at_set_other w64 (get_or words (usage / 64) 0) (usage % 64) (omega arith) i differs) other apart)
      ])

  pub words_with : is_passed_on usage ≡ true → IsWords (set words (usage / 64) word_with)
  words_with passed = record {
    four = length-set words (usage / 64) word_with ∙ are.four;
    fit = fit_set words usage word_with here are.fit (or_lt 64 (get_or words (usage / 64) 0) (1 * 2 ^ (usage % 64) % 2 ^ 64) (are.fit (usage / 64)) (omega arith));
    form = subst IsKeySet (sym flags_of-with) (with_key-form (flags_of words) usage are.form passed);
  }

  -- the words with the flag of a usage cleared
  pub flags_of-without : flags_of (set words (usage / 64) word_without) ≡ without_key (flags_of words) usage
  flags_of-without =
      flags_of-same (set words (usage / 64) word_without) (without_key (flags_of words) usage) (length-set (flags_of words) usage false ∙ length-flags_from words 0 256)
      (λ other h.
      elim (cases_eq other usage) [
        | inl same ↦
            rw same
            (get_or-set_same (flags_of words) usage false false (omega (arith, length-flags_from words 0 256))
            ∙ sym (flag_in-set_same words usage word_without here ∙ ap (λ bit. bit == 1) (bit_at_clear_same w64 (get_or words (usage / 64) 0) (usage % 64) (omega arith))))
        | inr apart ↦
            get_or-set_other (flags_of words) usage other false false apart ∙ has_key-flags_of words other h
            ∙ sym (flag_in-set_other words usage word_without here (λ i below differs. bit_at_clear_other w64 (get_or words (usage / 64) 0) (usage % 64) (omega arith) i below differs) other apart)
      ])

  pub words_without : IsWords (set words (usage / 64) word_without)
  words_without = record {
    four = length-set words (usage / 64) word_without ∙ are.four;
    fit = fit_set words usage word_without here are.fit (omega (arith, are.fit (usage / 64), and_le_l (get_or words (usage / 64) 0) (bit_not w64 (1 * 2 ^ (usage % 64) % 2 ^ 64))));
    form = subst IsKeySet (sym flags_of-without) (without_key-form (flags_of words) usage are.form);
  }

-- four words that are made place by place
abbrev made_by : (ℕ → ℕ → ℕ) → List ℕ → List ℕ → List ℕ
made_by of words others =
    of (get_or words 0 0) (get_or others 0 0) ∷ of (get_or words 1 0) (get_or others 1 0) ∷ of (get_or words 2 0) (get_or others 2 0) ∷ of (get_or words 3 0) (get_or others 3 0) ∷ []

get_or-made_by : (of : ℕ → ℕ → ℕ) (words others : List ℕ) (place : ℕ) → place < 4 → get_or (made_by of words others) place 0 ≡ of (get_or words place 0) (get_or others place 0)
get_or-made_by of words others zero h = refl
get_or-made_by of words others (suc zero) h = refl
get_or-made_by of words others (suc (suc zero)) h = refl
get_or-made_by of words others (suc (suc (suc zero))) h = refl
get_or-made_by of words others (suc (suc (suc (suc place)))) h = absurd (omega arith)

fit_made_by : (of : ℕ → ℕ → ℕ) (words others : List ℕ) → ((a b : ℕ) → a < 2 ^ 64 → b < 2 ^ 64 → of a b < 2 ^ 64) → IsWords words → IsWords others
    → (place : ℕ) → get_or (made_by of words others) place 0 < 2 ^ 64
fit_made_by of words others keeps w o zero = keeps (get_or words 0 0) (get_or others 0 0) (w.fit 0) (o.fit 0)
fit_made_by of words others keeps w o (suc zero) = keeps (get_or words 1 0) (get_or others 1 0) (w.fit 1) (o.fit 1)
fit_made_by of words others keeps w o (suc (suc zero)) = keeps (get_or words 2 0) (get_or others 2 0) (w.fit 2) (o.fit 2)
fit_made_by of words others keeps w o (suc (suc (suc zero))) = keeps (get_or words 3 0) (get_or others 3 0) (w.fit 3) (o.fit 3)
fit_made_by of words others keeps w o (suc (suc (suc (suc place)))) = pow_pos 64

or_test : (a b : ℕ) → a < 2 → b < 2 → (max a b == 1) ≡ ((a == 1) || (b == 1))
or_test zero zero ha hb = refl
or_test zero (suc zero) ha hb = refl
or_test (suc zero) zero ha hb = refl
or_test (suc zero) (suc zero) ha hb = refl
or_test (suc (suc a)) b ha hb = absurd (omega arith)
or_test zero (suc (suc b)) ha hb = absurd (omega arith)
or_test (suc zero) (suc (suc b)) ha hb = absurd (omega arith)

and_not_test : (a b : ℕ) → a < 2 → b < 2 → (min a (1 - b) == 1) ≡ ((a == 1) && not (b == 1))
and_not_test zero zero ha hb = refl
and_not_test zero (suc zero) ha hb = refl
and_not_test (suc zero) zero ha hb = refl
and_not_test (suc zero) (suc zero) ha hb = refl
and_not_test (suc (suc a)) b ha hb = absurd (omega arith)
and_not_test zero (suc (suc b)) ha hb = absurd (omega arith)
and_not_test (suc zero) (suc (suc b)) ha hb = absurd (omega arith)

abbrev and_not : ℕ → ℕ → ℕ
and_not a b = bit_and a (bit_not w64 b)

module _ (words others : List ℕ) (w : IsWords words) (o : IsWords others) where
  same_length : length (flags_of words) ≡ length (flags_of others)
  same_length = length-flags_from words 0 256 ∙ sym (length-flags_from others 0 256)

  pub flags_of-union : flags_of (made_by bit_or words others) ≡ union (flags_of words) (flags_of others)
  flags_of-union =
      flags_of-same (made_by bit_or words others) (union (flags_of words) (flags_of others)) (length-union (flags_of words) (flags_of others) ∙ length-flags_from words 0 256)
      (λ usage h.
      has_key-union (flags_of words) (flags_of others) usage same_length
      ∙ rw (has_key-flags_of words usage h, has_key-flags_of others usage h)
      (sym (ap (λ n. bit_at n (usage % 64) == 1) (get_or-made_by bit_or words others (usage / 64) (omega arith))
      ∙ ap (λ bit. bit == 1) (bit_at_or (get_or words (usage / 64) 0) (get_or others (usage / 64) 0) (usage % 64))
      ∙ or_test (bit_at (get_or words (usage / 64) 0) (usage % 64)) (bit_at (get_or others (usage / 64) 0) (usage % 64)) (bit_at-lt (get_or words (usage / 64) 0) (usage % 64)) (bit_at-lt (get_or others (usage / 64) 0) (usage % 64)))))

  pub words_union : IsWords (made_by bit_or words others)
  words_union = record {
    four = refl;
    fit = fit_made_by bit_or words others (or_lt 64) w o;
    form = subst IsKeySet (sym flags_of-union) (union-form (flags_of words) (flags_of others) w.form o.form);
  }

  pub flags_of-difference : flags_of (made_by and_not words others) ≡ difference (flags_of words) (flags_of others)
  flags_of-difference =
      flags_of-same (made_by and_not words others) (difference (flags_of words) (flags_of others)) (length-difference (flags_of words) (flags_of others) ∙ length-flags_from words 0 256)
      (λ usage h.
      let b = get_or others (usage / 64) 0 in
      has_key-difference (flags_of words) (flags_of others) usage same_length
      ∙ rw (has_key-flags_of words usage h, has_key-flags_of others usage h)
      (sym (ap (λ n. bit_at n (usage % 64) == 1) (get_or-made_by and_not words others (usage / 64) (omega arith))
      ∙ ap (λ bit. bit == 1) (bit_at_and (get_or words (usage / 64) 0) (bit_not w64 b) (usage % 64)
      ∙ ap (λ bit. min (bit_at (get_or words (usage / 64) 0) (usage % 64)) bit) (bit_at_not w64 b (usage % 64) (o.fit (usage / 64)) (omega arith)))
      ∙ and_not_test (bit_at (get_or words (usage / 64) 0) (usage % 64)) (bit_at b (usage % 64)) (bit_at-lt (get_or words (usage / 64) 0) (usage % 64)) (bit_at-lt b (usage % 64)))))

  pub words_difference : IsWords (made_by and_not words others)
  words_difference = record {
    four = refl;
    fit = fit_made_by and_not words others (λ a b ha hb. omega (arith, and_le_l a (bit_not w64 b))) w o;
    form = subst IsKeySet (sym flags_of-difference) (difference-form (flags_of words) (flags_of others) w.form o.form);
  }

-- no flag is set
pub flags_of-none : flags_of (replicate 4 0) ≡ no_keys
unfolding flags_from no_keys
flags_of-none = refl

pub words_none : IsWords (replicate 4 0)
words_none = record {
  four = refl;
  fit = none;
  form = subst IsKeySet (sym flags_of-none) no_keys-form;
} where
  none : (place : ℕ) → get_or (replicate 4 0) place 0 < 2 ^ 64
  none zero = pow_pos 64
  none (suc zero) = pow_pos 64
  none (suc (suc zero)) = pow_pos 64
  none (suc (suc (suc zero))) = pow_pos 64
  none (suc (suc (suc (suc place)))) = pow_pos 64

by_test : (b : Bool) (P : Bool → Type 0) → (b ≡ true → P true) → (b ≡ false → P false) → P b
by_test true P at_true at_false = at_true refl
by_test false P at_true at_false = at_false refl

both_true : (a b : Bool) → (a ≡ true → b ≡ true) → (b ≡ true → a ≡ true) → a ≡ b
both_true true b forth back = sym (forth refl)
both_true false true forth back = back refl
both_true false false forth back = refl

-- the next key from a usage on, wherever it is
pub record IsNextKey (words : List ℕ) (first usage : ℕ) : Type 0 where
  pub from_first : first ≤ usage
  pub down : flag_in words usage ≡ true
  pub none_before : (other : ℕ) → first ≤ other → other < usage → flag_in words other ≡ false

bit_at-shr : (n j k : ℕ) → bit_at (n / 2 ^ j) k ≡ bit_at n (j + k)
bit_at-shr n j k = ap (λ m. m % 2) (shr-shr n j k)

flag_at : (words : List ℕ) (usage place bit n : ℕ) → usage / 64 ≡ place → usage % 64 ≡ bit → bit_at (get_or words place 0) bit ≡ n → flag_in words usage ≡ (n == 1)
flag_at words usage place bit n p b is = rw (p, b) (ap (λ bit. bit == 1) is)

-- the word of the first usage, from that usage's bit on
module _ (words : List ℕ) (first : ℕ) (are : IsWords words) where
  abbrev rest_of_word : ℕ
  rest_of_word = get_or words (first / 64) 0 / 2 ^ (first % 64)

  flag_in_rest : (i n : ℕ) → first % 64 + i < 64 → bit_at rest_of_word i ≡ n → flag_in words (first + i) ≡ (n == 1)
  flag_in_rest i n small is =
      flag_at words (first + i) (first / 64) (first % 64 + i) n (omega arith) (omega arith)
      (sym (bit_at-shr (get_or words (first / 64) 0) (first % 64) i) ∙ is)

  inside_word : (i : ℕ) → bit_at rest_of_word i ≡ 1 → first % 64 + i < 64
  inside_word i is =
      elim (cases_lt (first % 64 + i) 64) [
        | inl small ↦ small
        | inr past ↦ absurd (omega (arith, is, bit_at-shr (get_or words (first / 64) 0) (first % 64) i, bit_at_above (get_or words (first / 64) 0) 64 (first % 64 + i) (are.fit (first / 64)) past))
      ]

  pub next_in_first : (bit : ℕ) → IsLowestBit rest_of_word bit → IsNextKey words first (first + bit)
  next_in_first bit lowest =
      let small = inside_word bit lowest.is_set in
      record {
        from_first = omega arith;
        down = flag_in_rest bit 1 small lowest.is_set;
        none_before = λ other low high.
            let at : first + (other - first) ≡ other = omega arith in
            subst (λ u. flag_in words u ≡ false) at
            (flag_in_rest (other - first) 0 (omega arith) (lowest.clear (other - first) (omega arith)));
      }

  pub none_in_first : rest_of_word ≡ 0 → (other : ℕ) → first ≤ other → other < 64 * (first / 64 + 1) → flag_in words other ≡ false
  none_in_first empty other low high =
      let at : first + (other - first) ≡ other = omega arith in
      subst (λ u. flag_in words u ≡ false) at
      (flag_in_rest (other - first) 0 (omega arith) (ap (λ n. bit_at n (other - first)) empty ∙ bit_at-zero (other - first)))

  -- a later word
  module _ (place : ℕ) (before : (other : ℕ) → first ≤ other → other < 64 * place → flag_in words other ≡ false) where
    pub next_in_later : (bit : ℕ) → first ≤ 64 * place → IsLowestBit (get_or words place 0) bit → IsNextKey words first (64 * place + bit)
    next_in_later bit low lowest = record {
      from_first = omega arith;
      down = flag_at words (64 * place + bit) place bit 1 (omega (arith, lowest.below)) (omega (arith, lowest.below)) lowest.is_set;
      none_before = λ other f h.
          elim (cases_lt other (64 * place)) [
            | inl earlier ↦ before other f earlier
            | inr here ↦ flag_at words other place (other - 64 * place) 0 (omega (arith, lowest.below)) (omega (arith, lowest.below)) (lowest.clear (other - 64 * place) (omega arith))
          ];
    }

    pub none_in_later : get_or words place 0 ≡ 0 → (other : ℕ) → first ≤ other → other < 64 * (place + 1) → flag_in words other ≡ false
    none_in_later empty other f h =
        elim (cases_lt other (64 * place)) [
          | inl earlier ↦ before other f earlier
          | inr here ↦ flag_at words other place (other % 64) 0 (omega arith) refl (ap (λ n. bit_at n (other % 64)) empty ∙ bit_at-zero (other % 64))
        ]

-- the keys from a usage on, once the next one is known
keys_from-skip : (keys : List Bool) (first m n : ℕ) → ((usage : ℕ) → first ≤ usage → usage < first + m → has_key keys usage ≡ false)
    → keys_from keys first (m + n) ≡ keys_from keys (first + m) n
unfolding keys_from
keys_from-skip keys first zero n none = let e : zero + n ≡ n = omega arith in let f : first + zero ≡ first = omega arith in rw (e, f) refl
keys_from-skip keys first (suc m) n none =
    let e : suc m + n ≡ suc (m + n) = omega arith in
    let f : first + suc m ≡ first + 1 + m = omega arith in
    rw (e, f, none first (omega arith) (omega arith)) (keys_from-skip keys (first + 1) m n (λ usage low high. none usage (omega arith) (omega arith)))

pub keys_from-next : (keys : List Bool) (first last usage : ℕ) → first ≤ usage → usage ≤ last → has_key keys usage ≡ true
    → ((other : ℕ) → first ≤ other → other < usage → has_key keys other ≡ false)
    → keys_from keys first (last + 1 - first) ≡ usage ∷ keys_from keys (usage + 1) (last - usage)
unfolding keys_from
keys_from-next keys first last usage low high down none =
    let m : last + 1 - first ≡ (usage - first) + suc (last - usage) = omega arith in
    let at : first + (usage - first) ≡ usage = omega arith in
    rw m
    (keys_from-skip keys first (usage - first) (suc (last - usage)) (λ other f h. none other f (omega arith))
    ∙ rw (at, down) refl)

pub keys_from-none : (keys : List Bool) (first last : ℕ) → ((other : ℕ) → first ≤ other → other ≤ last → has_key keys other ≡ false) → keys_from keys first (last + 1 - first) ≡ []
unfolding keys_from
keys_from-none keys first last none =
    let n : last + 1 - first ≡ (last + 1 - first) + 0 = omega arith in
    rw n (keys_from-skip keys first (last + 1 - first) 0 (λ other f h. none other f (omega arith)))

module _ (words : List ℕ) (keys : List Bool) (first last usage : ℕ) (seen : flags_of words ≡ keys) (top : last < 256) (next : IsNextKey words first usage) where
  flag_seen : (other : ℕ) → other < 256 → has_key keys other ≡ flag_in words other
  flag_seen other small = ap (λ flags. has_key flags other) (sym seen) ∙ has_key-flags_of words other small

  pub next_some : usage ≤ last → keys_from keys first (last + 1 - first) ≡ usage ∷ keys_from keys (usage + 1) (last - usage)
  next_some high =
      keys_from-next keys first last usage next.from_first high (flag_seen usage (omega arith) ∙ next.down)
      (λ other f h. flag_seen other (omega arith) ∙ next.none_before other f h)

  pub next_past : last < usage → keys_from keys first (last + 1 - first) ≡ []
  next_past past = keys_from-none keys first last (λ other f h. flag_seen other (omega arith) ∙ next.none_before other f (omega arith))

  pub next-none : IfNone (if nat_le usage last then Some usage else None) (keys_from keys first (last + 1 - first) ≡ [])
  next-none =
      by_test (nat_le usage last) (λ (b : Bool). IfNone (if b then Some usage else None) (keys_from keys first (last + 1 - first) ≡ []))
      (λ yes. tt) (λ no. next_past (leb-false usage last no))

  pub next-some : IfSome (if nat_le usage last then Some usage else None) (λ found. keys_from keys first (last + 1 - first) ≡ found ∷ keys_from keys (found + 1) (last - found))
  next-some =
      by_test (nat_le usage last) (λ (b : Bool). IfSome (if b then Some usage else None) (λ found. keys_from keys first (last + 1 - first) ≡ found ∷ keys_from keys (found + 1) (last - found)))
      (λ yes. next_some (leb-true usage last yes)) (λ no. tt)

pub next_nowhere : (words : List ℕ) (keys : List Bool) (first last : ℕ) → flags_of words ≡ keys → last < 256
    → ((other : ℕ) → first ≤ other → other < 256 → flag_in words other ≡ false) → keys_from keys first (last + 1 - first) ≡ []
next_nowhere words keys first last seen top none =
    keys_from-none keys first last
    (λ other f h. ap (λ flags. has_key flags other) (sym seen) ∙ has_key-flags_of words other (omega arith) ∙ none other f (omega arith))

-- words are equal where their flags are
pub words-Decides : (words others : List ℕ) (r : Bool) → IsWords words → IsWords others → r ≡ pointwise nat_eq words others → r ≡ pointwise beq (flags_of words) (flags_of others)
words-Decides words others r w o is =
    let same = bytes_eq-Decides words others in
    let flags = slice_eq-Decides {E = beq} booleans_Decides (flags_of words) (flags_of others) (pointwise beq (flags_of words) (flags_of others)) refl in
    both_true r (pointwise beq (flags_of words) (flags_of others))
    (λ yes. flags.1 (ap (λ (ws : List ℕ). flags_of ws) (same.0 (sym is ∙ yes))))
    (λ yes.
    is ∙ same.1 (sym (words_of-flags_of words w.four w.fit) ∙ ap (λ (fs : List Bool). words_of fs) (flags.0 yes) ∙ words_of-flags_of others o.four o.fit))

-- no flag is set
is_none : (keys : List Bool) → pointwise beq keys (replicate (length keys) false) ≡ has_no_key keys
is_none [] = refl
is_none (true ∷ keys) = refl
is_none (false ∷ keys) = is_none keys

pub words-none : (words : List ℕ) (keys : List Bool) (r : Bool) → IsWords words → flags_of words ≡ keys → r ≡ pointwise nat_eq words (replicate 4 0) → r ≡ has_no_key keys
unfolding no_keys
words-none words keys r w seen is =
    words-Decides words (replicate 4 0) r w words_none is
    ∙ ap (λ (flags : List Bool). pointwise beq (flags_of words) flags) flags_of-none
    ∙ subst (λ (n : ℕ). pointwise beq (flags_of words) (replicate n false) ≡ has_no_key (flags_of words)) (length-flags_from words 0 256) (is_none (flags_of words))
    ∙ ap (λ (flags : List Bool). has_no_key flags) seen
