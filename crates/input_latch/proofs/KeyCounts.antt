-- How many keys of a kind are in a set, as keys come and go.
use Rattle.std.proofs.Common.{◌≡◌, ◌≢◌, ℕ, zero, suc, ◌+◌, ◌-◌, ◌<◌, ◌≤◌, Bool, true, false, List, ◌∷◌, length, set, refl, sym, ap, ◌∙◌, inl, inr, ◌⊎◌, arith, get_or-set_other, get_or-set_same, if◌then◌else◌, nat_le}
use Rattle.std.proofs.lemmas.Bool.{cases_eq, leb-true, and_parts, false≢true}
use Rattle.psd_base.specs.KeySet.{is_ordinary, is_modifier, is_passed_on, no_keys, has_key, with_key, without_key, keys_from, IsKeySet}
use Rattle.psd_base.proofs.KeySetLemmas.{with_key-form, without_key-form, no_keys-form, no_keys-has}
use Rattle.psd_base.proofs.KeyWordLemmas.{keys_from-none}
use Rattle.input_latch.specs.declared.key_class.KeyClass.TheVariants.{Ordinary, Modifier}
use Rattle.input_latch.specs.KeyClass.{number_in, number_of_keys}
use Rattle.input_latch.specs.HeldKeys.{AreCounted}

pub length-keys_from-le : (keys : List Bool) (first n : ℕ) → length (keys_from keys first n) ≤ n
unfolding keys_from
length-keys_from-le keys first zero = omega arith
length-keys_from-le keys first (suc n) = by_head (has_key keys first) (length-keys_from-le keys (first + 1) n) where
  by_head : (down : Bool) → length (keys_from keys (first + 1) n) ≤ n → length (if down then first ∷ keys_from keys (first + 1) n else keys_from keys (first + 1) n) ≤ suc n
  by_head true below = omega arith
  by_head false below = omega arith

-- a key elsewhere doesn't count
keys_from-outside : (keys : List Bool) (usage : ℕ) (down : Bool) (first n : ℕ) → (usage < first) ⊎ (first + n ≤ usage) → keys_from (set keys usage down) first n ≡ keys_from keys first n
unfolding keys_from
keys_from-outside keys usage down first zero out = refl
keys_from-outside keys usage down first (suc n) out =
    let apart : first ≢ usage = outside out in
    rw (get_or-set_other keys usage first down false apart, keys_from-outside keys usage down (first + 1) n (further out)) refl
  where
    outside : (usage < first) ⊎ (first + suc n ≤ usage) → first ≢ usage
    outside (inl below) same = omega arith
    outside (inr above) same = omega arith

    further : (usage < first) ⊎ (first + suc n ≤ usage) → (usage < first + 1) ⊎ (first + 1 + n ≤ usage)
    further (inl below) = inl (omega arith)
    further (inr above) = inr (omega arith)

-- a key that comes counts one more
pub length-keys_from-with : (keys : List Bool) (usage first n : ℕ) → usage < length keys → has_key keys usage ≡ false → first ≤ usage → usage < first + n
    → length (keys_from (set keys usage true) first n) ≡ length (keys_from keys first n) + 1
unfolding keys_from
length-keys_from-with keys usage first zero inside up low high = absurd (omega arith)
length-keys_from-with keys usage first (suc n) inside up low high =
    elim (cases_eq first usage) [
      | inl same ↦
          rw (same, get_or-set_same keys usage true false inside, up, keys_from-outside keys usage true (usage + 1) n (inl (omega arith))) (omega arith)
      | inr apart ↦
          rw (get_or-set_other keys usage first true false apart)
          (by_head (has_key keys first) (length-keys_from-with keys usage (first + 1) n inside up (omega arith) (omega arith)))
    ]
  where
    by_head : (down : Bool) → length (keys_from (set keys usage true) (first + 1) n) ≡ length (keys_from keys (first + 1) n) + 1
        → length (if down then first ∷ keys_from (set keys usage true) (first + 1) n else keys_from (set keys usage true) (first + 1) n)
        ≡ length (if down then first ∷ keys_from keys (first + 1) n else keys_from keys (first + 1) n) + 1
    by_head true more = omega arith
    by_head false more = more

-- a key that goes counts one less
pub length-keys_from-without : (keys : List Bool) (usage first n : ℕ) → usage < length keys → has_key keys usage ≡ true → first ≤ usage → usage < first + n
    → length (keys_from keys first n) ≡ length (keys_from (set keys usage false) first n) + 1
unfolding keys_from
length-keys_from-without keys usage first zero inside down low high = absurd (omega arith)
length-keys_from-without keys usage first (suc n) inside down low high =
    elim (cases_eq first usage) [
      | inl same ↦
          rw (same, get_or-set_same keys usage false false inside, down, keys_from-outside keys usage false (usage + 1) n (inl (omega arith))) (omega arith)
      | inr apart ↦
          rw (get_or-set_other keys usage first false false apart)
          (by_head (has_key keys first) (length-keys_from-without keys usage (first + 1) n inside down (omega arith) (omega arith)))
    ]
  where
    by_head : (head : Bool) → length (keys_from keys (first + 1) n) ≡ length (keys_from (set keys usage false) (first + 1) n) + 1
        → length (if head then first ∷ keys_from keys (first + 1) n else keys_from keys (first + 1) n)
        ≡ length (if head then first ∷ keys_from (set keys usage false) (first + 1) n else keys_from (set keys usage false) (first + 1) n) + 1
    by_head true more = omega arith
    by_head false more = more

pub number_in-small : (keys : List Bool) → (number_in Ordinary keys ≤ 161) × (number_in Modifier keys ≤ 8)
number_in-small keys = (length-keys_from-le keys 4 161, length-keys_from-le keys 224 8)

-- ordinary keys and modifiers by their usages
ordinary_range : (usage : ℕ) → is_ordinary usage ≡ true → (4 ≤ usage) × (usage ≤ 164)
ordinary_range usage is = let p = and_parts (nat_le 4 usage) (nat_le usage 164) is in (leb-true 4 usage p.0, leb-true usage 164 p.1)

modifier_range : (usage : ℕ) → is_ordinary usage ≡ false → is_passed_on usage ≡ true → (224 ≤ usage) × (usage ≤ 231)
modifier_range usage other is =
    let modifier : is_modifier usage ≡ true = rw other at is in
    let p = and_parts (nat_le 224 usage) (nat_le usage 231) modifier in (leb-true 224 usage p.0, leb-true usage 231 p.1)

pub passed_on : (keys : List Bool) (usage : ℕ) → IsKeySet keys → has_key keys usage ≡ true → is_passed_on usage ≡ true
passed_on keys usage form down =
    elim (cases_of (is_passed_on usage)) [
      | inl yes' ↦ yes'
      | inr no' ↦ absurd (false≢true (sym (form.passed_on usage no') ∙ down))
    ]
  where
    cases_of : (b : Bool) → (b ≡ true) ⊎ (b ≡ false)
    cases_of true = inl refl
    cases_of false = inr refl

module _ (keys : List Bool) (ordinary modifiers usage : ℕ) (are : AreCounted keys ordinary modifiers) where
  pub add_ordinary : has_key keys usage ≡ false → is_ordinary usage ≡ true → AreCounted (with_key keys usage) (ordinary + 1) modifiers
  add_ordinary up is =
      let r = ordinary_range usage is in
      record {
        form = with_key-form keys usage are.form (rw is refl);
        are_ordinary = omega (arith, are.are_ordinary, length-keys_from-with keys usage 4 161 (omega (arith, are.form.one_each, r.1)) up r.0 (omega (arith, r.1)));
        are_modifiers = are.are_modifiers ∙ sym (ap (λ (us : List ℕ). length us) (keys_from-outside keys usage true 224 8 (inl (omega (arith, r.1)))));
      }

  pub add_modifier : has_key keys usage ≡ false → is_ordinary usage ≡ false → is_passed_on usage ≡ true → AreCounted (with_key keys usage) ordinary (modifiers + 1)
  add_modifier up other is =
      let r = modifier_range usage other is in
      record {
        form = with_key-form keys usage are.form is;
        are_ordinary = are.are_ordinary ∙ sym (ap (λ (us : List ℕ). length us) (keys_from-outside keys usage true 4 161 (inr (omega (arith, r.0)))));
        are_modifiers = omega (arith, are.are_modifiers, length-keys_from-with keys usage 224 8 (omega (arith, are.form.one_each, r.1)) up r.0 (omega (arith, r.1)));
      }

  pub ordinary_there : has_key keys usage ≡ true → is_ordinary usage ≡ true → ordinary ≡ number_in Ordinary (without_key keys usage) + 1
  ordinary_there down is =
      let r = ordinary_range usage is in
      are.are_ordinary ∙ length-keys_from-without keys usage 4 161 (omega (arith, are.form.one_each, r.1)) down r.0 (omega (arith, r.1))

  pub modifier_there : has_key keys usage ≡ true → is_ordinary usage ≡ false → modifiers ≡ number_in Modifier (without_key keys usage) + 1
  modifier_there down other =
      let r = modifier_range usage other (passed_on keys usage are.form down) in
      are.are_modifiers ∙ length-keys_from-without keys usage 224 8 (omega (arith, are.form.one_each, r.1)) down r.0 (omega (arith, r.1))

  pub remove_ordinary : has_key keys usage ≡ true → is_ordinary usage ≡ true → AreCounted (without_key keys usage) (ordinary - 1) modifiers
  remove_ordinary down is =
      let r = ordinary_range usage is in
      record {
        form = without_key-form keys usage are.form;
        are_ordinary = omega (arith, ordinary_there down is);
        are_modifiers = are.are_modifiers ∙ sym (ap (λ (us : List ℕ). length us) (keys_from-outside keys usage false 224 8 (inl (omega (arith, r.1)))));
      }

  pub remove_modifier : has_key keys usage ≡ true → is_ordinary usage ≡ false → AreCounted (without_key keys usage) ordinary (modifiers - 1)
  remove_modifier down other =
      let r = modifier_range usage other (passed_on keys usage are.form down) in
      record {
        form = without_key-form keys usage are.form;
        are_ordinary = are.are_ordinary ∙ sym (ap (λ (us : List ℕ). length us) (keys_from-outside keys usage false 4 161 (inr (omega (arith, r.0)))));
        are_modifiers = omega (arith, modifier_there down other);
      }

pub number_in-none : (number_in Ordinary no_keys ≡ 0) × (number_in Modifier no_keys ≡ 0)
number_in-none = (
  ap (λ (us : List ℕ). length us) (keys_from-none no_keys 4 164 (λ usage low high. no_keys-has usage)),
  ap (λ (us : List ℕ). length us) (keys_from-none no_keys 224 231 (λ usage low high. no_keys-has usage)),
)

pub counted_none : AreCounted no_keys 0 0
counted_none = record { form = no_keys-form; are_ordinary = sym number_in-none.0; are_modifiers = sym number_in-none.1 }

pub number_of_keys-counted : (keys : List Bool) (ordinary modifiers : ℕ) → AreCounted keys ordinary modifiers → number_of_keys keys ≡ ordinary + modifiers
number_of_keys-counted keys ordinary modifiers are = omega (arith, are.are_ordinary, are.are_modifiers)
