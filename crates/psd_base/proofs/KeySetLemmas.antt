-- Key sets: what the union holds, and sets with the same keys.
use Rattle.std.proofs.Common.{◌≡◌, ℕ, zero, suc, ◌<◌, Bool, true, false, not, ◌&&◌, ◌||◌, List, [], ◌∷◌, length, set, refl, ap, arith, sym, ◌∙◌, ⊎_elim, inl, inr, replicate, get_or-set_other, get_or-set_same, length-set}
use Rattle.std.proofs.lemmas.List.{get_or-replicate, get_or_past, ext_get_or}
use Rattle.std.proofs.lemmas.Bool.{cases_lt, cases_eq}
use Rattle.psd_base.specs.KeySet.{is_passed_on, no_keys, has_key, with_key, without_key, has_no_key, union, difference, IsKeySet}

pub length-union : (keys others : List Bool) → length (union keys others) ≡ length keys
length-union [] others = refl
length-union (down ∷ keys) [] = refl
length-union (down ∷ keys) (other ∷ others) = ap suc (length-union keys others)

-- a usage is in the union where it is in one of the sets
pub has_key-union : (keys others : List Bool) (usage : ℕ) → length keys ≡ length others → has_key (union keys others) usage ≡ (has_key keys usage || has_key others usage)
has_key-union [] [] usage same = refl
has_key-union [] (other ∷ others) usage same = absurd (cc)
has_key-union (down ∷ keys) [] usage same = absurd (cc)
has_key-union (down ∷ keys) (other ∷ others) zero same = refl
has_key-union (down ∷ keys) (other ∷ others) (suc usage) same = has_key-union keys others usage (omega arith)

-- two sets are equal where they have the same keys
pub same_keys : (keys others : List Bool) → IsKeySet keys → IsKeySet others → ((usage : ℕ) → usage < 256 → has_key keys usage ≡ has_key others usage) → keys ≡ others
same_keys keys others k o same =
    ext_get_or false keys others (cc (k.one_each, o.one_each)) (λ usage h. same usage (omega (arith, k.one_each)))

pub no_keys-has : (usage : ℕ) → has_key no_keys usage ≡ false
unfolding no_keys
no_keys-has usage =
    ⊎_elim (λ h. get_or-replicate 256 usage false false h) (λ h. get_or_past (replicate 256 false) usage false h) (cases_lt usage 256)

-- the empty set has the form of a set
pub no_keys-form : IsKeySet no_keys
unfolding no_keys
no_keys-form = record { one_each = refl; passed_on = λ usage _. no_keys-has usage }

pub length-difference : (keys others : List Bool) → length (difference keys others) ≡ length keys
length-difference [] others = refl
length-difference (down ∷ keys) [] = refl
length-difference (down ∷ keys) (other ∷ others) = ap suc (length-difference keys others)

-- a usage is in the difference where it is in the first set alone
pub has_key-difference : (keys others : List Bool) (usage : ℕ) → length keys ≡ length others → has_key (difference keys others) usage ≡ (has_key keys usage && not (has_key others usage))
has_key-difference [] [] usage same = refl
has_key-difference [] (other ∷ others) usage same = absurd (cc)
has_key-difference (down ∷ keys) [] usage same = absurd (cc)
has_key-difference (down ∷ keys) (other ∷ others) zero same = refl
has_key-difference (down ∷ keys) (other ∷ others) (suc usage) same = has_key-difference keys others usage (omega arith)

-- a union of two sets has the form of a set
pub union-form : (keys others : List Bool) → IsKeySet keys → IsKeySet others → IsKeySet (union keys others)
union-form keys others k o = record {
  one_each = cc (length-union keys others, k.one_each);
  passed_on = λ usage h. rw (has_key-union keys others usage (cc (k.one_each, o.one_each)), k.passed_on usage h, o.passed_on usage h) refl;
}

pub difference-form : (keys others : List Bool) → IsKeySet keys → IsKeySet others → IsKeySet (difference keys others)
difference-form keys others k o = record {
  one_each = cc (length-difference keys others, k.one_each);
  passed_on = λ usage h. rw (has_key-difference keys others usage (cc (k.one_each, o.one_each)), k.passed_on usage h) refl;
}

pub with_key-form : (keys : List Bool) (usage : ℕ) → IsKeySet keys → is_passed_on usage ≡ true → IsKeySet (with_key keys usage)
with_key-form keys usage k passed = record {
  one_each = cc (length-set keys usage true, k.one_each);
  passed_on = λ other h. rw (get_or-set_other keys usage other true false (λ same. absurd (cc (ap is_passed_on same)))) (k.passed_on other h);
}

pub without_key-form : (keys : List Bool) (usage : ℕ) → IsKeySet keys → IsKeySet (without_key keys usage)
without_key-form keys usage k = record {
  one_each = cc (length-set keys usage false, k.one_each);
  passed_on = λ other h.
      elim (cases_eq other usage) [
        | inl same ↦ elim (cases_lt usage (length keys)) [
          | inl inside ↦ rw (same, get_or-set_same keys usage false false inside) refl
          | inr past ↦ get_or_past (set keys usage false) other false (omega (arith, length-set keys usage false))
        ]
        | inr apart ↦ rw (get_or-set_other keys usage other false false apart) (k.passed_on other h)
      ];
}

-- a set without keys holds none, and is the empty set
pub nothing-in : (keys : List Bool) (usage : ℕ) → has_no_key keys ≡ true → has_key keys usage ≡ false
nothing-in [] usage none = refl
nothing-in (true ∷ keys) usage none = absurd (cc)
nothing-in (false ∷ keys) zero none = refl
nothing-in (false ∷ keys) (suc usage) none = nothing-in keys usage none

pub no_keys-from_has_no_key : (keys : List Bool) → IsKeySet keys → has_no_key keys ≡ true → keys ≡ no_keys
no_keys-from_has_no_key keys form none =
    same_keys keys no_keys form no_keys-form (λ usage h. nothing-in keys usage none ∙ sym (no_keys-has usage))
