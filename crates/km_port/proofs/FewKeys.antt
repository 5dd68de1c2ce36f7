-- What is held of the accepted changes has six ordinary keys at most, after each of them.
use Rattle.std.proofs.Common.{◌≡◌, ◌≢◌, ℕ, zero, suc, ◌+◌, ◌-◌, ◌<◌, ◌≤◌, nat_le, nat_lt, Bool, true, false, not, ◌&&◌, ◌||◌, List, [], ◌∷◌, ◌++◌, length, take, set, refl, sym, ap, ◌∙◌, inl, inr, ◌⊎◌, arith, get_or-set_other, if◌then◌else◌}
use Rattle.std.proofs.lemmas.Bool.{cases_eq, and_parts, false≢true}
use Rattle.std.proofs.lemmas.Bool.Decides.{nat_tests}
use Rattle.psd_base.specs.KeySet.{is_ordinary, no_keys, has_key, with_key, without_key, keys_from}
use Rattle.input_latch.specs.declared.key_class.KeyClass.TheVariants.{Ordinary}
use Rattle.input_latch.specs.declared.key_latch.KeyChange.{KeyChange}
use Rattle.input_latch.specs.declared.key_latch.KeyChange.TheVariants.{Press, Release}
use Rattle.input_latch.specs.KeyClass.{number_in}
use Rattle.input_latch.specs.KeyHistory.{KeyEntry, Shown, Took, Flushed, Cleared, last_shown, delivered, changes_between, held_with, held_from, held_after, can_press, verdict_on, Offering, offered_one, offered_all, accepted}
use Rattle.input_latch.specs.Verdict.{Verdict, Taken, Refused, PassedOver, appended, nothing_offered}
use Rattle.input_latch.proofs.KeyCounts.{number_in-none}

-- one flag more or less counts one more at most
module _ (keys : List Bool) (usage : ℕ) (down : Bool) where
  counted-outside : (n first : ℕ) → (usage < first) ⊎ (first + n ≤ usage) → keys_from (set keys usage down) first n ≡ keys_from keys first n
  unfolding keys_from
  counted-outside zero first out = refl
  counted-outside (suc n) first out =
      rw (get_or-set_other keys usage first down false (apart out), counted-outside n (first + 1) (further out)) refl
    where
      apart : (usage < first) ⊎ (first + suc n ≤ usage) → first ≢ usage
      apart (inl below) equal = omega arith
      apart (inr above) equal = omega arith

      further : (usage < first) ⊎ (first + suc n ≤ usage) → (usage < first + 1) ⊎ (first + 1 + n ≤ usage)
      further (inl below) = inl (omega arith)
      further (inr above) = inr (omega arith)

with-more : (keys : List Bool) (usage n first : ℕ) → length (keys_from (with_key keys usage) first n) ≤ length (keys_from keys first n) + 1
unfolding keys_from
with-more keys usage zero first = omega arith
with-more keys usage (suc n) first =
    elim (cases_eq first usage) [
      | inl equal ↦
          let rest : keys_from (with_key keys usage) (first + 1) n ≡ keys_from keys (first + 1) n = counted-outside keys usage true n (first + 1) (inl (omega arith)) in
          rw rest (by_both (has_key (with_key keys usage) first) (has_key keys first))
      | inr apart ↦
          rw (get_or-set_other keys usage first true false apart) (by_one (has_key keys first) (with-more keys usage n (first + 1)))
    ]
  where
    by_both : (now before : Bool)
        → length (if now then first ∷ keys_from keys (first + 1) n else keys_from keys (first + 1) n)
        ≤ length (if before then first ∷ keys_from keys (first + 1) n else keys_from keys (first + 1) n) + 1
    by_both true true = omega arith
    by_both true false = omega arith
    by_both false true = omega arith
    by_both false false = omega arith

    by_one : (before : Bool) → length (keys_from (with_key keys usage) (first + 1) n) ≤ length (keys_from keys (first + 1) n) + 1
        → length (if before then first ∷ keys_from (with_key keys usage) (first + 1) n else keys_from (with_key keys usage) (first + 1) n)
        ≤ length (if before then first ∷ keys_from keys (first + 1) n else keys_from keys (first + 1) n) + 1
    by_one true rest = omega arith
    by_one false rest = rest

without-less : (keys : List Bool) (usage n first : ℕ) → length (keys_from (without_key keys usage) first n) ≤ length (keys_from keys first n)
unfolding keys_from
without-less keys usage zero first = omega arith
without-less keys usage (suc n) first =
    elim (cases_eq first usage) [
      | inl equal ↦
          let rest : keys_from (without_key keys usage) (first + 1) n ≡ keys_from keys (first + 1) n = counted-outside keys usage false n (first + 1) (inl (omega arith)) in
          rw rest (by_both (has_key (without_key keys usage) first) (has_key keys first) (gone equal))
      | inr apart ↦
          rw (get_or-set_other keys usage first false false apart) (by_one (has_key keys first) (without-less keys usage n (first + 1)))
    ]
  where
    gone : first ≡ usage → has_key (without_key keys usage) first ≡ false
    gone equal = ap (λ (u : ℕ). has_key (without_key keys usage) u) equal ∙ removed keys usage where
      removed : (flags : List Bool) (place : ℕ) → has_key (set flags place false) place ≡ false
      removed [] place = refl
      removed (flag ∷ flags) zero = refl
      removed (flag ∷ flags) (suc place) = removed flags place

    by_both : (now before : Bool) → now ≡ false
        → length (if now then first ∷ keys_from keys (first + 1) n else keys_from keys (first + 1) n)
        ≤ length (if before then first ∷ keys_from keys (first + 1) n else keys_from keys (first + 1) n)
    by_both true before is = absurd (false≢true (sym is))
    by_both false true is = omega arith
    by_both false false is = omega arith

    by_one : (before : Bool) → length (keys_from (without_key keys usage) (first + 1) n) ≤ length (keys_from keys (first + 1) n)
        → length (if before then first ∷ keys_from (without_key keys usage) (first + 1) n else keys_from (without_key keys usage) (first + 1) n)
        ≤ length (if before then first ∷ keys_from keys (first + 1) n else keys_from keys (first + 1) n)
    by_one true rest = omega arith
    by_one false rest = rest

-- six ordinary keys at most, and so after each of some changes
abbrev pub IsFew : List Bool → Type 0
IsFew keys = number_in Ordinary keys ≤ 6

abbrev AllFew : List Bool → List KeyChange → Type 0
AllFew keys [] = IsFew keys
AllFew keys (change ∷ changes) = IsFew keys × AllFew (held_with keys change) changes

few-append : (keys : List Bool) (changes : List KeyChange) (change : KeyChange) → AllFew keys changes → IsFew (held_with (held_from keys changes) change) → AllFew keys (changes ++ change ∷ [])
unfolding held_from
few-append keys [] change all more = (all, more)
few-append keys (first ∷ changes) change all more = (all.0, few-append (held_with keys first) changes change all.1 more)

few-at : (keys : List Bool) (changes : List KeyChange) (n : ℕ) → AllFew keys changes → IsFew (held_from keys (take n changes))
unfolding held_from
few-at keys [] zero all = all
few-at keys [] (suc n) all = all
few-at keys (first ∷ changes) zero all = all.0
few-at keys (first ∷ changes) (suc n) all = few-at (held_with keys first) changes n all.1

few-after : (keys : List Bool) (changes : List KeyChange) → AllFew keys changes → IsFew (held_from keys changes)
unfolding held_from
few-after keys [] all = all
few-after keys (first ∷ changes) all = few-after (held_with keys first) changes all.1

-- a press that is taken leaves them few
few-pressed : (waiting usage : ℕ) (keys : List Bool) → can_press waiting keys usage ≡ true → IsFew keys → IsFew (with_key keys usage)
few-pressed waiting usage keys taken few =
    let tests = and_parts _ (not (is_ordinary usage) || nat_lt (number_in Ordinary keys) 6) taken in
    by (nat_le 4 usage) (nat_le usage 164) refl refl tests.1
  where
    by : (low high : Bool) → nat_le 4 usage ≡ low → nat_le usage 164 ≡ high
        → (not (low && high) || nat_lt (number_in Ordinary keys) 6) ≡ true → IsFew (with_key keys usage)
    by true true is_low is_high test =
        let less : number_in Ordinary keys < 6 = grind (arith, nat_tests) in
        omega (arith, with-more keys usage 161 4)
    by false high is_low is_high test =
        let out : usage < 4 = grind (arith, nat_tests) in
        rw (counted-outside keys usage true 161 4 (inl out)) few
    by true false is_low is_high test =
        let out : 4 + 161 ≤ usage = grind (arith, nat_tests) in
        rw (counted-outside keys usage true 161 4 (inr out)) few

few-released : (usage : ℕ) (keys : List Bool) → IsFew keys → IsFew (without_key keys usage)
few-released usage keys few = omega (arith, without-less keys usage 161 4)

few-appended : (verdict : Verdict) (change : KeyChange) (changes : List KeyChange) → AllFew no_keys changes
    → (verdict ≡ Taken → IsFew (held_with (held_after changes) change)) → AllFew no_keys (appended verdict change changes)
few-appended Taken change changes all more = few-append no_keys changes change all (more refl)
few-appended Refused change changes all more = all
few-appended PassedOver change changes all more = all

few-one : (given : ℕ) (offering : Offering) (change : KeyChange) → AllFew no_keys offering.accepted → AllFew no_keys (offered_one given offering change).accepted
few-one given offering (Press usage) all =
    few-appended (verdict_on waiting held (Press usage)) (Press usage) offering.accepted all (λ is. by (can_press waiting held usage) refl is)
  where
    waiting : ℕ
    waiting = length offering.accepted - given

    held : List Bool
    held = held_after offering.accepted

    by : (b : Bool) → can_press waiting held usage ≡ b → (if b then Taken else Refused) ≡ Taken → IsFew (with_key held usage)
    by true can is = few-pressed waiting usage held can (few-after no_keys offering.accepted all)
    by false can is = absurd (cc)
few-one given offering (Release usage) all =
    few-appended (verdict_on (length offering.accepted - given) (held_after offering.accepted) (Release usage)) (Release usage) offering.accepted all
    (λ is. few-released usage (held_after offering.accepted) (few-after no_keys offering.accepted all))

few-all : (given : ℕ) (changes : List KeyChange) (offering : Offering) → AllFew no_keys offering.accepted → AllFew no_keys (offered_all given offering changes).accepted
unfolding offered_all
few-all given [] offering all = all
few-all given (change ∷ changes) offering all = few-all given changes (offered_one given offering change) (few-one given offering change all)

pub few-none : IsFew no_keys
few-none = omega (arith, number_in-none.0)

few-accepted : (past : List KeyEntry) → AllFew no_keys (accepted past)
unfolding accepted
few-accepted [] = few-none
few-accepted (Shown keys ∷ past) = few-all (delivered past) (changes_between (last_shown past) keys) (record { accepted = accepted past; counts = nothing_offered }) (few-accepted past)
few-accepted (Took given ∷ past) = few-accepted past
few-accepted (Flushed ∷ past) = few-none
few-accepted (Cleared ∷ past) = few-none

pub few_of_accepted : (past : List KeyEntry) (n : ℕ) → IsFew (held_after (take n (accepted past)))
few_of_accepted past n = few-at no_keys (accepted past) n (few-accepted past)
