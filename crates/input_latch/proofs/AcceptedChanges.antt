-- Each change that a latch accepts presses a key that isn't held, or releases one that is. So the changes between what is
-- held after one and after the next are that change alone.
use Rattle.std.proofs.Common.{◌≡◌, ◌≢◌, ℕ, zero, suc, ◌+◌, ◌-◌, ◌<◌, ◌≤◌, Bool, true, false, not, ◌&&◌, ◌||◌, List, [], ◌∷◌, ◌++◌, length, map, take, drop, slice_get, refl, sym, ap, ◌∙◌, subst, inl, inr, ◌⊎◌, arith, Option, Some, None, get_or-set_other, get_or-set_same, nat_le, if◌then◌else◌}
use Rattle.std.proofs.lemmas.Bool.{cases_eq, leb-true, le-leb, and_parts, false≢true}
use Rattle.psd_base.specs.KeySet.{is_ordinary, is_modifier, is_passed_on, no_keys, has_key, with_key, without_key, difference, keys_from, IsKeySet}
use Rattle.psd_base.proofs.KeySetLemmas.{no_keys-has, no_keys-form, with_key-form, without_key-form}
use Rattle.psd_base.proofs.KeyWordLemmas.{keys_from-none}
use Rattle.input_latch.specs.declared.key_class.KeyClass.TheVariants.{Ordinary, Modifier}
use Rattle.input_latch.specs.declared.key_latch.KeyChange.{KeyChange}
use Rattle.input_latch.specs.declared.key_latch.KeyChange.TheVariants.{Press, Release}
use Rattle.input_latch.specs.KeyClass.{keys_of}
use Rattle.input_latch.specs.KeyHistory.{KeyEntry, Shown, Took, Flushed, Cleared, last_shown, delivered, changes_between, held_with, held_from, held_after, can_press, verdict_on, Offering, offered_one, offered_all, accepted, next_change}
use Rattle.input_latch.specs.PassedKeys.{usage_of}
use Rattle.input_latch.specs.Verdict.{Taken, Refused, PassedOver, appended, nothing_offered}
use Rattle.input_latch.proofs.KeyLatchLaws.{held_from-append}

-- whether a change changes a set of keys
abbrev pub IsEffective : List Bool → KeyChange → Type 0
IsEffective keys (Press usage) = (has_key keys usage ≡ false) × (is_passed_on usage ≡ true)
IsEffective keys (Release usage) = has_key keys usage ≡ true

-- whether each of these changes does, after those before it
abbrev pub AllEffective : List Bool → List KeyChange → Type 0
AllEffective keys [] = Unit {0}
AllEffective keys (change ∷ changes) = IsEffective keys change × AllEffective (held_with keys change) changes

effective-append : (keys : List Bool) (changes : List KeyChange) (change : KeyChange) → AllEffective keys changes → IsEffective (held_from keys changes) change → AllEffective keys (changes ++ change ∷ [])
unfolding held_from
effective-append keys [] change all is = (is, tt)
effective-append keys (first ∷ changes) change all is = (all.0, effective-append (held_with keys first) changes change all.1 is)

pub effective-at : (keys : List Bool) (changes : List KeyChange) (given : ℕ) (change : KeyChange) → AllEffective keys changes → slice_get (drop given changes) 0 ≡ Some change → IsEffective (held_from keys (take given changes)) change
unfolding held_from
effective-at keys [] zero change all is = absurd (cc)
effective-at keys [] (suc given) change all is = absurd (cc)
effective-at keys (first ∷ changes) zero change all is =
    let same : first ≡ change = cc in
    subst (λ (c : KeyChange). IsEffective keys c) same all.0
effective-at keys (first ∷ changes) (suc given) change all is = effective-at (held_with keys first) changes given change all.1 is

-- the usages that are passed on, by their ranges
passed_ordinary : (usage : ℕ) → 4 ≤ usage → usage ≤ 164 → is_passed_on usage ≡ true
passed_ordinary usage low high = rw (le-leb 4 usage low, le-leb usage 164 high) refl

or_true : (b : Bool) → (b || true) ≡ true
or_true true = refl
or_true false = refl

passed_modifier : (usage : ℕ) → 224 ≤ usage → usage ≤ 231 → is_passed_on usage ≡ true
passed_modifier usage low high =
    let modifier : is_modifier usage ≡ true = rw (le-leb 224 usage low, le-leb usage 231 high) refl in
    ap (λ (b : Bool). is_ordinary usage || b) modifier ∙ or_true (is_ordinary usage)

passed_range : (usage : ℕ) → is_passed_on usage ≡ true → ((4 ≤ usage) × (usage ≤ 164)) ⊎ ((224 ≤ usage) × (usage ≤ 231))
passed_range usage passed = by (is_ordinary usage) refl where
  by : (b : Bool) → is_ordinary usage ≡ b → ((4 ≤ usage) × (usage ≤ 164)) ⊎ ((224 ≤ usage) × (usage ≤ 231))
  by true is = let p = and_parts (nat_le 4 usage) (nat_le usage 164) is in inl (leb-true 4 usage p.0, leb-true usage 164 p.1)
  by false is =
      let modifier : is_modifier usage ≡ true = ap (λ (b : Bool). b || is_modifier usage) (sym is) ∙ passed in
      let p = and_parts (nat_le 224 usage) (nat_le usage 231) modifier in
      inr (leb-true 224 usage p.0, leb-true usage 231 p.1)

below_256 : (usage : ℕ) → is_passed_on usage ≡ true → usage < 256
below_256 usage passed = elim (passed_range usage passed) [ inl r ↦ omega arith | inr r ↦ omega arith ]

not_true : (b : Bool) → (b ≡ true → ⊥) → b ≡ false
not_true true never = absurd (never refl)
not_true false never = refl

-- what is in a set is passed on
passed_in : (keys : List Bool) (usage : ℕ) → IsKeySet keys → has_key keys usage ≡ true → is_passed_on usage ≡ true
passed_in keys usage form there = by (is_passed_on usage) refl where
  by : (b : Bool) → is_passed_on usage ≡ b → b ≡ true
  by true is = refl
  by false is = absurd (false≢true (sym (form.passed_on usage is) ∙ there))

-- the difference of any two lists of flags
difference-has : (keys others : List Bool) (usage : ℕ) → has_key (difference keys others) usage ≡ (has_key keys usage && not (has_key others usage))
difference-has [] [] usage = refl
difference-has [] (other ∷ others) usage = refl
difference-has (down ∷ keys) [] usage = by (has_key (down ∷ keys) usage) where
  by : (b : Bool) → b ≡ (b && true)
  by true = refl
  by false = refl
difference-has (down ∷ keys) (other ∷ others) zero = refl
difference-has (down ∷ keys) (other ∷ others) (suc usage) = difference-has keys others usage

-- a key that goes
module _ (keys : List Bool) (usage : ℕ) (inside : usage < length keys) where
  without-gone : has_key (without_key keys usage) usage ≡ false
  without-gone = get_or-set_same keys usage false false inside

  without-fewer : (other : ℕ) → has_key (without_key keys usage) other ≡ true → has_key keys other ≡ true
  without-fewer other there =
      elim (cases_eq other usage) [
        | inl same ↦ absurd (false≢true (sym without-gone ∙ ap (λ (u : ℕ). has_key (without_key keys usage) u) (sym same) ∙ there))
        | inr apart ↦ sym (get_or-set_other keys usage other false false apart) ∙ there
      ]

record Released (usage : ℕ) (before now : List KeyChange) : Type 0 where
  effective : AllEffective no_keys now
  form : IsKeySet (held_after now)
  fewer : (other : ℕ) → has_key (held_after now) other ≡ true → has_key (held_after before) other ≡ true
  gone : has_key (held_after now) usage ≡ false

released_by : (down : Bool) (usage : ℕ) (before : List KeyChange) → usage < 256 → AllEffective no_keys before → IsKeySet (held_after before) → has_key (held_after before) usage ≡ down
    → Released usage before (appended (if down then Taken else PassedOver) (Release usage) before)
released_by true usage before low effective form is =
    let now = held_from-append no_keys before (Release usage) in
    let inside : usage < length (held_after before) = omega (arith, form.one_each) in
    record {
      effective = effective-append no_keys before (Release usage) effective is;
      form = subst (λ (k : List Bool). IsKeySet k) (sym now) (without_key-form (held_after before) usage form);
      fewer = λ other there. without-fewer (held_after before) usage inside other (ap (λ (k : List Bool). has_key k other) (sym now) ∙ there);
      gone = ap (λ (k : List Bool). has_key k usage) now ∙ without-gone (held_after before) usage inside;
    }
released_by false usage before low effective form is = record { effective = effective; form = form; fewer = λ other there. there; gone = is }

-- the releases of the keys of a range
record ReleasedAll (flags : List Bool) (first n : ℕ) (before now : List KeyChange) : Type 0 where
  effective : AllEffective no_keys now
  form : IsKeySet (held_after now)
  fewer : (other : ℕ) → has_key (held_after now) other ≡ true → has_key (held_after before) other ≡ true
  gone : (other : ℕ) → first ≤ other → other < first + n → has_key flags other ≡ true → has_key (held_after now) other ≡ false

released_next : (flags : List Bool) (first n : ℕ) (before middle now : List KeyChange) → Released first before middle → ReleasedAll flags (first + 1) n middle now → ReleasedAll flags first (suc n) before now
released_next flags first n before middle now one rest = record {
  effective = rest.effective;
  form = rest.form;
  fewer = λ other there. one.fewer other (rest.fewer other there);
  gone = λ other low high down.
      elim (cases_eq other first) [
        | inl same ↦ not_true (has_key (held_after now) other) (λ there. false≢true (sym one.gone ∙ ap (λ (u : ℕ). has_key (held_after middle) u) (sym same) ∙ rest.fewer other there))
        | inr apart ↦ rest.gone other (omega arith) (omega arith) down
      ];
}

released_skip : (flags : List Bool) (first n : ℕ) (before now : List KeyChange) → has_key flags first ≡ false → ReleasedAll flags (first + 1) n before now → ReleasedAll flags first (suc n) before now
released_skip flags first n before now up rest = record {
  effective = rest.effective;
  form = rest.form;
  fewer = rest.fewer;
  gone = λ other low high down.
      elim (cases_eq other first) [
        | inl same ↦ absurd (false≢true (sym up ∙ ap (λ (u : ℕ). has_key flags u) (sym same) ∙ down))
        | inr apart ↦ rest.gone other (omega arith) (omega arith) down
      ];
}

released_from : (flags : List Bool) (first n given : ℕ) (offering : Offering) → first + n ≤ 256 → AllEffective no_keys offering.accepted → IsKeySet (held_after offering.accepted)
    → ReleasedAll flags first n offering.accepted (offered_all given offering (map Release (keys_from flags first n))).accepted
unfolding keys_from offered_all
released_from flags first zero given offering low effective form = record { effective = effective; form = form; fewer = λ other there. there; gone = λ other above below down. absurd (omega arith) }
released_from flags first (suc n) given offering low effective form =
    let one = released_by (has_key (held_after offering.accepted) first) first offering.accepted (omega arith) effective form refl in
    by (has_key flags first) refl
    (released_next flags first n offering.accepted (offered_one given offering (Release first)).accepted (offered_all given (offered_one given offering (Release first)) (map Release (keys_from flags (first + 1) n))).accepted one
    (released_from flags (first + 1) n given (offered_one given offering (Release first)) (omega arith) one.effective one.form))
    (λ up. released_skip flags first n offering.accepted (offered_all given offering (map Release (keys_from flags (first + 1) n))).accepted up
    (released_from flags (first + 1) n given offering (omega arith) effective form))
  where
    by : (down : Bool) → has_key flags first ≡ down
        → ReleasedAll flags first (suc n) offering.accepted (offered_all given (offered_one given offering (Release first)) (map Release (keys_from flags (first + 1) n))).accepted
        → (has_key flags first ≡ false → ReleasedAll flags first (suc n) offering.accepted (offered_all given offering (map Release (keys_from flags (first + 1) n))).accepted)
        → ReleasedAll flags first (suc n) offering.accepted (offered_all given offering (map Release (if down then first ∷ keys_from flags (first + 1) n else keys_from flags (first + 1) n))).accepted
    by true is taken skipped = taken
    by false is taken skipped = skipped is

-- a key that comes, or is refused
record Pressed (usage : ℕ) (before now : List KeyChange) : Type 0 where
  effective : AllEffective no_keys now
  form : IsKeySet (held_after now)
  others : (other : ℕ) → other ≢ usage → has_key (held_after now) other ≡ has_key (held_after before) other

pressed_by : (taken : Bool) (usage : ℕ) (before : List KeyChange) → is_passed_on usage ≡ true → AllEffective no_keys before → IsKeySet (held_after before) → has_key (held_after before) usage ≡ false
    → Pressed usage before (appended (if taken then Taken else Refused) (Press usage) before)
pressed_by true usage before passed effective form up =
    let now = held_from-append no_keys before (Press usage) in
    record {
      effective = effective-append no_keys before (Press usage) effective (up, passed);
      form = subst (λ (k : List Bool). IsKeySet k) (sym now) (with_key-form (held_after before) usage form passed);
      others = λ other apart. ap (λ (k : List Bool). has_key k other) now ∙ get_or-set_other (held_after before) usage other true false apart;
    }
pressed_by false usage before passed effective form up = record { effective = effective; form = form; others = λ other apart. refl }

-- the presses of the keys of a range
record PressedAll (flags : List Bool) (first n : ℕ) (before now : List KeyChange) : Type 0 where
  effective : AllEffective no_keys now
  form : IsKeySet (held_after now)
  more : (other : ℕ) → has_key (held_after now) other ≡ true → (has_key (held_after before) other ≡ true) ⊎ (has_key flags other ≡ true)
  outside : (other : ℕ) → (other < first) ⊎ (first + n ≤ other) → has_key (held_after now) other ≡ has_key (held_after before) other

further : (first n other : ℕ) → (other < first) ⊎ (first + suc n ≤ other) → (other < first + 1) ⊎ (first + 1 + n ≤ other)
further first n other (inl below) = inl (omega arith)
further first n other (inr above) = inr (omega arith)

not_first : (first n other : ℕ) → (other < first) ⊎ (first + suc n ≤ other) → other ≢ first
not_first first n other (inl below) same = omega arith
not_first first n other (inr above) same = omega arith

pressed_next : (flags : List Bool) (first n : ℕ) (before middle now : List KeyChange) → has_key flags first ≡ true → Pressed first before middle → PressedAll flags (first + 1) n middle now → PressedAll flags first (suc n) before now
pressed_next flags first n before middle now down one rest = record {
  effective = rest.effective;
  form = rest.form;
  more = λ other there.
      elim (cases_eq other first) [
        | inl same ↦ inr (ap (λ (u : ℕ). has_key flags u) same ∙ down)
        | inr apart ↦ elim (rest.more other there) [ inl held ↦ inl (sym (one.others other apart) ∙ held) | inr flag ↦ inr flag ]
      ];
  outside = λ other out. rest.outside other (further first n other out) ∙ one.others other (not_first first n other out);
}

pressed_skip : (flags : List Bool) (first n : ℕ) (before now : List KeyChange) → PressedAll flags (first + 1) n before now → PressedAll flags first (suc n) before now
pressed_skip flags first n before now rest = record {
  effective = rest.effective;
  form = rest.form;
  more = rest.more;
  outside = λ other out. rest.outside other (further first n other out);
}

pressed_from : (flags : List Bool) (first n given : ℕ) (offering : Offering) → ((usage : ℕ) → first ≤ usage → usage < first + n → is_passed_on usage ≡ true)
    → AllEffective no_keys offering.accepted → IsKeySet (held_after offering.accepted)
    → ((usage : ℕ) → first ≤ usage → usage < first + n → has_key flags usage ≡ true → has_key (held_after offering.accepted) usage ≡ false)
    → PressedAll flags first n offering.accepted (offered_all given offering (map Press (keys_from flags first n))).accepted
unfolding keys_from offered_all
pressed_from flags first zero given offering passed effective form up = record { effective = effective; form = form; more = λ other there. inl there; outside = λ other out. refl }
pressed_from flags first (suc n) given offering passed effective form up =
    by (has_key flags first) refl
    (λ down.
    let one = pressed_by (can_press (length offering.accepted - given) (held_after offering.accepted) first) first offering.accepted (passed first (omega arith) (omega arith)) effective form (up first (omega arith) (omega arith) down) in
    pressed_next flags first n offering.accepted (offered_one given offering (Press first)).accepted (offered_all given (offered_one given offering (Press first)) (map Press (keys_from flags (first + 1) n))).accepted down one
    (pressed_from flags (first + 1) n given (offered_one given offering (Press first)) (λ usage low high. passed usage (omega arith) (omega arith)) one.effective one.form
    (λ usage low high flag. one.others usage (λ same. omega arith) ∙ up usage (omega arith) (omega arith) flag)))
    (pressed_skip flags first n offering.accepted (offered_all given offering (map Press (keys_from flags (first + 1) n))).accepted
    (pressed_from flags (first + 1) n given offering (λ usage low high. passed usage (omega arith) (omega arith)) effective form (λ usage low high flag. up usage (omega arith) (omega arith) flag)))
  where
    by : (down : Bool) → has_key flags first ≡ down
        → (has_key flags first ≡ true → PressedAll flags first (suc n) offering.accepted (offered_all given (offered_one given offering (Press first)) (map Press (keys_from flags (first + 1) n))).accepted)
        → PressedAll flags first (suc n) offering.accepted (offered_all given offering (map Press (keys_from flags (first + 1) n))).accepted
        → PressedAll flags first (suc n) offering.accepted (offered_all given offering (map Press (if down then first ∷ keys_from flags (first + 1) n else keys_from flags (first + 1) n))).accepted
    by true is taken skipped = taken is
    by false is taken skipped = skipped

offered_all-append : (given : ℕ) (offering : Offering) (first second : List KeyChange) → offered_all given offering (first ++ second) ≡ offered_all given (offered_all given offering first) second
unfolding offered_all
offered_all-append given offering [] second = refl
offered_all-append given offering (change ∷ first) second = offered_all-append given (offered_one given offering change) first second

-- what a latch accepted, and that it holds only keys that were shown last
pub record Accepts (past : List KeyEntry) : Type 0 where
  pub effective : AllEffective no_keys (accepted past)
  pub form : IsKeySet (held_after (accepted past))
  pub below : (usage : ℕ) → has_key (held_after (accepted past)) usage ≡ true → has_key (last_shown past) usage ≡ true

record OfferedSet (last keys : List Bool) (now : List KeyChange) : Type 0 where
  effective : AllEffective no_keys now
  form : IsKeySet (held_after now)
  below : (usage : ℕ) → has_key (held_after now) usage ≡ true → has_key keys usage ≡ true

module _ (last keys : List Bool) (given : ℕ) (start : Offering) (effective : AllEffective no_keys start.accepted) (form : IsKeySet (held_after start.accepted))
    (below : (usage : ℕ) → has_key (held_after start.accepted) usage ≡ true → has_key last usage ≡ true) where
  abbrev first_part : Offering
  first_part = offered_all given start (map Release (keys_of Ordinary (difference last keys)))

  abbrev second_part : Offering
  second_part = offered_all given first_part (map Release (keys_of Modifier (difference last keys)))

  abbrev third_part : Offering
  third_part = offered_all given second_part (map Press (keys_of Modifier (difference keys last)))

  abbrev last_part : Offering
  last_part = offered_all given third_part (map Press (keys_of Ordinary (difference keys last)))

  ordinary_gone : ReleasedAll (difference last keys) 4 161 start.accepted first_part.accepted
  ordinary_gone = released_from (difference last keys) 4 161 given start (omega arith) effective form

  modifiers_gone : ReleasedAll (difference last keys) 224 8 first_part.accepted second_part.accepted
  modifiers_gone = released_from (difference last keys) 224 8 given first_part (omega arith) ordinary_gone.effective ordinary_gone.form

  was_last : (usage : ℕ) → has_key (held_after second_part.accepted) usage ≡ true → has_key last usage ≡ true
  was_last usage there = below usage (ordinary_gone.fewer usage (modifiers_gone.fewer usage there))

  within : (usage : ℕ) → has_key (held_after second_part.accepted) usage ≡ true → has_key keys usage ≡ true
  within usage there = by (has_key keys usage) refl where
    by : (b : Bool) → has_key keys usage ≡ b → b ≡ true
    by true is = refl
    by false is =
        let flag : has_key (difference last keys) usage ≡ true = difference-has last keys usage ∙ rw (was_last usage there, is) refl in
        let middle = modifiers_gone.fewer usage there in
        elim (passed_range usage (passed_in (held_after second_part.accepted) usage modifiers_gone.form there)) [
          | inl r ↦ absurd (false≢true (sym (ordinary_gone.gone usage r.0 (omega (arith, r.1)) flag) ∙ middle))
          | inr r ↦ absurd (false≢true (sym (modifiers_gone.gone usage r.0 (omega (arith, r.1)) flag) ∙ there))
        ]

  comes : (usage : ℕ) → has_key (difference keys last) usage ≡ true → (has_key keys usage ≡ true) × (not (has_key last usage) ≡ true)
  comes usage flag = and_parts (has_key keys usage) (not (has_key last usage)) (sym (difference-has keys last usage) ∙ flag)

  not_both : (b : Bool) → not b ≡ true → b ≡ true → ⊥
  not_both true up there = false≢true up
  not_both false up there = false≢true there

  up : (usage : ℕ) → has_key (difference keys last) usage ≡ true → has_key (held_after second_part.accepted) usage ≡ false
  up usage flag = not_true (has_key (held_after second_part.accepted) usage) (λ there. not_both (has_key last usage) (comes usage flag).1 (was_last usage there))

  modifiers_come : PressedAll (difference keys last) 224 8 second_part.accepted third_part.accepted
  modifiers_come =
      pressed_from (difference keys last) 224 8 given second_part (λ usage low high. passed_modifier usage low (omega arith)) modifiers_gone.effective modifiers_gone.form
      (λ usage low high flag. up usage flag)

  ordinary_come : PressedAll (difference keys last) 4 161 third_part.accepted last_part.accepted
  ordinary_come =
      pressed_from (difference keys last) 4 161 given third_part (λ usage low high. passed_ordinary usage low (omega arith)) modifiers_come.effective modifiers_come.form
      (λ usage low high flag. modifiers_come.outside usage (inl (omega arith)) ∙ up usage flag)

  shown_part : OfferedSet last keys last_part.accepted
  shown_part = record {
    effective = ordinary_come.effective;
    form = ordinary_come.form;
    below = λ usage there.
        elim (ordinary_come.more usage there) [
          | inl held ↦ elim (modifiers_come.more usage held) [ inl before ↦ within usage before | inr flag ↦ (comes usage flag).0 ]
          | inr flag ↦ (comes usage flag).0
        ];
  }

  in_parts : offered_all given start (changes_between last keys) ≡ last_part
  in_parts =
      offered_all-append given start (map Release (keys_of Ordinary (difference last keys)) ++ map Release (keys_of Modifier (difference last keys)) ++ map Press (keys_of Modifier (difference keys last))) (map Press (keys_of Ordinary (difference keys last)))
      ∙ ap (λ (o : Offering). offered_all given o (map Press (keys_of Ordinary (difference keys last))))
      (offered_all-append given start (map Release (keys_of Ordinary (difference last keys)) ++ map Release (keys_of Modifier (difference last keys))) (map Press (keys_of Modifier (difference keys last)))
      ∙ ap (λ (o : Offering). offered_all given o (map Press (keys_of Modifier (difference keys last))))
      (offered_all-append given start (map Release (keys_of Ordinary (difference last keys))) (map Release (keys_of Modifier (difference last keys)))))

  shown_set : OfferedSet last keys (offered_all given start (changes_between last keys)).accepted
  shown_set = subst (λ (o : Offering). OfferedSet last keys o.accepted) (sym in_parts) shown_part

nothing_held : (usage : ℕ) (b : Bool) → has_key no_keys usage ≡ true → b ≡ true
nothing_held usage b there = absurd (false≢true (sym (no_keys-has usage) ∙ there))

pub accepts-all : (past : List KeyEntry) → Accepts past
unfolding accepted held_from
accepts-all [] = record { effective = tt; form = no_keys-form; below = λ usage there. nothing_held usage (has_key no_keys usage) there }
accepts-all (Shown keys ∷ past) =
    let before = accepts-all past in
    let now = shown_set (last_shown past) keys (delivered past) (record { accepted = accepted past; counts = nothing_offered }) before.effective before.form before.below in
    record { effective = now.effective; form = now.form; below = now.below }
accepts-all (Took given ∷ past) =
    let before = accepts-all past in
    record { effective = before.effective; form = before.form; below = before.below }
accepts-all (Flushed ∷ past) = record { effective = tt; form = no_keys-form; below = λ usage there. nothing_held usage (has_key (last_shown past) usage) there }
accepts-all (Cleared ∷ past) = record { effective = tt; form = no_keys-form; below = λ usage there. nothing_held usage (has_key no_keys usage) there }

-- The changes between what is held before an effective change and after it

keys_from-only : (flags : List Bool) (usage first n : ℕ) → first ≤ usage → usage < first + n → has_key flags usage ≡ true → ((other : ℕ) → other ≢ usage → has_key flags other ≡ false) → keys_from flags first n ≡ usage ∷ []
unfolding keys_from
keys_from-only flags usage first zero low high down alone = absurd (omega arith)
keys_from-only flags usage first (suc n) low high down alone =
    elim (cases_eq first usage) [
      | inl same ↦ rw (same, down, none_from flags (usage + 1) n (λ other above. alone other (λ equal. omega arith))) refl
      | inr apart ↦ rw (alone first apart) (keys_from-only flags usage (first + 1) n (omega arith) (omega arith) down alone)
    ]
  where
    none_from : (flags : List Bool) (first n : ℕ) → ((other : ℕ) → first ≤ other → has_key flags other ≡ false) → keys_from flags first n ≡ []
    none_from flags first zero none = refl
    none_from flags first (suc n) none = rw (none first (omega arith)) (none_from flags (first + 1) n (λ other above. none other (omega arith)))

same_and : (b : Bool) → (b && not b) ≡ false
same_and true = refl
same_and false = refl

-- no key is in the difference, where none of the first set has changed
none_in : (keys others : List Bool) (first last : ℕ) → ((other : ℕ) → has_key keys other ≡ has_key others other) → keys_from (difference keys others) first (last + 1 - first) ≡ []
none_in keys others first last same =
    keys_from-none (difference keys others) first last (λ other low high. difference-has keys others other ∙ ap (λ (b : Bool). b && not (has_key others other)) (same other) ∙ same_and (has_key others other))

-- two sets that differ in one key alone, which the first one has
record DiffersIn (usage : ℕ) (more less : List Bool) : Type 0 where
  there : has_key more usage ≡ true
  away : has_key less usage ≡ false
  alike : (other : ℕ) → other ≢ usage → has_key more other ≡ has_key less other

module _ (usage : ℕ) (more less : List Bool) (differ : DiffersIn usage more less) where
  in_more : has_key (difference more less) usage ≡ true
  in_more = difference-has more less usage ∙ rw (differ.there, differ.away) refl

  alone_in_more : (other : ℕ) → other ≢ usage → has_key (difference more less) other ≡ false
  alone_in_more other apart = difference-has more less other ∙ ap (λ (b : Bool). b && not (has_key less other)) (differ.alike other apart) ∙ same_and (has_key less other)

  never_in_less : (other : ℕ) → has_key (difference less more) other ≡ false
  never_in_less other =
      difference-has less more other
      ∙ elim (cases_eq other usage) [
        | inl same ↦ ap (λ (u : ℕ). has_key less u && not (has_key more u)) same ∙ rw (differ.away) refl
        | inr apart ↦ ap (λ (b : Bool). has_key less other && not b) (differ.alike other apart) ∙ same_and (has_key less other)
      ]

  none_of_less : (first last : ℕ) → keys_from (difference less more) first (last + 1 - first) ≡ []
  none_of_less first last = keys_from-none (difference less more) first last (λ other low high. never_in_less other)

  none_of_more : (first last : ℕ) → (usage < first) ⊎ (last < usage) → keys_from (difference more less) first (last + 1 - first) ≡ []
  none_of_more first last out = keys_from-none (difference more less) first last (λ other low high. alone_in_more other (outside other low high out)) where
    outside : (other : ℕ) → first ≤ other → other ≤ last → (usage < first) ⊎ (last < usage) → other ≢ usage
    outside other low high (inl below) same = omega arith
    outside other low high (inr above) same = omega arith

  one_of_more : (first n : ℕ) → first ≤ usage → usage < first + n → keys_from (difference more less) first n ≡ usage ∷ []
  one_of_more first n low high = keys_from-only (difference more less) usage first n low high in_more alone_in_more

  one_released : is_passed_on usage ≡ true → changes_between more less ≡ Release usage ∷ []
  one_released passed =
      elim (passed_range usage passed) [
        | inl r ↦ rw (one_of_more 4 161 r.0 (omega (arith, r.1)), none_of_more 224 231 (inl (omega (arith, r.1))), none_of_less 224 231, none_of_less 4 164) refl
        | inr r ↦ rw (none_of_more 4 164 (inr (omega (arith, r.0))), one_of_more 224 8 r.0 (omega (arith, r.1)), none_of_less 224 231, none_of_less 4 164) refl
      ]

  one_pressed : is_passed_on usage ≡ true → changes_between less more ≡ Press usage ∷ []
  one_pressed passed =
      elim (passed_range usage passed) [
        | inl r ↦ rw (none_of_less 4 164, none_of_less 224 231, none_of_more 224 231 (inl (omega (arith, r.1))), one_of_more 4 161 r.0 (omega (arith, r.1))) refl
        | inr r ↦ rw (none_of_less 4 164, none_of_less 224 231, one_of_more 224 8 r.0 (omega (arith, r.1)), none_of_more 4 164 (inr (omega (arith, r.0)))) refl
      ]

-- an effective change is all that differs
pub changes_between-one : (keys : List Bool) (change : KeyChange) → IsKeySet keys → IsEffective keys change → changes_between keys (held_with keys change) ≡ change ∷ []
changes_between-one keys (Press usage) form is =
    let inside : usage < length keys = omega (arith, form.one_each, below_256 usage is.1) in
    one_pressed usage (with_key keys usage) keys (record {
      there = get_or-set_same keys usage true false inside;
      away = is.0;
      alike = λ other apart. get_or-set_other keys usage other true false apart;
    }) is.1
changes_between-one keys (Release usage) form is =
    let passed = passed_in keys usage form is in
    let inside : usage < length keys = omega (arith, form.one_each, below_256 usage passed) in
    one_released usage keys (without_key keys usage) (record {
      there = is;
      away = get_or-set_same keys usage false false inside;
      alike = λ other apart. sym (get_or-set_other keys usage other false false apart);
    }) passed

-- the sets on the way have the form of a set
form_on_the_way : (keys : List Bool) (changes : List KeyChange) (given : ℕ) → IsKeySet keys → AllEffective keys changes → IsKeySet (held_from keys (take given changes))
unfolding held_from
form_on_the_way keys [] zero form all = form
form_on_the_way keys [] (suc given) form all = form
form_on_the_way keys (first ∷ changes) zero form all = form
form_on_the_way keys (first ∷ changes) (suc given) form all = form_on_the_way (held_with keys first) changes given (form_after keys first form all.0) all.1 where
  form_after : (keys : List Bool) (change : KeyChange) → IsKeySet keys → IsEffective keys change → IsKeySet (held_with keys change)
  form_after keys (Press usage) form is = with_key-form keys usage form is.1
  form_after keys (Release usage) form is = without_key-form keys usage form

pub form_of_accepted : (past : List KeyEntry) (given : ℕ) → IsKeySet (held_after (take given (accepted past)))
form_of_accepted past given = form_on_the_way no_keys (accepted past) given no_keys-form (accepts-all past).effective

-- so what was accepted is what its steps show
pub change_shown : (past : List KeyEntry) (given : ℕ) (change : KeyChange) → slice_get (drop given (accepted past)) 0 ≡ Some change
    → changes_between (held_after (take given (accepted past))) (held_with (held_after (take given (accepted past))) change) ≡ change ∷ []
change_shown past given change next = changes_between-one (held_after (take given (accepted past))) change (form_of_accepted past given) (effective-at no_keys (accepted past) given change (accepts-all past).effective next)

-- what a latch gives next is passed on
pub next_passed_on : (past : List KeyEntry) (change : KeyChange) → next_change past ≡ Some change → is_passed_on (usage_of change) ≡ true
next_passed_on past (Press usage) is = (effective-at no_keys (accepted past) (delivered past) (Press usage) (accepts-all past).effective is).1
next_passed_on past (Release usage) is =
    passed_in (held_after (take (delivered past) (accepted past))) usage (form_of_accepted past (delivered past))
    (effective-at no_keys (accepted past) (delivered past) (Release usage) (accepts-all past).effective is)
