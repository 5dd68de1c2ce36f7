-- Loops over the fields of a layout.
use Rattle.std.proofs.Common.{◌≡◌, ℕ, ◌+◌, ◌<◌, ◌≤◌, Bool, false, not, cond, List, [], ◌∷◌, ◌++◌, length, get_or, drop, Option, Some, None, refl, sym, ap, ◌∙◌}
use Rattle.hid_report.specs.Pointer.{find_for, first_element}
use Rattle.hid_report.specs.LayoutValue.{LayoutValue}
use Rattle.std.proofs.lemmas.List.{at_drop_more, at_drop_all}
use Rattle.hid_report.specs.declared.field.Field.{Field}
use Rattle.hid_report.specs.Keys.{press, press_all, down_for, down_usages, rolls_over_for}
use Rattle.psd_base.specs.KeySet.{no_keys}
use Rattle.std.specs.List.{list_any}

press_all-append : (keys : List Bool) (xs ys : List ℕ) → press_all keys (xs ++ ys) ≡ press_all (press_all keys xs) ys
unfolding press_all
press_all-append keys [] ys = refl
press_all-append keys (x ∷ xs) ys = press_all-append (press keys x) xs ys

pub press_all-none : (keys : List Bool) → press_all keys [] ≡ keys
unfolding press_all
press_all-none keys = refl

-- the keys of one field more
pub press-more : (keys : List Bool) (id : ℕ) (numbered : Bool) (report : List ℕ) (fields : List Field) (i : ℕ) (d : Field) → i < length fields
    → press_all keys (down_usages id numbered report (drop i fields))
    ≡ press_all (press_all keys (down_for id numbered report (get_or fields i d))) (down_usages id numbered report (drop (i + 1) fields))
unfolding down_usages
press-more keys id numbered report fields i d h =
    at_drop_more (λ xs. press_all keys (down_usages id numbered report xs)) fields i d h
    ∙ press_all-append keys (down_for id numbered report (get_or fields i d)) (down_usages id numbered report (drop (i + 1) fields))

pub press-end : (keys : List Bool) (id : ℕ) (numbered : Bool) (report : List ℕ) (fields : List Field) (i : ℕ) → length fields ≤ i
    → press_all keys (down_usages id numbered report (drop i fields)) ≡ keys
unfolding down_usages press_all
press-end keys id numbered report fields i h = at_drop_all (λ xs. press_all keys (down_usages id numbered report xs)) fields i h

-- a field that says no rollover
pub none-rolls : (test : Field → Bool) (fields : List Field) (i : ℕ) (field : Field) → i < length fields → field ≡ get_or fields i field → test field ≡ false
    → list_any test (drop i fields) ≡ list_any test (drop (i + 1) fields)
none-rolls test fields i field h is passed =
    let skipped : list_any test (field ∷ drop (i + 1) fields) ≡ list_any test (drop (i + 1) fields) = rw passed refl in
    at_drop_more (list_any test) fields i field h ∙ ap (λ f. list_any test (f ∷ drop (i + 1) fields)) (sym is) ∙ skipped

pub field-pressed : (before keys after : List Bool) (id : ℕ) (numbered : Bool) (report : List ℕ) (fields : List Field) (i : ℕ) (field : Field) → i < length fields
    → field ≡ get_or fields i field → before ≡ press_all keys (down_usages id numbered report (drop i fields)) → after ≡ press_all keys (down_for id numbered report field)
    → before ≡ press_all after (down_usages id numbered report (drop (i + 1) fields))
field-pressed before keys after id numbered report fields i field h is to_press pressed =
    to_press
    ∙ press-more keys id numbered report fields i field h
    ∙ ap (λ f. press_all (press_all keys (down_for id numbered report f)) (down_usages id numbered report (drop (i + 1) fields))) (sym is)
    ∙ ap (λ k. press_all k (down_usages id numbered report (drop (i + 1) fields))) (sym pressed)

pub all-pressed : (id : ℕ) (reading : LayoutValue) (report : List ℕ) (fields : List Field) (numbered : Bool) (keys : List Bool) (i : ℕ)
    → fields ≡ reading.fields → numbered ≡ reading.numbered → length fields ≤ i
    → list_any (rolls_over_for id numbered report) fields ≡ list_any (rolls_over_for id numbered report) (drop i fields)
    → press_all no_keys (down_usages id numbered report fields) ≡ press_all keys (down_usages id numbered report (drop i fields))
    → Some keys ≡ cond (not (list_any (rolls_over_for id reading.numbered report) reading.fields)) (Some (press_all no_keys (down_usages id reading.numbered report reading.fields))) None
all-pressed id reading report fields numbered keys i all same h rollover to_press =
    let none : list_any (rolls_over_for id reading.numbered report) reading.fields ≡ false =
    ap (list_any (rolls_over_for id reading.numbered report)) (sym all) ∙ ap (λ b. list_any (rolls_over_for id b report) fields) (sym same)
    ∙ rollover ∙ at_drop_all (list_any (rolls_over_for id numbered report)) fields i h in
    let pressed : press_all no_keys (down_usages id reading.numbered report reading.fields) ≡ keys =
    ap (λ fs. press_all no_keys (down_usages id reading.numbered report fs)) (sym all) ∙ ap (λ b. press_all no_keys (down_usages id b report fields)) (sym same)
    ∙ to_press ∙ press-end keys id numbered report fields i h in
    rw (none, pressed) refl

pub ruleset key_steps = (press-more, press-end, press_all-none)

-- the first element of a usage: in this field, in a later one, nowhere
pub first-here : (id usage : ℕ) (fields : List Field) (i j : ℕ) (field : Field) → i < length fields → field ≡ get_or fields i field → find_for id usage field ≡ Some j
    → first_element id usage (drop i fields) ≡ Some (record { field = field; place = j })
unfolding first_element
first-here id usage fields i j field h is found =
    at_drop_more (first_element id usage) fields i field h
    ∙ ap (λ f. first_element id usage (f ∷ drop (i + 1) fields)) (sym is)
    ∙ ap (λ (o : Option ℕ). elim o [ Some k ↦ Some (record { field = field; place = k }) | None ↦ first_element id usage (drop (i + 1) fields) ]) found

pub first-later : (id usage : ℕ) (fields : List Field) (i : ℕ) (field : Field) → i < length fields → field ≡ get_or fields i field → find_for id usage field ≡ None
    → first_element id usage (drop i fields) ≡ first_element id usage (drop (i + 1) fields)
unfolding first_element
first-later id usage fields i field h is found =
    at_drop_more (first_element id usage) fields i field h
    ∙ ap (λ f. first_element id usage (f ∷ drop (i + 1) fields)) (sym is)
    ∙ ap (λ (o : Option ℕ). elim o [ Some k ↦ Some (record { field = field; place = k }) | None ↦ first_element id usage (drop (i + 1) fields) ]) found
