-- The elements of an array field that are whole bytes.
use Rattle.std.proofs.Common.{◌≡◌, ℕ, ◌+◌, ◌-◌, ◌*◌, ◌/◌, ◌%◌, ◌^◌, ◌<◌, Bool, true, false, cond, not, ◌&&◌, List, ◌++◌, slice_index, Option, Some, None, refl, sym, ap, ◌∙◌, arith, ◌-ℤ◌}
use Rattle.std.specs.List.{list_any}
use Rattle.std.specs.Option.{option_to_list}
use Rattle.std.specs.Int.RustNames.{unsigned_abs}
use Rattle.hid_report.specs.declared.field.Field.{Field}
use Rattle.hid_report.specs.Elements.{raw_bits, first_bit, value_of, is_counted, counted, is_key, is_rollover, usage_at, element_usage, is_zero, down_usage, down_from}
use Rattle.psd_base.specs.KeySet.{with_key}
use Rattle.hid_report.specs.Wanted.{is_one}
use Rattle.hid_report.specs.Keys.{press_all}
use Rattle.hid_report.specs.Arrays.{named_by, is_idle, press_one}
use Rattle.hid_report.proofs.ElementLaws.{raw_bits-one, down_from-more, one-true, one-false}

-- an element that is known to name nothing
pub idle-rolls : (o : Option ℕ) → is_idle o ≡ true → false ≡ is_one is_rollover o
idle-rolls None h = refl
idle-rolls (Some usage) h = by_tests (is_rollover usage) (is_key usage) h
  where
    by_tests : (rolls key : Bool) → (not rolls && not key) ≡ true → false ≡ rolls
    by_tests false key h = refl
    by_tests true key h = absurd (cc)

pub idle-presses : (keys : List Bool) (o : Option ℕ) → is_idle o ≡ true → keys ≡ press_one keys o
idle-presses keys None h = refl
idle-presses keys (Some usage) h = by_tests (is_rollover usage) (is_key usage) (with_key keys (usage % 65536)) h
  where
    by_tests : (rolls key : Bool) (pressed : List Bool) → (not rolls && not key) ≡ true → keys ≡ cond key pressed keys
    by_tests rolls false pressed h = refl
    by_tests true true pressed h = absurd (cc)
    by_tests false true pressed h = absurd (cc)

pub ruleset idle_steps = (idle-rolls, idle-presses)

-- a byte
pub byte-at : (report : List ℕ) (place start byte : ℕ) → place ≡ start * 8 → byte ≡ slice_index report start → byte < 256 → raw_bits report place 8 ≡ byte
byte-at report place start byte is read small =
    let even : place % 8 ≡ 0 = omega (arith, is) in
    let index : place / 8 ≡ start = omega (arith, is) in
    raw_bits-one report place 8 (omega (arith, even))
    ∙ ap (λ i. slice_index report i / 2 ^ (place % 8) % 256) index
    ∙ ap (λ s. slice_index report start / 2 ^ s % 256) even
    ∙ ap (λ b. b / 1 % 256) (sym read)
    ∙ omega (arith, small)

array-usage : (field : Field) (numbered : Bool) (report : List ℕ) (j raw : ℕ) → field.variable ≡ false
    → raw_bits report (first_bit numbered + field.place + j * field.size) field.size ≡ raw → down_usage field numbered report j ≡ named_by field raw
unfolding down_usage counted
array-usage field numbered report j raw array is =
    ap (λ variable. by_kind variable (raw_bits report (first_bit numbered + field.place + j * field.size) field.size)) array
    ∙ ap (by_kind false) is
  where
    by_kind : Bool → ℕ → Option ℕ
    by_kind variable raw = elim (cond (is_counted field (value_of field raw)) (Some (value_of field raw)) None) [
      | None ↦ None
      | Some value ↦
          cond variable
          (cond (is_zero value) None (element_usage field.spans.items j))
          (usage_at field.spans.items (unsigned_abs (value -ℤ field.minimum)))
    ]

pub byte-usage : (field : Field) (numbered : Bool) (report : List ℕ) (start j byte : ℕ) → field.variable ≡ false → field.size ≡ 8
    → first_bit numbered + field.place ≡ start * 8 → byte ≡ slice_index report (start + j) → byte < 256
    → down_usage field numbered report j ≡ named_by field byte
byte-usage field numbered report start j byte array size place read small =
    let at : first_bit numbered + field.place + j * 8 ≡ (start + j) * 8 = omega (arith, place) in
    let all : first_bit numbered + field.place + j * field.size ≡ first_bit numbered + field.place + j * 8 =
    ap (λ s. first_bit numbered + field.place + j * s) size in
    array-usage field numbered report j byte array (
    ap (λ s. raw_bits report (first_bit numbered + field.place + j * field.size) s) size
    ∙ byte-at report (first_bit numbered + field.place + j * field.size) (start + j) byte (all ∙ at) read small
    )

-- one element more
press-one_more : (keys : List Bool) (o : Option ℕ) (rest : List ℕ) → press_all keys (option_to_list o ++ rest) ≡ press_all (press_one keys o) rest
unfolding press_all
press-one_more keys None rest = refl
press-one_more keys (Some usage) rest = refl

pub pressed-more : (before keys after : List Bool) (field : Field) (numbered : Bool) (report : List ℕ) (j n : ℕ) (o : Option ℕ) → j < n
    → down_usage field numbered report j ≡ o → before ≡ press_all keys (down_from field numbered report j (n - j)) → after ≡ press_one keys o
    → before ≡ press_all after (down_from field numbered report (j + 1) (n - (j + 1)))
pressed-more before keys after field numbered report j n o h is from to =
    from ∙ ap (press_all keys) (down_from-more field numbered report j n h)
    ∙ ap (λ u. press_all keys (option_to_list u ++ down_from field numbered report (j + 1) (n - (j + 1)))) is
    ∙ press-one_more keys o (down_from field numbered report (j + 1) (n - (j + 1)))
    ∙ ap (λ k. press_all k (down_from field numbered report (j + 1) (n - (j + 1)))) (sym to)

pub passed-more : (field : Field) (numbered : Bool) (report : List ℕ) (j n : ℕ) (o : Option ℕ) → j < n → down_usage field numbered report j ≡ o
    → is_one is_rollover o ≡ false
    → list_any is_rollover (down_from field numbered report j (n - j)) ≡ list_any is_rollover (down_from field numbered report (j + 1) (n - (j + 1)))
passed-more field numbered report j n o h is passes =
    ap (list_any is_rollover) (down_from-more field numbered report j n h)
    ∙ ap (λ u. list_any is_rollover (option_to_list u ++ down_from field numbered report (j + 1) (n - (j + 1)))) is
    ∙ one-false is_rollover o (down_from field numbered report (j + 1) (n - (j + 1))) passes

pub rolls-here : (field : Field) (numbered : Bool) (report : List ℕ) (j n : ℕ) (o : Option ℕ) → j < n → down_usage field numbered report j ≡ o
    → is_one is_rollover o ≡ true → list_any is_rollover (down_from field numbered report j (n - j)) ≡ true
rolls-here field numbered report j n o h is rolls =
    ap (list_any is_rollover) (down_from-more field numbered report j n h)
    ∙ ap (λ u. list_any is_rollover (option_to_list u ++ down_from field numbered report (j + 1) (n - (j + 1)))) is
    ∙ one-true is_rollover o (down_from field numbered report (j + 1) (n - (j + 1))) rolls
