-- Fields all of whose bits are 0 in a report.
use Rattle.std.proofs.Common.{◌≡◌, ℕ, zero, suc, ◌+◌, ◌*◌, ◌/◌, ◌^◌, ◌<◌, Bool, true, false, cond, List, [], ◌++◌, Option, Some, None, refl, sym, ap, ◌∙◌, arith, nat_lt, ℤ, pos, ◌-ℤ◌}
use Rattle.std.proofs.lemmas.Nat.{pow_pos}
use Rattle.std.proofs.lemmas.Bool.Decides.{nat_tests}
use Rattle.std.specs.Int.Signed.{lt_z}
use Rattle.std.specs.Int.RustNames.{unsigned_abs}
use Rattle.std.specs.Option.{option_to_list}
use Rattle.hid_report.specs.declared.field.Field.{Field}
use Rattle.hid_report.specs.Globals.{signed_value}
use Rattle.hid_report.proofs.ElementLaws.{raw_bits-none, raw_bits-suc}
use Rattle.hid_report.specs.Elements.{bit_of, raw_bits, first_bit, value_of, is_counted, counted, is_zero, element_usage, usage_at, down_usage, down_from}

none-of : (a b : ℕ) → a + b ≡ 0 → a ≡ 0
none-of a b h = omega arith

none-weighed : (value bit weight : ℕ) → 0 < weight → value + bit * weight ≡ 0 → bit ≡ 0
none-weighed value zero weight some h = refl
none-weighed value (suc bit) weight some h = absurd (omega arith)

none-joined : (value bit weight : ℕ) → value ≡ 0 → bit ≡ 0 → value + bit * weight ≡ 0
none-joined value bit weight h k = rw (h, k) (omega arith)

-- where a number's bits are all 0, so are those of a number within it
blank-start : (report : List ℕ) (place n more : ℕ) → raw_bits report place (n + more) ≡ 0 → raw_bits report place n ≡ 0
blank-start report place n zero h = let same : n + 0 ≡ n = omega arith in sym (ap (raw_bits report place) same) ∙ h
blank-start report place n (suc more) h =
    let one_more : n + suc more ≡ suc (n + more) = omega arith in
    let split = sym (raw_bits-suc report place (n + more)) ∙ sym (ap (raw_bits report place) one_more) ∙ h in
    blank-start report place n more (none-of (raw_bits report place (n + more)) (bit_of report (place + (n + more)) * 2 ^ (n + more)) split)

blank-end : (report : List ℕ) (place n k : ℕ) → raw_bits report place (n + k) ≡ 0 → raw_bits report (place + n) k ≡ 0
blank-end report place n zero h = raw_bits-none report (place + n)
blank-end report place n (suc k) h =
    let one_more : n + suc k ≡ suc (n + k) = omega arith in
    let split = sym (raw_bits-suc report place (n + k)) ∙ sym (ap (raw_bits report place) one_more) ∙ h in
    let bit = none-weighed (raw_bits report place (n + k)) (bit_of report (place + (n + k))) (2 ^ (n + k)) (pow_pos (n + k)) split in
    let before = blank-end report place n k (none-of (raw_bits report place (n + k)) (bit_of report (place + (n + k)) * 2 ^ (n + k)) split) in
    let along : place + n + k ≡ place + (n + k) = omega arith in
    raw_bits-suc report (place + n) k ∙ none-joined (raw_bits report (place + n) k) (bit_of report (place + n + k)) (2 ^ k) before (ap (bit_of report) along ∙ bit)

-- the value of an element whose bits are all 0
signed-none : (half : ℕ) → signed_value half 0 ≡ pos 0
signed-none zero = refl
signed-none (suc half) = let below : nat_lt 0 (suc half) ≡ true = grind (arith, nat_tests) in rw below refl

value-none : (field : Field) → value_of field 0 ≡ pos 0
value-none field = by_sign (lt_z field.minimum (pos 0))
  where
    by_sign : (negative : Bool) → cond negative (signed_value (2 ^ field.size / 2) 0) (pos 0) ≡ pos 0
    by_sign true = signed-none (2 ^ field.size / 2)
    by_sign false = refl

-- what an element of this value says is down
abbrev down_at : Field → ℕ → Option ℤ → Option ℕ
down_at field j None = None
down_at field j (Some value) =
    cond field.variable (cond (is_zero value) None (element_usage field.spans.items j)) (usage_at field.spans.items (unsigned_abs (value -ℤ field.minimum)))

abbrev counted_at : Field → ℤ → Option ℤ
counted_at field value = cond (is_counted field value) (Some value) None

at-bounds : (field : Field) (j : ℕ) (within : Bool) → field.variable ≡ true → down_at field j (cond within (Some (pos 0)) None) ≡ None
at-bounds field j false variable = refl
at-bounds field j true variable = rw variable refl

element-blank : (field : Field) (numbered : Bool) (report : List ℕ) (j : ℕ) → field.variable ≡ true
    → raw_bits report (first_bit numbered + field.place + j * field.size) field.size ≡ 0 → down_usage field numbered report j ≡ None
unfolding down_usage counted
element-blank field numbered report j variable h =
    ap (λ raw. down_at field j (counted_at field (value_of field raw))) h
    ∙ ap (λ value. down_at field j (counted_at field value)) (value-none field)
    ∙ at-bounds field j (is_counted field (pos 0)) variable

blank-from : (field : Field) (numbered : Bool) (report : List ℕ) (j n : ℕ) → field.variable ≡ true
    → raw_bits report (first_bit numbered + field.place) ((j + n) * field.size) ≡ 0 → down_from field numbered report j n ≡ []
unfolding down_from
blank-from field numbered report j zero variable h = refl
blank-from field numbered report j (suc n) variable h =
    let parts : (j + suc n) * field.size ≡ j * field.size + field.size + n * field.size = omega arith in
    let same : (j + suc n) * field.size ≡ (j + 1 + n) * field.size = omega arith in
    let place : ℕ = first_bit numbered + field.place in
    let upto = blank-start report place (j * field.size + field.size) (n * field.size) (sym (ap (raw_bits report place) parts) ∙ h) in
    let element = element-blank field numbered report j variable (blank-end report place (j * field.size) field.size upto) in
    let later = blank-from field numbered report (j + 1) n variable (sym (ap (raw_bits report place) same) ∙ h) in
    ap (λ o. option_to_list o ++ down_from field numbered report (j + 1) n) element ∙ later

-- a variable field all of whose bits are 0
pub blank-field : (field : Field) (numbered : Bool) (report : List ℕ) (bits : ℕ) → field.variable ≡ true → bits ≡ field.count * field.size
    → raw_bits report (first_bit numbered + field.place) bits ≡ 0 → down_from field numbered report 0 field.count ≡ []
blank-field field numbered report bits variable all h =
    let place : ℕ = first_bit numbered + field.place in
    let start : 0 + field.count ≡ field.count = omega arith in
    blank-from field numbered report 0 field.count variable (ap (λ n. raw_bits report place (n * field.size)) start ∙ sym (ap (raw_bits report place) all) ∙ h)

pub ruleset blank_fields = (blank-field)
