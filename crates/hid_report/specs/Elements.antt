-- The elements of a field: their usages, and their values in a report.
use Rattle.std.specs.Prelude.{ℕ, zero, suc, ◌+◌, ◌-◌, ◌*◌, ◌/◌, ◌%◌, ◌^◌, ◌==◌, nat_lt, nat_le, Bool, false, ◌&&◌, ◌||◌, not, List, [], ◌∷◌, ◌++◌, slice_index, Option, Some, None, if◌then◌else◌, ℤ, pos, ◌-ℤ◌}
use Rattle.std.specs.Option.{option_to_list}
use Rattle.std.specs.List.{list_any}
use Rattle.std.specs.Int.Signed.{lt_z, le_z}
use Rattle.std.specs.Int.RustNames.{unsigned_abs}
use Rattle.psd_base.specs.KeySet.{is_passed_on}
use Rattle.hid_report.specs.declared.field.Field.{Field}
use Rattle.hid_report.specs.declared.usage.Span.{Span}
use Rattle.hid_report.specs.Globals.{signed_value}

-- the usage at place n of a list of ranges; a range whose maximum is below its minimum gives none
unfoldable pub usage_at : List Span → ℕ → Option ℕ
usage_at [] n = None
usage_at (span ∷ spans) n =
    if nat_lt span.high span.low then usage_at spans n
    else if nat_le n (span.high - span.low) then Some (span.low + n)
    else usage_at spans (n - (span.high - span.low) - 1)

-- the last usage of a list of ranges, or `last` where there is none
unfoldable pub last_usage : Option ℕ → List Span → Option ℕ
last_usage last [] = last
last_usage last (span ∷ spans) = last_usage (if nat_lt span.high span.low then last else Some span.high) spans

-- the usage of element j of a variable item: the last one of the list counts on
abbrev pub element_usage : List Span → ℕ → Option ℕ
element_usage spans j = elim (usage_at spans j) [ Some usage ↦ Some usage | None ↦ last_usage None spans ]

-- the usages of n elements from element j on
unfoldable pub element_usages : List Span → ℕ → ℕ → List ℕ
element_usages spans j zero = []
element_usages spans j (suc n) = option_to_list (element_usage spans j) ++ element_usages spans (j + 1) n

-- a usage of page 7 (keyboard) that is passed on
abbrev pub is_key : ℕ → Bool
is_key usage = usage / 65536 == 7 && is_passed_on (usage % 65536)

-- the usages 1 to 3 of page 7, by which a keyboard says that it can't tell its keys
abbrev pub is_rollover : ℕ → Bool
is_rollover usage = nat_le 0x7_0001 usage && nat_le usage 0x7_0003

-- a button 1 to 5 of page 9
abbrev pub is_button : ℕ → Bool
is_button usage = nat_le 0x9_0001 usage && nat_le usage 0x9_0005

-- X or Y of page 1
abbrev pub is_axis : ℕ → Bool
is_axis usage = usage == 0x1_0030 || usage == 0x1_0031

abbrev pub is_wheel : ℕ → Bool
is_wheel usage = usage == 0x1_0038

-- whether an element of this usage is read as a button, or as a motion, which is relative and has at most 16 bits
abbrev pub takes : Field → ℕ → Bool
takes field usage =
    field.variable && (is_button usage || (field.relative && (nat_le field.size 16 && (is_axis usage || is_wheel usage))))

-- whether two ranges of usages meet, the second from `low` to `high`
abbrev pub meets : Span → ℕ → ℕ → Bool
meets span low high = nat_le span.low span.high && (nat_le span.low high && nat_le low span.high)

-- whether a range holds a usage of page 7 that is passed on
abbrev pub holds_key : Span → Bool
holds_key span = meets span 0x7_0004 0x7_00a4 || meets span 0x7_00e0 0x7_00e7

-- the usages of a field's elements
abbrev pub usages_of : Field → List ℕ
usages_of field = element_usages field.spans.items 0 field.count

-- a usable key field
abbrev pub is_key_field : Field → Bool
is_key_field field =
    if field.variable then list_any is_key (usages_of field)
    else nat_lt 0 field.count && list_any holds_key field.spans.items

-- a usable pointer field
abbrev pub is_pointer_field : Field → Bool
is_pointer_field field = list_any (takes field) (usages_of field)

-- a field with an X or Y that isn't relative
abbrev pub is_absolute_field : Field → Bool
is_absolute_field field = field.variable && (not field.relative && list_any is_axis (usages_of field))

-- a bit of a report, from the least significant bit of the first byte
abbrev pub bit_of : List ℕ → ℕ → ℕ
bit_of report place = slice_index report (place / 8) / 2 ^ (place % 8) % 2

-- the number that n bits of a report make, the least significant first
unfoldable pub raw_bits : List ℕ → ℕ → ℕ → ℕ
raw_bits report place zero = 0
raw_bits report place (suc n) = raw_bits report place n + bit_of report (place + n) * 2 ^ n

-- an element's value: two's complement where the logical minimum is negative
abbrev pub value_of : Field → ℕ → ℤ
value_of field raw = if lt_z field.minimum (pos 0) then signed_value (2 ^ field.size / 2) raw else pos raw

-- a value within the logical bounds
abbrev pub is_counted : Field → ℤ → Bool
is_counted field value = le_z field.minimum value && le_z value field.maximum

-- the bits before the first field
abbrev pub first_bit : Bool → ℕ
first_bit numbered = if numbered then 8 else 0

-- the value of element j of a field, unless it is out of the logical bounds
unfoldable pub counted : Field → Bool → List ℕ → ℕ → Option ℤ
counted field numbered report j =
    let value = value_of field (raw_bits report (first_bit numbered + field.place + j * field.size) field.size) in
    if is_counted field value then Some value else None

abbrev pub is_zero : ℤ → Bool
is_zero (pos n) = n == 0
is_zero _ = false

-- the usage that element j says is down: that of a variable element that isn't 0, or the one that an array
-- element's value names
unfoldable pub down_usage : Field → Bool → List ℕ → ℕ → Option ℕ
down_usage field numbered report j = elim (counted field numbered report j) [
  | None ↦ None
  | Some value ↦
      if field.variable
      then (if is_zero value then None else element_usage field.spans.items j)
      else usage_at field.spans.items (unsigned_abs (value -ℤ field.minimum))
]

-- the same of n elements from element j on
unfoldable pub down_from : Field → Bool → List ℕ → ℕ → ℕ → List ℕ
down_from field numbered report j zero = []
down_from field numbered report j (suc n) =
    option_to_list (down_usage field numbered report j) ++ down_from field numbered report (j + 1) n

abbrev pub down_in : Field → Bool → List ℕ → List ℕ
down_in field numbered report = down_from field numbered report 0 field.count
