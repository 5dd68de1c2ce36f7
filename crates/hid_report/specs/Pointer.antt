-- The buttons and the motion that a report says.
use Rattle.std.specs.Prelude.{ℕ, zero, suc, ◌+◌, ◌==◌, Bool, false, ◌&&◌, List, [], ◌∷◌, Option, Some, None, unwrap_or, if◌then◌else◌, ℤ, pos, negsuc, ◌≤ℤ◌}
use Rattle.psd_base.specs.declared.sample.Sample.{Sample}
use Rattle.hid_report.specs.declared.field.Field.{Field}
use Rattle.hid_report.specs.declared.usage.Span.{Span}
use Rattle.hid_report.specs.Elements.{element_usage, takes, counted, is_zero}
use Rattle.hid_report.specs.Keys.{is_report}
use Rattle.hid_report.specs.LayoutValue.{LayoutValue}

abbrev pub is_usage : ℕ → Option ℕ → Bool
is_usage wanted None = false
is_usage wanted (Some usage) = usage == wanted

-- the first of n elements, from element j on, that has this usage
unfoldable pub find_element : ℕ → List Span → ℕ → ℕ → Option ℕ
find_element wanted spans j zero = None
find_element wanted spans j (suc n) =
    if is_usage wanted (element_usage spans j) then Some j else find_element wanted spans (j + 1) n

-- an element of a field
pub record Element : Type 0 where
  pub field : Field
  pub place : ℕ

-- the first element of this usage in a field, if the field is one of the report of this ID and the usage is read
abbrev pub find_for : ℕ → ℕ → Field → Option ℕ
find_for id usage field =
    if field.id == id && takes field usage then find_element usage field.spans.items 0 field.count else None

-- the first element of this usage that is read, in the report of this ID
unfoldable pub first_element : ℕ → ℕ → List Field → Option Element
first_element id usage [] = None
first_element id usage (field ∷ fields) = elim (find_for id usage field) [
  | Some j ↦ Some (record { field = field; place = j })
  | None ↦ first_element id usage fields
]

abbrev pub counted_in : Bool → List ℕ → Option Element → Option ℤ
counted_in numbered report None = None
counted_in numbered report (Some element) = counted element.field numbered report element.place

-- what a report says of a usage: 0 where no element has it or its value is out of the logical bounds
unfoldable pub value_in : ℕ → LayoutValue → List ℕ → ℕ → ℤ
value_in id reading report usage =
    unwrap_or (counted_in reading.numbered report (first_element id usage reading.fields)) (pos 0)

-- the weight of a button that is down
abbrev pub button_bit : ℕ → LayoutValue → List ℕ → ℕ → ℕ → ℕ
button_bit id reading report usage weight = if is_zero (value_in id reading report usage) then 0 else weight

unfoldable pub sample_of : ℕ → LayoutValue → List ℕ → Sample
sample_of id reading report = record {
  buttons =
      button_bit id reading report 0x9_0001 1
      + button_bit id reading report 0x9_0002 2
      + button_bit id reading report 0x9_0003 4
      + button_bit id reading report 0x9_0004 8
      + button_bit id reading report 0x9_0005 16;
  x = value_in id reading report 0x1_0030;
  y = value_in id reading report 0x1_0031;
  wheel = value_in id reading report 0x1_0038;
}

-- The sample of a report. None where there is no usable pointer field or the bytes aren't a pointer report.
unfoldable pub pointer_of : LayoutValue → List ℕ → Option Sample
pointer_of reading report = elim reading.pointer [
  | None ↦ None
  | Some form ↦ if is_report form reading.numbered report then Some (sample_of form.id reading report) else None
]

-- a number of 16 bits, with or without a sign
pub record IsSmall (value : ℤ) : Type 0 where
  pub low : negsuc 65535 ≤ℤ value
  pub high : value ≤ℤ pos 65535
