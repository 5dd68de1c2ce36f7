-- What a report descriptor says: its layout.
use Rattle.std.specs.Prelude.{ℕ, ◌+◌, ◌/◌, Bool, List, [], ◌∷◌, Option, Result, Ok, Err}
use Rattle.std.specs.Option.{option_map}
use Rattle.std.specs.List.{find}
use Rattle.hid_report.specs.declared.item.Item.{Item}
use Rattle.hid_report.specs.declared.field.Field.{Field}
use Rattle.hid_report.specs.declared.report_form.ReportForm.{ReportForm}
use Rattle.hid_report.specs.declared.fault.LayoutFault.{LayoutFault}
use Rattle.hid_report.specs.Items.{items, places}
use Rattle.hid_report.specs.Bits.{is_numbered, whole_bits}
use Rattle.hid_report.specs.Fields.{fields}
use Rattle.hid_report.specs.Faults.{faults}
use Rattle.hid_report.specs.Elements.{is_key_field, is_pointer_field}

-- the layout: the fields in order, whether the reports have an ID byte, and the forms of the key report and
-- of the pointer report
pub record LayoutValue : Type 0 where
  pub fields : List Field
  pub numbered : Bool
  pub keys : Option ReportForm
  pub pointer : Option ReportForm

-- the form of the report of this ID: its bits rounded up to bytes, and the ID byte
abbrev pub form_of : List Item → ℕ → ReportForm
form_of past id = record { id = id; length = (whole_bits id past + 7) / 8 }

-- the report with the first field that passes
abbrev pub form_with : (Field → Bool) → List Item → Option ReportForm
form_with test past = option_map (λ field. form_of past field.id) (find test (fields past))

-- the layout of these items
unfoldable pub reading_of : List Item → LayoutValue
reading_of past = record {
  fields = fields past;
  numbered = is_numbered past;
  keys = form_with is_key_field past;
  pointer = form_with is_pointer_field past;
}

-- the layout of a report descriptor, or its first fault
unfoldable pub layout_of : List ℕ → Result LayoutValue LayoutFault
layout_of bytes = elim (faults [] (places 0 0 bytes)) [ [] ↦ Ok (reading_of (items bytes)) | fault ∷ later ↦ Err fault ]
