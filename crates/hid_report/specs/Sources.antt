-- What each usage of a pointer is read from, as it is found once and read at each report.
use Rattle.std.specs.Prelude.{ℕ, ◌+◌, ◌*◌, ◌/◌, ◌^◌, ◌≤◌, ◌≡◌, ◌&&◌, Bool, List, Option, Some, None, unwrap_or, if◌then◌else◌, ℤ, pos}
use Rattle.std.specs.Option.{option_map}
use Rattle.std.specs.Int.Signed.{lt_z, le_z}
use Rattle.psd_base.specs.declared.sample.Sample.{Sample}
use Rattle.hid_report.specs.declared.field.Field.{Field}
use Rattle.hid_report.specs.declared.report_form.ReportForm.{ReportForm}
use Rattle.hid_report.specs.declared.source.Source.{Source}
use Rattle.hid_report.specs.declared.pointer_report.PointerReport.{PointerReport}
use Rattle.hid_report.specs.Globals.{signed_value}
use Rattle.hid_report.specs.Elements.{raw_bits, first_bit, is_zero}
use Rattle.hid_report.specs.FlagRows.{row_of}
use Rattle.hid_report.specs.Keys.{is_report}
use Rattle.hid_report.specs.Pointer.{Element, first_element}

-- what element j of a field is read from
abbrev pub source_of : Bool → Field → ℕ → Source
source_of numbered field j = record {
  place = first_bit numbered + field.place + j * field.size;
  size = field.size;
  minimum = field.minimum;
  maximum = field.maximum;
}

abbrev pub value_by : ℕ → ℤ → ℕ → ℤ
value_by size minimum raw = if lt_z minimum (pos 0) then signed_value (2 ^ size / 2) raw else pos raw

-- the value of an element whose bits make this number, unless it is out of the logical bounds
abbrev pub bounded : ℕ → ℤ → ℤ → ℕ → Option ℤ
bounded size minimum maximum raw =
    let value = value_by size minimum raw in
    if le_z minimum value && le_z value maximum then Some value else None

unfoldable pub counted_by : Source → List ℕ → Option ℤ
counted_by source report =
    bounded source.size source.minimum source.maximum (raw_bits report source.place source.size)

abbrev pub counted_from : List ℕ → Option Source → Option ℤ
counted_from report None = None
counted_from report (Some source) = counted_by source report

-- what a report says by a source
abbrev pub value_from : List ℕ → Option Source → ℤ
value_from report source = unwrap_or (counted_from report source) (pos 0)

-- the weight of a button that is down
abbrev pub weight_from : List ℕ → Option Source → ℕ → ℕ
weight_from report source weight = if is_zero (value_from report source) then 0 else weight

-- the first element of this usage that is read, in the report of this ID
abbrev pub source_at : Bool → ℕ → ℕ → List Field → Option Source
source_at numbered id usage fields =
    option_map (λ (element : Element). source_of numbered element.field element.place) (first_element id usage fields)

-- the pointer report of this form, whose sources are these
abbrev pub report_by : ReportForm → (ℕ → Option Source) → PointerReport
report_by form source = record {
  form = form;
  row = row_of (source 0x9_0001) (source 0x9_0002) (source 0x9_0003) (source 0x9_0004) (source 0x9_0005);
  first = source 0x9_0001;
  second = source 0x9_0002;
  third = source 0x9_0003;
  fourth = source 0x9_0004;
  fifth = source 0x9_0005;
  x = source 0x1_0030;
  y = source 0x1_0031;
  wheel = source 0x1_0038;
}

-- the pointer report of this form
unfoldable pub report_in : Bool → List Field → ReportForm → PointerReport
report_in numbered fields form = report_by form (λ usage. source_at numbered form.id usage fields)

abbrev pub buttons_by : PointerReport → List ℕ → ℕ
buttons_by pointer report =
    weight_from report pointer.first 1
    + weight_from report pointer.second 2
    + weight_from report pointer.third 4
    + weight_from report pointer.fourth 8
    + weight_from report pointer.fifth 16

unfoldable pub sample_by : PointerReport → List ℕ → Sample
sample_by pointer report = record {
  buttons = buttons_by pointer report;
  x = value_from report pointer.x;
  y = value_from report pointer.y;
  wheel = value_from report pointer.wheel;
}

-- the form of a pointer report that there is
abbrev pub form_in : Option PointerReport → Option ReportForm
form_in = option_map (λ (pointer : PointerReport). pointer.form)

-- this pointer report is the one of its form in these fields
abbrev pub IsFoundIn : Bool → List Field → Option PointerReport → Type 0
IsFoundIn numbered fields pointer = pointer ≡ option_map (report_in numbered fields) (form_in pointer)

-- the sample of a report, by the pointer report that there is
abbrev pub pointer_by : Bool → Option PointerReport → List ℕ → Option Sample
pointer_by numbered None report = None
pointer_by numbered (Some pointer) report =
    if is_report pointer.form numbered report then Some (sample_by pointer report) else None

-- whether what is read has at most 16 bits
abbrev pub IsNarrow : Option Source → Type 0
IsNarrow None = Unit {0}
IsNarrow (Some source) = source.size ≤ 16

-- the motions are narrow, and the row is that of the buttons
pub record IsSound (pointer : PointerReport) : Type 0 where
  pub x : IsNarrow pointer.x
  pub y : IsNarrow pointer.y
  pub wheel : IsNarrow pointer.wheel
  pub row : pointer.row ≡ row_of pointer.first pointer.second pointer.third pointer.fourth pointer.fifth
