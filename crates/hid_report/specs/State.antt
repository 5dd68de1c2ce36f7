-- What the pass over a report descriptor holds after some of its items.
use Rattle.std.specs.Prelude.{◌≡◌, ℕ, zero, suc, ◌+◌, ◌*◌, ◌/◌, ◌<◌, ◌≤◌, ◌==◌, nat_lt, Bool, true, ◌&&◌, ◌||◌, List, [], ◌∷◌, ◌++◌, length, slice_index, slice_set, map, Option, Some, None, Result, Ok, Err, if◌then◌else◌}
use Rattle.hid_report.specs.declared.item.Item.{Item}
use Rattle.hid_report.specs.declared.item.Entry.{Entry}
use Rattle.hid_report.specs.declared.report_form.ReportForm.{ReportForm}
use Rattle.hid_report.specs.Items.{first_item}
use Rattle.hid_report.specs.Faults.{fault_of}
use Rattle.hid_report.specs.declared.item.Flags.{Flags}
use Rattle.hid_report.specs.declared.item.Datum.{Datum}
use Rattle.hid_report.specs.declared.item.Global.{Global}
use Rattle.hid_report.specs.declared.item.Global.TheVariants.{ReportId}
use Rattle.hid_report.specs.declared.globals.Globals.{Globals}
use Rattle.hid_report.specs.declared.field.Field.{Field}
use Rattle.hid_report.specs.declared.pass.Pass.{Pass}
use Rattle.hid_report.specs.declared.fault.LayoutWhy.{LayoutWhy}
use Rattle.hid_report.specs.declared.fault.LayoutWhy.TheVariants as why
use Rattle.hid_report.specs.Globals.{with_global, globals, globals_at, open_pushes, open_collections, signed_datum}
use Rattle.hid_report.specs.Usages.{usages, waiting_minimum, span_of, ends_range}
use Rattle.hid_report.specs.Bits.{report_bits, is_numbered}
use Rattle.hid_report.specs.Fields.{fields, logical_maximum}

-- the values to which the open Pushes return, the oldest first: the newest is what stands one Pop further on
unfoldable pub saved_globals : ℕ → ℕ → List Item → List Globals
saved_globals closed zero past = []
saved_globals closed (suc pushes) past = saved_globals (suc closed) pushes past ++ globals_at (suc closed) past ∷ []

-- the values of a function at 0, 1 and so on
unfoldable pub table : {A : Type 0} → ℕ → (ℕ → A) → List A
table zero f = []
table (suc n) f = f 0 ∷ table n (λ k. f (suc k))

-- the pass after these items
unfoldable pub state : List Item → Pass
state past = record {
  current = globals past;
  saved = record { items = saved_globals 0 (open_pushes past) past };
  usages = record { items = usages past };
  minimum = waiting_minimum past;
  depth = open_collections past;
  fields = record { items = fields past };
  bits = table 256 (λ id. report_bits id past);
  numbered = is_numbered past;
}

abbrev pub verdict : Option LayoutWhy → Result (Unit {0}) LayoutWhy
verdict None = Ok tt
verdict (Some cause) = Err cause

-- the bits that the report of the present ID has after one more Input item
abbrev pub grown_bits : Pass → ℕ
grown_bits pass = slice_index pass.bits pass.current.id + pass.current.size * pass.current.count

abbrev pub is_grown_long : Pass → Bool
is_grown_long pass = nat_lt 512 (grown_bits pass + (if pass.numbered then 8 else 0))

-- what the next field would be refused for
abbrev pub field_fault : Pass → Option LayoutWhy
field_fault pass =
    if pass.current.size == 0 && nat_lt 0 pass.current.count then Some why.ZeroSize
    else if nat_lt 64 (length pass.fields.items + 1) then Some why.Fields
    else if nat_lt 32 pass.current.size then Some why.Wide
    else None

-- what an Input item would be refused for
abbrev pub input_fault : Flags → Pass → Option LayoutWhy
input_fault flags pass = elim (if flags.constant then None else field_fault pass) [
  | Some cause ↦ Some cause
  | None ↦ if is_grown_long pass then Some why.Long else None
]

abbrev pub next_field : Flags → Pass → Field
next_field flags pass = record {
  id = pass.current.id;
  place = slice_index pass.bits pass.current.id;
  size = pass.current.size;
  count = pass.current.count;
  variable = flags.variable;
  relative = flags.relative;
  minimum = signed_datum pass.current.minimum;
  maximum = logical_maximum pass.current;
  spans = record { items = map (span_of pass.current.page) pass.usages.items };
}

abbrev pub without_locals : Pass → Pass
without_locals pass = record pass { usages = record { items = [] }; minimum = None }

abbrev pub with_field : Flags → Pass → Pass
with_field flags pass =
    if flags.constant then pass
    else record pass { fields = record { items = pass.fields.items ++ next_field flags pass ∷ [] } }

-- the pass after an Input item that isn't refused
abbrev pub with_input : Flags → Pass → Pass
with_input flags pass =
    without_locals (record (with_field flags pass) { bits = slice_set pass.bits pass.current.id (grown_bits pass) })

abbrev pub id_fault : Datum → Pass → Option LayoutWhy
id_fault datum pass =
    if datum.raw == 0 || nat_lt 255 datum.raw then Some why.BadId
    else if nat_lt 512 (slice_index pass.bits 0 + 8) then Some why.Long
    else None

abbrev pub global_fault : Global → Datum → Pass → Option LayoutWhy
global_fault ReportId datum pass = id_fault datum pass
global_fault _ datum pass = None

-- the pass after a global item that isn't refused
abbrev pub after_global : Global → Datum → Pass → Pass
after_global ReportId datum pass = record pass { current = with_global ReportId datum pass.current; numbered = true }
after_global tag datum pass = record pass { current = with_global tag datum pass.current }

-- what a Usage Maximum would be refused for
abbrev pub maximum_fault : Datum → Pass → Option LayoutWhy
maximum_fault high pass =
    if ends_range pass.current.page pass.minimum high && nat_lt 32 (length pass.usages.items + 1)
    then Some why.Usages
    else None

-- the form of the report of this ID
abbrev pub form_in : Pass → ℕ → ReportForm
form_in pass id = record { id = id; length = (slice_index pass.bits id + (if pass.numbered then 8 else 0) + 7) / 8 }

-- what the first item of these bytes is refused for after `past`
abbrev pub refusal : List Item → List ℕ → Option LayoutWhy
refusal past bytes = elim (first_item bytes) [ None ↦ Some why.Truncated | Some entry ↦ fault_of past entry.item ]

-- the first item of these bytes, of this length, is taken after `past`
pub record Takes (past : List Item) (bytes : List ℕ) (size : ℕ) (new : Pass) : Type 0 where
  pub entry : Entry
  pub is_first : first_item bytes ≡ Some entry
  pub size_is : entry.length ≡ size
  pub some : 0 < size
  pub within : size ≤ length bytes
  pub passes : fault_of past entry.item ≡ None
  pub stands : new ≡ state (entry.item ∷ past)
