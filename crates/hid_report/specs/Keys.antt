-- The keys that a report says are down.
use Rattle.std.specs.Prelude.{ℕ, ◌%◌, ◌==◌, nat_lt, Bool, ◌&&◌, ◌||◌, not, List, [], ◌∷◌, ◌++◌, length, slice_index, Option, Some, None, if◌then◌else◌}
use Rattle.std.specs.List.{list_any}
use Rattle.psd_base.specs.KeySet.{no_keys, with_key}
use Rattle.hid_report.specs.declared.field.Field.{Field}
use Rattle.hid_report.specs.declared.report_form.ReportForm.{ReportForm}
use Rattle.hid_report.specs.Elements.{is_key, is_rollover, down_in}
use Rattle.hid_report.specs.LayoutValue.{LayoutValue}

-- the set with this usage, if it is one that is passed on
abbrev pub press : List Bool → ℕ → List Bool
press keys usage = if is_key usage then with_key keys (usage % 65536) else keys

-- the set with all of these usages that are passed on
unfoldable pub press_all : List Bool → List ℕ → List Bool
press_all keys [] = keys
press_all keys (usage ∷ usages) = press_all (press keys usage) usages

-- whether bytes are a report of this form
abbrev pub is_report : ReportForm → Bool → List ℕ → Bool
is_report form numbered report =
    length report == form.length && (not numbered || (nat_lt 0 (length report) && slice_index report 0 == form.id))

-- the usages of this field that are down, if it is one of the report of this ID
abbrev pub down_for : ℕ → Bool → List ℕ → Field → List ℕ
down_for id numbered report field = if field.id == id then down_in field numbered report else []

-- the usages that are down in a report of this ID
unfoldable pub down_usages : ℕ → Bool → List ℕ → List Field → List ℕ
down_usages id numbered report [] = []
down_usages id numbered report (field ∷ fields) = down_for id numbered report field ++ down_usages id numbered report fields

-- whether an array element of this field, if it is one of the report of this ID, names a rollover usage
abbrev pub rolls_over_for : ℕ → Bool → List ℕ → Field → Bool
rolls_over_for id numbered report field =
    field.id == id && (not field.variable && list_any is_rollover (down_in field numbered report))

-- The keys of a report: the usages that are passed on of the elements that are down. None where there is no
-- usable key field, where the bytes aren't a key report, or where the keyboard can't tell its keys.
unfoldable pub keys_of : LayoutValue → List ℕ → Option (List Bool)
keys_of reading report = elim reading.keys [
  | None ↦ None
  | Some form ↦
      if is_report form reading.numbered report
      && not (list_any (rolls_over_for form.id reading.numbered report) reading.fields)
      then Some (press_all no_keys (down_usages form.id reading.numbered report reading.fields))
      else None
]
