-- The usages that the elements of an array field name.
use Rattle.std.specs.Prelude.{ℕ, Bool, true, ◌&&◌, not, List, Option, Some, None, ◌-ℤ◌}
use Rattle.std.specs.Int.RustNames.{unsigned_abs}
use Rattle.hid_report.specs.declared.field.Field.{Field}
use Rattle.hid_report.specs.Elements.{usage_at, is_key, is_rollover}
use Rattle.hid_report.specs.Keys.{press}
use Rattle.hid_report.specs.Sources.{bounded}

-- the usage that an element of this number names
abbrev pub named_by : Field → ℕ → Option ℕ
named_by field raw = elim (bounded field.size field.minimum field.maximum raw) [
  | None ↦ None
  | Some value ↦ usage_at field.spans.items (unsigned_abs (value -ℤ field.minimum))
]

-- neither a key that is passed on nor a rollover usage
abbrev pub is_idle : Option ℕ → Bool
is_idle None = true
is_idle (Some usage) = not (is_rollover usage) && not (is_key usage)

abbrev pub press_one : List Bool → Option ℕ → List Bool
press_one keys None = keys
press_one keys (Some usage) = press keys usage
