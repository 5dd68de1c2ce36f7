-- What the usages of a field are looked through for.
use Rattle.std.specs.Prelude.{ℕ, Bool, false, Option, Some, None}
use Rattle.hid_report.specs.declared.field.Field.{Field}
use Rattle.hid_report.specs.declared.element.Wanted.{Wanted}
use Rattle.hid_report.specs.declared.element.Wanted.TheVariants as wanted
use Rattle.hid_report.specs.Elements.{is_key, takes, is_axis, is_key_field, is_pointer_field, is_absolute_field}

abbrev pub is_wanted : Wanted → Field → ℕ → Bool
is_wanted wanted.Key field usage = is_key usage
is_wanted wanted.Pointer field usage = takes field usage
is_wanted wanted.Axis field usage = is_axis usage

-- whether there is a usage, and it passes
abbrev pub is_one : (ℕ → Bool) → Option ℕ → Bool
is_one test None = false
is_one test (Some usage) = test usage

-- whether a field has what is wanted
abbrev pub is_usable : Wanted → Field → Bool
is_usable wanted.Key field = is_key_field field
is_usable wanted.Pointer field = is_pointer_field field
is_usable wanted.Axis field = is_absolute_field field
