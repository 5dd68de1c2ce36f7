-- A field with an absolute X or Y is among those that are left.
use Rattle.std.proofs.Common.{◌≡◌, drop}
use Rattle.std.specs.List.{list_any}
use Rattle.hid_report.specs.Elements.{is_absolute_field}
use Rattle.hid_report.proofs.layout.Layout.has_absolute.Given as goal

abbrev pub invariant-loop-field : goal.invariant-loop-field
invariant-loop-field l = list_any is_absolute_field l.field-items ≡ list_any is_absolute_field (drop l.field-index l.field-items)
