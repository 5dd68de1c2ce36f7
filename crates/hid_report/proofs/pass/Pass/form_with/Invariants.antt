-- The first usable field is among those that are left.
use Rattle.std.proofs.Common.{◌≡◌, drop}
use Rattle.std.specs.List.{find}
use Rattle.hid_report.specs.Wanted.{is_usable}
use Rattle.hid_report.proofs.pass.Pass.form_with.Given as goal

abbrev pub invariant-loop-field : goal.invariant-loop-field
invariant-loop-field l = find (is_usable l.wanted) l.field-items ≡ find (is_usable l.wanted) (drop l.field-index l.field-items)
