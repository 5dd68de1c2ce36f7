-- The first element of the usage is in the fields that are left.
use Rattle.std.proofs.Common.{◌≡◌, drop}
use Rattle.hid_report.specs.Pointer.{first_element}
use Rattle.hid_report.proofs.pointer_report.source_in.Given as goal

abbrev pub invariant-loop-field : goal.invariant-loop-field
invariant-loop-field l = first_element l.id l.usage l.fields ≡ first_element l.id l.usage (drop l.field-index l.fields)
