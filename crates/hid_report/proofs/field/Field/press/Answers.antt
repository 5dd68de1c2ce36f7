-- A field all of whose bits are 0 adds no key.
use Rattle.std.proofs.Common.{sym, ap, ◌∙◌}
use Rattle.hid_report.specs.Keys.{press_all}
use Rattle.hid_report.proofs.ReportLaws.{press_all-none}
use Rattle.hid_report.proofs.field.Field.press.Goals as goal

pub returns-then-is_blank : goal.returns-then-is_blank
returns-then-is_blank c =
    let none = c.is_blank.ensures c.if-is_blank.true in
    sym (ap (press_all c.args.keys.now) none ∙ press_all-none c.args.keys.now)
