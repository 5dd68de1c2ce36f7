-- The first element of the usage, or none.
use Rattle.std.proofs.Common.{sym, ◌∙◌}
use Rattle.hid_report.proofs.ReportLaws.{first-later}
use Rattle.hid_report.proofs.SourceLaws.{source-here, source-nowhere}
use Rattle.hid_report.proofs.pointer_report.source_in.Goals as goal

pub loop-field-preserved : goal.loop-field-preserved
loop-field-preserved c =
    c.loop-field.invariant
    ∙ first-later c.args.id c.args.usage c.args.fields.now c.loop-field.field-index c.field-item.result c.loop-field-test.true c.field-item.is
    (sym c.in-None.ensures.value)

pub returns-in-Some : goal.returns-in-Some
returns-in-Some c =
    source-here c.args.numbered c.args.id c.args.usage c.args.fields.now c.loop-field.field-index c.in-Some.j c.field-item.result c.source.result
    c.loop-field.invariant c.loop-field-test.true c.field-item.is c.in-Some.ensures.value c.source.ensures

pub returns : goal.returns
returns c =
    source-nowhere c.args.numbered c.args.id c.args.usage c.args.fields.now c.loop-field.field-index c.loop-field.invariant c.loop-field-test.false
