-- What is read by the pointer report is what the definitions read.
use Rattle.hid_report.proofs.SourceLaws.{sample-by_pointer, some-sound}
use Rattle.hid_report.proofs.layout.Layout.pointer.Goals as goal

pub read_pointer-requires : goal.read_pointer-requires
read_pointer-requires c =
    some-sound c.args.self.now.numbered c.args.self.now.fields c.args.self.now.pointer c.pointer_report.result.now c.pointer_report.ensures

pub returns-clause-value : goal.returns-clause-value
returns-clause-value c =
    sample-by_pointer c.args.self.now c.args.report.now c.is_numbered.result c.pointer_report.result.now c.read_pointer.result
    c.read_pointer.ensures.value c.is_numbered.ensures c.pointer_report.ensures
