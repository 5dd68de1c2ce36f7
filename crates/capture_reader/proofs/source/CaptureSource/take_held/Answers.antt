-- A faulty head shows its fault, whatever comes behind it.
use Rattle.std.proofs.Common.{sym, ap, ◌∙◌, subst}
use Rattle.capture_reader.specs.declared.fault.RecordFault.{RecordFault}
use Rattle.capture_reader.specs.Capture.{announced}
use Rattle.capture_reader.specs.Source.{LookFailed}
use Rattle.capture_reader.proofs.Looks.{ends_head}
use Rattle.capture_reader.proofs.source.CaptureSource.take_held.Goals as goal

pub returns-in-Err-clause-err : goal.returns-in-Err-clause-err
returns-in-Err-clause-err c before after =
    let now = c.args.self.now in
    subst (λ (fault : RecordFault). LookFailed now.ports now.tick now.offset now.window before after fault) (sym c.fault.ensures)
    (ends_head now.ports now.tick now.offset now.window c.in-Err.why c.requires.whole (ap (announced now.ports now.tick) c.requires.head ∙ sym c.in-Err.ensures.value))
