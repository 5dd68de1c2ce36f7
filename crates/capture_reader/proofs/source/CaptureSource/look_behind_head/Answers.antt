-- A faulty head shows its fault, whatever comes behind it.
use Rattle.std.proofs.Common.{sym, ap, ◌∙◌, subst}
use Rattle.capture_reader.specs.declared.fault.RecordFault.{RecordFault}
use Rattle.capture_reader.specs.Capture.{head_of, announced}
use Rattle.capture_reader.specs.Source.{LookFailed}
use Rattle.capture_reader.proofs.Looks.{ends_head}
use Rattle.capture_reader.proofs.source.CaptureSource.look_behind_head.Goals as goal

pub returns-in-Err-clause-err : goal.returns-in-Err-clause-err
returns-in-Err-clause-err g c =
    let now = c.args.self.now in
    let faults = g.D.Desk.told c.args.desk.now in
    let head = ap head_of (sym c.bytes.ensures) ∙ sym c.read_head.ensures in
    subst (λ (fault : RecordFault). LookFailed now.ports now.tick now.offset now.window faults faults fault) (sym c.fault.ensures)
    (ends_head now.ports now.tick now.offset now.window c.in-Err.why c.requires.whole (ap (announced now.ports now.tick) head ∙ sym c.in-Err.ensures.value))
