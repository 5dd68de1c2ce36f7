-- Taking buffers moves nothing that the desk tells.
use Rattle.std.proofs.Common.{◌≡◌}
use Rattle.psd_base.specs.Desk.{silent}
use Rattle.psd_base.proofs.file_desk.FileDesk.reserve.Given as goal

abbrev pub invariant-loop-number : goal.invariant-loop-number
invariant-loop-number g l = silent l.self.faults ≡ silent l.fn.self.faults
