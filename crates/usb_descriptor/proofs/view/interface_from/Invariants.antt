-- The rest has the interface.
use Rattle.std.proofs.Common.{length}
use Rattle.usb_descriptor.proofs.Walks.{Reaches}
use Rattle.usb_descriptor.proofs.view.interface_from.Given as goal

abbrev pub invariant-loop-descriptor : goal.invariant-loop-descriptor
invariant-loop-descriptor l = Reaches l.bytes l.i l.rest l.left

abbrev pub decreases-loop-descriptor : goal.decreases-loop-descriptor
decreases-loop-descriptor l = length l.rest
