-- The descriptors up to the rest are in the tally, and the first fault is still to come.
use Rattle.std.proofs.Common.{length}
use Rattle.usb_descriptor.proofs.Walks.{Walked}
use Rattle.usb_descriptor.proofs.config.tally_of.Given as goal

abbrev pub invariant-loop-rest : goal.invariant-loop-rest
invariant-loop-rest l = Walked l.first l.others l.rest l.tally

abbrev pub decreases-loop-rest : goal.decreases-loop-rest
decreases-loop-rest l = length l.rest
