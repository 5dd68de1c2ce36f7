-- The pass stands for the items before this byte, none of which has a fault.
use Rattle.std.proofs.Common.{◌-◌, length}
use Rattle.hid_report.proofs.LayoutLaws.{Reached}
use Rattle.hid_report.proofs.read.read_layout.Given as goal

abbrev pub invariant-loop-at : goal.invariant-loop-at
invariant-loop-at l = Reached l.bytes l.at l.pass

abbrev pub decreases-loop-at : goal.decreases-loop-at
decreases-loop-at l = length l.bytes - l.at
