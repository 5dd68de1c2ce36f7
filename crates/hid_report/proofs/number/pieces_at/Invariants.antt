-- The number of the bits so far.
use Rattle.std.proofs.Common.{◌≡◌, ◌-◌, ◌<◌, ◌≤◌, ◌^◌}
use Rattle.hid_report.specs.Elements.{raw_bits}
use Rattle.hid_report.proofs.number.pieces_at.Given as goal

abbrev pub invariant-loop-taken : goal.invariant-loop-taken
invariant-loop-taken l = record { value_is : l.value ≡ raw_bits l.report l.place l.taken; fits : l.value < 2 ^ l.taken; within : l.taken ≤ l.size }

abbrev pub decreases-loop-taken : goal.decreases-loop-taken
decreases-loop-taken l = l.size - l.taken
