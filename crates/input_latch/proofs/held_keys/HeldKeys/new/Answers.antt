-- No key is counted.
use Rattle.input_latch.proofs.KeyCounts.{counted_none}
use Rattle.input_latch.proofs.held_keys.HeldKeys.new.Goals as goal

pub invariant_of-result : goal.invariant_of-result
invariant_of-result c = rw c.new.ensures counted_none
