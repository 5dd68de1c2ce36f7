-- Both latches forget all.
use Rattle.km_port.proofs.Apart.{keys_cleared, pointer_cleared}
use Rattle.km_port.proofs.console.Console+Owned.leave.Goals as goal

pub returns-clause-stands : goal.returns-clause-stands
returns-clause-stands c = λ past stands. record {
  keys = keys_cleared _ _ (c.clear.ensures _ stands.keys);
  pointer = pointer_cleared _ _ (c.clear-2.ensures _ stands.pointer);
}
