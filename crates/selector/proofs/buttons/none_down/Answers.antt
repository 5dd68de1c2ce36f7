-- One more flag that is not set.
use Rattle.std.proofs.Common.{◌∙◌, arith, rules}
use Rattle.selector.proofs.PortsDown.{is_empty-up}
use Rattle.selector.proofs.buttons.none_down.Goals as goal

pub loop-down-preserved : goal.loop-down-preserved
loop-down-preserved c =
    c.loop-down.invariant ∙ is_empty-up c.args.buttons.now c.loop-down.down-index (omega arith) (search rules)
