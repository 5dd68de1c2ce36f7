-- The flags before this one are not set.
use Rattle.std.proofs.Common.{◌≡◌, drop}
use Rattle.selector.specs.Panel.{is_empty}
use Rattle.selector.specs.Buttons.{ports_in}
use Rattle.selector.proofs.buttons.none_down.Given as goal

abbrev pub invariant-loop-down : goal.invariant-loop-down
invariant-loop-down l = is_empty (ports_in 1 l.buttons) ≡ is_empty (ports_in 1 (drop l.down-index l.buttons))
