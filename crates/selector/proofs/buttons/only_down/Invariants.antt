-- The ports are the one found so far, if there is one, and those that are left.
use Rattle.std.proofs.Common.{◌≡◌, ◌+◌, ◌++◌, drop}
use Rattle.selector.specs.Buttons.{ports_in}
use Rattle.selector.proofs.PortsDown.{listed}
use Rattle.selector.proofs.buttons.only_down.Given as goal

abbrev pub invariant-loop-place : goal.invariant-loop-place
invariant-loop-place l = listed l.found ++ ports_in (l.place + 1) (drop l.place l.buttons) ≡ ports_in 1 l.buttons
