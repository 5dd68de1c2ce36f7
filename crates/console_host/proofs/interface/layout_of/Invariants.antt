-- None of the interfaces so far has this number.
use Rattle.std.proofs.Common.{◌≡◌, drop}
use Rattle.console_host.specs.Lives.{layout_in}
use Rattle.console_host.proofs.interface.layout_of.Given as goal

abbrev pub invariant-loop-interface : goal.invariant-loop-interface
invariant-loop-interface l = layout_in l.number (drop l.interface-index l.interfaces) ≡ layout_in l.number l.interfaces
