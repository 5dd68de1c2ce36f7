-- The classes so far.
use Rattle.std.proofs.Common.{◌≡◌, take}
use Rattle.peripheral_filter.specs.Classes.{classes_of}
use Rattle.peripheral_filter.proofs.class.classes_of.Given as goal

abbrev pub invariant-loop-i : goal.invariant-loop-i
invariant-loop-i l = l.classes.items ≡ take l.i (classes_of l.config)
