-- The buttons before this one are done.
use Rattle.std.proofs.Common.{◌≡◌, ◌+◌, ◌-◌, ◌≤◌, map}
use Rattle.input_latch.specs.declared.pointer_latch.PointerChange.TheVariants.{Release}
use Rattle.input_latch.specs.Buttons.{only_from, only_in}
use Rattle.input_latch.specs.PointerSteps.{pointer_state, steps_of}
use Rattle.input_latch.proofs.pointer_latch.PointerLatch.release_all.Given as goal

abbrev pub invariant-loop-button : goal.invariant-loop-button
invariant-loop-button l = record {
  steps : steps_of (pointer_state l.initial.self l.initial.offered) (map Release (only_in l.last l.now)) ≡ steps_of (pointer_state l.self l.offered) (map Release (only_from l.last l.now l.button (6 - l.button)));
  few : l.offered.taken + l.offered.refused + 1 ≤ l.initial.offered.taken + l.initial.offered.refused + l.button;
}
