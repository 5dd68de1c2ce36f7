-- The buttons before this one are done.
use Rattle.std.proofs.Common.{◌≡◌, ◌+◌, ◌-◌, ◌≤◌, map}
use Rattle.input_latch.specs.declared.pointer_latch.PointerChange.TheVariants.{Press}
use Rattle.input_latch.specs.Buttons.{only_from, only_in}
use Rattle.input_latch.specs.PointerSteps.{pointer_state, steps_of}
use Rattle.input_latch.proofs.pointer_latch.PointerLatch.press_all.Given as goal

abbrev pub invariant-loop-button : goal.invariant-loop-button
invariant-loop-button l = record {
  steps : steps_of (pointer_state l.initial.self l.initial.offered) (map Press (only_in l.now l.last)) ≡ steps_of (pointer_state l.self l.offered) (map Press (only_from l.now l.last l.button (6 - l.button)));
  few : l.offered.taken + l.offered.refused + 1 ≤ l.initial.offered.taken + l.initial.offered.refused + l.button;
}
