-- The releases, and then the presses.
use Rattle.std.proofs.Common.{◌≡◌, ℕ, ◌++◌, ap, sym, ◌∙◌, map, subst}
use Rattle.input_latch.specs.declared.pointer_latch.PointerChange.TheVariants.{Press, Release}
use Rattle.input_latch.specs.Buttons.{only_in}
use Rattle.input_latch.specs.PointerLatchStands.{PointerLatchValue}
use Rattle.input_latch.specs.PointerSteps.{pointer_state, steps_of}
use Rattle.input_latch.proofs.PointerLatchLaws.{nothing_changed, two_steps}
use Rattle.input_latch.proofs.pointer_latch.PointerLatch.show_buttons.Goals as goal

pub returns-then-last-buttons-clause-step : goal.returns-then-last-buttons-clause-step
returns-then-last-buttons-clause-step c =
    nothing_changed (pointer_state c.args.self.now c.args.offered.now) c.args.self.now.last c.args.buttons
    (ap (λ (latch : PointerLatchValue). latch.last) (sym c.self.view_is) ∙ c.if-last-buttons.true)

pub returns-clause-step : goal.returns-clause-step
returns-clause-step c =
    subst
    (λ (last : ℕ). pointer_state c.press_all.new.self c.press_all.new.offered ≡ steps_of (pointer_state c.args.self.now c.args.offered.now) (map Release (only_in last c.args.buttons) ++ map Press (only_in c.args.buttons last)))
    (ap (λ (latch : PointerLatchValue). latch.last) c.self.view_is)
    (two_steps (pointer_state c.args.self.now c.args.offered.now) (pointer_state c.release_all.new.self c.release_all.new.offered) (pointer_state c.press_all.new.self c.press_all.new.offered)
    (map Release (only_in c.self.inside.last c.args.buttons)) (map Press (only_in c.args.buttons c.self.inside.last)) c.release_all.ensures.step c.press_all.ensures.step)
