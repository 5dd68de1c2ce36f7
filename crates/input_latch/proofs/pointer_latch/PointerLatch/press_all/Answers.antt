-- One button after another is offered, or passed over.
use Rattle.std.proofs.Common.{◌≡◌, suc, ◌+◌, ◌-◌, arith, sym, ◌∙◌}
use Rattle.input_latch.specs.declared.pointer_latch.PointerChange.TheVariants.{Press}
use Rattle.input_latch.specs.Buttons.{only_from, only_in}
use Rattle.input_latch.specs.PointerSteps.{pointer_state}
use Rattle.input_latch.proofs.PointerLatchLaws.{next_step, same_step, no_step, only_from-yes, only_from-no, only_from-none}
use Rattle.input_latch.proofs.pointer_latch.PointerLatch.press_all.Goals as goal
use Rattle.input_latch.proofs.pointer_latch.PointerLatch.press_all.Goals.{then-is_only_in, else-is_only_in}

pub loop-button-preserved : goal.loop-button-preserved
loop-button-preserved c =
    let button = c.loop-button.button in
    let rest = only_from c.args.now c.args.last button (6 - button) in
    let after = only_from c.args.now c.args.last (button + 1) (6 - (button + 1)) in
    let n : 6 - c.loop-button.button ≡ suc (6 - (c.loop-button.button + 1)) = omega arith in
    elim c.if-is_only_in.branch [
      | then-is_only_in w ↦
          rw (w.self-is, w.offered-is)
          (record {
            steps =
                next_step Press (pointer_state c.args.self.now c.args.offered.now) (pointer_state c.loop-button.self c.loop-button.offered) (pointer_state w.press.new.self w.press.new.offered)
                (only_in c.args.now c.args.last) rest after button c.loop-button.invariant.steps
                (only_from-yes c.args.now c.args.last button (6 - button) (6 - (button + 1)) n (sym c.is_only_in.ensures ∙ w.if-is_only_in.true)) w.press.ensures.step;
            few = omega (arith, w.press.ensures.one, c.loop-button.invariant.few);
          })
      | else-is_only_in w ↦
          rw (w.self-is, w.offered-is)
          (record {
            steps =
                same_step Press (pointer_state c.args.self.now c.args.offered.now) (pointer_state c.loop-button.self c.loop-button.offered)
                (only_in c.args.now c.args.last) rest after c.loop-button.invariant.steps
                (only_from-no c.args.now c.args.last button (6 - button) (6 - (button + 1)) n (sym c.is_only_in.ensures ∙ w.if-is_only_in.false));
            few = omega (arith, c.loop-button.invariant.few);
          })
    ]

pub returns-clause-step : goal.returns-clause-step
returns-clause-step c =
    no_step Press (pointer_state c.args.self.now c.args.offered.now) (pointer_state c.loop-button.self c.loop-button.offered) (only_in c.args.now c.args.last)
    (only_from c.args.now c.args.last c.loop-button.button (6 - c.loop-button.button)) c.loop-button.invariant.steps
    (only_from-none c.args.now c.args.last c.loop-button.button (6 - c.loop-button.button) (omega arith))
