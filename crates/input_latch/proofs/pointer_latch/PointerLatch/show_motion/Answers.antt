-- A motion is one change, or none.
use Rattle.std.proofs.Common.{sym, ◌∙◌}
use Rattle.input_latch.specs.PointerSteps.{pointer_state}
use Rattle.input_latch.proofs.PointerLatchLaws.{still_steps, moved_steps}
use Rattle.input_latch.proofs.pointer_latch.PointerLatch.show_motion.Goals as goal

pub returns-then-is_still : goal.returns-then-is_still
returns-then-is_still c = still_steps (pointer_state c.args.self.now c.args.offered.now) c.args.sample.now (sym c.is_still.ensures ∙ c.if-is_still.true)

pub returns : goal.returns
returns c =
    moved_steps (pointer_state c.args.self.now c.args.offered.now) (pointer_state c.offer_motion.new.self c.offer_motion.new.offered) c.args.sample.now
    (sym c.is_still.ensures ∙ c.if-is_still.false) c.offer_motion.ensures
