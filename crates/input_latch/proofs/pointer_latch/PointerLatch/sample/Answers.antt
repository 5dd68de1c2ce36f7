-- The buttons, and then the motion.
use Rattle.std.proofs.Common.{◌≡◌, ap, ◌∙◌}
use Rattle.input_latch.specs.PointerHistory.{changes_of}
use Rattle.input_latch.specs.PointerLatch.{pointer_latch_of}
use Rattle.input_latch.specs.PointerLatchStands.{PointerLatchValue}
use Rattle.input_latch.specs.PointerSteps.{pointer_state, steps_of}
use Rattle.input_latch.specs.Verdict.{nothing_offered}
use Rattle.input_latch.proofs.PointerLatchLaws.{sample_steps, stands_shown, counts_shown}
use Rattle.input_latch.proofs.pointer_latch.PointerLatch.sample.Goals as goal

all_offered : (c : goal.After-self-1)
    → pointer_state (pointer_latch_of c.self.inside) c.show_motion.new.offered ≡ steps_of (pointer_state c.args.self.now nothing_offered) (changes_of c.args.self.now.last c.args.sample.now)
all_offered c =
    ap (λ (latch : PointerLatchValue). pointer_state latch c.show_motion.new.offered) c.self.view_is
    ∙ sample_steps c.args.self.now c.args.sample.now (pointer_state c.show_buttons.new.self c.show_buttons.new.offered) (pointer_state c.show_motion.new.self c.show_motion.new.offered)
    c.show_buttons.ensures.step c.show_motion.ensures

pub returns-clause-stands : goal.returns-clause-stands
returns-clause-stands c = λ past stands.
    stands_shown c.args.self.now past stands c.args.sample.now (pointer_latch_of c.self.inside) c.show_motion.new.offered (all_offered c) c.self.invariant.places

pub returns-clause-counts : goal.returns-clause-counts
returns-clause-counts c = λ past stands.
    counts_shown c.args.self.now past stands c.args.sample.now (pointer_latch_of c.self.inside) c.show_motion.new.offered (all_offered c)
