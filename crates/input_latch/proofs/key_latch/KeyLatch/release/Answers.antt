-- A release takes the place that was kept for it.
use Rattle.std.proofs.Common.{[], ◌∷◌, arith, length-append}
use Rattle.input_latch.specs.declared.key_latch.KeyChange.TheVariants.{Release}
use Rattle.input_latch.proofs.KeyLatchLaws.{are_passed_on-append}
use Rattle.input_latch.proofs.key_latch.KeyLatch.release.Goals as goal

pub invariant_of-self : goal.invariant_of-self
invariant_of-self c =
    rw c.append.ensures
    (record {
      size = c.self.invariant.size;
      passed_on = are_passed_on-append c.self.inside.waiting.items (Release c.args.usage) c.self.invariant.passed_on c.requires.passed_on;
      places = omega (arith, c.self.invariant.places, c.remove.ensures.number, length-append c.self.inside.waiting.items (Release c.args.usage ∷ []));
    })
