-- A press takes a place, and another for its release.
use Rattle.std.proofs.Common.{[], ◌∷◌, length, sym, ap, ◌∙◌, arith, length-append}
use Rattle.input_latch.specs.declared.key_latch.KeyChange.TheVariants.{Press}
use Rattle.input_latch.specs.KeyHistory.{can_press}
use Rattle.input_latch.specs.KeyLatchStands.{KeyLatchValue}
use Rattle.input_latch.proofs.KeyLatchLaws.{can_press-places, are_passed_on-append}
use Rattle.input_latch.proofs.key_latch.KeyLatch.press.Goals as goal

pub invariant_of-self : goal.invariant_of-self
invariant_of-self c =
    let free = can_press-places (length c.self.inside.waiting.items) c.self.inside.held c.args.usage (ap (λ (latch : KeyLatchValue). can_press (length latch.waiting) latch.holds c.args.usage) c.self.view_is ∙ sym c.if-not-can_press.ensures) in
    rw c.append.ensures
    (record {
      size = c.self.invariant.size;
      passed_on = are_passed_on-append c.self.inside.waiting.items (Press c.args.usage) c.self.invariant.passed_on c.requires.passed_on;
      places = omega (arith, free, c.add.ensures.number, length-append c.self.inside.waiting.items (Press c.args.usage ∷ []));
    })
