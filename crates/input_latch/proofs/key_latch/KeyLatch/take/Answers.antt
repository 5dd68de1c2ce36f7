-- The oldest change is given.
use Rattle.std.proofs.Common.{subst, sym, arith, length-drop}
use Rattle.input_latch.specs.KeyLatchStands.{KeyLatchValue, KeyLatchStands}
use Rattle.input_latch.proofs.KeyLatchLaws.{stands_took, are_passed_on-rest, are_passed_on-first}
use Rattle.input_latch.proofs.key_latch.KeyLatch.take.Goals as goal

pub invariant_of-self : goal.invariant_of-self
invariant_of-self c =
    rw c.pop_front.ensures.items
    (record { size = c.self.invariant.size; passed_on = are_passed_on-rest c.self.inside.waiting.items c.self.invariant.passed_on; places = omega (arith, c.self.invariant.places, length-drop 1 c.self.inside.waiting.items) })

pub returns-clause-stands : goal.returns-clause-stands
returns-clause-stands c = λ past stands.
    rw c.pop_front.ensures.items
    (stands_took _ past (subst (λ (v : KeyLatchValue). KeyLatchStands v past) (sym c.self.view_is) stands) c.pop_front.result c.pop_front.ensures.value)

pub returns-clause-key : goal.returns-clause-key
returns-clause-key c = are_passed_on-first c.self.inside.waiting.items c.pop_front.result c.pop_front.ensures.value c.self.invariant.passed_on
