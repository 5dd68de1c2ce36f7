-- The oldest change is given.
use Rattle.std.proofs.Common.{subst, sym, arith, length-drop}
use Rattle.input_latch.specs.PointerLatchStands.{PointerLatchValue, PointerLatchStands}
use Rattle.input_latch.proofs.PointerLatchLaws.{stands_took}
use Rattle.input_latch.proofs.pointer_latch.PointerLatch.take.Goals as goal

pub invariant_of-self : goal.invariant_of-self
invariant_of-self c =
    rw c.pop_front.ensures.items
    (record { size = c.self.invariant.size; places = omega (arith, c.self.invariant.places, length-drop 1 c.self.inside.waiting.items) })

pub returns-clause-stands : goal.returns-clause-stands
returns-clause-stands c = λ past stands.
    rw c.pop_front.ensures.items
    (stands_took _ past (subst (λ (v : PointerLatchValue). PointerLatchStands v past) (sym c.self.view_is) stands) c.pop_front.result c.pop_front.ensures.value)
