-- Nothing is left but the buttons that were shown last.
use Rattle.std.proofs.Common.{subst, sym, arith}
use Rattle.input_latch.specs.PointerLatchStands.{PointerLatchValue, PointerLatchStands}
use Rattle.input_latch.proofs.PointerLatchLaws.{none_held, stands_flushed}
use Rattle.input_latch.proofs.pointer_latch.PointerLatch.flush.Goals as goal

pub invariant_of-self : goal.invariant_of-self
invariant_of-self c = rw (c.clear.ensures, c.new-self-inside.ensures) (record { size = c.self.invariant.size; places = omega (arith, none_held) })

pub returns : goal.returns
returns c = λ past stands.
    rw (c.clear.ensures, c.new-self-inside.ensures)
    (stands_flushed _ past (subst (λ (v : PointerLatchValue). PointerLatchStands v past) (sym c.self.view_is) stands))
