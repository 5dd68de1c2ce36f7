-- Nothing is left.
use Rattle.std.proofs.Common.{◌∷◌, subst, sym}
use Rattle.input_latch.specs.PointerHistory.{Flushed}
use Rattle.input_latch.specs.PointerLatchStands.{PointerLatchValue, PointerLatchStands}
use Rattle.input_latch.proofs.PointerLatchLaws.{stands_last}
use Rattle.input_latch.proofs.pointer_latch.PointerLatch.clear.Goals as goal

pub returns : goal.returns
returns c = λ past stands.
    stands_last _ past (subst (λ (v : PointerLatchValue). PointerLatchStands v (Flushed ∷ past)) (sym c.self.view_is) (c.flush.ensures past stands))
