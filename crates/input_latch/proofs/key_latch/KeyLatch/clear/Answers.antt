-- Nothing is left.
use Rattle.std.proofs.Common.{◌∷◌, subst, sym}
use Rattle.input_latch.specs.KeyHistory.{Flushed}
use Rattle.input_latch.specs.KeyLatchStands.{KeyLatchValue, KeyLatchStands}
use Rattle.input_latch.proofs.KeyLatchLaws.{stands_last}
use Rattle.input_latch.proofs.key_latch.KeyLatch.clear.Goals as goal

pub returns : goal.returns
returns c = λ past stands.
    rw c.new-self-inside.ensures
    (stands_last _ past (subst (λ (v : KeyLatchValue). KeyLatchStands v (Flushed ∷ past)) (sym c.self.view_is) (c.flush.ensures past stands)))
