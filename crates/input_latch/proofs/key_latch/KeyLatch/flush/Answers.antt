-- Nothing is left but the set that was shown last.
use Rattle.std.proofs.Common.{subst, sym, arith}
use Rattle.input_latch.specs.KeyLatchStands.{KeyLatchValue, KeyLatchStands}
use Rattle.input_latch.proofs.KeyLatchLaws.{none_passed_on, none_held, stands_flushed}
use Rattle.input_latch.proofs.key_latch.KeyLatch.flush.Goals as goal

pub invariant_of-self : goal.invariant_of-self
invariant_of-self c = rw (c.clear.ensures, c.new-self-inside.ensures) (record { size = c.self.invariant.size; passed_on = none_passed_on; places = omega (arith, none_held) })

pub returns : goal.returns
returns c = λ past stands.
    rw (c.clear.ensures, c.new-self-inside.ensures)
    (stands_flushed _ past (subst (λ (v : KeyLatchValue). KeyLatchStands v past) (sym c.self.view_is) stands))
