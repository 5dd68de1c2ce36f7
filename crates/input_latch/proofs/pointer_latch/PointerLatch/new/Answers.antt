-- Nothing is undelivered, held or shown.
use Rattle.std.proofs.Common.{refl, arith}
use Rattle.input_latch.proofs.PointerLatchLaws.{none_held, stands_new}
use Rattle.input_latch.proofs.pointer_latch.PointerLatch.new.Goals as goal

pub invariant_of-result : goal.invariant_of-result
invariant_of-result c = rw (c.in_ok-waiting.ensures, c.new.ensures) (record { size = refl; places = omega (arith, none_held) })

pub returns : goal.returns
returns c = rw (c.in_ok-waiting.ensures, c.new.ensures) stands_new
