-- Nothing is undelivered, held or shown.
use Rattle.std.proofs.Common.{refl, arith}
use Rattle.input_latch.proofs.KeyLatchLaws.{none_passed_on, none_held, stands_new}
use Rattle.input_latch.proofs.key_latch.KeyLatch.new.Goals as goal

pub invariant_of-result : goal.invariant_of-result
invariant_of-result c = rw (c.in_ok-waiting.ensures, c.new.ensures) (record { size = refl; passed_on = none_passed_on; places = omega (arith, none_held) })

pub returns : goal.returns
returns c = rw (c.in_ok-waiting.ensures, c.new.ensures, c.new-2.ensures) stands_new
