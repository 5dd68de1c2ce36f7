-- The count of the zeros below it is the place of the lowest bit.
use Rattle.std.proofs.Common.{arith, w64}
use Rattle.std.proofs.lemmas.Nat.Bits.{bit_at-trailing_zeros}
use Rattle.psd_base.proofs.key_set.lowest.Goals as goal

pub returns-else-word-eq0-clause-some : goal.returns-else-word-eq0-clause-some
returns-else-word-eq0-clause-some c =
    let lowest = bit_at-trailing_zeros w64 c.args.word (omega arith) (omega arith) in
    record { below = lowest.0; is_set = lowest.1; clear = lowest.2 }
