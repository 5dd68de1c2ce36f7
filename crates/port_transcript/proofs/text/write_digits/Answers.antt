-- A byte's pair is written, and at the end those of all bytes are.
use Rattle.std.proofs.Common.{slice_index, arith}
use Rattle.hex.proofs.Pairs.{encode_done, encode_step}
use Rattle.hex.specs.Hex.{lower_digits}
use Rattle.port_transcript.proofs.Hexadecimal.{PAIRS_at}
use Rattle.port_transcript.proofs.text.write_digits.Goals as goal

pub bytes-preserved : goal.bytes-preserved
bytes-preserved c =
    let pair = PAIRS_at (slice_index c.args.bytes.now c.bytes.i) (omega arith) in
    encode_step lower_digits c.args.bytes.now c.bytes.into c.bytes.i _ _ (omega arith) (omega arith) pair.0 pair.1 c.bytes.invariant

pub returns : goal.returns
returns c = encode_done lower_digits _ _ c.bytes.i (omega arith) (omega arith) c.bytes.invariant
