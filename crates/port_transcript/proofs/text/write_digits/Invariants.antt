-- The digits that are written, and those of the bytes that are left, are the digits of all bytes.
use Rattle.std.proofs.Common.{◌≡◌, ◌*◌, ◌++◌, take, drop}
use Rattle.hex.specs.Hex.{encode_lower}
use Rattle.port_transcript.proofs.text.write_digits.Given as goal

abbrev pub invariant-bytes : goal.invariant-bytes
invariant-bytes l = take (2 * l.i) l.into ++ encode_lower (drop l.i l.bytes) ≡ encode_lower l.bytes
