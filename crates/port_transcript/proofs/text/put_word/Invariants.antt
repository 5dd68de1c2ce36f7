-- So many bytes of the word are written, and those before it are as they were.
use Rattle.std.proofs.Common.{◌≡◌, ◌+◌, ◌++◌, length, take}
use Rattle.port_transcript.proofs.text.put_word.Given as goal

abbrev pub invariant-bytes : goal.invariant-bytes
invariant-bytes g l = record {
  written : take (l.at + l.i) l.into ≡ take l.at l.fn.into ++ take l.i l.word;
  len : length l.into ≡ length l.fn.into;
}
