-- So many lines were made.
use Rattle.std.proofs.Common.{◌≡◌, length}
use Rattle.firmware_loop.proofs.lanes.line_places.Given as goal

abbrev pub invariant-loop-place : goal.invariant-loop-place
invariant-loop-place l = length l.places.items ≡ l._place
