-- So many lanes were made, without lines.
use Rattle.std.proofs.Common.{◌≡◌, ℕ, [], length, slice_index_or}
use Rattle.firmware_loop.proofs.lanes.empty_lanes.Given as goal

abbrev pub invariant-loop-port : goal.invariant-loop-port
invariant-loop-port l = record {
  size : length l.lanes.items ≡ l._port;
  empty : (place : ℕ) → slice_index_or l.lanes.items place [] ≡ [];
}
