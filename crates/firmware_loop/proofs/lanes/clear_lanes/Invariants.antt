-- The lanes before this one have no lines, nor have those that had none.
use Rattle.std.proofs.Common.{◌≡◌, ◌<◌, ◌≤◌, ℕ, [], length, slice_index_or}
use Rattle.firmware_loop.proofs.lanes.clear_lanes.Given as goal

abbrev pub invariant-loop-place : goal.invariant-loop-place
invariant-loop-place l = record {
  size : l.fn.used ≤ length l.lanes;
  empty : (place : ℕ) → place < l.place → slice_index_or l.lanes place [] ≡ [];
  unused : (place : ℕ) → l.fn.used ≤ place → slice_index_or l.lanes place [] ≡ [];
}
