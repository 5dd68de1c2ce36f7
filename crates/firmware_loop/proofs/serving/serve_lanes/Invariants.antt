-- The acts of the lanes before this one were served, and those of the others wait as they did.
use Rattle.std.proofs.Common.{◌≡◌, ◌+◌, ◌<◌, ◌≤◌, ℕ, List, [], length, map, slice_index_or}
use Rattle.psd_base.specs.Event.{Seen}
use Rattle.psd_base.specs.History.{onto}
use Rattle.psd_base.specs.declared.port.TheConstants.{MAX_PORTS}
use Rattle.peripheral_filter.specs.declared.rule.RuleSet.{RuleSet}
use Rattle.switch_core.specs.StandsFor.{StandsFor, port_total}
use Rattle.firmware_loop.specs.Batches.{act_of, acts_among, lane_lines, lanes_with_acts, schedule, schedule_jobs}
use Rattle.firmware_loop.proofs.serving.serve_lanes.Given as goal

abbrev pub invariant-loop-place : goal.invariant-loop-place
invariant-loop-place l = record {
  size : length l.lanes ≡ MAX_PORTS;
  stands : (rules : RuleSet) (past : List Seen) → StandsFor rules l.fn.switch past
      → StandsFor rules l.switch (onto (schedule (acts_among l.fn.lanes l.place)) past);
  lines : (rules : RuleSet) (past : List Seen) → StandsFor rules l.fn.switch past
      → (place : ℕ) → place < l.place → slice_index_or l.lanes place []
      ≡ lane_lines rules (place + 1) (schedule (map (act_of (place + 1)) (slice_index_or l.fn.lanes place [])))
      (onto (schedule (acts_among l.fn.lanes place)) past);
  waiting : (place : ℕ) → l.place ≤ place → slice_index_or l.lanes place [] ≡ slice_index_or l.fn.lanes place [];
  lengths : (place : ℕ) → length (slice_index_or l.lanes place []) ≡ length (slice_index_or l.fn.lanes place []);
  jobs : (rules : RuleSet) (past : List Seen) → StandsFor rules l.fn.switch past
      → l.jobs ≡ schedule_jobs rules (schedule (acts_among l.fn.lanes l.place)) past;
  few_jobs : length l.jobs ≤ length (acts_among l.fn.lanes l.place);
  served : l.switch.served ≡ l.fn.switch.served + length (acts_among l.fn.lanes l.place);
  ports : port_total l.switch ≡ port_total l.fn.switch;
  visits : l.switch.visits.count ≤ l.fn.switch.visits.count + lanes_with_acts l.fn.lanes l.place;
}
