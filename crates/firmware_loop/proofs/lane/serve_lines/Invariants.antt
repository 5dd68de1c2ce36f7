-- The acts before this one were served, and the others wait as they did.
use Rattle.std.proofs.Common.{◌≡◌, ◌+◌, ◌≤◌, ◌++◌, List, length, map, take, drop}
use Rattle.psd_base.specs.Event.{Seen}
use Rattle.psd_base.specs.History.{onto}
use Rattle.peripheral_filter.specs.declared.rule.RuleSet.{RuleSet}
use Rattle.switch_core.specs.StandsFor.{StandsFor, port_total}
use Rattle.firmware_loop.specs.Batches.{act_of, lane_lines, schedule, schedule_jobs}
use Rattle.firmware_loop.proofs.Visiting.{Visited}
use Rattle.firmware_loop.proofs.lane.serve_lines.Given as goal

abbrev pub invariant-loop-place : goal.invariant-loop-place
invariant-loop-place l = record {
  stands : (rules : RuleSet) (past : List Seen) → StandsFor rules l.fn.switch past
      → StandsFor rules l.switch (onto (schedule (map (act_of l.port) (take l.place l.fn.places))) past);
  lines : (rules : RuleSet) (past : List Seen) → StandsFor rules l.fn.switch past
      → take l.place l.places ≡ lane_lines rules l.port (schedule (map (act_of l.port) (take l.place l.fn.places))) past;
  waiting : drop l.place l.places ≡ drop l.place l.fn.places;
  jobs : (rules : RuleSet) (past : List Seen) → StandsFor rules l.fn.switch past
      → l.jobs ≡ l.fn.jobs ++ schedule_jobs rules (schedule (map (act_of l.port) (take l.place l.fn.places))) past;
  size : length l.places ≡ length l.fn.places;
  few_jobs : length l.jobs ≤ length l.fn.jobs + l.place;
  served : l.switch.served ≡ l.fn.switch.served + l.place;
  ports : port_total l.switch ≡ port_total l.fn.switch;
  visited : Visited l.port l.fn.switch.visits.count (map (act_of l.port) (take l.place l.fn.places)) l.switch.visits;
}
