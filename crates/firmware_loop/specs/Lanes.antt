-- What lanes show: the acts that were collected in them, the lines of each port, and the jobs.
use Rattle.std.specs.Prelude.{◌≡◌, ℕ, ◌-◌, List, [], length, map, slice_index_or}
use Rattle.psd_base.specs.declared.line.Line.{Line}
use Rattle.psd_base.specs.declared.port.TheConstants.{MAX_PORTS}
use Rattle.psd_base.specs.Port.{IsPort}
use Rattle.firmware_loop.specs.Batches.{AreActsOfPorts, PortEvent, act_of, acts_among, at_port}
use Rattle.firmware_loop.specs.declared.lanes.Lanes.{Lanes}
use Rattle.firmware_loop.specs.declared.timed_job.TimedJob.{TimedJob}

-- the lines of a port; a port that can't be has none
abbrev pub lane_of : Lanes → ℕ → List Line
lane_of lanes port = slice_index_or lanes.lanes.items (port - 1) []

abbrev pub jobs_of : Lanes → List TimedJob
jobs_of lanes = lanes.jobs

-- the acts in the lane of a port
abbrev pub acts_of : Lanes → ℕ → List PortEvent
acts_of lanes port = map (act_of port) (lane_of lanes port)

-- the acts of all lanes, port by port
abbrev pub acts_in : Lanes → List PortEvent
acts_in lanes = acts_among lanes.lanes.items MAX_PORTS

-- These acts, in the order in which they came, were collected: each port has its own in its lane.
pub record IsCollected (events : List PortEvent) (lanes : Lanes) : Type 0 where
  pub ports : AreActsOfPorts events
  pub acts : (port : ℕ) → IsPort port → acts_of lanes port ≡ at_port port events
  pub count : lanes.count ≡ length events
