-- What a batch is as a schedule, and what comes of a schedule: the lines of each port, and the token's jobs. Schedules are
-- oldest first, the past is newest first.
use Rattle.std.specs.Prelude.{ℕ, suc, zero, ◌+◌, ◌==◌, ◌≤◌, Bool, true, false, All, List, [], ◌∷◌, ◌++◌, map, Option, Some, None, slice_index_or, if◌then◌else◌}
use Rattle.psd_base.specs.declared.act.Act.{Act}
use Rattle.psd_base.specs.declared.act.Side.{Side}
use Rattle.psd_base.specs.declared.console.Order.{Order}
use Rattle.psd_base.specs.declared.console.Order.TheVariants as order
use Rattle.psd_base.specs.declared.line.Line.{Line}
use Rattle.psd_base.specs.Event.{PortActs, Seen}
use Rattle.psd_base.specs.Port.{IsPort}
use Rattle.peripheral_filter.specs.declared.rule.RuleSet.{RuleSet}
use Rattle.port_model.specs.Lines.{line_at}
use Rattle.switch_core.specs.Orders.{orders_at}
use Rattle.firmware_loop.specs.declared.timed_job.TimedJob.{TimedJob}

-- the computer of a port acts at one of its connectors
pub record PortEvent : Type 0 where
  pub tick : ℕ
  pub port : ℕ
  pub side : Side
  pub act : Act

-- an act of a batch as an event of the schedule
abbrev pub seen_of : PortEvent → Seen
seen_of event = record { tick = event.tick; happening = PortActs event.port event.side event.act }

-- a batch as a schedule
abbrev pub schedule : List PortEvent → List Seen
schedule [] = []
schedule (event ∷ events) = seen_of event ∷ schedule events

-- a switch with so many ports has the port of each act
abbrev pub AreKnown : ℕ → List PortEvent → Type 0
AreKnown ports events = All (λ event. event.port ≤ ports) events

-- the line, if it is one of this port
abbrev pub line_for : ℕ → Option (ℕ × Line) → List Line
line_for port None = []
line_for port (Some told) = if told.0 == port then told.1 ∷ [] else []

-- the lines of a port in a schedule, each after what came before it
abbrev pub lane_lines : RuleSet → ℕ → List Seen → List Seen → List Line
lane_lines rules port [] past = []
lane_lines rules port (event ∷ events) past = line_for port (line_at rules event past) ++ lane_lines rules port events (event ∷ past)

-- the jobs among orders, each with the tick
abbrev pub jobs_among : ℕ → List Order → List TimedJob
jobs_among tick [] = []
jobs_among tick (order.On plug life ∷ orders) = jobs_among tick orders
jobs_among tick (order.Off plug life ∷ orders) = jobs_among tick orders
jobs_among tick (order.Ask plug life number setup ∷ orders) = jobs_among tick orders
jobs_among tick (order.Job job ∷ orders) = record { tick = tick; job = job } ∷ jobs_among tick orders

-- the jobs that a schedule orders, each after what came before it
abbrev pub schedule_jobs : RuleSet → List Seen → List Seen → List TimedJob
schedule_jobs rules [] past = []
schedule_jobs rules (event ∷ events) past = jobs_among event.tick (orders_at rules event past) ++ schedule_jobs rules events (event ∷ past)

-- Serving lane by lane

-- each act is one of a port
abbrev pub AreActsOfPorts : List PortEvent → Type 0
AreActsOfPorts events = All (λ event. IsPort event.port) events

abbrev pub kept_if : Bool → PortEvent → List PortEvent → List PortEvent
kept_if true event events = event ∷ events
kept_if false event events = events

-- the acts of a port
abbrev pub at_port : ℕ → List PortEvent → List PortEvent
at_port port [] = []
at_port port (event ∷ events) = kept_if (event.port == port) event (at_port port events)

-- the acts of the first ports, so many, port by port
abbrev pub by_lanes : ℕ → List PortEvent → List PortEvent
by_lanes zero events = []
by_lanes (suc port) events = by_lanes port events ++ at_port (suc port) events

-- the act of a line of this port
abbrev pub act_of : ℕ → Line → PortEvent
act_of port line = record { tick = line.tick; port = port; side = line.side; act = line.act }

-- the acts of the first lanes, so many; the first lane is that of port 1
abbrev pub acts_among : List (List Line) → ℕ → List PortEvent
acts_among lanes zero = []
acts_among lanes (suc place) = acts_among lanes place ++ map (act_of (suc place)) (slice_index_or lanes place [])

-- the jobs among orders of which there is at most one
abbrev pub first_job : ℕ → List Order → List TimedJob
first_job tick [] = []
first_job tick (first ∷ orders) = jobs_among tick (first ∷ [])

-- one where there are acts
abbrev pub one_if_some : List PortEvent → ℕ
one_if_some [] = 0
one_if_some (event ∷ events) = 1

-- how many of the first ports, so many, have acts
abbrev pub ports_with_acts : ℕ → List PortEvent → ℕ
ports_with_acts zero events = 0
ports_with_acts (suc port) events = ports_with_acts port events + one_if_some (at_port (suc port) events)

-- how many of the first lanes, so many, have acts
abbrev pub lanes_with_acts : List (List Line) → ℕ → ℕ
lanes_with_acts lanes zero = 0
lanes_with_acts lanes (suc place) = lanes_with_acts lanes place + one_if_some (map (act_of (suc place)) (slice_index_or lanes place []))
