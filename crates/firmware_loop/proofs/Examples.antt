-- Three acts at two ports, in their order and in the lanes of their ports, computed.
use Rattle.std.specs.Prelude.{◌≡◌, ℕ, List, [], ◌∷◌, refl}
use Rattle.psd_base.specs.declared.act.Act.TheVariants as act
use Rattle.psd_base.specs.declared.act.Answer.TheVariants as answer
use Rattle.psd_base.specs.declared.act.Side.TheVariants.{Km}
use Rattle.psd_base.specs.declared.console.Job.{Job}
use Rattle.psd_base.specs.declared.console.JobKind.TheVariants as job
use Rattle.psd_base.specs.declared.console.Order.TheVariants as order
use Rattle.psd_base.specs.declared.console.Plug.TheVariants as plug
use Rattle.psd_base.specs.declared.line.Line.{Line}
use Rattle.peripheral_filter.specs.declared.rule.RuleSet.{RuleSet}
use Rattle.firmware_loop.specs.Batches.{PortEvent, acts_among, at_port, by_lanes, jobs_among, lane_lines, lanes_with_acts, ports_with_acts, schedule}

abbrev no_rules : RuleSet
no_rules = record { allow = record { items = [] }; deny = record { items = [] } }

abbrev reset : ℕ → ℕ → PortEvent
reset tick port = record { tick = tick; port = port; side = Km; act = act.Reset }

abbrev events : List PortEvent
events = reset 5 2 ∷ reset 6 1 ∷ reset 7 2 ∷ []

abbrev line : ℕ → Line
line tick = record { tick = tick; side = Km; act = act.Reset; answer = answer.Silent }

acts_of_a_port : at_port 2 events ≡ reset 5 2 ∷ reset 7 2 ∷ []
acts_of_a_port = refl

port_by_port : by_lanes 8 events ≡ reset 6 1 ∷ reset 5 2 ∷ reset 7 2 ∷ []
port_by_port = refl

-- the lanes in which they were collected, whatever the answers there are
abbrev lanes : List (List Line)
lanes = (line 6 ∷ []) ∷ (line 5 ∷ line 7 ∷ []) ∷ []

acts_of_the_lanes : acts_among lanes 2 ≡ by_lanes 8 events
acts_of_the_lanes = refl

both_have_acts : lanes_with_acts lanes 2 ≡ ports_with_acts 8 events
both_have_acts = refl

lines_of_a_port : lane_lines no_rules 2 (schedule events) [] ≡ line 5 ∷ line 7 ∷ []
lines_of_a_port = refl

lines_of_the_other : lane_lines no_rules 1 (schedule events) [] ≡ line 6 ∷ []
lines_of_the_other = refl

abbrev read : Job
read = record { life = 3; number = 1; kind = job.In 2 }

jobs_of_orders : jobs_among 9 (order.Off plug.Mouse 4 ∷ order.Job read ∷ []) ≡ record { tick = 9; job = read } ∷ []
jobs_of_orders = refl
