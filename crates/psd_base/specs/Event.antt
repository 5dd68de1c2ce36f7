-- Events as plain data, for lists of what happened.
use Rattle.std.specs.Prelude.{ℕ, ◌≤◌, List}
use Rattle.psd_base.specs.declared.act.Act.{Act}
use Rattle.psd_base.specs.declared.act.Side.{Side}
use Rattle.psd_base.specs.declared.console.Panel.{Panel}
use Rattle.psd_base.specs.declared.console.Panel.TheVariants as panel
use Rattle.psd_base.specs.declared.console.Plug.{Plug}
use Rattle.psd_base.specs.declared.console.TheConstants.{CHECKS}
use Rattle.psd_base.specs.declared.event.Event.{Event}
use Rattle.psd_base.specs.declared.event.What.{What}
use Rattle.psd_base.specs.declared.event.What.TheVariants as what

-- What happens at the front of the switch: at its panel, at the plugs of its console, and as time passes. Nothing that a
-- computer does is among it.
pub data Doing : Type 0 where
  TimePasses : Doing
  PanelMoves : Panel → Doing
  Attaches : Plug → Doing
  Detaches : Plug → Doing
  -- with the life, the number, the status and the bytes
  Replies : Plug → ℕ → ℕ → ℕ → List ℕ → Doing
  -- with the interface and the bytes
  Reports : Plug → ℕ → List ℕ → Doing
  -- the token has done a job, with the life, the number, the status and the bytes
  Finishes : ℕ → ℕ → ℕ → List ℕ → Doing

-- what happened: a computer acted at a connector of its port, or something happened at the front
pub data Happening : Type 0 where
  PortActs : ℕ → Side → Act → Happening
  AtFront : Doing → Happening

-- what happened, with the tick
pub record Seen : Type 0 where
  pub tick : ℕ
  pub happening : Happening

abbrev pub happening_of : What → Happening
happening_of what.Clock = AtFront TimePasses
happening_of (what.Port port side act) = PortActs port side act.now
happening_of (what.Panel panel) = AtFront (PanelMoves panel)
happening_of (what.Attach plug) = AtFront (Attaches plug)
happening_of (what.Detach plug) = AtFront (Detaches plug)
happening_of (what.Reply plug life number status bytes) = AtFront (Replies plug life number status bytes.now)
happening_of (what.Report plug interface bytes) = AtFront (Reports plug interface bytes.now)
happening_of (what.JobDone life number status bytes) = AtFront (Finishes life number status bytes.now)

abbrev pub seen : Event → Seen
seen event = record { tick = event.tick; happening = happening_of event.what }

-- a move at the panel of a switch with so many ports: its button and its check are there
abbrev pub MovesWithin : ℕ → Panel → Type 0
MovesWithin ports (panel.Guard down) = Unit {0}
MovesWithin ports (panel.Button port down) = port ≤ ports
MovesWithin ports (panel.Check check passed) = (1 ≤ check) × (check ≤ CHECKS)
MovesWithin ports panel.Tamper = Unit {0}

abbrev pub DoesWithin : ℕ → Doing → Type 0
DoesWithin ports TimePasses = Unit {0}
DoesWithin ports (PanelMoves move) = MovesWithin ports move
DoesWithin ports (Attaches plug) = Unit {0}
DoesWithin ports (Detaches plug) = Unit {0}
DoesWithin ports (Replies plug life number status bytes) = Unit {0}
DoesWithin ports (Reports plug interface bytes) = Unit {0}
DoesWithin ports (Finishes life number status bytes) = Unit {0}

-- what happens at a switch with so many ports names no port, and no check, but those that are there
abbrev pub HappensWithin : ℕ → Happening → Type 0
HappensWithin ports (PortActs port side act) = port ≤ ports
HappensWithin ports (AtFront doing) = DoesWithin ports doing
