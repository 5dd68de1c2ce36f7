-- What the ports of a switch stand for: each for its view, and the console for that of the selected one.
use Rattle.std.specs.Prelude.{ℕ, List, Option, vec_len}
use Rattle.port_model.specs.Concerns.{Item}
use Rattle.switch_core.specs.declared.ports.Ports.{Ports}
use Rattle.switch_core.specs.SeatStands.{SeatStands}
use Rattle.switch_core.specs.SlotStands.{AllStand}

pub record PortsStand (ports : Ports) (chosen : Option ℕ) (views : ℕ → List Item) : Type 0 where
  pub slots : AllStand ports.slots.items views
  pub seat : SeatStands ports.seat chosen views

-- how many ports there are
abbrev pub port_count : Ports → ℕ
port_count ports = vec_len ports.slots
