-- What the parts of the switch stand for together: the history of the events that it served, newest first.
use Rattle.std.specs.Prelude.{◌≡◌, List}
use Rattle.psd_base.specs.Event.{Seen}
use Rattle.peripheral_filter.specs.declared.rule.RuleSet.{RuleSet}
use Rattle.switch_core.specs.declared.front.Front.{Front}
use Rattle.switch_core.specs.declared.ports.Ports.{Ports}
use Rattle.switch_core.specs.Bridges.{bridge_after}
use Rattle.port_model.specs.Chosen.{selected_at, selections}
use Rattle.port_model.specs.FrontEvents.{front_of}
use Rattle.switch_core.specs.FrontStands.{FrontStands}
use Rattle.switch_core.specs.PanelsWithin.{PanelsWithin}
use Rattle.switch_core.specs.SlotStands.{views_of}
use Rattle.switch_core.specs.PortsStand.{PortsStand, port_count}
use Rattle.switch_core.specs.SeatStands.{give_count}

-- Each part stands for what concerns it, and no part looks at two ports. The console was given as often as a port was
-- selected, and only buttons of the switch's ports were pressed.
pub record PartsStand (rules : RuleSet) (ports : Ports) (front : Front) (past : List Seen) : Type 0 where
  pub ports_stand : PortsStand ports (selected_at rules (front_of past)) (views_of rules past)
  pub gives : give_count ports.seat ≡ selections rules (front_of past)
  pub front_stands : FrontStands rules front (front_of past) (bridge_after rules past)
  pub within : PanelsWithin (port_count ports) (front_of past)
