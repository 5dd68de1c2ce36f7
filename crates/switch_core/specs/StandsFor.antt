-- What the switch stands for under the rules of the administrator: the history of the events that it served, newest first.
use Rattle.std.specs.Prelude.{ℕ, List}
use Rattle.psd_base.specs.Event.{Seen}
use Rattle.peripheral_filter.specs.declared.rule.RuleSet.{RuleSet}
use Rattle.switch_core.specs.declared.switch.Switch.{Switch}
use Rattle.switch_core.specs.PartsStand.{PartsStand}
use Rattle.switch_core.specs.PortsStand.{port_count}

abbrev pub StandsFor : RuleSet → Switch → List Seen → Type 0
StandsFor rules switch past = PartsStand rules switch.ports switch.front past

-- how many ports the switch has
abbrev pub port_total : Switch → ℕ
port_total switch = port_count switch.ports
