-- The panel has a button for each port of the switch, and no other.
use Rattle.std.specs.Prelude.{ℕ, List, [], ◌∷◌}
use Rattle.psd_base.specs.Event.{DoesWithin}
use Rattle.port_model.specs.FrontEvents.{FrontEvent}

abbrev pub PanelsWithin : ℕ → List FrontEvent → Type 0
PanelsWithin ports [] = Unit {0}
PanelsWithin ports (event ∷ past) = DoesWithin ports event.doing × PanelsWithin ports past
