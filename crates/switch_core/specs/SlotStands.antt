-- What a port stands for: the view of its computer.
use Rattle.std.specs.Prelude.{◌≡◌, ℕ, ◌+◌, false, List, Some, slice_get}
use Rattle.psd_base.specs.Event.{Seen}
use Rattle.peripheral_filter.specs.declared.rule.RuleSet.{RuleSet}
use Rattle.port_model.specs.Concerns.{Item, is_live}
use Rattle.km_port.specs.PortStands.{LiveStands}
use Rattle.switch_core.specs.declared.slot.Slot.{Slot}
use Rattle.switch_core.specs.declared.slot.Slot.TheVariants as slot
use Rattle.port_model.specs.View.{view}

-- a dark port answers nothing
abbrev pub SlotStands : Slot → List Item → Type 0
SlotStands (slot.Dark port) past = is_live past ≡ false
SlotStands (slot.Live port) past = LiveStands port past

-- each port stands for the view of its number; the first has number 1
abbrev pub AllStand : List Slot → (ℕ → List Item) → Type 0
AllStand ports views =
    (place : ℕ) (port : Slot) → slice_get ports place ≡ Some port → SlotStands port (views (place + 1))

-- the views of all ports, by their numbers
abbrev pub views_of : RuleSet → List Seen → ℕ → List Item
views_of rules past number = view rules number past
