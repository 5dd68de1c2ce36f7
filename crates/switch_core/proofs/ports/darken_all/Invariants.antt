-- The ports before this one are dark. Each keeps its number.
use Rattle.std.proofs.Common.{◌≡◌, ◌+◌, ◌<◌, ◌∷◌, false, ℕ, List, Some, slice_get}
use Rattle.port_model.specs.Concerns.{Item, Darkens, item}
use Rattle.switch_core.specs.declared.slot.Slot.{Slot}
use Rattle.switch_core.specs.SlotStands.{SlotStands}
use Rattle.switch_core.specs.Wired.{AreWired}
use Rattle.switch_core.proofs.ports.darken_all.Given as goal

abbrev pub invariant-loop-slot : goal.invariant-loop-slot
invariant-loop-slot l = record {
  wired : AreWired l.slots (λ number. false);
  stand : (views : ℕ → List Item) (tick place : ℕ) (port : Slot) → slice_get l.slots place ≡ Some port →
      place < l.slot-index → SlotStands port (item tick Darkens ∷ views (place + 1));
}
