-- The ports before this one are awake, and the others are as they were. Each keeps its number.
use Rattle.std.proofs.Common.{◌≡◌, ◌+◌, ◌<◌, ◌≤◌, ◌∷◌, false, ℕ, List, Some, slice_get}
use Rattle.port_model.specs.Concerns.{Item, Wakes, is_live, item}
use Rattle.switch_core.specs.declared.slot.Slot.{Slot}
use Rattle.switch_core.specs.SlotStands.{SlotStands, AllStand}
use Rattle.switch_core.specs.Wired.{AreWired}
use Rattle.switch_core.proofs.ports.wake_all.Given as goal

abbrev pub invariant-loop-slot : goal.invariant-loop-slot
invariant-loop-slot l = record {
  wired : AreWired l.slots (λ number. false);
  stand : (views : ℕ → List Item) (tick : ℕ) → ((number : ℕ) → is_live (views number) ≡ false) → AllStand l.fn.slots views →
      (place : ℕ) (port : Slot) → slice_get l.slots place ≡ Some port →
      (place < l.slot-index → SlotStands port (item tick Wakes ∷ views (place + 1))) × (l.slot-index ≤ place → SlotStands port (views (place + 1)));
}
