-- A port keeps its number.
use Rattle.std.proofs.Common.{false, subst, sym}
use Rattle.switch_core.specs.Wired.{IsSlot}
use Rattle.switch_core.proofs.slot.Slot.wake.Goals as goal

pub returns-clause-slot : goal.returns-clause-slot
returns-clause-slot c = λ number slot. c.woken.ensures.slot number (subst (IsSlot false number) (sym c.take-port.ensures.taken) slot)
