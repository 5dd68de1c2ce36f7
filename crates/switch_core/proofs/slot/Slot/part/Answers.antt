-- The port that has the console is live.
use Rattle.std.proofs.Common.{subst}
use Rattle.switch_core.specs.SlotStands.{SlotStands}
use Rattle.switch_core.specs.declared.slot.Slot.{Slot}
use Rattle.switch_core.proofs.slot.Slot.part.Goals as goal

pub returns-clause-stands : goal.returns-clause-stands
returns-clause-stands c = λ tick past stands. c.farewell.ensures.stands tick past (subst (λ (s : Slot). SlotStands s past) c.in-Live.is stands)
