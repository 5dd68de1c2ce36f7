-- A port that wakes is as new.
use Rattle.switch_core.proofs.slot.Slot.woken.Goals as goal

pub returns-in-Dark-clause-stands : goal.returns-in-Dark-clause-stands
returns-in-Dark-clause-stands c = λ past tick dark stands. c.wake.ensures.stands tick past
