-- What is shown is offered to the latch that it is for.
use Rattle.switch_core.proofs.ports.offer.Goals as goal

pub returns-in-Keys-clause-stands : goal.returns-in-Keys-clause-stands
returns-in-Keys-clause-stands c = λ tick past stands. rw c.in-Keys.is (c.keys.ensures.stands tick past stands)

pub returns-in-Pointer-clause-stands : goal.returns-in-Pointer-clause-stands
returns-in-Pointer-clause-stands c = λ tick past stands. rw c.in-Pointer.is (c.pointer.ensures.stands tick past stands)
