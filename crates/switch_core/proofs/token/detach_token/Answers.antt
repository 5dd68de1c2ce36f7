-- The token is taken off.
use Rattle.switch_core.proofs.token.detach_token.Goals as goal

pub returns-in-Token-clause-stands : goal.returns-in-Token-clause-stands
returns-in-Token-clause-stands c = λ rules past bridge stands. rw c.in-Token.is (c.detach.ensures.stands rules past bridge stands)

pub returns-in-Token-clause-orders : goal.returns-in-Token-clause-orders
returns-in-Token-clause-orders c = λ rules past bridge stands. rw c.in-Token.is (c.detach.ensures.orders rules past bridge stands)
