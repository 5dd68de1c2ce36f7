-- The token is told of the health.
use Rattle.switch_core.proofs.token.change_token.Goals as goal

pub returns-in-Wakes-clause-orders : goal.returns-in-Wakes-clause-orders
returns-in-Wakes-clause-orders c = λ rules past bridge stands. rw c.in-Wakes.is (c.wake.ensures.orders rules past bridge stands)

pub returns-in-Darkens-clause-orders : goal.returns-in-Darkens-clause-orders
returns-in-Darkens-clause-orders c = λ rules past bridge stands. rw c.in-Darkens.is (c.darken.ensures.orders rules past bridge stands)
