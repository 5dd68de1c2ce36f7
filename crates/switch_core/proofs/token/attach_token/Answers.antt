-- The token is attached.
use Rattle.switch_core.proofs.token.attach_token.Goals as goal

pub returns-in-Token-clause-orders : goal.returns-in-Token-clause-orders
returns-in-Token-clause-orders c = λ rules past bridge stands. rw c.in-Token.is (c.attach.ensures.orders rules past bridge stands)
