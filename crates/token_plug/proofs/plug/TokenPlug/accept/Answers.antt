-- A token that is accepted while a port is selected is routed to it.
use Rattle.std.proofs.Common.{◌∷◌}
use Rattle.auth_router.specs.SlotCalls.{Check}
use Rattle.token_plug.proofs.plug.TokenPlug.accept.Goals as goal

pub returns-in-Some-clause-slot : goal.returns-in-Some-clause-slot
returns-in-Some-clause-slot c = λ rules told g ready.
    rw c.in-Some.is (c.route.ensures.slot rules told.host g.attachment ready (Check ∷ told.slot) (c.checked.ensures.stands told.slot g.slot))
