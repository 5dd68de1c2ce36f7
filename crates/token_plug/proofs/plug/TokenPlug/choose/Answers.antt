-- A token that was checked is routed to the port that is selected.
use Rattle.std.proofs.Common.{◌≡◌, true, sym, ap, ◌∙◌}
use Rattle.auth_router.specs.Slot.{state_after}
use Rattle.token_plug.specs.Lives.{is_checked}
use Rattle.token_plug.proofs.plug.TokenPlug.choose.Goals as goal

pub returns-then-is_checked-clause-slot : goal.returns-then-is_checked-clause-slot
returns-then-is_checked-clause-slot c = λ rules told g ready.
    let checked : is_checked (state_after told.slot) ≡ true = ap is_checked (sym g.slot.state_is) ∙ sym c.if-is_checked.ensures.value in
    rw checked (c.route.ensures.slot rules told.host g.attachment (ready checked) told.slot g.slot)
