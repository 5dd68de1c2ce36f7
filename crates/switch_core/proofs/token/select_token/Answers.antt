-- The token is told of the selection: the port that is left first.
use Rattle.std.proofs.Common.{List, ◌∷◌, ◌++◌, sym, ap, ◌∙◌}
use Rattle.std.proofs.lemmas.List.{append-nil}
use Rattle.psd_base.specs.declared.console.Order.{Order}
use Rattle.token_plug.specs.Moments.{Left}
use Rattle.token_plug.specs.TokenGives.{orders_at}
use Rattle.token_plug.proofs.Staying.{selected-orders}
use Rattle.switch_core.proofs.token.select_token.Goals as goal

pub returns-in-Leave-clause-orders : goal.returns-in-Leave-clause-orders
returns-in-Leave-clause-orders c = λ rules past bridge stands. rw c.in-Leave.is (c.leave.ensures.orders rules past bridge stands)

pub returns-in-Enter-clause-orders : goal.returns-in-Enter-clause-orders
returns-in-Enter-clause-orders c = λ rules past bridge stands.
    rw c.in-Enter.is
    (sym (ap (λ (orders : List Order). c.args.orders.now.items ++ orders) (selected-orders rules c.in-Enter.port past) ∙ append-nil c.args.orders.now.items))

pub returns-in-Enter-clause-notes : goal.returns-in-Enter-clause-notes
returns-in-Enter-clause-notes c = λ rules past bridge stands. rw c.in-Enter.is (c.select.ensures.notes rules past bridge stands)

pub returns-in-LeaveEnter-clause-stands : goal.returns-in-LeaveEnter-clause-stands
returns-in-LeaveEnter-clause-stands c = λ rules past bridge stands.
    rw c.in-LeaveEnter.is (c.select-in-LeaveEnter.ensures.stands rules _ _ (c.leave-in-LeaveEnter.ensures.stands rules past bridge stands))

pub returns-in-LeaveEnter-clause-orders : goal.returns-in-LeaveEnter-clause-orders
returns-in-LeaveEnter-clause-orders c = λ rules past bridge stands.
    let left = orders_at rules (Left c.args.tick) past in
    rw c.in-LeaveEnter.is
    (c.leave-in-LeaveEnter.ensures.orders rules past bridge stands
    ∙ sym (ap (λ (orders : List Order). c.args.orders.now.items ++ (left ++ orders)) (selected-orders rules c.in-LeaveEnter.port (Left c.args.tick ∷ past))
    ∙ ap (λ (orders : List Order). c.args.orders.now.items ++ orders) (append-nil left)))

pub returns-in-LeaveEnter-clause-notes : goal.returns-in-LeaveEnter-clause-notes
returns-in-LeaveEnter-clause-notes c = λ rules past bridge stands.
    rw c.in-LeaveEnter.is (c.select-in-LeaveEnter.ensures.notes rules _ _ (c.leave-in-LeaveEnter.ensures.stands rules past bridge stands))
