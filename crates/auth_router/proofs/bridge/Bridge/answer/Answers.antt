-- The exact step keeps what the bridge stands for, and answers by what happened.
use Rattle.std.proofs.Common.{◌+◌, ◌≤◌, ◌∙◌, sym, ap, subst, List, length, Option}
use Rattle.psd_base.specs.declared.console.Job.{Job}
use Rattle.psd_base.specs.declared.console.Order.{Order}
use Rattle.auth_router.specs.declared.live.Live.{Live}
use Rattle.auth_router.specs.Bridge.{after_act}
use Rattle.auth_router.specs.BridgeStands.{BridgeStands}
use Rattle.auth_router.specs.JobOrders.{with_order}
use Rattle.auth_router.specs.LiveStep.{job_by}
use Rattle.auth_router.proofs.JobOrdering.{one_at_most}
use Rattle.auth_router.proofs.BridgeSteps.{bridge_acts, bridge_answers, bridge_makes}
use Rattle.auth_router.proofs.bridge.Bridge.answer.Goals as goal

pub returns-clause-stands : goal.returns-clause-stands
returns-clause-stands c = λ past stands.
    let Q : Option Live → Type 0 = λ (l : Option Live). BridgeStands l past in
    let P : Option Live → Type 0 = λ (l : Option Live). BridgeStands l (after_act c.args.act.now past) in
    subst P (sym c.take.ensures.after) (bridge_acts c.self.inside.live past c.args.act.now (subst Q (sym c.self.view_is) stands))

pub returns-clause-answer : goal.returns-clause-answer
returns-clause-answer c = λ past stands.
    let Q : Option Live → Type 0 = λ (l : Option Live). BridgeStands l past in
    c.take.ensures.answer ∙ bridge_answers c.self.inside.live past c.args.act.now (subst Q (sym c.self.view_is) stands)

pub returns-clause-orders : goal.returns-clause-orders
returns-clause-orders c = λ past stands.
    let Q : Option Live → Type 0 = λ (l : Option Live). BridgeStands l past in
    c.take.ensures.orders
    ∙ ap (λ (job : Option Job). with_order job c.args.orders.now.items) (bridge_makes c.self.inside.live past c.args.act.now (subst Q (sym c.self.view_is) stands))

pub returns-clause-few_orders : goal.returns-clause-few_orders
returns-clause-few_orders c =
    subst (λ (orders : List Order). length orders ≤ length c.args.orders.now.items + 1) (sym c.take.ensures.orders)
    (one_at_most (job_by c.args.act.now c.self.inside.live) c.args.orders.now.items)
