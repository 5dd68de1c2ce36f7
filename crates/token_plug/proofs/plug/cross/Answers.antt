-- The bridge appends the order of the job that it makes.
use Rattle.std.proofs.Common.{◌≡◌, List, ◌++◌, Option, Some, None, refl, sym, ◌∙◌}
use Rattle.std.proofs.lemmas.List.{append-nil}
use Rattle.psd_base.specs.declared.console.Job.{Job}
use Rattle.psd_base.specs.declared.console.Order.{Order}
use Rattle.auth_router.specs.Bridge.{bridge_made}
use Rattle.auth_router.specs.JobOrders.{with_order}
use Rattle.token_plug.specs.Acts.{job_orders}
use Rattle.token_plug.proofs.plug.cross.Goals as goal

appended : (job : Option Job) (orders : List Order) → with_order job orders ≡ orders ++ job_orders job
appended None orders = sym (append-nil orders)
appended (Some job) orders = refl

pub returns-clause-orders : goal.returns-clause-orders
returns-clause-orders c = λ past stands.
    c.answer.ensures.orders past stands ∙ appended (bridge_made past c.args.act.now) c.args.orders.now.items
