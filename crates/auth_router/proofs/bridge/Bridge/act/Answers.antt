-- The only order is that of the job which the act makes.
use Rattle.std.proofs.Common.{◌∙◌, ap, List}
use Rattle.std.specs.Prelude.{slice_get}
use Rattle.psd_base.specs.declared.console.Order.{Order}
use Rattle.auth_router.specs.Bridge.{bridge_made}
use Rattle.auth_router.specs.JobOrders.{with_order, job_in}
use Rattle.auth_router.proofs.JobOrdering.{first_ordered}
use Rattle.auth_router.proofs.bridge.Bridge.act.Goals as goal

pub returns-clause-job : goal.returns-clause-job
returns-clause-job c = λ past stands.
    let made = bridge_made past c.args.act.now in
    c.first_job.ensures
    ∙ ap (λ (orders : List Order). job_in (slice_get orders 0)) (c.answer.ensures.orders past stands ∙ ap (λ (orders : List Order). with_order made orders) c.new-orders.ensures)
    ∙ first_ordered made
