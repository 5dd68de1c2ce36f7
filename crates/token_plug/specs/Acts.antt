-- What an act at a port's token connector comes to: the bridge is that of the port to which the token is routed.
use Rattle.std.specs.Prelude.{ℕ, ◌==◌, Bool, false, List, [], ◌∷◌, Option, Some, None, if◌then◌else◌}
use Rattle.psd_base.specs.declared.act.Act.{Act}
use Rattle.psd_base.specs.declared.act.Answer.{Answer}
use Rattle.psd_base.specs.declared.act.Answer.TheVariants as answer
use Rattle.psd_base.specs.declared.console.Job.{Job}
use Rattle.psd_base.specs.declared.console.Order.{Order}
use Rattle.psd_base.specs.declared.console.Order.TheVariants as order
use Rattle.auth_router.specs.Bridge.{BridgePast, bridge_answer, bridge_made, after_act}

-- whether this is the port to which the token is routed
abbrev pub is_routed_to : ℕ → Option ℕ → Bool
is_routed_to port None = false
is_routed_to port (Some routed) = routed == port

-- what an act at this port is answered
abbrev pub answer_at : ℕ → Act → Option ℕ → BridgePast → Answer
answer_at port act routed bridge = if is_routed_to port routed then bridge_answer bridge act else answer.Silent

abbrev pub job_orders : Option Job → List Order
job_orders None = []
job_orders (Some job) = order.Job job ∷ []

-- the job that it makes, as an order
abbrev pub jobs_at : ℕ → Act → Option ℕ → BridgePast → List Order
jobs_at port act routed bridge = if is_routed_to port routed then job_orders (bridge_made bridge act) else []

-- what it makes of the bridge
abbrev pub acted_at : ℕ → Act → Option ℕ → BridgePast → BridgePast
acted_at port act routed bridge = if is_routed_to port routed then after_act act bridge else bridge
