-- The job that an act makes, as an order to the console.
use Rattle.std.specs.Prelude.{List, [], ◌∷◌, ◌++◌, Option, Some, None}
use Rattle.psd_base.specs.declared.console.Job.{Job}
use Rattle.psd_base.specs.declared.console.JobKind.{JobKind}
use Rattle.psd_base.specs.declared.console.Order.{Order}
use Rattle.psd_base.specs.declared.console.Order.TheVariants as order
use Rattle.auth_router.specs.declared.live.Live.{Live}
use Rattle.auth_router.specs.LiveStep.{numbered_job}

-- the orders with that of a job appended, if there is one
abbrev pub with_order : Option Job → List Order → List Order
with_order None orders = orders
with_order (Some job) orders = orders ++ (order.Job job ∷ [])

-- the same of a job that a bridge numbers
abbrev pub ordered : Live → Option JobKind → List Order → List Order
ordered live kind orders = with_order (numbered_job live kind) orders

-- the job that an order is of
abbrev pub job_in : Option Order → Option Job
job_in None = None
job_in (Some (order.Job job)) = Some job
job_in (Some (order.On plug life)) = None
job_in (Some (order.Off plug life)) = None
job_in (Some (order.Ask plug life number setup)) = None
