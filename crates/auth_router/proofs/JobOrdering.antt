-- What the order of a job makes of the orders.
use Rattle.std.proofs.Common.{◌≡◌, ◌+◌, ◌≤◌, List, [], length, Option, Some, None, refl, arith}
use Rattle.std.proofs.lemmas.List.{length-append}
use Rattle.std.specs.Prelude.{◌∷◌, slice_get}
use Rattle.psd_base.specs.declared.console.Job.{Job}
use Rattle.psd_base.specs.declared.console.Order.{Order}
use Rattle.psd_base.specs.declared.console.Order.TheVariants as order
use Rattle.auth_router.specs.JobOrders.{with_order, job_in}

pub one_at_most : (job : Option Job) (orders : List Order) → length (with_order job orders) ≤ length orders + 1
one_at_most None orders = omega arith
one_at_most (Some job) orders = let more = length-append orders (order.Job job ∷ []) in omega (arith, more)

pub first_ordered : (job : Option Job) → job_in (slice_get (with_order job []) 0) ≡ job
first_ordered None = refl
first_ordered (Some job) = refl
