-- What the log says and what is ordered doesn't depend on what computers do.
use Rattle.std.specs.Prelude.{filter, ◌≡◌, Bool, true, false, not, List, []}
use Rattle.psd_base.specs.declared.console.Order.{Order}
use Rattle.psd_base.specs.declared.console.Order.TheVariants as order
use Rattle.psd_base.specs.Event.{Seen}
use Rattle.peripheral_filter.specs.declared.rule.RuleSet.{RuleSet}
use Rattle.port_model.specs.Independence.{is_act, without}
use Rattle.switch_core.specs.Notes.{notes_at}
use Rattle.switch_core.specs.Orders.{orders_at}

-- whether an order is a job, which the token does for the computer to which it is routed
abbrev pub is_job : Order → Bool
is_job (order.On plug life) = false
is_job (order.Off plug life) = false
is_job (order.Ask plug life number setup) = false
is_job (order.Job job) = true

abbrev pub but_jobs : List Order → List Order
but_jobs orders = filter (λ order. not (is_job order)) orders

-- What the log says of an event, and what it orders at the front, doesn't depend on what computers did before it. Of an act the
-- log says nothing, and it orders nothing but a job of the token.
abbrev pub ConsoleIgnoresActs : Type 0
ConsoleIgnoresActs = (rules : RuleSet) (event : Seen) (past : List Seen)
    → (notes_at rules event (without is_act past) ≡ notes_at rules event past)
    × (but_jobs (orders_at rules event (without is_act past)) ≡ but_jobs (orders_at rules event past))
    × (is_act event.happening ≡ true → (notes_at rules event past ≡ []) × (but_jobs (orders_at rules event past) ≡ []))
