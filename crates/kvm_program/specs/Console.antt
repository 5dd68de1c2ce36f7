-- The text of the console: what the peripherals there are told.
use Rattle.std.specs.Prelude.{◌≡◌, ℕ, List, [], ◌∷◌, ◌++◌}
use Rattle.std.specs.List.{flat_map}
use Rattle.psd_base.specs.declared.console.Order.{Order}
use Rattle.psd_base.specs.Event.{Seen}
use Rattle.psd_base.specs.History.{onto}
use Rattle.peripheral_filter.specs.declared.rule.RuleSet.{RuleSet}
use Rattle.port_transcript.specs.ConsoleLine.{order_text}
use Rattle.switch_core.specs.Independence.{but_jobs}
use Rattle.switch_core.specs.Orders.{orders_at}
use Rattle.switch_core.specs.Stamped.{StampedOrder, stamped_orders}

-- the lines of the orders of one event
abbrev pub orders_text : ℕ → List Order → List ℕ
orders_text tick orders = flat_map (order_text tick) orders

-- what the peripherals are told over a history, which is newest first
abbrev pub console_after : RuleSet → List Seen → List ℕ
console_after rules [] = []
console_after rules (event ∷ past) = console_after rules past ++ orders_text event.tick (orders_at rules event past)

-- the same over events, which are oldest first
abbrev pub console_of : RuleSet → List Seen → List ℕ
console_of rules events = console_after rules (onto events [])

-- the lines of the console but for the token's jobs: all power, and all that is asked
abbrev pub power_and_asks_after : RuleSet → List Seen → List ℕ
power_and_asks_after rules [] = []
power_and_asks_after rules (event ∷ past) = power_and_asks_after rules past ++ orders_text event.tick (but_jobs (orders_at rules event past))

abbrev pub power_and_asks_of : RuleSet → List Seen → List ℕ
power_and_asks_of rules events = power_and_asks_after rules (onto events [])

-- the line of an order with its tick
abbrev pub stamped_text : StampedOrder → List ℕ
stamped_text s = order_text s.tick s.ordered

-- What the peripherals are told over a schedule is the text of its orders with their ticks, one after another.
abbrev pub ConsoleIsItsOrders : Type 0
ConsoleIsItsOrders = (rules : RuleSet) (events : List Seen)
    → console_of rules events ≡ flat_map stamped_text (stamped_orders rules (onto events []))
