-- The lines of the orders, written one after another.
use Rattle.std.proofs.Common.{◌≡◌, ℕ, suc, ◌<◌, List, [], ◌∷◌, ◌++◌, length, get_or, take, drop, drop-cons, refl, sym, ap, ◌∙◌, append_assoc}
use Rattle.std.specs.List.{flat_map}
use Rattle.std.proofs.lemmas.Grind.{flat_map-append}
use Rattle.std.proofs.lemmas.List.{take-append-drop}
use Rattle.psd_base.specs.declared.console.Order.{Order}
use Rattle.psd_base.specs.Event.{Seen}
use Rattle.psd_base.specs.History.{onto}
use Rattle.peripheral_filter.specs.declared.rule.RuleSet.{RuleSet}
use Rattle.port_transcript.specs.ConsoleLine.{order_text}
use Rattle.switch_core.specs.Orders.{orders_at}
use Rattle.switch_core.specs.Stamped.{stamps, stamped_orders}
use Rattle.kvm_program.specs.Console.{console_after, orders_text, stamped_text, ConsoleIsItsOrders}

-- those before an order, this one, and those behind it
pub orders_text-parts : (tick : ℕ) (orders : List Order) (place : ℕ) (d : Order) → place < length orders
    → orders_text tick orders
    ≡ (orders_text tick (take place orders) ++ order_text tick (get_or orders place d)) ++ orders_text tick (drop (suc place) orders)
orders_text-parts tick orders place d within =
    ap (orders_text tick) (sym (take-append-drop place orders) ∙ ap (λ (rest : List Order). take place orders ++ rest) (drop-cons orders place d within))
    ∙ (flat_map-append (order_text tick) (take place orders) (get_or orders place d ∷ drop (suc place) orders)
    ∙ sym (append_assoc (orders_text tick (take place orders)) (order_text tick (get_or orders place d)) (orders_text tick (drop (suc place) orders))))

-- the orders of a history, each with its tick

stamps-text : (tick : ℕ) (orders : List Order) → orders_text tick orders ≡ flat_map stamped_text (stamps tick orders)
stamps-text tick [] = refl
stamps-text tick (order ∷ orders) = ap (λ (text : List ℕ). order_text tick order ++ text) (stamps-text tick orders)

stamped-text : (rules : RuleSet) (past : List Seen) → console_after rules past ≡ flat_map stamped_text (stamped_orders rules past)
stamped-text rules [] = refl
stamped-text rules (event ∷ past) =
    ap (λ (text : List ℕ). text ++ orders_text event.tick (orders_at rules event past)) (stamped-text rules past)
    ∙ ap (λ (text : List ℕ). flat_map stamped_text (stamped_orders rules past) ++ text) (stamps-text event.tick (orders_at rules event past))
    ∙ sym (flat_map-append stamped_text (stamped_orders rules past) (stamps event.tick (orders_at rules event past)))

pub console_is_its_orders : ConsoleIsItsOrders
console_is_its_orders rules events = stamped-text rules (onto events [])
