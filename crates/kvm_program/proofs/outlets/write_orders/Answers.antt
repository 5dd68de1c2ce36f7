-- An order more, or the write of one that failed.
use Rattle.std.proofs.Common.{List, ℕ, suc, ◌++◌, take, drop, sym, ap, ◌∙◌, subst}
use Rattle.std.proofs.lemmas.Result.{err_from_is_err_and}
use Rattle.psd_base.specs.Desk.{IsAppendedPart}
use Rattle.psd_base.specs.declared.console.Order.{Order}
use Rattle.psd_base.specs.declared.outlet.Outlet.TheVariants as outlet
use Rattle.port_transcript.specs.ConsoleLine.{order_text}
use Rattle.kvm_program.specs.Console.{orders_text}
use Rattle.kvm_program.proofs.Orders.{orders_text-parts}
use Rattle.kvm_program.proofs.Parts.{Grew-part, Touches-then}
use Rattle.kvm_program.proofs.outlets.write_orders.Goals as goal

pub returns-in_err-write_order-clause-wrote : goal.returns-in_err-write_order-clause-wrote
returns-in_err-write_order-clause-wrote g c =
    let p = err_from_is_err_and c.from_residual.result c.from_residual.ensures.1 in
    let place = c.loop-order.order-index in
    let order = c.order-item.result in
    let first = orders_text c.args.tick (take place c.args.orders.now) in
    let last = orders_text c.args.tick (drop (suc place) c.args.orders.now) in
    let part = Grew-part _ _ _ first (order_text c.args.tick order) last c.loop-order.invariant.wrote c.in_err-write_order.ensures.wrote in
    let same = orders_text-parts c.args.tick c.args.orders.now place order c.loop-order-test.true
    ∙ ap (λ (o : Order). (first ++ order_text c.args.tick o) ++ last) (sym c.order-item.is) in
    rw p.1 (subst (λ (text : List ℕ). IsAppendedPart ((g.D.Desk.told c.args.desk.now).sent outlet.Console) ((g.D.Desk.told c.write_order.new.desk).sent outlet.Console) text)
    (sym same) part)

pub returns-in_err-write_order-clause-only : goal.returns-in_err-write_order-clause-only
returns-in_err-write_order-clause-only g c =
    Touches-then _ _ (g.D.Desk.told c.args.desk.now) (g.D.Desk.told c.loop-order.desk) (g.D.Desk.told c.write_order.new.desk)
    c.loop-order.invariant.only c.write_order.ensures.only
