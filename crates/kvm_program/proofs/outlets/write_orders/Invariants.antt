-- The orders so far were written.
use Rattle.std.proofs.Common.{take}
use Rattle.psd_base.specs.Desk.{OnlyWrites}
use Rattle.psd_base.specs.declared.outlet.Outlet.TheVariants as outlet
use Rattle.kvm_program.specs.Console.{orders_text}
use Rattle.kvm_program.specs.Outlets.{Grew}
use Rattle.kvm_program.proofs.outlets.write_orders.Given as goal

abbrev pub invariant-loop-order : goal.invariant-loop-order
invariant-loop-order g l = record {
  wrote : Grew ((g.D.Desk.told l.fn.desk).sent outlet.Console) ((g.D.Desk.told l.desk).sent outlet.Console) (orders_text l.tick (take l.order-index l.orders));
  only : OnlyWrites outlet.Console (g.D.Desk.told l.fn.desk) (g.D.Desk.told l.desk);
}
