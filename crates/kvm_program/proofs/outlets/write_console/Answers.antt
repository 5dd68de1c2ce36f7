-- The log is written behind the console.
use Rattle.std.proofs.Common.{List, subst}
use Rattle.psd_base.specs.declared.console.Order.{Order}
use Rattle.psd_base.specs.declared.outlet.Outlet.TheVariants as outlet
use Rattle.kvm_program.specs.Console.{orders_text}
use Rattle.kvm_program.specs.Outlets.{WroteTo}
use Rattle.kvm_program.proofs.Parts.{Wrote-before}
use Rattle.kvm_program.proofs.outlets.write_console.Goals as goal

pub returns-clause-console : goal.returns-clause-console
returns-clause-console g c =
    subst (λ (orders : List Order). WroteTo outlet.Console c.write_notes.result (g.D.Desk.told c.args.desk.now) (g.D.Desk.told c.write_notes.new.desk) (orders_text c.args.tick orders))
    c.as_slice.ensures
    (Wrote-before c.write_notes.result _ _ _ _ c.in_ok-write_orders.ensures.wrote (c.write_notes.ensures.only.outlets outlet.Console (λ e. absurd (cc))))
