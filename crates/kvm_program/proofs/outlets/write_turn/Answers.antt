-- The line goes to its port, the orders to the console, and then the notes to the log.
use Rattle.std.proofs.Common.{List, Option, ℕ, ◌∙◌, subst}
use Rattle.psd_base.specs.declared.outlet.Outlet.{Outlet}
use Rattle.psd_base.specs.declared.outlet.Outlet.TheVariants as outlet
use Rattle.psd_base.specs.Event.{seen}
use Rattle.switch_core.specs.Gives.{gives_of}
use Rattle.kvm_program.specs.Console.{orders_text}
use Rattle.kvm_program.specs.Log.{notes_text}
use Rattle.kvm_program.specs.Outlets.{Wrote}
use Rattle.kvm_program.specs.Texts.{turn_text}
use Rattle.kvm_program.proofs.Parts.{Wrote-before, Wrote-nothing}
use Rattle.kvm_program.proofs.outlets.write_turn.Goals as goal

pub returns-clause-wrote : goal.returns-clause-wrote
returns-clause-wrote g c = by_outlet where
  by_outlet : (to : Outlet) → Wrote c.write_console.result ((g.D.Desk.told c.args.desk.now).sent to) ((g.D.Desk.told c.write_console.new.desk).sent to) (turn_text to c.args.event.now.tick (gives_of (seen c.args.event.now) c.args.turn.now))
  by_outlet (outlet.Port port) = Wrote-before c.write_console.result _ _ _ _ (c.in_ok-write_line.ensures.wrote port) (c.write_console.ensures.only.outlets (outlet.Port port) (λ e. e))
  by_outlet outlet.Console = subst (λ (before : Option (List ℕ)). Wrote c.write_console.result before ((g.D.Desk.told c.write_console.new.desk).sent outlet.Console) (orders_text c.args.event.now.tick c.args.turn.now.orders.items))
      (c.in_ok-write_line.ensures.only.outlets outlet.Console (λ e. e)) c.write_console.ensures.console
  by_outlet outlet.Log = subst (λ (before : Option (List ℕ)). Wrote c.write_console.result before ((g.D.Desk.told c.write_console.new.desk).sent outlet.Log) (notes_text c.args.event.now.tick c.args.turn.now.notes.items))
      (c.in_ok-write_line.ensures.only.outlets outlet.Log (λ e. e)) c.write_console.ensures.log
  by_outlet outlet.Report = Wrote-nothing c.write_console.result _ _ (c.write_console.ensures.only.outlets outlet.Report (λ e. e) ∙ c.in_ok-write_line.ensures.only.outlets outlet.Report (λ e. e))
  by_outlet outlet.Faults = Wrote-nothing c.write_console.result _ _ (c.write_console.ensures.only.outlets outlet.Faults (λ e. e) ∙ c.in_ok-write_line.ensures.only.outlets outlet.Faults (λ e. e))
