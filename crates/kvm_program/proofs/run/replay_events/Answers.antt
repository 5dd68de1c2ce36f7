-- What the reader has to come is the run that the desk tells.
use Rattle.std.proofs.Common.{◌≡◌, Option, Some, ◌∙◌, refl, subst, arith}
use Rattle.std.proofs.lemmas.Result.{err_from_is_err_and}
use Rattle.psd_base.specs.declared.event.TheConstants.{EVENTS_MAX}
use Rattle.psd_base.specs.declared.stop.Stop.TheVariants.{OutOfMemory}
use Rattle.capture_reader.specs.Merge.{schedule_told}
use Rattle.capture_reader.specs.Reader.{rest_told}
use Rattle.capture_reader.specs.Schedule.{Schedule}
use Rattle.kvm_program.specs.Progress.{IsBegun}
use Rattle.kvm_program.specs.Replay.{IsUnread, RunStops}
use Rattle.kvm_program.specs.Run.{Run, run_under}
use Rattle.kvm_program.proofs.Commands.{RunStops-between, Serves-none, Serves-same, Serves-stopped}
use Rattle.kvm_program.proofs.Serving.{IsFresh-new}
use Rattle.kvm_program.proofs.Told.{schedule_of_run, ports_of_run}
use Rattle.kvm_program.proofs.run.replay_events.Goals as goal
use Rattle.kvm_program.proofs.run.replay_events.Goals.{In_ok-reader}
use Rattle.kvm_program.proofs.run.replay_events.Given as given

coming : (g : given.Over) (c : In_ok-reader g) (run : Run) → run_under c.args.rules (g.D.Desk.told c.args.desk.now) ≡ Some run
    → rest_told c.in_ok-reader.reader (g.D.Desk.told c.new-2.new.desk) ≡ Some run.schedule
coming g c run told = c.in_ok-reader.ensures.rest ∙ (schedule_of_run c.args.rules (g.D.Desk.told c.args.desk.now) run told).0

ports : (g : given.Over) (c : In_ok-reader g) (run : Run) → run_under c.args.rules (g.D.Desk.told c.args.desk.now) ≡ Some run → c.in_ok-reader.reader.ports ≡ run.ports
ports g c run told = ports_of_run c.args.rules _ _ run _ told c.in_ok-reader.ensures.ports.0

same_rules : (g : given.Over) (c : In_ok-reader g) (run : Run) → run_under c.args.rules (g.D.Desk.told c.args.desk.now) ≡ Some run → run.rules ≡ c.args.rules
same_rules g c run told = (schedule_of_run c.args.rules (g.D.Desk.told c.args.desk.now) run told).1

-- the reader was made of what the desk had left
begun : (g : given.Over) (c : In_ok-reader g) → IsBegun (g.D.Desk.told c.args.desk.now) c.in_ok-reader.reader (g.D.Desk.told c.new-2.new.desk)
begun g c = record {
  took = c.in_ok-reader.ensures.took;
  none_given = c.in_ok-reader.ensures.fresh.2;
  unsent = λ to. c.in_ok-reader.ensures.desk.outlets to (λ e. e);
  ends = c.in_ok-reader.ensures.ends;
}

pub returns-in_err-reader-clause-serves : goal.returns-in_err-reader-clause-serves
returns-in_err-reader-clause-serves g c =
    let p = err_from_is_err_and c.from_residual.result c.from_residual.ensures.1 in
    rw (p.1, p.2) (λ run told.
    Serves-none c.args.rules _ run (g.D.Desk.told c.args.desk.now) (g.D.Desk.told c.new-2.new.desk) _ told c.in_err-reader.ensures.err c.in_err-reader.ensures.first (λ to. c.new-2.ensures.desk.outlets to (λ e. e)))

pub returns-in_err-summary-clause-serves : goal.returns-in_err-summary-clause-serves
returns-in_err-summary-clause-serves g c =
    let p = err_from_is_err_and c.from_residual-in_err-summary.result c.from_residual-in_err-summary.ensures.1 in
    let at = (goal.at.returns-in_err-summary-clause-serves g c).In_ok-reader in
    rw (p.1, p.2) (λ run told.
    let serves = c.in_err-summary.ensures.serves c.args.rules run.schedule (g.D.Desk.told c.args.desk.now) (IsFresh-new c.args.rules _ _ _ c.in-Ok.ensures.stands c.in-Ok.ensures.served c.new-server.ensures.switch c.new-server.ensures.empty) (begun g at) (coming g at run told) in
    Serves-same _ run c.args.rules _ (g.D.Desk.told c.args.desk.now) (g.D.Desk.told c.run.new.desk) (same_rules g at run told) (ports g at run told) serves)

pub returns-clause-serves : goal.returns-clause-serves
returns-clause-serves g c = λ run told.
    let at = (goal.at.returns-clause-serves g c).In_ok-reader in
    let serves = c.in_ok-summary.ensures.serves c.args.rules run.schedule (g.D.Desk.told c.args.desk.now) (IsFresh-new c.args.rules _ _ _ c.in-Ok.ensures.stands c.in-Ok.ensures.served c.new-server.ensures.switch c.new-server.ensures.empty) (begun g at) (coming g at run told) in
    Serves-same _ run c.args.rules _ (g.D.Desk.told c.args.desk.now) (g.D.Desk.told c.run.new.desk) (same_rules g at run told) (ports g at run told) serves

pub returns-in_err-summary-clause-stop : goal.returns-in_err-summary-clause-stop
returns-in_err-summary-clause-stop g c =
    let p = err_from_is_err_and c.from_residual-in_err-summary.result c.from_residual-in_err-summary.ensures.1 in
    let desk = c.in_ok-reader.ensures.desk in
    let before = g.D.Desk.told c.args.desk.now in
    let mid = g.D.Desk.told c.new-2.new.desk in
    let after = g.D.Desk.told c.run.new.desk in
    rw (p.1, p.2) (RunStops-between _ (λ _. ⊥) ⊥ (IsUnread before after) (schedule_told EVENTS_MAX before) before mid after after
    desk.read_counts (λ which. omega arith) desk.write_counts (λ to. omega arith) (λ never. absurd never)
    (subst (λ (left : Option Schedule). RunStops c.in_err-summary.field-0.0 (λ _. ⊥) ⊥ left mid after) c.in_ok-reader.ensures.rest
    (c.in_err-summary.ensures.stop c.args.rules before (IsFresh-new c.args.rules _ _ _ c.in-Ok.ensures.stands c.in-Ok.ensures.served c.new-server.ensures.switch c.new-server.ensures.empty)
    (begun g (goal.at.returns-in_err-summary-clause-stop g c).In_ok-reader))))

pub returns-in-Err-clause-serves : goal.returns-in-Err-clause-serves
returns-in-Err-clause-serves g c = λ run told.
    Serves-stopped OutOfMemory run (g.D.Desk.told c.args.desk.now) (g.D.Desk.told c.args.desk.now) (λ to. refl) (λ port above. refl) refl
