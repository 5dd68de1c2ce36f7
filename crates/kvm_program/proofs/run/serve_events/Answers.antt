-- A replay that begins at a fresh switch.
use Rattle.std.proofs.Common.{◌≡◌, Option, Some, ◌∙◌, subst}
use Rattle.psd_base.specs.Desk.{Told}
use Rattle.peripheral_filter.specs.declared.rule.RuleSet.{RuleSet}
use Rattle.capture_reader.specs.Schedule.{Schedule}
use Rattle.std.proofs.lemmas.Result.{err_from_is_err_and}
use Rattle.psd_base.specs.declared.outlet.Input.TheVariants as input
use Rattle.psd_base.specs.declared.outlet.Outlet.TheVariants as outlet
use Rattle.capture_reader.specs.Reader.{rest_told}
use Rattle.kvm_program.specs.Progress.{IsBegun, IsFresh, Progress}
use Rattle.kvm_program.proofs.Parts.{Grew-nothing}
use Rattle.kvm_program.proofs.Serving.{Progress-start, RunStops-serving}
use Rattle.kvm_program.proofs.run.serve_events.Goals as goal
use Rattle.kvm_program.proofs.run.serve_events.Goals.{In_ok-open_outlets}
use Rattle.kvm_program.proofs.run.serve_events.Given as given

-- opening the outlets moves nothing
started : (g : given.Over) (c : In_ok-open_outlets g) (rules : RuleSet) (start : Told) → IsFresh rules c.args.server.now.switch c.args.server.now.tally
    → IsBegun start c.args.reader.now (g.D.Desk.told c.args.desk.now)
    → Progress rules (rest_told c.args.reader.now (g.D.Desk.told c.args.desk.now)) start c.args.reader.now (g.D.Desk.told c.open_outlets.new.desk) c.args.server.now.switch c.args.server.now.tally
started g c rules start fresh begun = Progress-start rules start c.args.reader.now (g.D.Desk.told c.args.desk.now) (g.D.Desk.told c.open_outlets.new.desk) _ _ fresh begun
    (λ to. c.in_ok-open_outlets.ensures.untouched.same to)
    (c.in_ok-open_outlets.ensures.untouched.only.inputs input.Capture (λ e. e)) (c.in_ok-open_outlets.ensures.untouched.only.inputs input.Script (λ e. e))

pub returns-in_err-open_outlets-clause-written : goal.returns-in_err-open_outlets-clause-written
returns-in_err-open_outlets-clause-written g c =
    let p = err_from_is_err_and c.from_residual.result c.from_residual.ensures.1 in
    let stop = c.in_err-open_outlets.ensures.stop in
    rw (p.1, p.2, stop.1) (λ rules schedule start to fresh begun is.
    (0, Grew-nothing (start.sent to) ((g.D.Desk.told c.open_outlets.new.desk).sent to) (c.open_outlets.ensures.untouched.same to ∙ begun.unsent to)))

pub returns-in_err-serve_all-clause-stop : goal.returns-in_err-serve_all-clause-stop
returns-in_err-serve_all-clause-stop g c =
    let p = err_from_is_err_and c.from_residual-in_err-serve_all.result c.from_residual-in_err-serve_all.ensures.1 in
    let opened = c.in_ok-open_outlets.ensures.untouched in
    rw (p.1, p.2) (λ rules start fresh begun. RunStops-serving _ _ _ (rest_told c.args.reader.now (g.D.Desk.told c.args.desk.now))
    (g.D.Desk.told c.args.desk.now) (g.D.Desk.told c.open_outlets.new.desk) (g.D.Desk.told c.serve_all.new.desk)
    opened.only.read_counts opened.only.write_counts
    (c.in_err-serve_all.ensures.stop rules (rest_told c.args.reader.now (g.D.Desk.told c.args.desk.now)) start
    (started g (goal.at.returns-in_err-serve_all-clause-stop g c).In_ok-open_outlets rules start fresh begun)))

-- the same where what is to come is told
started_at : (g : given.Over) (c : In_ok-open_outlets g) (rules : RuleSet) (schedule : Schedule) (start : Told) → IsFresh rules c.args.server.now.switch c.args.server.now.tally
    → IsBegun start c.args.reader.now (g.D.Desk.told c.args.desk.now) → rest_told c.args.reader.now (g.D.Desk.told c.args.desk.now) ≡ Some schedule
    → Progress rules (Some schedule) start c.args.reader.now (g.D.Desk.told c.open_outlets.new.desk) c.args.server.now.switch c.args.server.now.tally
started_at g c rules schedule start fresh begun is =
    subst (λ (coming : Option Schedule). Progress rules coming start c.args.reader.now (g.D.Desk.told c.open_outlets.new.desk) c.args.server.now.switch c.args.server.now.tally)
    is (started g c rules start fresh begun)

pub returns-clause-finished : goal.returns-clause-finished
returns-clause-finished g c = λ rules schedule start fresh begun is.
    c.in_ok-serve_all.ensures.finished rules schedule start (started_at g (goal.at.returns-clause-finished g c).In_ok-open_outlets rules schedule start fresh begun is)

pub returns-in_err-serve_all-clause-written : goal.returns-in_err-serve_all-clause-written
returns-in_err-serve_all-clause-written g c =
    let p = err_from_is_err_and c.from_residual-in_err-serve_all.result c.from_residual-in_err-serve_all.ensures.1 in
    rw (p.1, p.2) (λ rules schedule start to fresh begun is.
    c.in_err-serve_all.ensures.written rules schedule start to (started_at g (goal.at.returns-in_err-serve_all-clause-written g c).In_ok-open_outlets rules schedule start fresh begun is))

pub returns-in_err-serve_all-clause-above : goal.returns-in_err-serve_all-clause-above
returns-in_err-serve_all-clause-above g c = λ rules start fresh begun port above.
    c.serve_all.ensures.above rules _ start (started g (goal.at.returns-in_err-serve_all-clause-above g c).In_ok-open_outlets rules start fresh begun) port above
    ∙ (c.in_ok-open_outlets.ensures.untouched.same (outlet.Port port) ∙ begun.unsent (outlet.Port port))

pub returns-clause-above : goal.returns-clause-above
returns-clause-above g c = λ rules start fresh begun port above.
    c.serve_all.ensures.above rules _ start (started g (goal.at.returns-clause-above g c).In_ok-open_outlets rules start fresh begun) port above
    ∙ (c.in_ok-open_outlets.ensures.untouched.same (outlet.Port port) ∙ begun.unsent (outlet.Port port))
