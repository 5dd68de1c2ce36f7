-- All was served, or served and not reported, or not served.
use Rattle.std.proofs.Common.{ℕ, ap, ◌∙◌, subst}
use Rattle.std.proofs.lemmas.Result.{err_from_is_err_and}
use Rattle.psd_base.specs.declared.outlet.Outlet.TheVariants as outlet
use Rattle.psd_base.specs.declared.summary.Summary.{Summary}
use Rattle.psd_base.specs.Desk.{IsAppendedPart}
use Rattle.kvm_program.specs.Report.{report_text, summary_of}
use Rattle.kvm_program.proofs.Commands.{Serves-stopped, Serves-unreported, Serves-all}
use Rattle.kvm_program.proofs.run.run.Goals as goal

pub returns-in_err-serve_events-clause-serves : goal.returns-in_err-serve_events-clause-serves
returns-in_err-serve_events-clause-serves g c =
    let p = err_from_is_err_and c.from_residual.result c.from_residual.ensures.1 in
    rw (p.1, p.2) (λ rules schedule start fresh begun is.
    Serves-stopped _ _ start (g.D.Desk.told c.serve_events.new.desk) (λ to. c.in_err-serve_events.ensures.written rules schedule start to fresh begun is)
    (c.serve_events.ensures.above rules start fresh begun)
    (c.serve_events.ensures.only.outlets outlet.Report (λ e. e) ∙ begun.unsent outlet.Report))

pub returns-in_err-write_report-clause-serves : goal.returns-in_err-write_report-clause-serves
returns-in_err-write_report-clause-serves g c =
    let p = err_from_is_err_and c.from_residual-in_err-write_report.result c.from_residual-in_err-write_report.ensures.1 in
    rw (p.1, p.2, c.in_err-write_report.ensures.stop) (λ rules schedule start fresh begun is.
    let finished = c.in_ok-serve_events.ensures.finished rules schedule start fresh begun is in
    let same = c.summary-summary.ensures.counts rules schedule.events finished.served finished.counted
    ∙ ap (λ (ports : ℕ). summary_of rules ports schedule.events) c.ports-ports.ensures.value in
    Serves-unreported _ start (g.D.Desk.told c.serve_events.new.desk) (g.D.Desk.told c.write_report.new.desk) finished.written
    (c.serve_events.ensures.above rules start fresh begun) (c.serve_events.ensures.only.outlets outlet.Report (λ e. e) ∙ begun.unsent outlet.Report) c.write_report.ensures.only (subst (λ (s : Summary). IsAppendedPart ((g.D.Desk.told c.serve_events.new.desk).sent outlet.Report) ((g.D.Desk.told c.write_report.new.desk).sent outlet.Report) (report_text s))
    same c.in_err-write_report.ensures.wrote))

pub returns-clause-serves : goal.returns-clause-serves
returns-clause-serves g c = λ rules schedule start fresh begun is.
    let finished = c.in_ok-serve_events.ensures.finished rules schedule start fresh begun is in
    let same = c.summary-summary.ensures.counts rules schedule.events finished.served finished.counted
    ∙ ap (λ (ports : ℕ). summary_of rules ports schedule.events) c.ports-ports.ensures.value in
    Serves-all _ start (g.D.Desk.told c.serve_events.new.desk) (g.D.Desk.told c.write_report.new.desk) c.summary-summary.result finished.written
    (c.serve_events.ensures.above rules start fresh begun) (c.serve_events.ensures.only.outlets outlet.Report (λ e. e) ∙ begun.unsent outlet.Report) c.write_report.ensures.only finished.left finished.whole same c.in_ok-write_report.ensures.wrote
