-- What is to come at the beginning is the schedule of the bytes that were left.
use Rattle.std.proofs.Common.{◌≡◌, false, Option, option_map, IfErr, OnOk, ◌∙◌, ap, sym, subst}
use Rattle.std.proofs.lemmas.Result.{IfOk-weaker, IfErr-weaker}
use Rattle.psd_base.specs.declared.outlet.Input.TheVariants as inputs
use Rattle.capture_reader.specs.Capture.{records}
use Rattle.capture_reader.specs.declared.script.ScriptSource.{ScriptSource}
use Rattle.capture_reader.specs.Fault.{stop_of}
use Rattle.capture_reader.specs.Lines.{later_lines_of}
use Rattle.capture_reader.specs.Reader.{IsLooked, NewFailed}
use Rattle.capture_reader.specs.Merge.{merged, schedule_told}
use Rattle.capture_reader.specs.Schedule.{Schedule}
use Rattle.capture_reader.specs.Script.{script, lines}
use Rattle.capture_reader.specs.Source.{later, later_of}
use Rattle.capture_reader.specs.Window.{Held}
use Rattle.capture_reader.proofs.FirstLook.{schedules, unread_script, port_count_told, open_is_new, failed_since}
use Rattle.capture_reader.proofs.FirstTaken.{all_took, first_of_all}
use Rattle.capture_reader.proofs.progress.Progress.begin.Goals as goal
use Rattle.capture_reader.proofs.progress.Progress.begin.Goals.{After-first_line}
use Rattle.capture_reader.proofs.progress.Progress.begin.Given as given

-- what was to come before the first looks
before_looks : (g : given.Over) (c : After-first_line g)
    → merged c.args.limit (later_of c.in-Ok.capture ((g.D.Desk.told c.open.new.desk).left inputs.Capture)) (later_lines_of c.new-script.result ((g.D.Desk.told c.open.new.desk).left inputs.Script))
    ≡ schedule_told c.args.limit (g.D.Desk.told c.args.desk.now)
before_looks g c =
    let capture = c.in-Ok.capture in
    let limit = c.args.limit in
    let left = (g.D.Desk.told c.args.desk.now).left in
    let opened = (g.D.Desk.told c.open.new.desk).left in
    let begin = c.in-Ok.ensures.begin in
    let lines = ap (λ (source : ScriptSource). later_lines_of source (opened inputs.Script)) c.new-script.ensures
    ∙ ap (λ (window : Held). later (lines capture.ports 0 1 0) window (opened inputs.Script)) c.requires.script
    ∙ unread_script capture.ports (opened inputs.Script)
    ∙ ap (option_map (script capture.ports)) (c.open.ensures.only.inputs inputs.Script (λ same. cc)) in
    let records = ap (λ n. later (records capture.ports n capture.offset 0) capture.window (opened inputs.Capture)) begin.0
    ∙ ap (λ n. later (records capture.ports 0 n 0) capture.window (opened inputs.Capture)) begin.1
    ∙ sym c.in-Ok.ensures.records in
    ap (λ told. merged limit told (later_lines_of c.new-script.result (opened inputs.Script))) records
    ∙ ap (merged limit _) lines
    ∙ schedules limit capture.ports (left inputs.Capture) (left inputs.Script) c.in-Ok.ensures.header

pub returns-in-Ok-clause-ports : goal.returns-in-Ok-clause-ports
returns-in-Ok-clause-ports g c =
    IfOk-weaker c.first_line.result _ _
    (λ progress is. port_count_told ((g.D.Desk.told c.args.desk.now).left inputs.Capture) c.in-Ok.capture.ports progress.capture.ports is.4 c.in-Ok.ensures.header) c.first_line.ensures.counts

pub returns-in-Ok-clause-rest : goal.returns-in-Ok-clause-rest
returns-in-Ok-clause-rest g c =
    let same = before_looks g (goal.at.returns-in-Ok-clause-rest g c).After-first_line in
    IfOk-weaker c.first_line.result _ _ (λ progress is. is ∙ same) c.first_line.ensures.rest

pub returns-in-Ok-clause-looked : goal.returns-in-Ok-clause-looked
returns-in-Ok-clause-looked g c =
    let same = before_looks g (goal.at.returns-in-Ok-clause-looked g c).After-first_line in
    subst (λ (before : Option Schedule). OnOk c.first_line.result (IsLooked before)) same c.first_line.ensures.looked

pub returns-in-Ok-clause-err : goal.returns-in-Ok-clause-err
returns-in-Ok-clause-err g c =
    let same = before_looks g (goal.at.returns-in-Ok-clause-err g c).After-first_line in
    let reads = g.D.Desk.told c.open.new.desk in
    let reads_after = g.D.Desk.told c.first_line.new.desk in
    IfErr-weaker c.first_line.result _ _ (λ fault failed. failed_since _ (g.D.Desk.told c.args.desk.now) reads reads_after fault c.open.ensures.only.read_counts failed)
    (subst (λ (before : Option Schedule). IfErr c.first_line.result (λ fault. NewFailed before reads reads_after ⊥ (stop_of fault))) same c.first_line.ensures.err)

pub returns-in-Err-clause-err : goal.returns-in-Err-clause-err
returns-in-Err-clause-err g c =
    let left = (g.D.Desk.told c.args.desk.now).left in
    open_is_new c.args.limit (g.D.Desk.told c.args.desk.now) (g.D.Desk.told c.open.new.desk) c.in-Err.fault c.in-Err.ensures.err

pub returns-in-Ok-clause-took : goal.returns-in-Ok-clause-took
returns-in-Ok-clause-took g c =
    let empty = ap (λ (source : ScriptSource). source.window.bytes) c.new-script.ensures ∙ ap (λ (window : Held). window.bytes) c.requires.script in
    IfOk-weaker c.first_line.result _ _ (λ progress took.
    all_took c.in-Ok.capture c.new-script.result progress (g.D.Desk.told c.args.desk.now) (g.D.Desk.told c.open.new.desk) (g.D.Desk.told c.first_line.new.desk) empty
    (c.open.ensures.only.inputs inputs.Script (λ same. cc)) c.in-Ok.ensures.took took)
    c.first_line.ensures.took

pub returns-in-Ok-clause-first : goal.returns-in-Ok-clause-first
returns-in-Ok-clause-first g c =
    let empty = ap (λ (source : ScriptSource). source.window.bytes) c.new-script.ensures ∙ ap (λ (window : Held). window.bytes) c.requires.script in
    IfErr-weaker c.first_line.result _ _ (λ fault failed.
    first_of_all c.in-Ok.capture c.new-script.result (g.D.Desk.told c.args.desk.now) (g.D.Desk.told c.open.new.desk) (g.D.Desk.told c.first_line.new.desk) fault empty
    (c.open.ensures.only.inputs inputs.Script (λ same. cc)) c.in-Ok.ensures.took failed)
    c.first_line.ensures.first

pub returns-in-Ok-clause-ends : goal.returns-in-Ok-clause-ends
returns-in-Ok-clause-ends g c =
    let unmet : c.new-script.result.window.ended ≡ false =
    ap (λ (source : ScriptSource). source.window.ended) c.new-script.ensures ∙ ap (λ (window : Held). window.ended) c.requires.script in
    c.first_line.ensures.ends c.in-Ok.ensures.ends (λ met. absurd (cc))
