-- What is to come behind the first line, and the first record.
use Rattle.std.proofs.Common.{◌∙◌, List, ℕ, Option, ap, sym, subst}
use Rattle.std.proofs.lemmas.Result.{IfOk-weaker, IfErr-weaker}
use Rattle.psd_base.specs.declared.outlet.Input.TheVariants as inputs
use Rattle.capture_reader.specs.Fault.{stop_of}
use Rattle.capture_reader.specs.Lines.{lines_in, lines_with_ahead, later_lines_of}
use Rattle.capture_reader.specs.Progress.{reading}
use Rattle.capture_reader.specs.Reader.{rest, NewFailed}
use Rattle.capture_reader.specs.Merge.{merged}
use Rattle.capture_reader.specs.Schedule.{Schedule}
use Rattle.capture_reader.specs.Source.{records_in, later_of}
use Rattle.capture_reader.specs.declared.script.ScriptSource.{ScriptSource}
use Rattle.capture_reader.specs.Window.{EndIsTrue}
use Rattle.capture_reader.proofs.FirstLook.{script_failed, failed_since}
use Rattle.capture_reader.proofs.FirstTaken.{first_took, first_since, script_first}
use Rattle.capture_reader.proofs.Counting.{IfOk-both}
use Rattle.capture_reader.proofs.progress.Progress.first_line.Goals as goal

pub returns-in-Ok-clause-rest : goal.returns-in-Ok-clause-rest
returns-in-Ok-clause-rest g c =
    let capture = c.args.capture in
    let left = (g.D.Desk.told c.args.desk.now).left in
    let left_looked = (g.D.Desk.told c.look.new.desk).left in
    let left_after = (g.D.Desk.told c.first_record.new.desk).left in
    let same = ap (λ left. merged c.args.limit (later_of capture left) (lines_with_ahead c.look.new.self (left_looked inputs.Script))) (c.look.ensures.only.inputs inputs.Capture (λ same. cc))
    ∙ ap (merged c.args.limit (later_of capture (left inputs.Capture))) (sym c.in-Ok.ensures.read) in
    IfOk-weaker c.first_record.result _ _
    (λ progress is. ap (rest (reading progress) (left_after inputs.Capture)) (c.first_record.ensures.only.inputs inputs.Script (λ same. cc)) ∙ is ∙ same)
    (c.first_record.ensures.rest (left_looked inputs.Script))

pub returns-in-Ok-clause-err : goal.returns-in-Ok-clause-err
returns-in-Ok-clause-err g c =
    let capture = c.args.capture in
    let left = (g.D.Desk.told c.args.desk.now).left in
    let left_looked = (g.D.Desk.told c.look.new.desk).left in
    let reads_looked = g.D.Desk.told c.look.new.desk in
    let reads_after = g.D.Desk.told c.first_record.new.desk in
    let same = ap (λ left. merged c.args.limit (later_of capture left) (lines_with_ahead c.look.new.self (left_looked inputs.Script))) (c.look.ensures.only.inputs inputs.Capture (λ same. cc))
    ∙ ap (merged c.args.limit (later_of capture (left inputs.Capture))) (sym c.in-Ok.ensures.read) in
    IfErr-weaker c.first_record.result _ _
    (λ fault failed. failed_since _ (g.D.Desk.told c.args.desk.now) reads_looked reads_after fault c.look.ensures.only.read_counts
    (subst (λ (before : Option Schedule). NewFailed before reads_looked reads_after ⊥ (stop_of fault)) same failed))
    (c.first_record.ensures.err (left_looked inputs.Script))

pub returns-in-Err-clause-err : goal.returns-in-Err-clause-err
returns-in-Err-clause-err g c =
    let left = (g.D.Desk.told c.args.desk.now).left in
    script_failed c.look.new.self c.args.limit (later_of c.args.capture (left inputs.Capture)) (later_lines_of c.args.script (left inputs.Script)) ((g.D.Desk.told c.look.new.desk).left inputs.Script)
    (g.D.Desk.told c.args.desk.now) (g.D.Desk.told c.look.new.desk) c.in-Err.fault c.in-Err.ensures.stays c.in-Err.ensures.err

pub returns-in-Ok-clause-took : goal.returns-in-Ok-clause-took
returns-in-Ok-clause-took g c =
    IfOk-both c.first_record.result _ _ _ (λ progress took is.
    first_took c.args.capture c.args.script c.look.new.self progress (g.D.Desk.told c.args.desk.now) (g.D.Desk.told c.look.new.desk) (g.D.Desk.told c.first_record.new.desk)
    (c.look.ensures.only.inputs inputs.Capture (λ same. cc)) is c.look.ensures.took took)
    c.first_record.ensures.took c.first_record.ensures.script

pub returns-in-Ok-clause-first : goal.returns-in-Ok-clause-first
returns-in-Ok-clause-first g c =
    IfErr-weaker c.first_record.result _ _ (λ fault failed.
    first_since (records_in c.args.capture) (lines_in c.args.script) (g.D.Desk.told c.args.desk.now) (g.D.Desk.told c.look.new.desk) (g.D.Desk.told c.first_record.new.desk) fault
    (c.look.ensures.only.inputs inputs.Capture (λ same. cc)) failed)
    (c.first_record.ensures.first (λ _. 1))

pub returns-in-Err-clause-first : goal.returns-in-Err-clause-first
returns-in-Err-clause-first g c =
    script_first c.args.script c.look.new.self (records_in c.args.capture) (g.D.Desk.told c.args.desk.now) (g.D.Desk.told c.look.new.desk) c.in-Err.fault c.in-Err.ensures.none c.look.ensures.took c.in-Err.ensures.err

pub returns-in-Ok-clause-ends : goal.returns-in-Ok-clause-ends
returns-in-Ok-clause-ends g c capture_end script_end =
    let looked = (g.D.Desk.told c.look.new.desk).left in
    let left_after = (g.D.Desk.told c.first_record.new.desk).left in
    let Capture : Option (List ℕ) → Type 0 = λ left. EndIsTrue c.args.capture.window left in
    let Script : Option (List ℕ) → Type 0 = λ left. EndIsTrue c.look.new.self.window left in
    let script_end_after = subst Script (sym (c.first_record.ensures.only.inputs inputs.Script (λ same. cc))) (c.look.ensures.ends script_end) in
    IfOk-both c.first_record.result _ _ _ (λ progress end is. record {
      capture = end;
      script = subst (λ (source : ScriptSource). EndIsTrue source.window (left_after inputs.Script)) (sym is) script_end_after;
    })
    (c.first_record.ensures.ends (subst Capture (sym (c.look.ensures.only.inputs inputs.Capture (λ same. cc))) capture_end)) c.first_record.ensures.script
