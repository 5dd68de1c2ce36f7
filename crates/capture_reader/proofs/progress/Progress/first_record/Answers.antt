-- What is to come behind the first record.
use Rattle.std.proofs.Common.{◌∙◌, ℕ, None, IfNone, sym, subst}
use Rattle.psd_base.specs.declared.outlet.Input.TheVariants as inputs
use Rattle.capture_reader.specs.Script.{lines}
use Rattle.capture_reader.specs.Ahead.{line_of}
use Rattle.capture_reader.specs.Source.{later_of, Ends}
use Rattle.capture_reader.proofs.FirstLook.{rest_first, looked_first, capture_failed}
use Rattle.capture_reader.specs.declared.progress.State.TheVariants.{Waiting}
use Rattle.capture_reader.specs.Progress.{script_reading}
use Rattle.capture_reader.specs.Reader.{lines_held}
use Rattle.capture_reader.proofs.FirstTaken.{first_record_looked, capture_first}
use Rattle.capture_reader.proofs.Giving.{unlooked}
use Rattle.capture_reader.proofs.progress.Progress.first_record.Goals as goal

pub returns-in-Ok-clause-rest : goal.returns-in-Ok-clause-rest
returns-in-Ok-clause-rest g c script_left =
    let left = (g.D.Desk.told c.args.desk.now).left inputs.Capture in
    let left_after = (g.D.Desk.told c.look.new.desk).left inputs.Capture in
    rest_first c.look.new.self c.args.script c.args.limit (later_of c.args.capture left) left_after script_left (c.requires.script.same_ports ∙ sym c.look.ensures.ports) c.in-Ok.ensures.read

pub returns-in-Ok-clause-looked : goal.returns-in-Ok-clause-looked
returns-in-Ok-clause-looked g c script_left =
    let new = c.look.new.self in
    let script = c.args.script in
    let left = (g.D.Desk.told c.args.desk.now).left inputs.Capture in
    let left_after = (g.D.Desk.told c.look.new.desk).left inputs.Capture in
    let ports = c.requires.script.same_ports ∙ sym c.look.ensures.ports in
    looked_first new script c.args.limit _ left_after script_left c.in-Ok.ensures.end
    (subst (λ (n : ℕ). IfNone (line_of script.ahead) (Ends (lines n script.tick script.line 0) script.window None)) ports c.requires.script.lines)
    (rest_first new script c.args.limit (later_of c.args.capture left) left_after script_left ports c.in-Ok.ensures.read)

pub returns-in-Err-clause-err : goal.returns-in-Err-clause-err
returns-in-Err-clause-err g c script_left =
    let left = (g.D.Desk.told c.args.desk.now).left inputs.Capture in
    let left_after = (g.D.Desk.told c.look.new.desk).left inputs.Capture in
    capture_failed c.look.new.self c.args.script c.args.limit (later_of c.args.capture left) left_after script_left (g.D.Desk.told c.args.desk.now) (g.D.Desk.told c.look.new.desk) c.in-Err.fault
    c.in-Err.ensures.stays c.requires.script.lines c.in-Err.ensures.err

pub returns-in-Ok-clause-took : goal.returns-in-Ok-clause-took
returns-in-Ok-clause-took g c =
    let told = g.D.Desk.told c.args.desk.now in
    let told_after = g.D.Desk.told c.look.new.desk in
    let new = c.look.new.self in
    record {
      capture = first_record_looked c.args.capture new new.window.ended (told.left inputs.Capture) (told_after.left inputs.Capture) c.look.ensures.took;
      script = unlooked (lines_held (script_reading Waiting c.args.script)) c.args.script.window.ended (told.left inputs.Script) (told_after.left inputs.Script) (c.look.ensures.only.inputs inputs.Script (λ same. cc));
    }

pub returns-in-Err-clause-first : goal.returns-in-Err-clause-first
returns-in-Err-clause-first g c lines =
    capture_first c.args.capture c.look.new.self lines (g.D.Desk.told c.args.desk.now) (g.D.Desk.told c.look.new.desk) c.in-Err.fault c.in-Err.ensures.none c.look.ensures.took c.in-Err.ensures.err
