-- What a step leaves, and why it stops.
use Rattle.std.proofs.Common.{inr, refl, ap, sym, ◌∙◌}
use Rattle.std.proofs.lemmas.Result.{IfErr-weaker}
use Rattle.psd_base.specs.declared.outlet.Input.TheVariants as inputs
use Rattle.capture_reader.specs.declared.fault.Fault.TheVariants.{Record, Line}
use Rattle.capture_reader.specs.declared.progress.State.{State}
use Rattle.capture_reader.specs.Ahead.{ahead_of, line_of}
use Rattle.capture_reader.specs.Progress.{reading, given_in, as_waiting}
use Rattle.capture_reader.specs.Reader.{rest, records_held, lines_held}
use Rattle.capture_reader.proofs.Giving.{gave_same, looked_and_gave, looks_at, gave_of_capture, gave_of_script, too_many_behind, capture_behind, script_behind}
use Rattle.capture_reader.proofs.Upcoming.{capture_stops, script_stops, ended, too_many, not_ok_true, record_lines, lines_still}
use Rattle.capture_reader.proofs.progress.Progress.advance.Goals as goal

pub returns-in-Waiting-clause-end : goal.returns-in-Waiting-clause-end
returns-in-Waiting-clause-end g c is =
    let now = c.args.self.now in
    let capture_left = (g.D.Desk.told c.args.desk.now).left inputs.Capture in
    let script_left = (g.D.Desk.told c.args.desk.now).left inputs.Script in
    let end = c.give.ensures.end is in
    ended c.give.new.self (as_waiting now) _ capture_left script_left end.0 refl end.1 end.2 end.3
    (c.give.ensures.rest (not_ok_true c.give.result is) capture_left script_left
    ∙ ap (λ (state : State). rest (reading (record now { state = state })) capture_left script_left) (sym c.in-Waiting.is))

pub returns-in-Waiting-clause-cause : goal.returns-in-Waiting-clause-cause
returns-in-Waiting-clause-cause g c =
    let capture_left = (g.D.Desk.told c.args.desk.now).left inputs.Capture in
    let script_left = (g.D.Desk.told c.args.desk.now).left inputs.Script in
    let before = rest (reading c.args.self.now) capture_left script_left in
    let reads = g.D.Desk.told c.args.desk.now in
    IfErr-weaker c.give.result _ _
    (λ fault is. inr (too_many c.give.new.self c.args.self.now before capture_left script_left reads reads fault is.0 is.1 c.in-Waiting.is is.3 is.2 refl)) c.give.ensures.stop

pub returns-in-Ok-clause-end : goal.returns-in-Ok-clause-end
returns-in-Ok-clause-end g c is =
    let now = c.args.self.now in
    let capture_left = (g.D.Desk.told c.look_at_record.new.desk).left inputs.Capture in
    let script_left = (g.D.Desk.told c.look_at_record.new.desk).left inputs.Script in
    let looked = c.in-Ok.ensures.rest script_left
    ∙ ap (rest (reading now) ((g.D.Desk.told c.args.desk.now).left inputs.Capture)) (c.look_at_record.ensures.only.inputs inputs.Script (λ same. cc)) in
    let end = c.give-in-Ok.ensures.end is in
    ended c.give-in-Ok.new.self (as_waiting c.look_at_record.new.self) _ capture_left script_left end.0 refl end.1 end.2 end.3
    (c.give-in-Ok.ensures.rest (not_ok_true c.give-in-Ok.result is) capture_left script_left ∙ looked)

pub returns-in-Ok-clause-cause : goal.returns-in-Ok-clause-cause
returns-in-Ok-clause-cause g c =
    let now = c.args.self.now in
    let capture_left = (g.D.Desk.told c.look_at_record.new.desk).left inputs.Capture in
    let script_left = (g.D.Desk.told c.look_at_record.new.desk).left inputs.Script in
    let looked = c.in-Ok.ensures.rest script_left
    ∙ ap (rest (reading now) ((g.D.Desk.told c.args.desk.now).left inputs.Capture)) (c.look_at_record.ensures.only.inputs inputs.Script (λ same. cc)) in
    let before = rest (reading now) ((g.D.Desk.told c.args.desk.now).left inputs.Capture) ((g.D.Desk.told c.args.desk.now).left inputs.Script) in
    IfErr-weaker c.give-in-Ok.result _ _
    (λ fault is. inr (too_many c.give-in-Ok.new.self (as_waiting c.look_at_record.new.self) before capture_left script_left (g.D.Desk.told c.args.desk.now) (g.D.Desk.told c.look_at_record.new.desk) fault
    is.0 is.1 refl is.3 is.2 looked))
    c.give-in-Ok.ensures.stop

pub returns-in-Err-clause-cause : goal.returns-in-Err-clause-cause
returns-in-Err-clause-cause g c =
    let now = c.args.self.now in
    let new = c.look_at_record.new.self in
    let capture_left = (g.D.Desk.told c.look_at_record.new.desk).left inputs.Capture in
    let script_left = (g.D.Desk.told c.look_at_record.new.desk).left inputs.Script in
    let looked = c.in-Err.ensures.rest script_left
    ∙ ap (rest (reading now) ((g.D.Desk.told c.args.desk.now).left inputs.Capture)) (c.look_at_record.ensures.only.inputs inputs.Script (λ same. cc)) in
    let before = rest (reading now) ((g.D.Desk.told c.args.desk.now).left inputs.Capture) ((g.D.Desk.told c.args.desk.now).left inputs.Script) in
    let counts = c.look_at_record.ensures.counts in
    let failed = c.in-Err.ensures.err in
    inr (capture_stops new before capture_left script_left (g.D.Desk.told c.args.desk.now) (g.D.Desk.told c.look_at_record.new.desk) (Record c.in-Err.fault) c.in-Err.fault
    failed.0 failed.1 (lines_still now new counts.4 counts.3 (record_lines now c.requires.sound c.in-GivenRecord.is)) looked failed.2)

pub returns-in-Ok-look_at_line-clause-end : goal.returns-in-Ok-look_at_line-clause-end
returns-in-Ok-look_at_line-clause-end g c is =
    let now = c.args.self.now in
    let capture_left = (g.D.Desk.told c.look_at_line.new.desk).left inputs.Capture in
    let script_left = (g.D.Desk.told c.look_at_line.new.desk).left inputs.Script in
    let looked = c.in-Ok-look_at_line.ensures.rest capture_left
    ∙ ap (λ left. rest (reading now) left ((g.D.Desk.told c.args.desk.now).left inputs.Script)) (c.look_at_line.ensures.only.inputs inputs.Capture (λ same. cc)) in
    let end = c.give-in-Ok-look_at_line.ensures.end is in
    ended c.give-in-Ok-look_at_line.new.self (as_waiting c.look_at_line.new.self) _ capture_left script_left end.0 refl end.1 end.2 end.3
    (c.give-in-Ok-look_at_line.ensures.rest (not_ok_true c.give-in-Ok-look_at_line.result is) capture_left script_left ∙ looked)

pub returns-in-Ok-look_at_line-clause-cause : goal.returns-in-Ok-look_at_line-clause-cause
returns-in-Ok-look_at_line-clause-cause g c =
    let now = c.args.self.now in
    let capture_left = (g.D.Desk.told c.look_at_line.new.desk).left inputs.Capture in
    let script_left = (g.D.Desk.told c.look_at_line.new.desk).left inputs.Script in
    let looked = c.in-Ok-look_at_line.ensures.rest capture_left
    ∙ ap (λ left. rest (reading now) left ((g.D.Desk.told c.args.desk.now).left inputs.Script)) (c.look_at_line.ensures.only.inputs inputs.Capture (λ same. cc)) in
    let before = rest (reading now) ((g.D.Desk.told c.args.desk.now).left inputs.Capture) ((g.D.Desk.told c.args.desk.now).left inputs.Script) in
    IfErr-weaker c.give-in-Ok-look_at_line.result _ _
    (λ fault is. inr (too_many c.give-in-Ok-look_at_line.new.self (as_waiting c.look_at_line.new.self) before capture_left script_left (g.D.Desk.told c.args.desk.now) (g.D.Desk.told c.look_at_line.new.desk) fault
    is.0 is.1 refl is.3 is.2 looked))
    c.give-in-Ok-look_at_line.ensures.stop

pub returns-in-Err-look_at_line-clause-cause : goal.returns-in-Err-look_at_line-clause-cause
returns-in-Err-look_at_line-clause-cause g c =
    let now = c.args.self.now in
    let new = c.look_at_line.new.self in
    let capture_left = (g.D.Desk.told c.look_at_line.new.desk).left inputs.Capture in
    let script_left = (g.D.Desk.told c.look_at_line.new.desk).left inputs.Script in
    let looked = c.in-Err-look_at_line.ensures.rest capture_left
    ∙ ap (λ left. rest (reading now) left ((g.D.Desk.told c.args.desk.now).left inputs.Script)) (c.look_at_line.ensures.only.inputs inputs.Capture (λ same. cc)) in
    let before = rest (reading now) ((g.D.Desk.told c.args.desk.now).left inputs.Capture) ((g.D.Desk.told c.args.desk.now).left inputs.Script) in
    let failed = c.in-Err-look_at_line.ensures.err in
    inr (script_stops new before capture_left script_left (g.D.Desk.told c.args.desk.now) (g.D.Desk.told c.look_at_line.new.desk) (Line c.in-Err-look_at_line.fault) c.in-Err-look_at_line.fault
    failed.0 failed.1 c.in-Err-look_at_line.ensures.sound.same_ports looked failed.2)

-- what was taken

pub returns-in-Stopped-clause-took : goal.returns-in-Stopped-clause-took
returns-in-Stopped-clause-took g c =
    let now = c.args.self.now in
    gave_same now (g.D.Desk.told c.args.desk.now) (ap (λ (state : State). given_in state (ahead_of now.capture.ahead) (line_of now.script.ahead)) c.in-Stopped.is)

pub returns-in-Ok-clause-took : goal.returns-in-Ok-clause-took
returns-in-Ok-clause-took g c =
    let now = c.args.self.now in
    let told = g.D.Desk.told c.args.desk.now in
    let told_after = g.D.Desk.told c.look_at_record.new.desk in
    looked_and_gave (records_held now.capture.ports (reading now).capture) (lines_held (reading now).script) (as_waiting c.look_at_record.new.self) c.give-in-Ok.new.self told told_after refl
    c.give-in-Ok.ensures.counts.1 c.give-in-Ok.ensures.counts.2 c.in-Ok.ensures.took (c.give-in-Ok.ensures.took told_after)

pub returns-in-Ok-look_at_line-clause-took : goal.returns-in-Ok-look_at_line-clause-took
returns-in-Ok-look_at_line-clause-took g c =
    let now = c.args.self.now in
    let told = g.D.Desk.told c.args.desk.now in
    let told_after = g.D.Desk.told c.look_at_line.new.desk in
    looked_and_gave (records_held now.capture.ports (reading now).capture) (lines_held (reading now).script) (as_waiting c.look_at_line.new.self) c.give-in-Ok-look_at_line.new.self told told_after refl
    c.give-in-Ok-look_at_line.ensures.counts.1 c.give-in-Ok-look_at_line.ensures.counts.2 c.in-Ok-look_at_line.ensures.took (c.give-in-Ok-look_at_line.ensures.took told_after)

-- where a read is tried, and behind what it fails

pub returns-in-Ok-clause-looks : goal.returns-in-Ok-clause-looks
returns-in-Ok-clause-looks g c =
    looks_at (reading c.args.self.now).given inputs.Capture (g.D.Desk.told c.args.desk.now) (g.D.Desk.told c.look_at_record.new.desk)
    (gave_of_capture c.args.self.now c.requires.sound c.in-GivenRecord.is) c.look_at_record.ensures.only

pub returns-in-Err-clause-looks : goal.returns-in-Err-clause-looks
returns-in-Err-clause-looks g c =
    looks_at (reading c.args.self.now).given inputs.Capture (g.D.Desk.told c.args.desk.now) (g.D.Desk.told c.look_at_record.new.desk)
    (gave_of_capture c.args.self.now c.requires.sound c.in-GivenRecord.is) c.look_at_record.ensures.only

pub returns-in-Ok-look_at_line-clause-looks : goal.returns-in-Ok-look_at_line-clause-looks
returns-in-Ok-look_at_line-clause-looks g c =
    looks_at (reading c.args.self.now).given inputs.Script (g.D.Desk.told c.args.desk.now) (g.D.Desk.told c.look_at_line.new.desk)
    (gave_of_script c.args.self.now c.requires.sound c.in-GivenLine.is) c.look_at_line.ensures.only

pub returns-in-Err-look_at_line-clause-looks : goal.returns-in-Err-look_at_line-clause-looks
returns-in-Err-look_at_line-clause-looks g c =
    looks_at (reading c.args.self.now).given inputs.Script (g.D.Desk.told c.args.desk.now) (g.D.Desk.told c.look_at_line.new.desk)
    (gave_of_script c.args.self.now c.requires.sound c.in-GivenLine.is) c.look_at_line.ensures.only

pub returns-in-Waiting-clause-behind : goal.returns-in-Waiting-clause-behind
returns-in-Waiting-clause-behind g c =
    IfErr-weaker c.give.result _ _ (λ fault is. inr (too_many_behind (reading c.args.self.now).given fault is.0)) c.give.ensures.stop

pub returns-in-Ok-clause-behind : goal.returns-in-Ok-clause-behind
returns-in-Ok-clause-behind g c =
    IfErr-weaker c.give-in-Ok.result _ _ (λ fault is. inr (too_many_behind (reading c.args.self.now).given fault is.0)) c.give-in-Ok.ensures.stop

pub returns-in-Ok-look_at_line-clause-behind : goal.returns-in-Ok-look_at_line-clause-behind
returns-in-Ok-look_at_line-clause-behind g c =
    IfErr-weaker c.give-in-Ok-look_at_line.result _ _ (λ fault is. inr (too_many_behind (reading c.args.self.now).given fault is.0)) c.give-in-Ok-look_at_line.ensures.stop

pub returns-in-Err-clause-behind : goal.returns-in-Err-clause-behind
returns-in-Err-clause-behind g c =
    let now = c.args.self.now in
    let source = c.look_at_record.new.self.capture in
    inr (capture_behind (reading now).given source.ports source.tick source.offset source.window (g.D.Desk.told c.args.desk.now) (g.D.Desk.told c.look_at_record.new.desk) c.in-Err.fault
    (gave_of_capture now c.requires.sound c.in-GivenRecord.is) c.in-Err.ensures.err.2)

pub returns-in-Err-look_at_line-clause-behind : goal.returns-in-Err-look_at_line-clause-behind
returns-in-Err-look_at_line-clause-behind g c =
    let now = c.args.self.now in
    let source = c.look_at_line.new.self.script in
    inr (script_behind (reading now).given source.ports source.tick source.line source.window (g.D.Desk.told c.args.desk.now) (g.D.Desk.told c.look_at_line.new.desk) c.in-Err-look_at_line.fault
    (gave_of_script now c.requires.sound c.in-GivenLine.is) c.in-Err-look_at_line.ensures.err.2)
