-- What is found behind a sound head.
use Rattle.std.proofs.Common.{Some, Ok, ◌∙◌, ap, sym, subst}
use Rattle.std.proofs.lemmas.Result.{on_ok_weaker, on_err_weaker}
use Rattle.psd_base.specs.declared.outlet.Input.TheVariants as inputs
use Rattle.capture_reader.specs.Capture.{records}
use Rattle.capture_reader.specs.declared.fault.RecordFault.{RecordFault}
use Rattle.capture_reader.specs.Ahead.{ahead_of}
use Rattle.capture_reader.specs.declared.source.CaptureSource.{CaptureSource}
use Rattle.capture_reader.specs.Source.{LookFailed, later}
use Rattle.capture_reader.proofs.Looks.{announces_longer, ends_cut, partial_cut, later_still, later_moves, some_and}
use Rattle.capture_reader.proofs.Counting.{record_took}
use Rattle.capture_reader.proofs.source.CaptureSource.look_at_payload.Goals as goal

pub returns-in-Ok-true-clause-ok : goal.returns-in-Ok-true-clause-ok
returns-in-Ok-true-clause-ok g c =
    let now = c.args.self.now in
    let new = c.take_record.new.self in
    let left = (g.D.Desk.told c.args.desk.now).left inputs.Capture in
    let left_after = (g.D.Desk.told c.hold.new.desk).left inputs.Capture in
    let before = later_still (records now.ports now.tick now.offset 0) now.window c.hold.new.self left left_after c.hold.ensures.still in
    on_ok_weaker c.take_record.result
    (some_and (ahead_of new.ahead) (λ event found.
    (found.0, before ∙ later_moves (records now.ports now.tick now.offset 0) (records new.ports new.tick new.offset 0) c.hold.new.self new.window (Some event) left_after found.1)))
    c.take_record.ensures.ahead

pub returns-in-Ok-true-clause-stays : goal.returns-in-Ok-true-clause-stays
returns-in-Ok-true-clause-stays g c =
    let now = c.args.self.now in
    let left = (g.D.Desk.told c.args.desk.now).left inputs.Capture in
    let left_after = (g.D.Desk.told c.hold.new.desk).left inputs.Capture in
    let before = later_still (records now.ports now.tick now.offset 0) now.window c.hold.new.self left left_after c.hold.ensures.still in
    on_err_weaker c.take_record.result
    (λ same. ap (λ (source : CaptureSource). later (records source.ports source.tick source.offset 0) source.window left_after) same ∙ sym before)
    c.take_record.ensures.same

pub returns-in-Ok-true-clause-err : goal.returns-in-Ok-true-clause-err
returns-in-Ok-true-clause-err g c =
    c.take_record.ensures.err (g.D.Desk.told c.args.desk.now) (g.D.Desk.told c.hold.new.desk)

pub returns-in-Ok-false-clause-err : goal.returns-in-Ok-false-clause-err
returns-in-Ok-false-clause-err g c =
    let now = c.args.self.now in
    let held = c.hold.new.self in
    let ended = c.in-Ok-false.ensures.ended (ap Ok c.in-Ok-false.field-0-test) in
    let sound = announces_longer now.ports now.tick now.window.bytes held.bytes c.args.head.now c.args.form c.requires.sound c.hold.ensures.front in
    subst (λ (fault : RecordFault). LookFailed now.ports now.tick now.offset held (g.D.Desk.told c.args.desk.now) (g.D.Desk.told c.hold.new.desk) fault)
    (sym c.fault.ensures) (ends_cut now.ports now.tick now.offset held c.args.head.now c.args.form sound ended.0 ended.1)

pub returns-in-Err-clause-err : goal.returns-in-Err-clause-err
returns-in-Err-clause-err g c =
    let now = c.args.self.now in
    let sound = announces_longer now.ports now.tick now.window.bytes c.hold.new.self.bytes c.args.head.now c.args.form c.requires.sound c.hold.ensures.front in
    (c.in-Err.ensures.failed, partial_cut now.ports now.tick now.offset c.hold.new.self c.args.head.now c.args.form sound c.in-Err.ensures.short, c.in-Err.ensures.open)

pub returns-in-Ok-false-clause-stays : goal.returns-in-Ok-false-clause-stays
returns-in-Ok-false-clause-stays g c =
    let now = c.args.self.now in
    sym (later_still (records now.ports now.tick now.offset 0) now.window c.hold.new.self ((g.D.Desk.told c.args.desk.now).left inputs.Capture) ((g.D.Desk.told c.hold.new.desk).left inputs.Capture) c.hold.ensures.still)

pub returns-in-Err-clause-stays : goal.returns-in-Err-clause-stays
returns-in-Err-clause-stays g c =
    let now = c.args.self.now in
    sym (later_still (records now.ports now.tick now.offset 0) now.window c.hold.new.self ((g.D.Desk.told c.args.desk.now).left inputs.Capture) ((g.D.Desk.told c.hold.new.desk).left inputs.Capture) c.hold.ensures.still)

pub returns-in-Ok-true-clause-took : goal.returns-in-Ok-true-clause-took
returns-in-Ok-true-clause-took g c =
    let now = c.args.self.now in
    on_ok_weaker c.take_record.result
    (record_took now c.take_record.new.self c.hold.new.self ((g.D.Desk.told c.args.desk.now).left inputs.Capture) ((g.D.Desk.told c.hold.new.desk).left inputs.Capture) _ c.hold.ensures.took c.take_record.ensures.window)
    c.take_record.ensures.ahead
