-- The next record, or none, and what comes after it.
use Rattle.std.proofs.Common.{None, refl, ◌∙◌, sym, subst}
use Rattle.std.proofs.lemmas.Result.{on_ok_weaker, IfErr-weaker}
use Rattle.psd_base.specs.declared.outlet.Input.TheVariants as inputs
use Rattle.capture_reader.specs.Capture.{records}
use Rattle.capture_reader.specs.Ahead.{ahead_of}
use Rattle.capture_reader.specs.Source.{later_of, records_in}
use Rattle.capture_reader.specs.Taken.{Took}
use Rattle.capture_reader.proofs.Looks.{later_still, partial_short, some_and, ahead_read, nothing_ahead}
use Rattle.capture_reader.proofs.Counting.{took_held, one_waits, failed_took, held_took}
use Rattle.capture_reader.proofs.source.CaptureSource.look.Goals as goal

pub returns-in-Ok-false-clause-read : goal.returns-in-Ok-false-clause-read
returns-in-Ok-false-clause-read g c =
    let now = c.args.self.now in
    let before = later_still (records now.ports now.tick now.offset 0) now.window c.hold.new.self ((g.D.Desk.told c.args.desk.now).left inputs.Capture) ((g.D.Desk.told c.hold.new.desk).left inputs.Capture) c.hold.ensures.still in
    on_ok_weaker c.end.result (λ _. before ∙ nothing_ahead None _ refl) c.end.ensures.ok

pub returns-in-Ok-false-clause-stays : goal.returns-in-Ok-false-clause-stays
returns-in-Ok-false-clause-stays g c =
    let now = c.args.self.now in
    let before = later_still (records now.ports now.tick now.offset 0) now.window c.hold.new.self ((g.D.Desk.told c.args.desk.now).left inputs.Capture) ((g.D.Desk.told c.hold.new.desk).left inputs.Capture) c.hold.ensures.still in
    IfErr-weaker c.end.result _ _ (λ stop _. sym before) (c.end.ensures.err (g.D.Desk.told c.args.desk.now) (g.D.Desk.told c.hold.new.desk))

pub returns-in-Ok-false-clause-err : goal.returns-in-Ok-false-clause-err
returns-in-Ok-false-clause-err g c = c.end.ensures.err (g.D.Desk.told c.args.desk.now) (g.D.Desk.told c.hold.new.desk)

pub returns-in-Ok-clause-read : goal.returns-in-Ok-clause-read
returns-in-Ok-clause-read g c =
    let now = c.args.self.now in
    let new = c.look_at_head.new.self in
    let before = later_still (records now.ports now.tick now.offset 0) now.window c.hold.new.self ((g.D.Desk.told c.args.desk.now).left inputs.Capture) ((g.D.Desk.told c.hold.new.desk).left inputs.Capture) c.hold.ensures.still in
    before ∙ ahead_read (ahead_of new.ahead) _ (later_of new ((g.D.Desk.told c.look_at_head.new.desk).left inputs.Capture)) (some_and (ahead_of new.ahead) (λ event is. is.1) c.in-Ok.ensures.ok)

pub returns-in-Err-look_at_head-clause-stays : goal.returns-in-Err-look_at_head-clause-stays
returns-in-Err-look_at_head-clause-stays g c =
    let now = c.args.self.now in
    let before = later_still (records now.ports now.tick now.offset 0) now.window c.hold.new.self ((g.D.Desk.told c.args.desk.now).left inputs.Capture) ((g.D.Desk.told c.hold.new.desk).left inputs.Capture) c.hold.ensures.still in
    c.in-Err-look_at_head.ensures.stays ∙ sym before

pub returns-in-Err-clause-stays : goal.returns-in-Err-clause-stays
returns-in-Err-clause-stays g c =
    let now = c.args.self.now in
    sym (later_still (records now.ports now.tick now.offset 0) now.window c.hold.new.self ((g.D.Desk.told c.args.desk.now).left inputs.Capture) ((g.D.Desk.told c.hold.new.desk).left inputs.Capture) c.hold.ensures.still)

pub returns-in-Err-clause-err : goal.returns-in-Err-clause-err
returns-in-Err-clause-err g c = (c.in-Err.ensures.failed, partial_short _ _ _ c.hold.new.self c.in-Err.ensures.short, c.in-Err.ensures.open)

pub returns-in-Ok-clause-took : goal.returns-in-Ok-clause-took
returns-in-Ok-clause-took g c =
    let now = c.args.self.now in
    let new = c.look_at_head.new.self in
    let left = (g.D.Desk.told c.args.desk.now).left inputs.Capture in
    let left_after = (g.D.Desk.told c.look_at_head.new.desk).left inputs.Capture in
    subst (λ n. Took (records_in now) (records_in new) new.window.ended left left_after n) (sym (one_waits (ahead_of new.ahead) _ c.in-Ok.ensures.ok))
    (took_held now new c.hold.new.self left ((g.D.Desk.told c.hold.new.desk).left inputs.Capture) left_after 1 c.hold.ensures.took c.in-Ok.ensures.took)

pub returns-in-Err-look_at_head-clause-took : goal.returns-in-Err-look_at_head-clause-took
returns-in-Err-look_at_head-clause-took g c =
    let now = c.args.self.now in
    let looked = c.look_at_head.new.self in
    failed_took now looked c.hold.new.self (record looked.ahead { kept = None }) ((g.D.Desk.told c.args.desk.now).left inputs.Capture) ((g.D.Desk.told c.hold.new.desk).left inputs.Capture)
    ((g.D.Desk.told c.look_at_head.new.desk).left inputs.Capture) c.hold.ensures.took c.in-Err-look_at_head.ensures.held c.in-Err-look_at_head.ensures.same

pub returns-in-Ok-false-clause-took : goal.returns-in-Ok-false-clause-took
returns-in-Ok-false-clause-took g c =
    let now = c.args.self.now in
    held_took now c.hold.new.self (record now.ahead { kept = None }) c.hold.new.self.ended ((g.D.Desk.told c.args.desk.now).left inputs.Capture)
    ((g.D.Desk.told c.hold.new.desk).left inputs.Capture) c.hold.ensures.took

pub returns-in-Err-clause-took : goal.returns-in-Err-clause-took
returns-in-Err-clause-took g c =
    let now = c.args.self.now in
    held_took now c.hold.new.self (record now.ahead { kept = None }) c.hold.new.self.ended ((g.D.Desk.told c.args.desk.now).left inputs.Capture)
    ((g.D.Desk.told c.hold.new.desk).left inputs.Capture) c.hold.ensures.took
