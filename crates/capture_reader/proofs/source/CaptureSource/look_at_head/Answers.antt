-- A whole record that is held, as the desk sees it.
use Rattle.std.proofs.Common.{Some}
use Rattle.std.proofs.lemmas.Result.{on_ok_weaker}
use Rattle.psd_base.specs.declared.outlet.Input.TheVariants as inputs
use Rattle.capture_reader.specs.Ahead.{ahead_of}
use Rattle.capture_reader.specs.Capture.{records}
use Rattle.capture_reader.proofs.Counting.{record_took}
use Rattle.capture_reader.proofs.Looks.{later_moves, some_and}
use Rattle.capture_reader.proofs.Taken.{held_still}
use Rattle.capture_reader.proofs.source.CaptureSource.look_at_head.Goals as goal

pub returns-else-len-head-clause-ok : goal.returns-else-len-head-clause-ok
returns-else-len-head-clause-ok g c =
    let now = c.args.self.now in
    let new = c.take_held.new.self in
    let left = (g.D.Desk.told c.args.desk.now).left inputs.Capture in
    on_ok_weaker c.take_held.result
    (some_and (ahead_of new.ahead) (λ event found.
    (found.0, later_moves (records now.ports now.tick now.offset 0) (records new.ports new.tick new.offset 0) now.window new.window (Some event) left found.1)))
    c.take_held.ensures.ahead

pub returns-else-len-head-clause-took : goal.returns-else-len-head-clause-took
returns-else-len-head-clause-took g c =
    let now = c.args.self.now in
    let left = (g.D.Desk.told c.args.desk.now).left inputs.Capture in
    on_ok_weaker c.take_held.result
    (record_took now c.take_held.new.self now.window left left _ (held_still now.window left) c.take_held.ensures.window)
    c.take_held.ensures.ahead

pub returns-else-len-head-clause-err : goal.returns-else-len-head-clause-err
returns-else-len-head-clause-err g c =
    c.take_held.ensures.err (g.D.Desk.told c.args.desk.now) (g.D.Desk.told c.args.desk.now)
