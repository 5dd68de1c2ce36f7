-- The next line, or none, and what comes after it.
use Rattle.std.proofs.Common.{◌≡◌, ◌∙◌, ℕ, ◌+◌, List, false, None, refl, ap, sym}
use Rattle.std.proofs.lemmas.Result.{on_ok_weaker, on_err_weaker}
use Rattle.psd_base.specs.declared.outlet.Input.TheVariants as inputs
use Rattle.capture_reader.proofs.Looks.{later_still, later_moves}
use Rattle.capture_reader.specs.Script.{lines}
use Rattle.capture_reader.specs.Source.{later}
use Rattle.capture_reader.specs.Ahead.{line_of}
use Rattle.capture_reader.specs.declared.script.ScriptSource.{ScriptSource}
use Rattle.capture_reader.specs.Lines.{lines_in}
use Rattle.capture_reader.specs.Taken.{waiting}
use Rattle.capture_reader.proofs.Counting.{script_took, on_either, nothing_counted}
use Rattle.capture_reader.proofs.script.ScriptSource.look.Goals as goal

pub returns-in-Ok-clause-read : goal.returns-in-Ok-clause-read
returns-in-Ok-clause-read g c =
    let now = c.args.self.now in
    let new = c.take_line.new.self in
    let left = (g.D.Desk.told c.args.desk.now).left inputs.Script in
    let left_after = (g.D.Desk.told c.hold_line.new.desk).left inputs.Script in
    let before = later_still (lines now.ports now.tick now.line 0) now.window c.hold_line.new.self left left_after c.hold_line.ensures.still in
    on_ok_weaker c.take_line.result
    (λ moves. before ∙ later_moves (lines now.ports now.tick now.line 0) (lines new.ports new.tick new.line 0) c.hold_line.new.self new.window (line_of new.ahead) left_after moves)
    c.take_line.ensures.read

pub returns-in-Ok-clause-stays : goal.returns-in-Ok-clause-stays
returns-in-Ok-clause-stays g c =
    let now = c.args.self.now in
    let left = (g.D.Desk.told c.args.desk.now).left inputs.Script in
    let left_after = (g.D.Desk.told c.hold_line.new.desk).left inputs.Script in
    let before = later_still (lines now.ports now.tick now.line 0) now.window c.hold_line.new.self left left_after c.hold_line.ensures.still in
    on_err_weaker c.take_line.result
    (λ same. ap (λ (source : ScriptSource). later (lines source.ports source.tick source.line 0) source.window left_after) same ∙ sym before)
    c.take_line.ensures.same

pub returns-in-Ok-clause-err : goal.returns-in-Ok-clause-err
returns-in-Ok-clause-err g c = c.take_line.ensures.err (g.D.Desk.told c.args.desk.now) (g.D.Desk.told c.hold_line.new.desk)

pub returns-in-Err-clause-stays : goal.returns-in-Err-clause-stays
returns-in-Err-clause-stays g c =
    let now = c.args.self.now in
    sym (later_still (lines now.ports now.tick now.line 0) now.window c.hold_line.new.self ((g.D.Desk.told c.args.desk.now).left inputs.Script) ((g.D.Desk.told c.hold_line.new.desk).left inputs.Script) c.hold_line.ensures.still)

pub returns-in-Ok-clause-took : goal.returns-in-Ok-clause-took
returns-in-Ok-clause-took g c =
    let now = c.args.self.now in
    let new = c.take_line.new.self in
    let held = c.hold_line.new.self in
    let looked : ScriptSource = record now { window = held; ahead = None } in
    script_took now new held ((g.D.Desk.told c.args.desk.now).left inputs.Script) ((g.D.Desk.told c.hold_line.new.desk).left inputs.Script) c.hold_line.ensures.took c.take_line.ensures.window
    (on_either (held.ended ≡ false → (more : List ℕ) → lines_in looked more ≡ lines_in new more + waiting (line_of new.ahead)) c.take_line.result c.take_line.ensures.counted c.take_line.ensures.same
    (λ counted. counted) (λ same unmet more. nothing_counted looked new more refl same))

pub returns-in-Err-clause-took : goal.returns-in-Err-clause-took
returns-in-Err-clause-took g c =
    let now = c.args.self.now in
    let held = c.hold_line.new.self in
    let looked : ScriptSource = record now { window = held; ahead = None } in
    script_took now looked held ((g.D.Desk.told c.args.desk.now).left inputs.Script) ((g.D.Desk.told c.hold_line.new.desk).left inputs.Script) c.hold_line.ensures.took refl
    (λ unmet more. nothing_counted looked looked more refl refl)
