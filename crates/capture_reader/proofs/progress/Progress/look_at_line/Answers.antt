-- A look leaves what is to come.
use Rattle.std.proofs.Common.{◌∙◌, ap, sym, subst}
use Rattle.psd_base.specs.declared.outlet.Input.TheVariants as inputs
use Rattle.capture_reader.specs.declared.fault.Fault.TheVariants.{Line}
use Rattle.capture_reader.specs.declared.progress.State.{State}
use Rattle.capture_reader.specs.declared.progress.State.TheVariants.{Waiting, Stopped}
use Rattle.capture_reader.specs.Progress.{reading, capture_reading, script_reading}
use Rattle.capture_reader.specs.Reader.{rest, records_held, lines_held, TookBoth}
use Rattle.capture_reader.proofs.Giving.{line_looked, unlooked}
use Rattle.capture_reader.proofs.Upcoming.{rest_line, rest_line-failed}
use Rattle.capture_reader.proofs.progress.Progress.look_at_line.Goals as goal

pub returns-in-Ok-clause-rest : goal.returns-in-Ok-clause-rest
returns-in-Ok-clause-rest g c capture_left =
    let now = c.args.self.now in
    let left = (g.D.Desk.told c.args.desk.now).left inputs.Script in
    let ports = c.requires.sound.same_ports in
    rest_line now.script c.look.new.self now.capture now.limit now.served now.tick capture_left left ((g.D.Desk.told c.look.new.desk).left inputs.Script) ports (c.look.ensures.ports ∙ ports) c.in-Ok.ensures.read
    ∙ ap (λ (state : State). rest (reading (record now { state = state })) capture_left left) (sym c.requires.given)

pub returns-in-Err-clause-rest : goal.returns-in-Err-clause-rest
returns-in-Err-clause-rest g c capture_left =
    let now = c.args.self.now in
    let left = (g.D.Desk.told c.args.desk.now).left inputs.Script in
    let ports = c.requires.sound.same_ports in
    rest_line-failed now.script c.look.new.self now.capture now.limit now.served now.tick (Line c.in-Err.fault) capture_left left ((g.D.Desk.told c.look.new.desk).left inputs.Script) ports (c.look.ensures.ports ∙ ports)
    c.in-Err.ensures.none c.in-Err.ensures.stays
    ∙ ap (λ (state : State). rest (reading (record now { state = state })) capture_left left) (sym c.requires.given)

pub returns-in-Ok-clause-took : goal.returns-in-Ok-clause-took
returns-in-Ok-clause-took g c =
    let now = c.args.self.now in
    let new = c.look.new.self in
    let told = g.D.Desk.told c.args.desk.now in
    let told_after = g.D.Desk.told c.look.new.desk in
    let P : State → Type 0 = λ state. TookBoth (records_held now.capture.ports (capture_reading state now.capture)) (lines_held (script_reading state now.script))
    (reading (record now { script = new; state = Waiting })) told told_after in
    subst P (sym c.requires.given) (record {
      capture = unlooked (records_held now.capture.ports (capture_reading Waiting now.capture)) now.capture.window.ended (told.left inputs.Capture) (told_after.left inputs.Capture) (c.look.ensures.only.inputs inputs.Capture (λ same. cc));
      script = line_looked now.script new new.window.ended (told.left inputs.Script) (told_after.left inputs.Script) c.look.ensures.took;
    })

pub returns-in-Err-clause-took : goal.returns-in-Err-clause-took
returns-in-Err-clause-took g c =
    let now = c.args.self.now in
    let new = c.look.new.self in
    let told = g.D.Desk.told c.args.desk.now in
    let told_after = g.D.Desk.told c.look.new.desk in
    let P : State → Type 0 = λ state. TookBoth (records_held now.capture.ports (capture_reading state now.capture)) (lines_held (script_reading state now.script))
    (reading (record now { script = new; state = Stopped (Line c.in-Err.fault) })) told told_after in
    subst P (sym c.requires.given) (record {
      capture = unlooked (records_held now.capture.ports (capture_reading Waiting now.capture)) now.capture.window.ended (told.left inputs.Capture) (told_after.left inputs.Capture) (c.look.ensures.only.inputs inputs.Capture (λ same. cc));
      script = line_looked now.script new new.window.ended (told.left inputs.Script) (told_after.left inputs.Script) c.look.ensures.took;
    })
