-- A look leaves what is to come.
use Rattle.std.proofs.Common.{◌∙◌, ap, sym, subst}
use Rattle.psd_base.specs.declared.outlet.Input.TheVariants as inputs
use Rattle.capture_reader.specs.declared.fault.Fault.TheVariants.{Record}
use Rattle.capture_reader.specs.declared.progress.State.{State}
use Rattle.capture_reader.specs.declared.progress.State.TheVariants.{Waiting, Stopped}
use Rattle.capture_reader.specs.Progress.{reading, capture_reading, script_reading}
use Rattle.capture_reader.specs.Reader.{rest, records_held, lines_held, TookBoth}
use Rattle.capture_reader.proofs.Giving.{record_looked, unlooked}
use Rattle.capture_reader.proofs.Upcoming.{rest_record, rest_record-failed}
use Rattle.capture_reader.proofs.progress.Progress.look_at_record.Goals as goal

pub returns-in-Ok-clause-rest : goal.returns-in-Ok-clause-rest
returns-in-Ok-clause-rest g c script_left =
    let now = c.args.self.now in
    let left = (g.D.Desk.told c.args.desk.now).left inputs.Capture in
    rest_record now.capture c.look.new.self now.script now.limit now.served now.tick left ((g.D.Desk.told c.look.new.desk).left inputs.Capture) script_left c.look.ensures.ports c.in-Ok.ensures.read
    ∙ ap (λ (state : State). rest (reading (record now { state = state })) left script_left) (sym c.requires.given)

pub returns-in-Err-clause-rest : goal.returns-in-Err-clause-rest
returns-in-Err-clause-rest g c script_left =
    let now = c.args.self.now in
    let left = (g.D.Desk.told c.args.desk.now).left inputs.Capture in
    rest_record-failed now.capture c.look.new.self now.script now.limit now.served now.tick (Record c.in-Err.fault) left ((g.D.Desk.told c.look.new.desk).left inputs.Capture) script_left c.look.ensures.ports
    c.in-Err.ensures.none c.in-Err.ensures.stays
    ∙ ap (λ (state : State). rest (reading (record now { state = state })) left script_left) (sym c.requires.given)

pub returns-in-Ok-clause-took : goal.returns-in-Ok-clause-took
returns-in-Ok-clause-took g c =
    let now = c.args.self.now in
    let new = c.look.new.self in
    let told = g.D.Desk.told c.args.desk.now in
    let told_after = g.D.Desk.told c.look.new.desk in
    let P : State → Type 0 = λ state. TookBoth (records_held now.capture.ports (capture_reading state now.capture)) (lines_held (script_reading state now.script))
    (reading (record now { capture = new; state = Waiting })) told told_after in
    subst P (sym c.requires.given) (record {
      capture = record_looked now.capture new new.window.ended (told.left inputs.Capture) (told_after.left inputs.Capture) c.look.ensures.took;
      script = unlooked (lines_held (script_reading Waiting now.script)) now.script.window.ended (told.left inputs.Script) (told_after.left inputs.Script) (c.look.ensures.only.inputs inputs.Script (λ same. cc));
    })

pub returns-in-Err-clause-took : goal.returns-in-Err-clause-took
returns-in-Err-clause-took g c =
    let now = c.args.self.now in
    let new = c.look.new.self in
    let told = g.D.Desk.told c.args.desk.now in
    let told_after = g.D.Desk.told c.look.new.desk in
    let P : State → Type 0 = λ state. TookBoth (records_held now.capture.ports (capture_reading state now.capture)) (lines_held (script_reading state now.script))
    (reading (record now { capture = new; state = Stopped (Record c.in-Err.fault) })) told told_after in
    subst P (sym c.requires.given) (record {
      capture = record_looked now.capture new new.window.ended (told.left inputs.Capture) (told_after.left inputs.Capture) c.look.ensures.took;
      script = unlooked (lines_held (script_reading Waiting now.script)) now.script.window.ended (told.left inputs.Script) (told_after.left inputs.Script) (c.look.ensures.only.inputs inputs.Script (λ same. cc));
    })
