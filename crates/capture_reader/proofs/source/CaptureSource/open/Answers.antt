-- The bytes that were left hold the header, and the records behind it.
use Rattle.std.proofs.Common.{◌≡◌, false, Ok, Err, ap, sym, ◌∙◌, subst}
use Rattle.std.proofs.lemmas.Result.{IfOk-weaker, IfErr-weaker}
use Rattle.psd_base.specs.declared.outlet.Input.TheVariants as inputs
use Rattle.capture_reader.specs.Capture.{records}
use Rattle.capture_reader.specs.Fault.{record_stop}
use Rattle.capture_reader.specs.Source.{later}
use Rattle.capture_reader.specs.Window.{EndIsTrue, Held, still}
use Rattle.capture_reader.proofs.Opening.{all_is, header_told, header_cut, records_told, open_failed}
use Rattle.capture_reader.proofs.Counting.{IfOk-both}
use Rattle.capture_reader.proofs.FirstTaken.{opened, none_opened, faulty_first}
use Rattle.capture_reader.proofs.source.CaptureSource.open.Goals as goal

pub returns-in-Ok-true-clause-header : goal.returns-in-Ok-true-clause-header
returns-in-Ok-true-clause-header g c =
    let held = c.hold.new.self in
    let left = (g.D.Desk.told c.args.desk.now).left inputs.Capture in
    let left_after = (g.D.Desk.told c.hold.new.desk).left inputs.Capture in
    let all = all_is held left left_after (c.hold.ensures.still ∙ ap (λ (window : Held). still window left) c.requires) in
    let whole = c.in-Ok-true.ensures.held (ap Ok c.in-Ok-true.field-0-test) in
    IfOk-weaker c.behind_header.result _ _ (λ source is. header_told held left left_after (Ok source.ports) all whole is.0) c.behind_header.ensures.behind

pub returns-in-Ok-true-clause-records : goal.returns-in-Ok-true-clause-records
returns-in-Ok-true-clause-records g c =
    let held = c.hold.new.self in
    let left = (g.D.Desk.told c.args.desk.now).left inputs.Capture in
    let left_after = (g.D.Desk.told c.hold.new.desk).left inputs.Capture in
    let all = all_is held left left_after (c.hold.ensures.still ∙ ap (λ (window : Held). still window left) c.requires) in
    let whole = c.in-Ok-true.ensures.held (ap Ok c.in-Ok-true.field-0-test) in
    IfOk-weaker c.behind_header.result _ _
    (λ source is. records_told held left left_after source.ports all whole ∙ ap (λ (window : Held). later (records source.ports 0 8 0) window left_after) (sym is.1))
    c.behind_header.ensures.behind

pub returns-in-Ok-true-clause-err : goal.returns-in-Ok-true-clause-err
returns-in-Ok-true-clause-err g c =
    let held = c.hold.new.self in
    let left = (g.D.Desk.told c.args.desk.now).left inputs.Capture in
    let left_after = (g.D.Desk.told c.hold.new.desk).left inputs.Capture in
    let all = all_is held left left_after (c.hold.ensures.still ∙ ap (λ (window : Held). still window left) c.requires) in
    let whole = c.in-Ok-true.ensures.held (ap Ok c.in-Ok-true.field-0-test) in
    IfErr-weaker c.behind_header.result _ _
    (λ fault is. open_failed (g.D.Desk.told c.args.desk.now) (g.D.Desk.told c.hold.new.desk) fault is.1 (header_told held left left_after (Err (record_stop fault)) all whole is.0))
    c.behind_header.ensures.err

pub returns-in-Ok-false-clause-err : goal.returns-in-Ok-false-clause-err
returns-in-Ok-false-clause-err g c =
    let held = c.hold.new.self in
    let left = (g.D.Desk.told c.args.desk.now).left inputs.Capture in
    let left_after = (g.D.Desk.told c.hold.new.desk).left inputs.Capture in
    let all = all_is held left left_after (c.hold.ensures.still ∙ ap (λ (window : Held). still window left) c.requires) in
    let ended = c.in-Ok-false.ensures.ended (ap Ok c.in-Ok-false.field-0-test) in
    header_cut held left left_after all ended.0 ended.1

pub returns-in-Ok-true-clause-took : goal.returns-in-Ok-true-clause-took
returns-in-Ok-true-clause-took g c =
    let held = c.hold.new.self in
    let left = (g.D.Desk.told c.args.desk.now).left inputs.Capture in
    let left_after = (g.D.Desk.told c.hold.new.desk).left inputs.Capture in
    let whole = c.in-Ok-true.ensures.held (ap Ok c.in-Ok-true.field-0-test) in
    IfOk-both c.behind_header.result _ _ _ (λ source is begin.
    opened c.args.window held source left left_after c.hold.ensures.took (ap (λ (window : Held). window.bytes) c.requires) whole is.0 is.1 begin.0 begin.1)
    c.behind_header.ensures.behind c.behind_header.ensures.begin

pub returns-in-Ok-true-clause-first : goal.returns-in-Ok-true-clause-first
returns-in-Ok-true-clause-first g c =
    IfErr-weaker c.behind_header.result _ _ (λ fault is. faulty_first (g.D.Desk.told c.args.desk.now) (g.D.Desk.told c.hold.new.desk) fault is.1) c.behind_header.ensures.err

pub returns-in-Err-clause-first : goal.returns-in-Err-clause-first
returns-in-Err-clause-first g c =
    none_opened c.args.window c.hold.new.self ((g.D.Desk.told c.args.desk.now).left inputs.Capture) ((g.D.Desk.told c.hold.new.desk).left inputs.Capture) c.hold.ensures.took
    (ap (λ (window : Held). window.bytes) c.requires) c.in-Err.ensures.short

pub returns-in-Ok-true-clause-ends : goal.returns-in-Ok-true-clause-ends
returns-in-Ok-true-clause-ends g c =
    let left_after = (g.D.Desk.told c.hold.new.desk).left inputs.Capture in
    let unmet : c.args.window.ended ≡ false = ap (λ (window : Held). window.ended) c.requires in
    let ends : EndIsTrue c.hold.new.self left_after = c.hold.ensures.ends (λ met. absurd (cc)) in
    IfOk-weaker c.behind_header.result _ _ (λ source is. subst (λ (window : Held). EndIsTrue window left_after) (sym is.1) ends) c.behind_header.ensures.behind
