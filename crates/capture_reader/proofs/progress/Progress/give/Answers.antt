-- The next of the events that were read ahead is given, or there is none, or it is one too many.
use Rattle.std.proofs.Common.{refl, sym, ◌∙◌}
use Rattle.std.proofs.lemmas.Result.{IfErr-weaker}
use Rattle.capture_reader.specs.declared.fault.Fault.TheVariants.{TooMany}
use Rattle.capture_reader.specs.Progress.{as_waiting}
use Rattle.capture_reader.specs.Ahead.{ahead_of, line_of}
use Rattle.capture_reader.proofs.Ends.{ends_are_met}
use Rattle.capture_reader.proofs.Merging.{end_step}
use Rattle.capture_reader.proofs.Upcoming.{only_stops, record_given, line_given, record_refused, line_refused, refused_rest, nothing_comes}
use Rattle.capture_reader.proofs.Giving.{gave, gave_record, gave_line, gave_nothing, gave_same}
use Rattle.capture_reader.proofs.progress.Progress.give.Goals as goal

pub returns-in-Record-clause-next : goal.returns-in-Record-clause-next
returns-in-Record-clause-next c is capture_left script_left =
    let now = as_waiting c.args.self.now in
    let more = c.go_on.ensures.more is in
    record_given now c.go_on.new.self now.capture.tick capture_left script_left c.requires.sound refl (sym c.next_source.ensures ∙ c.in-Record.is) more.0 more.1

pub returns-in-Record-clause-rest : goal.returns-in-Record-clause-rest
returns-in-Record-clause-rest c none capture_left script_left =
    only_stops _ c.go_on.result none c.go_on.ensures.some c.go_on.ensures.full (λ fault is. refused_rest (as_waiting c.args.self.now) c.go_on.new.self capture_left script_left refl is.2)

pub returns-in-Record-clause-stop : goal.returns-in-Record-clause-stop
returns-in-Record-clause-stop c =
    let now = as_waiting c.args.self.now in
    IfErr-weaker c.go_on.result _ _
    (λ fault is. (is.0, is.2, record_refused now c.go_on.new.self c.requires.sound refl (sym c.next_source.ensures ∙ c.in-Record.is) is.1 is.2, is.1))
    c.go_on.ensures.full

pub returns-in-Line-clause-next : goal.returns-in-Line-clause-next
returns-in-Line-clause-next c is capture_left script_left =
    let now = as_waiting c.args.self.now in
    let more = c.go_on-in-Line.ensures.more is in
    line_given now c.go_on-in-Line.new.self now.script.tick capture_left script_left c.requires.sound refl (sym c.next_source.ensures ∙ c.in-Line.is) more.0 more.1

pub returns-in-Line-clause-rest : goal.returns-in-Line-clause-rest
returns-in-Line-clause-rest c none capture_left script_left =
    only_stops _ c.go_on-in-Line.result none c.go_on-in-Line.ensures.some c.go_on-in-Line.ensures.full
    (λ fault is. refused_rest (as_waiting c.args.self.now) c.go_on-in-Line.new.self capture_left script_left refl is.2)

pub returns-in-Line-clause-stop : goal.returns-in-Line-clause-stop
returns-in-Line-clause-stop c =
    let now = as_waiting c.args.self.now in
    IfErr-weaker c.go_on-in-Line.result _ _
    (λ fault is. (is.0, is.2, line_refused now c.go_on-in-Line.new.self c.requires.sound refl (sym c.next_source.ensures ∙ c.in-Line.is) is.1 is.2, is.1))
    c.go_on-in-Line.ensures.full

pub returns-in-End-clause-end : goal.returns-in-End-clause-end
returns-in-End-clause-end c is =
    let now = as_waiting c.args.self.now in
    let none = end_step (ahead_of now.capture.ahead) (line_of now.script.ahead) (sym c.next_source.ensures ∙ c.in-End.is) in
    (refl, none.0, none.1, nothing_comes now c.requires.sound refl none.0 none.1)

pub returns-in-End-clause-met : goal.returns-in-End-clause-met
returns-in-End-clause-met c is =
    let now = as_waiting c.args.self.now in
    let none = end_step (ahead_of now.capture.ahead) (line_of now.script.ahead) (sym c.next_source.ensures ∙ c.in-End.is) in
    ends_are_met now c.requires.sound refl none.0 none.1

pub returns-in-Record-clause-took : goal.returns-in-Record-clause-took
returns-in-Record-clause-took c told =
    let now = as_waiting c.args.self.now in
    let new = c.go_on.new.self in
    gave c.go_on.result c.go_on.ensures.some (λ is. gave_record now new now.capture.tick told c.requires.sound refl (c.go_on.ensures.more is).1)
    (λ fault is. gave_nothing now new TooMany told refl is.2) c.go_on.ensures.full

pub returns-in-Line-clause-took : goal.returns-in-Line-clause-took
returns-in-Line-clause-took c told =
    let now = as_waiting c.args.self.now in
    let new = c.go_on-in-Line.new.self in
    gave c.go_on-in-Line.result c.go_on-in-Line.ensures.some (λ is. gave_line now new now.script.tick told c.requires.sound refl (c.go_on-in-Line.ensures.more is).1)
    (λ fault is. gave_nothing now new TooMany told refl is.2) c.go_on-in-Line.ensures.full

pub returns-in-End-clause-took : goal.returns-in-End-clause-took
returns-in-End-clause-took c told =
    let now = as_waiting c.args.self.now in
    gave_same now told refl
