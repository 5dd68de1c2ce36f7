-- What a step takes of both sources, and what it gives of that.
use Rattle.std.proofs.Common.{◌≡◌, ◌≢◌, ℕ, ◌+◌, Bool, true, false, List, [], ◌++◌, length, Option, Some, None, IsSome, IfSome, IfErr, IsSomeAnd, Result, Ok, Err, refl, sym, ap, ◌∙◌, subst, arith, append-nil}
use Rattle.psd_base.specs.declared.outlet.Input.{Input}
use Rattle.psd_base.specs.declared.outlet.Input.TheVariants as inputs
use Rattle.psd_base.specs.Desk.{NoOutlet, OnlyReads, Told, Touches}
use Rattle.psd_base.specs.Event.{Seen}
use Rattle.capture_reader.specs.declared.fault.Fault.{Fault}
use Rattle.capture_reader.specs.declared.fault.Fault.TheVariants.{TooMany}
use Rattle.capture_reader.specs.declared.fault.RecordFault.{RecordFault}
use Rattle.capture_reader.specs.declared.fault.RecordFault.TheVariants as of_record
use Rattle.capture_reader.specs.declared.fault.LineFault.{LineFault}
use Rattle.capture_reader.specs.declared.fault.LineFault.TheVariants as of_line
use Rattle.capture_reader.specs.declared.progress.Progress.{Progress}
use Rattle.capture_reader.specs.declared.progress.State.{State}
use Rattle.capture_reader.specs.declared.progress.State.TheVariants.{Waiting, GivenRecord, GivenLine, Stopped}
use Rattle.capture_reader.specs.declared.script.ScriptSource.{ScriptSource}
use Rattle.capture_reader.specs.declared.source.CaptureSource.{CaptureSource}
use Rattle.capture_reader.specs.Ahead.{ahead_of, line_of}
use Rattle.capture_reader.specs.Capture.{records}
use Rattle.capture_reader.specs.Fault.{record_stop, line_stop, stop_of}
use Rattle.capture_reader.specs.Lines.{lines_in, LineLookFailed}
use Rattle.capture_reader.specs.Progress.{capture_reading, script_reading, reading, IsSound, RecordsFit, LinesFit, given_in}
use Rattle.capture_reader.specs.Reader.{records_held, lines_held, TookBoth}
use Rattle.capture_reader.specs.Source.{records_in, LookFailed}
use Rattle.capture_reader.specs.Taken.{moves_panel, is_from, waiting, given_from, whole_lines, Took, LooksAt, FailsBehind}
use Rattle.capture_reader.specs.Window.{Held}
use Rattle.capture_reader.proofs.Taken.{took_on, took_nothing}

-- a look at a source that has no event waiting, as the reader's value has it

pub record_looked : (now new : CaptureSource) (ended : Bool) (left left_after : Option (List ℕ)) → Took (records_in now) (records_in new) ended left left_after (waiting (ahead_of new.ahead))
    → Took (records_held now.ports (capture_reading GivenRecord now)) (records_held new.ports (capture_reading Waiting new)) ended left left_after 0
unfolding records_in records_held
record_looked now new ended left left_after took = record {
  bytes = took.bytes;
  left_is = took.left_is;
  counted = λ unmet more. let same = took.counted unmet more in omega arith;
}

pub line_looked : (now new : ScriptSource) (ended : Bool) (left left_after : Option (List ℕ)) → Took (lines_in now) (lines_in new) ended left left_after (waiting (line_of new.ahead))
    → Took (lines_held (script_reading GivenLine now)) (lines_held (script_reading Waiting new)) ended left left_after 0
unfolding lines_in lines_held
line_looked now new ended left left_after took = record {
  bytes = took.bytes;
  left_is = took.left_is;
  counted = λ unmet more. let same = took.counted unmet more in omega arith;
}

-- a source that isn't looked at
pub unlooked : (held : List ℕ → ℕ) (ended : Bool) (left left_after : Option (List ℕ)) → left_after ≡ left → Took held held ended left left_after 0
unlooked held ended left left_after same =
    subst (λ (after : Option (List ℕ)). Took held held ended left after 0) (sym same) (took_nothing held held ended left 0 (λ more. omega arith))

-- an event is from the one input or from the other

given_record : (ahead : Option Seen) (P Q R : Seen → Type 0) → IfSome ahead (λ event. P event × Q event × R event × (moves_panel event.happening ≡ false))
    → (given_from inputs.Capture ahead ≡ waiting ahead) × (given_from inputs.Script ahead ≡ 0)
given_record None P Q R is = (refl, refl)
given_record (Some event) P Q R is = (rw is.3 refl, rw is.3 refl)

given_line : (ahead : Option Seen) (P Q R : Seen → Type 0) → IfSome ahead (λ event. P event × Q event × R event × (moves_panel event.happening ≡ true))
    → (given_from inputs.Script ahead ≡ waiting ahead) × (given_from inputs.Capture ahead ≡ 0)
given_line None P Q R is = (refl, refl)
given_line (Some event) P Q R is = (rw is.3 refl, rw is.3 refl)

-- what waits is given

record_gave : (ports : ℕ) (capture : CaptureSource) (more : List ℕ) (given : ℕ) → given ≡ waiting (ahead_of capture.ahead)
    → records_held ports (capture_reading Waiting capture) more ≡ records_held ports (capture_reading GivenRecord capture) more + given
unfolding records_held
record_gave ports capture more given is = omega arith

line_gave : (script : ScriptSource) (more : List ℕ) (given : ℕ) → given ≡ waiting (line_of script.ahead)
    → lines_held (script_reading Waiting script) more ≡ lines_held (script_reading GivenLine script) more + given
unfolding lines_held
line_gave script more given is = omega arith

-- what was held and waiting before a step of this progress
abbrev pub GaveBoth : Progress → Progress → Told → Type 0
GaveBoth old new told = TookBoth (records_held old.capture.ports (reading old).capture) (lines_held (reading old).script) (reading new) told told

plus_none : (n given : ℕ) → given ≡ 0 → n ≡ n + given
plus_none n given none = omega arith

pub gave_record : (old new : Progress) (tick : ℕ) (told : Told) → IsSound old → old.state ≡ Waiting → new ≡ record old { served = old.served + 1; tick = tick; state = GivenRecord } → GaveBoth old new told
gave_record old new tick told sound state same =
    let after : Progress = record old { served = old.served + 1; tick = tick; state = GivenRecord } in
    let before : Progress = record old { state = Waiting } in
    let given = given_record (ahead_of old.capture.ahead) _ _ _ sound.record_ahead in
    let P : State → Type 0 = λ state. GaveBoth (record old { state = state }) after told in
    let Q : Progress → Type 0 = λ progress. GaveBoth old progress told in
    subst Q (sym same) (subst P (sym state) (record {
      capture = took_nothing _ _ _ _ _ (λ more. record_gave old.capture.ports old.capture more (given_from inputs.Capture (ahead_of old.capture.ahead)) given.0);
      script = took_nothing _ _ _ _ _ (λ more. plus_none (lines_held (script_reading Waiting old.script) more) (given_from inputs.Script (ahead_of old.capture.ahead)) given.1);
    }))

pub gave_line : (old new : Progress) (tick : ℕ) (told : Told) → IsSound old → old.state ≡ Waiting → new ≡ record old { served = old.served + 1; tick = tick; state = GivenLine } → GaveBoth old new told
gave_line old new tick told sound state same =
    let after : Progress = record old { served = old.served + 1; tick = tick; state = GivenLine } in
    let given = given_line (line_of old.script.ahead) _ _ _ sound.line_ahead in
    let P : State → Type 0 = λ state. GaveBoth (record old { state = state }) after told in
    let Q : Progress → Type 0 = λ progress. GaveBoth old progress told in
    subst Q (sym same) (subst P (sym state) (record {
      capture = took_nothing _ _ _ _ _ (λ more. plus_none (records_held old.capture.ports (capture_reading Waiting old.capture) more) (given_from inputs.Capture (line_of old.script.ahead)) given.1);
      script = took_nothing _ _ _ _ _ (λ more. line_gave old.script more (given_from inputs.Script (line_of old.script.ahead)) given.0);
    }))

pub gave_nothing : (old new : Progress) (fault : Fault) (told : Told) → old.state ≡ Waiting → new ≡ record old { state = Stopped fault } → GaveBoth old new told
gave_nothing old new fault told state same =
    let after : Progress = record old { state = Stopped fault } in
    let P : State → Type 0 = λ state. GaveBoth (record old { state = state }) after told in
    let Q : Progress → Type 0 = λ progress. GaveBoth old progress told in
    subst Q (sym same) (subst P (sym state) (record {
      capture = took_nothing _ _ _ _ _ (λ more. plus_none (records_held old.capture.ports (capture_reading Waiting old.capture) more) 0 refl);
      script = took_nothing _ _ _ _ _ (λ more. plus_none (lines_held (script_reading Waiting old.script) more) 0 refl);
    }))

pub gave_same : (progress : Progress) (told : Told) → (reading progress).given ≡ None → GaveBoth progress progress told
gave_same progress told none = record {
  capture = took_nothing _ _ _ _ _ (λ more. plus_none (records_held progress.capture.ports (reading progress).capture more) (given_from inputs.Capture (reading progress).given) (ap (given_from inputs.Capture) none));
  script = took_nothing _ _ _ _ _ (λ more. plus_none (lines_held (reading progress).script more) (given_from inputs.Script (reading progress).given) (ap (given_from inputs.Script) none));
}

-- an answer of `go_on`
pub gave : {P : Fault → Type 0} {Q : Type 0} (answer : Result Bool Fault) → answer ≢ Ok false → (answer ≡ Ok true → Q) → ((fault : Fault) → P fault → Q) → IfErr answer P → Q
gave (Ok true) some more full err = more refl
gave (Ok false) some more full err = absurd (some refl)
gave (Err fault) some more full err = full fault err

-- a look and then a gift

pub looked_and_gave : (records_before lines_before : List ℕ → ℕ) (between new : Progress) (told told_after : Told) → between.state ≡ Waiting
    → new.capture ≡ between.capture → new.script ≡ between.script → TookBoth records_before lines_before (reading between) told told_after → GaveBoth between new told_after
    → TookBoth records_before lines_before (reading new) told told_after
looked_and_gave records_before lines_before between new told told_after state capture script looked gives = record {
  capture = took_on records_before (records_held between.capture.ports (reading between).capture) (records_held new.capture.ports (reading new).capture)
      between.capture.window.ended new.capture.window.ended (told.left inputs.Capture) (told_after.left inputs.Capture) (told_after.left inputs.Capture)
      (given_from inputs.Capture (reading between).given) (given_from inputs.Capture (reading new).given) (given_from inputs.Capture (reading new).given)
      (none_first (given_from inputs.Capture (reading between).given) _ (ap (given_from inputs.Capture) none)) looked.capture gives.capture
      (λ unmet. sym (ap (λ (source : CaptureSource). source.window.ended) capture) ∙ unmet);
  script = took_on lines_before (lines_held (reading between).script) (lines_held (reading new).script)
      between.script.window.ended new.script.window.ended (told.left inputs.Script) (told_after.left inputs.Script) (told_after.left inputs.Script)
      (given_from inputs.Script (reading between).given) (given_from inputs.Script (reading new).given) (given_from inputs.Script (reading new).given)
      (none_first (given_from inputs.Script (reading between).given) _ (ap (given_from inputs.Script) none)) looked.script gives.script
      (λ unmet. sym (ap (λ (source : ScriptSource). source.window.ended) script) ∙ unmet);
} where
  none : (reading between).given ≡ None
  none = ap (λ (state : State). given_in state (ahead_of between.capture.ahead) (line_of between.script.ahead)) state

  none_first : (given more : ℕ) → given ≡ 0 → more ≡ given + more
  none_first given more is = omega arith

-- the event that was given is from the source in which one looks on

from_capture : (ahead : Option Seen) (P Q R : Seen → Type 0) → IsSome ahead → IfSome ahead (λ event. P event × Q event × R event × (moves_panel event.happening ≡ false))
    → IsSomeAnd ahead (λ event. is_from inputs.Capture event ≡ true)
from_capture None P Q R some is = absurd (cc)
from_capture (Some event) P Q R some is = rw is.3 refl

from_script : (ahead : Option Seen) (P Q R : Seen → Type 0) → IsSome ahead → IfSome ahead (λ event. P event × Q event × R event × (moves_panel event.happening ≡ true))
    → IsSomeAnd ahead (λ event. is_from inputs.Script event ≡ true)
from_script None P Q R some is = absurd (cc)
from_script (Some event) P Q R some is = is.3

pub gave_of_capture : (progress : Progress) → IsSound progress → progress.state ≡ GivenRecord → IsSomeAnd (reading progress).given (λ event. is_from inputs.Capture event ≡ true)
gave_of_capture progress sound state =
    let P : State → Type 0 = λ state. IsSomeAnd (given_in state (ahead_of progress.capture.ahead) (line_of progress.script.ahead)) (λ event. is_from inputs.Capture event ≡ true) in
    subst P (sym state) (from_capture (ahead_of progress.capture.ahead) _ _ _ (subst (λ (state : State). RecordsFit state progress.capture) state sound.records) sound.record_ahead)

pub gave_of_script : (progress : Progress) → IsSound progress → progress.state ≡ GivenLine → IsSomeAnd (reading progress).given (λ event. is_from inputs.Script event ≡ true)
gave_of_script progress sound state =
    let P : State → Type 0 = λ state. IsSomeAnd (given_in state (ahead_of progress.capture.ahead) (line_of progress.script.ahead)) (λ event. is_from inputs.Script event ≡ true) in
    subst P (sym state) (from_script (line_of progress.script.ahead) _ _ _ (subst (λ (state : State). LinesFit state progress.script) state sound.lines) sound.line_ahead)

pub looks_at : (given : Option Seen) (input : Input) (told told_after : Told) → IsSomeAnd given (λ event. is_from input event ≡ true) → OnlyReads input told told_after
    → Touches (LooksAt given) NoOutlet told told_after
looks_at None input told told_after is only = absurd is
looks_at (Some event) input told told_after is only = record {
  inputs = λ other not. only.inputs other (λ same. not (ap (λ (which : Input). is_from which event) same ∙ is));
  outlets = only.outlets;
  read_counts = only.read_counts;
  write_counts = only.write_counts;
  other_reads = λ other not. only.other_reads other (λ same. not (ap (λ (which : Input). is_from which event) same ∙ is));
  other_writes = only.other_writes;
}

-- a read that failed comes behind an event of its source

pub capture_behind : (given : Option Seen) (ports last offset : ℕ) (held : Held) (told told_after : Told) (fault : RecordFault) → IsSomeAnd given (λ event. is_from inputs.Capture event ≡ true)
    → LookFailed ports last offset held told told_after fault → FailsBehind given (record_stop fault)
capture_behind given ports last offset held told told_after (of_record.Faulty place why) is failed = tt
capture_behind given ports last offset held told told_after of_record.Unread is failed = is

pub script_behind : (given : Option Seen) (ports last number : ℕ) (held : Held) (told told_after : Told) (fault : LineFault) → IsSomeAnd given (λ event. is_from inputs.Script event ≡ true)
    → LineLookFailed ports last number held told told_after fault → FailsBehind given (line_stop fault)
script_behind given ports last number held told told_after (of_line.Faulty line why) is failed = tt
script_behind given ports last number held told told_after of_line.Unread is failed = is

pub too_many_behind : (given : Option Seen) (fault : Fault) → fault ≡ TooMany → FailsBehind given (stop_of fault)
too_many_behind given fault is = subst (λ (answer : Fault). FailsBehind given (stop_of answer)) (sym is) tt

-- a source that holds nothing whole

pub no_record_held : (ports tick place : ℕ) (held : Held) (ahead : Option Seen) → ahead ≡ None → (records ports tick place 0 held.bytes).events ≡ []
    → records_held ports (record { ahead = ahead; tick = tick; place = place; held = held }) [] ≡ 0
unfolding records_held
no_record_held ports tick place held ahead none partial =
    let waits : waiting ahead ≡ 0 = ap waiting none in
    let all : length (records ports tick place 0 (held.bytes ++ [])).events ≡ length (records ports tick place 0 held.bytes).events = ap (λ bytes. length (records ports tick place 0 bytes).events) (append-nil held.bytes) in
    let nothing : length (records ports tick place 0 held.bytes).events ≡ 0 = ap length partial in
    omega arith

pub no_line_held : (tick place : ℕ) (held : Held) (ahead : Option Seen) → ahead ≡ None → whole_lines held.bytes ≡ 0
    → lines_held (record { ahead = ahead; tick = tick; place = place; held = held }) [] ≡ 0
unfolding lines_held
no_line_held tick place held ahead none nothing =
    let waits : waiting ahead ≡ 0 = ap waiting none in
    let all : whole_lines (held.bytes ++ []) ≡ whole_lines held.bytes = ap whole_lines (append-nil held.bytes) in
    omega arith
