-- What is to come after each step of a run.
use Rattle.std.proofs.Common.{◌≡◌, ◌≢◌, ℕ, Bool, true, false, ◌+◌, ◌-◌, ◌<◌, List, Option, Some, None, option_map, IfNone, IfErr, Result, Ok, Err, refl, sym, ap, ◌∙◌, subst}
use Rattle.std.proofs.lemmas.Option.{MatchOption-at_none}
use Rattle.psd_base.specs.declared.stop.Stop.{Stop}
use Rattle.psd_base.specs.declared.stop.Stop.TheVariants as stops
use Rattle.psd_base.specs.declared.stop.Stop.TheVariants.{TooLong}
use Rattle.psd_base.specs.Desk.{Told}
use Rattle.capture_reader.specs.declared.fault.Fault.{Fault}
use Rattle.capture_reader.specs.declared.fault.Fault.TheVariants.{TooMany}
use Rattle.capture_reader.specs.declared.fault.RecordFault.{RecordFault}
use Rattle.capture_reader.specs.declared.fault.RecordFault.TheVariants as of_record
use Rattle.capture_reader.specs.declared.fault.LineFault.{LineFault}
use Rattle.capture_reader.specs.declared.fault.LineFault.TheVariants as of_line
use Rattle.capture_reader.specs.declared.next.Next.TheVariants as nexts
use Rattle.capture_reader.specs.declared.progress.Progress.{Progress}
use Rattle.capture_reader.specs.declared.progress.State.{State}
use Rattle.capture_reader.specs.declared.progress.State.TheVariants.{Waiting, GivenRecord, GivenLine, Stopped}
use Rattle.capture_reader.specs.declared.script.ScriptSource.{ScriptSource}
use Rattle.capture_reader.specs.declared.source.CaptureSource.{CaptureSource}
use Rattle.capture_reader.specs.Capture.{records}
use Rattle.capture_reader.specs.Ahead.{ahead_of, line_of}
use Rattle.capture_reader.specs.Fault.{record_stop, line_stop, stop_of}
use Rattle.capture_reader.specs.Schedule.{Schedule, over}
use Rattle.capture_reader.specs.Lines.{LineLookFailed}
use Rattle.capture_reader.specs.Progress.{reading, next_of, IsSound, LinesFit, RecordsFit, given_in, record_waiting, line_waiting, stop_in}
use Rattle.capture_reader.specs.Reader.{Reading, to_come, upcoming, rest, GivesNext, IsAtEnd, IsOver, ShowsOver, StopsBecause}
use Rattle.capture_reader.specs.Merge.{cut_to, merged}
use Rattle.capture_reader.specs.Script.{lines}
use Rattle.capture_reader.specs.Source.{later, after_ahead, Ends, LookFailed}
use Rattle.capture_reader.specs.Window.{coming, still}
use Rattle.capture_reader.proofs.Looks.{some_and}
use Rattle.capture_reader.proofs.Giving.{no_record_held, no_line_held}
use Rattle.capture_reader.proofs.Taken.{no_whole_line}
use Rattle.capture_reader.proofs.Merging.{record_step, line_step, both_end, capture_over, script_over, cut_next, cut_full, cut_over, none_weaker, of_some}

-- what is to come, by what the records and the lines say that are still to come
pub rest_is : (reading : Reading) (capture_left script_left : Option (List ℕ)) → rest reading capture_left script_left
    ≡ merged (reading.limit - reading.served)
    (option_map (after_ahead reading.capture.ahead) (later (records reading.ports reading.capture.tick reading.capture.place 0) reading.capture.held capture_left))
    (option_map (after_ahead reading.script.ahead) (later (lines reading.ports reading.script.tick reading.script.place 0) reading.script.held script_left))
unfolding rest upcoming to_come later still
rest_is reading None script_left = refl
rest_is reading (Some capture_left) None = refl
rest_is reading (Some capture_left) (Some script_left) = refl

pub nothing_before : (recording : Option Schedule) → option_map (after_ahead None) recording ≡ recording
nothing_before None = refl
nothing_before (Some recording) = refl

-- a look at a record leaves what is to come
pub rest_record : (now new : CaptureSource) (script : ScriptSource) (limit served tick : ℕ) (left left_after script_left : Option (List ℕ)) → new.ports ≡ now.ports
    → later (records now.ports now.tick now.offset 0) now.window left ≡ option_map (after_ahead (ahead_of new.ahead)) (later (records new.ports new.tick new.offset 0) new.window left_after)
    → rest (reading (record { capture = new; script = script; limit = limit; served = served; tick = tick; state = Waiting })) left_after script_left
    ≡ rest (reading (record { capture = now; script = script; limit = limit; served = served; tick = tick; state = GivenRecord })) left script_left
rest_record now new script limit served tick left left_after script_left ports read =
    let lines_after : ℕ → Option Schedule = λ n. option_map (after_ahead (line_of script.ahead)) (later (lines n script.tick script.line 0) script.window script_left) in
    rest_is (reading (record { capture = new; script = script; limit = limit; served = served; tick = tick; state = Waiting })) left_after script_left
    ∙ ap (λ records. merged (limit - served) records (lines_after new.ports)) (sym read ∙ sym (nothing_before (later (records now.ports now.tick now.offset 0) now.window left)))
    ∙ ap (λ n. merged (limit - served) (option_map (after_ahead None) (later (records now.ports now.tick now.offset 0) now.window left)) (lines_after n)) ports
    ∙ sym (rest_is (reading (record { capture = now; script = script; limit = limit; served = served; tick = tick; state = GivenRecord })) left script_left)

pub rest_record-failed : (now new : CaptureSource) (script : ScriptSource) (limit served tick : ℕ) (fault : Fault) (left left_after script_left : Option (List ℕ)) → new.ports ≡ now.ports
    → ahead_of new.ahead ≡ None → later (records new.ports new.tick new.offset 0) new.window left_after ≡ later (records now.ports now.tick now.offset 0) now.window left
    → rest (reading (record { capture = new; script = script; limit = limit; served = served; tick = tick; state = Stopped fault })) left_after script_left
    ≡ rest (reading (record { capture = now; script = script; limit = limit; served = served; tick = tick; state = GivenRecord })) left script_left
rest_record-failed now new script limit served tick fault left left_after script_left ports none same =
    let lines_after : ℕ → Option Schedule = λ n. option_map (after_ahead (line_of script.ahead)) (later (lines n script.tick script.line 0) script.window script_left) in
    rest_is (reading (record { capture = new; script = script; limit = limit; served = served; tick = tick; state = Stopped fault })) left_after script_left
    ∙ ap (λ ahead. merged (limit - served) (option_map (after_ahead ahead) (later (records new.ports new.tick new.offset 0) new.window left_after)) (lines_after new.ports)) none
    ∙ ap (λ records. merged (limit - served) (option_map (after_ahead None) records) (lines_after new.ports)) same
    ∙ ap (λ n. merged (limit - served) (option_map (after_ahead None) (later (records now.ports now.tick now.offset 0) now.window left)) (lines_after n)) ports
    ∙ sym (rest_is (reading (record { capture = now; script = script; limit = limit; served = served; tick = tick; state = GivenRecord })) left script_left)

-- a look at a line leaves what is to come
pub rest_line : (now new : ScriptSource) (capture : CaptureSource) (limit served tick : ℕ) (capture_left left left_after : Option (List ℕ)) → now.ports ≡ capture.ports → new.ports ≡ capture.ports
    → later (lines now.ports now.tick now.line 0) now.window left ≡ option_map (after_ahead (line_of new.ahead)) (later (lines new.ports new.tick new.line 0) new.window left_after)
    → rest (reading (record { capture = capture; script = new; limit = limit; served = served; tick = tick; state = Waiting })) capture_left left_after
    ≡ rest (reading (record { capture = capture; script = now; limit = limit; served = served; tick = tick; state = GivenLine })) capture_left left
rest_line now new capture limit served tick capture_left left left_after ports ports_after read =
    let records_after : Option Schedule = option_map (after_ahead (ahead_of capture.ahead)) (later (records capture.ports capture.tick capture.offset 0) capture.window capture_left) in
    rest_is (reading (record { capture = capture; script = new; limit = limit; served = served; tick = tick; state = Waiting })) capture_left left_after
    ∙ ap (λ n. merged (limit - served) records_after (option_map (after_ahead (line_of new.ahead)) (later (lines n new.tick new.line 0) new.window left_after))) (sym ports_after)
    ∙ ap (merged (limit - served) records_after) (sym read ∙ sym (nothing_before (later (lines now.ports now.tick now.line 0) now.window left)))
    ∙ ap (λ n. merged (limit - served) records_after (option_map (after_ahead None) (later (lines n now.tick now.line 0) now.window left))) ports
    ∙ sym (rest_is (reading (record { capture = capture; script = now; limit = limit; served = served; tick = tick; state = GivenLine })) capture_left left)

pub rest_line-failed : (now new : ScriptSource) (capture : CaptureSource) (limit served tick : ℕ) (fault : Fault) (capture_left left left_after : Option (List ℕ)) → now.ports ≡ capture.ports → new.ports ≡ capture.ports
    → line_of new.ahead ≡ None → later (lines new.ports new.tick new.line 0) new.window left_after ≡ later (lines now.ports now.tick now.line 0) now.window left
    → rest (reading (record { capture = capture; script = new; limit = limit; served = served; tick = tick; state = Stopped fault })) capture_left left_after
    ≡ rest (reading (record { capture = capture; script = now; limit = limit; served = served; tick = tick; state = GivenLine })) capture_left left
rest_line-failed now new capture limit served tick fault capture_left left left_after ports ports_after none same =
    let records_after : Option Schedule = option_map (after_ahead (ahead_of capture.ahead)) (later (records capture.ports capture.tick capture.offset 0) capture.window capture_left) in
    rest_is (reading (record { capture = capture; script = new; limit = limit; served = served; tick = tick; state = Stopped fault })) capture_left left_after
    ∙ ap (λ ahead. merged (limit - served) records_after (option_map (after_ahead ahead) (later (lines capture.ports new.tick new.line 0) new.window left_after))) none
    ∙ ap (λ n. merged (limit - served) records_after (option_map (after_ahead None) (later (lines n new.tick new.line 0) new.window left_after))) (sym ports_after)
    ∙ ap (λ lines. merged (limit - served) records_after (option_map (after_ahead None) lines)) same
    ∙ ap (λ n. merged (limit - served) records_after (option_map (after_ahead None) (later (lines n now.tick now.line 0) now.window left))) ports
    ∙ sym (rest_is (reading (record { capture = capture; script = now; limit = limit; served = served; tick = tick; state = GivenLine })) capture_left left)

-- the record that was read ahead is given
pub gives_record : (capture : CaptureSource) (script : ScriptSource) (limit served tick tick_after : ℕ) (capture_left script_left : Option (List ℕ))
    → next_of (ahead_of capture.ahead) (line_of script.ahead) ≡ nexts.Record → served < limit → IfNone (line_of script.ahead) (Ends (lines capture.ports script.tick script.line 0) script.window None)
    → GivesNext (reading (record { capture = capture; script = script; limit = limit; served = served + 1; tick = tick_after; state = GivenRecord }))
    (rest (reading (record { capture = capture; script = script; limit = limit; served = served; tick = tick; state = Waiting })) capture_left script_left)
    (rest (reading (record { capture = capture; script = script; limit = limit; served = served + 1; tick = tick_after; state = GivenRecord })) capture_left script_left)
unfolding rest upcoming to_come
gives_record capture script limit served tick tick_after None script_left next below ends =
    some_and (ahead_of capture.ahead) (λ event step. refl) (record_step (ahead_of capture.ahead) (line_of script.ahead) (over None) (over None) next (none_weaker (line_of script.ahead) (λ all. refl) ends))
gives_record capture script limit served tick tick_after (Some capture_left) None next below ends =
    some_and (ahead_of capture.ahead) (λ event step. refl) (record_step (ahead_of capture.ahead) (line_of script.ahead) (over None) (over None) next (none_weaker (line_of script.ahead) (λ all. refl) ends))
gives_record capture script limit served tick tick_after (Some capture_left) (Some script_left) next below ends =
    some_and (ahead_of capture.ahead) (λ event step. ap Some (ap (cut_to (limit - served)) step ∙ cut_next limit served event _ below))
    (record_step (ahead_of capture.ahead) (line_of script.ahead) (records capture.ports capture.tick capture.offset 0 (coming capture.window capture_left)) (lines capture.ports script.tick script.line 0 (coming script.window script_left))
    next (none_weaker (line_of script.ahead) (λ all. all script_left) ends))

-- the line that was read ahead is given
pub gives_line : (capture : CaptureSource) (script : ScriptSource) (limit served tick tick_after : ℕ) (capture_left script_left : Option (List ℕ))
    → next_of (ahead_of capture.ahead) (line_of script.ahead) ≡ nexts.Line → served < limit → IfNone (ahead_of capture.ahead) (Ends (records capture.ports capture.tick capture.offset 0) capture.window None)
    → GivesNext (reading (record { capture = capture; script = script; limit = limit; served = served + 1; tick = tick_after; state = GivenLine }))
    (rest (reading (record { capture = capture; script = script; limit = limit; served = served; tick = tick; state = Waiting })) capture_left script_left)
    (rest (reading (record { capture = capture; script = script; limit = limit; served = served + 1; tick = tick_after; state = GivenLine })) capture_left script_left)
unfolding rest upcoming to_come
gives_line capture script limit served tick tick_after None script_left next below ends =
    some_and (line_of script.ahead) (λ event step. refl) (line_step (ahead_of capture.ahead) (line_of script.ahead) (over None) (over None) next (none_weaker (ahead_of capture.ahead) (λ all. refl) ends))
gives_line capture script limit served tick tick_after (Some capture_left) None next below ends =
    some_and (line_of script.ahead) (λ event step. refl) (line_step (ahead_of capture.ahead) (line_of script.ahead) (over None) (over None) next (none_weaker (ahead_of capture.ahead) (λ all. refl) ends))
gives_line capture script limit served tick tick_after (Some capture_left) (Some script_left) next below ends =
    some_and (line_of script.ahead) (λ event step. ap Some (ap (cut_to (limit - served)) step ∙ cut_next limit served event _ below))
    (line_step (ahead_of capture.ahead) (line_of script.ahead) (records capture.ports capture.tick capture.offset 0 (coming capture.window capture_left)) (lines capture.ports script.tick script.line 0 (coming script.window script_left))
    next (none_weaker (ahead_of capture.ahead) (λ all. all capture_left) ends))

-- one more event than the limit

pub too_many-record : (capture : CaptureSource) (script : ScriptSource) (limit served tick : ℕ) → next_of (ahead_of capture.ahead) (line_of script.ahead) ≡ nexts.Record → served ≡ limit
    → IfNone (line_of script.ahead) (Ends (lines capture.ports script.tick script.line 0) script.window None)
    → ShowsOver (Some TooLong) (reading (record { capture = capture; script = script; limit = limit; served = served; tick = tick; state = Stopped TooMany }))
unfolding upcoming to_come
too_many-record capture script limit served tick next full ends capture_left script_left =
    of_some (ahead_of capture.ahead) (λ event step. ap (cut_to (limit - served)) step ∙ cut_full limit served event _ full)
    (record_step (ahead_of capture.ahead) (line_of script.ahead) (records capture.ports capture.tick capture.offset 0 (coming capture.window capture_left)) (lines capture.ports script.tick script.line 0 (coming script.window script_left))
    next (none_weaker (line_of script.ahead) (λ all. all script_left) ends))

pub too_many-line : (capture : CaptureSource) (script : ScriptSource) (limit served tick : ℕ) → next_of (ahead_of capture.ahead) (line_of script.ahead) ≡ nexts.Line → served ≡ limit
    → IfNone (ahead_of capture.ahead) (Ends (records capture.ports capture.tick capture.offset 0) capture.window None)
    → ShowsOver (Some TooLong) (reading (record { capture = capture; script = script; limit = limit; served = served; tick = tick; state = Stopped TooMany }))
unfolding upcoming to_come
too_many-line capture script limit served tick next full ends capture_left script_left =
    of_some (line_of script.ahead) (λ event step. ap (cut_to (limit - served)) step ∙ cut_full limit served event _ full)
    (line_step (ahead_of capture.ahead) (line_of script.ahead) (records capture.ports capture.tick capture.offset 0 (coming capture.window capture_left)) (lines capture.ports script.tick script.line 0 (coming script.window script_left))
    next (none_weaker (ahead_of capture.ahead) (λ all. all capture_left) ends))

-- nothing was read ahead, and nothing comes
pub shows_end : (capture : CaptureSource) (script : ScriptSource) (limit served tick : ℕ) → ahead_of capture.ahead ≡ None → line_of script.ahead ≡ None
    → Ends (records capture.ports capture.tick capture.offset 0) capture.window None → Ends (lines capture.ports script.tick script.line 0) script.window None
    → ShowsOver None (reading (record { capture = capture; script = script; limit = limit; served = served; tick = tick; state = Waiting }))
unfolding upcoming to_come
shows_end capture script limit served tick no_record no_line records_end lines_end capture_left script_left =
    rw (no_record, no_line) (cut_over (limit - served) _ None (both_end _ _ (records_end capture_left) (lines_end script_left)))

-- the capture shows its fault, or the script

pub shows_capture : (capture : CaptureSource) (script : ScriptSource) (limit served tick : ℕ) (answer : Fault) (stop : Stop) → ahead_of capture.ahead ≡ None
    → Ends (records capture.ports capture.tick capture.offset 0) capture.window (Some stop) → IfNone (line_of script.ahead) (Ends (lines capture.ports script.tick script.line 0) script.window None)
    → ShowsOver (Some stop) (reading (record { capture = capture; script = script; limit = limit; served = served; tick = tick; state = Stopped answer }))
unfolding upcoming to_come
shows_capture capture script limit served tick answer stop none ends lines_end capture_left script_left =
    rw none (cut_over (limit - served) _ (Some stop) (capture_over (line_of script.ahead) _ _ stop (ends capture_left) (none_weaker (line_of script.ahead) (λ all. all script_left) lines_end)))

pub shows_script : (capture : CaptureSource) (script : ScriptSource) (limit served tick : ℕ) (answer : Fault) (stop : Stop) → line_of script.ahead ≡ None
    → Ends (lines capture.ports script.tick script.line 0) script.window (Some stop)
    → ShowsOver (Some stop) (reading (record { capture = capture; script = script; limit = limit; served = served; tick = tick; state = Stopped answer }))
unfolding upcoming to_come
shows_script capture script limit served tick answer stop none ends capture_left script_left =
    rw none (cut_over (limit - served) _ (Some stop) (script_over _ _ stop (ends script_left)))

-- where the desk tells, that is what comes
pub over_told : (stop : Option Stop) (reading : Reading) (capture_left script_left : Option (List ℕ)) → ShowsOver stop reading → IsOver stop (rest reading capture_left script_left)
unfolding rest
over_told stop reading None script_left shows = tt
over_told stop reading (Some capture_left) None shows = tt
over_told stop reading (Some capture_left) (Some script_left) shows = shows capture_left script_left

-- what shows that it is over was over before, where nothing was lost
pub over_before : (stop : Option Stop) (reading : Reading) (capture_left script_left : Option (List ℕ)) (before : Option Schedule) → rest reading capture_left script_left ≡ before → ShowsOver stop reading
    → IsOver stop before
over_before stop reading capture_left script_left before same shows =
    subst (λ (schedule : Option Schedule). IsOver stop schedule) same (over_told stop reading capture_left script_left shows)

-- a stop leaves what is to come
pub rest_stopped : (progress : Progress) (fault : Fault) (capture_left script_left : Option (List ℕ)) → progress.state ≡ Waiting
    → rest (reading (record progress { state = Stopped fault })) capture_left script_left ≡ rest (reading progress) capture_left script_left
unfolding rest upcoming
rest_stopped progress fault capture_left script_left waiting =
    let P : State → Type 0 = λ state. rest (reading (record progress { state = Stopped fault })) capture_left script_left ≡ rest (reading (record progress { state = state })) capture_left script_left in
    subst P (sym waiting) refl

-- a look at the capture that failed is the cause of a stop
pub capture_stops : (progress : Progress) (before : Option Schedule) (capture_left script_left : Option (List ℕ)) (desk desk_after : Told) (answer : Fault) (fault : RecordFault) → progress.state ≡ Stopped answer
    → ahead_of progress.capture.ahead ≡ None → IfNone (line_of progress.script.ahead) (Ends (lines progress.capture.ports progress.script.tick progress.script.line 0) progress.script.window None)
    → rest (reading progress) capture_left script_left ≡ before
    → LookFailed progress.capture.ports progress.capture.tick progress.capture.offset progress.capture.window desk desk_after fault
    → StopsBecause (reading progress) before desk desk_after (record_stop fault)
capture_stops progress before capture_left script_left desk desk_after answer (of_record.Faulty offset why) state none lines_end same failed =
    let shows : ShowsOver (Some (stops.Capture offset why)) (reading progress) =
    subst (λ (state : State). ShowsOver (Some (stops.Capture offset why)) (reading (record progress { state = state }))) (sym state)
    (shows_capture progress.capture progress.script progress.limit progress.served progress.tick answer (stops.Capture offset why) none failed lines_end) in
    (shows, over_before (Some (stops.Capture offset why)) (reading progress) capture_left script_left before same shows)
capture_stops progress before capture_left script_left desk desk_after answer of_record.Unread state none lines_end same failed =
    let capture : CaptureSource = progress.capture in
    let waits = ap (λ (state : State). record_waiting state (ahead_of capture.ahead)) state ∙ none in
    (failed.0, (failed.2, no_record_held capture.ports capture.tick capture.offset capture.window (record_waiting progress.state (ahead_of capture.ahead)) waits failed.1))

-- and one at the script
pub script_stops : (progress : Progress) (before : Option Schedule) (capture_left script_left : Option (List ℕ)) (desk desk_after : Told) (answer : Fault) (fault : LineFault) → progress.state ≡ Stopped answer
    → line_of progress.script.ahead ≡ None → progress.script.ports ≡ progress.capture.ports
    → rest (reading progress) capture_left script_left ≡ before
    → LineLookFailed progress.script.ports progress.script.tick progress.script.line progress.script.window desk desk_after fault
    → StopsBecause (reading progress) before desk desk_after (line_stop fault)
script_stops progress before capture_left script_left desk desk_after answer (of_line.Faulty line why) state none ports same failed =
    let ends = subst (λ n. Ends (lines n progress.script.tick progress.script.line 0) progress.script.window (Some (stops.Script line why))) ports failed in
    let shows : ShowsOver (Some (stops.Script line why)) (reading progress) =
    subst (λ (state : State). ShowsOver (Some (stops.Script line why)) (reading (record progress { state = state }))) (sym state)
    (shows_script progress.capture progress.script progress.limit progress.served progress.tick answer (stops.Script line why) none ends) in
    (shows, over_before (Some (stops.Script line why)) (reading progress) capture_left script_left before same shows)
script_stops progress before capture_left script_left desk desk_after answer of_line.Unread state none ports same failed =
    let script : ScriptSource = progress.script in
    let waits = ap (λ (state : State). line_waiting state (line_of script.ahead)) state ∙ none in
    (failed.0, (failed.2, no_line_held script.tick script.line script.window (line_waiting progress.state (line_of script.ahead)) waits (no_whole_line script.window.bytes failed.1)))

-- nothing was read ahead where nothing waits

pub no_record_waits : (progress : Progress) → progress.state ≡ Waiting → (reading progress).capture.ahead ≡ None → ahead_of progress.capture.ahead ≡ None
no_record_waits progress waiting none =
    let P : State → Type 0 = λ state. record_waiting state (ahead_of progress.capture.ahead) ≡ None in
    subst P waiting none

pub no_line_waits : (progress : Progress) → progress.state ≡ Waiting → (reading progress).script.ahead ≡ None → line_of progress.script.ahead ≡ None
no_line_waits progress waiting none =
    let P : State → Type 0 = λ state. line_waiting state (line_of progress.script.ahead) ≡ None in
    subst P waiting none

-- the end, at this step or an earlier one
pub ended : (new old : Progress) (before : Option Schedule) (capture_left script_left : Option (List ℕ)) → new ≡ old → old.state ≡ Waiting → ahead_of old.capture.ahead ≡ None → line_of old.script.ahead ≡ None
    → ShowsOver None (reading new) → rest (reading new) capture_left script_left ≡ before → IsAtEnd (reading new) × ShowsOver None (reading new) × IsOver None before
ended new old before capture_left script_left same waiting no_record no_line shows rest_is =
    let state : new.state ≡ Waiting = ap (λ (progress : Progress). progress.state) same ∙ waiting in
    let record_ahead : ahead_of new.capture.ahead ≡ None = ap (λ (progress : Progress). (ahead_of progress.capture.ahead)) same ∙ no_record in
    let line_ahead : line_of new.script.ahead ≡ None = ap (λ (progress : Progress). (line_of progress.script.ahead)) same ∙ no_line in
    let end : IsAtEnd (reading new) = record {
      nothing_given = ap (λ (state : State). given_in state (ahead_of new.capture.ahead) (line_of new.script.ahead)) state;
      no_record = ap (λ (state : State). record_waiting state (ahead_of new.capture.ahead)) state ∙ record_ahead;
      no_line = ap (λ (state : State). line_waiting state (line_of new.script.ahead)) state ∙ line_ahead;
      no_stop = ap stop_in state;
    } in
    (end, shows, over_before None (reading new) capture_left script_left before rest_is shows)

-- one event too many
pub too_many : (new old : Progress) (before : Option Schedule) (capture_left script_left : Option (List ℕ)) (desk desk_after : Told) (fault : Fault) → fault ≡ TooMany
    → new ≡ record old { state = Stopped TooMany } → old.state ≡ Waiting → old.served ≡ old.limit → ShowsOver (Some TooLong) (reading new)
    → rest (reading old) capture_left script_left ≡ before → StopsBecause (reading new) before desk desk_after (stop_of fault)
too_many new old before capture_left script_left desk desk_after fault is same waiting full shows rest_is =
    let rest_new : rest (reading new) capture_left script_left ≡ before =
    ap (λ (progress : Progress). rest (reading progress) capture_left script_left) same ∙ rest_stopped old TooMany capture_left script_left waiting ∙ rest_is in
    let counts : new.served ≡ new.limit = ap (λ (progress : Progress). progress.served) same ∙ full ∙ sym (ap (λ (progress : Progress). progress.limit) same) in
    subst (λ (answer : Fault). StopsBecause (reading new) before desk desk_after (stop_of answer)) (sym is)
    (shows, over_before (Some TooLong) (reading new) capture_left script_left before rest_new shows, counts)

pub not_ok_true : (answer : Result Bool Fault) → answer ≡ Ok false → answer ≢ Ok true
not_ok_true answer isnt is = cc

-- an answer that isn't Ok is a stop
pub only_stops : {P : Fault → Type 0} (Q : Type 0) (answer : Result Bool Fault) → answer ≢ Ok true → answer ≢ Ok false → IfErr answer P → ((fault : Fault) → P fault → Q) → Q
only_stops Q (Ok true) not_true not_false is uses = absurd (not_true refl)
only_stops Q (Ok false) not_true not_false is uses = absurd (not_false refl)
only_stops Q (Err fault) not_true not_false is uses = uses fault is

-- a source of which nothing was read ahead is at its end

pub waiting_records : (progress : Progress) → IsSound progress → progress.state ≡ Waiting
    → IfNone (ahead_of progress.capture.ahead) (Ends (records progress.capture.ports progress.capture.tick progress.capture.offset 0) progress.capture.window None)
waiting_records progress sound waiting = subst (λ (state : State). RecordsFit state progress.capture) waiting sound.records

lines_at_ports : (progress : Progress) → progress.script.ports ≡ progress.capture.ports
    → IfNone (line_of progress.script.ahead) (Ends (lines progress.script.ports progress.script.tick progress.script.line 0) progress.script.window None)
    → IfNone (line_of progress.script.ahead) (Ends (lines progress.capture.ports progress.script.tick progress.script.line 0) progress.script.window None)
lines_at_ports progress ports fits = subst (λ n. IfNone (line_of progress.script.ahead) (Ends (lines n progress.script.tick progress.script.line 0) progress.script.window None)) ports fits

pub waiting_lines : (progress : Progress) → IsSound progress → progress.state ≡ Waiting
    → IfNone (line_of progress.script.ahead) (Ends (lines progress.capture.ports progress.script.tick progress.script.line 0) progress.script.window None)
waiting_lines progress sound waiting = lines_at_ports progress sound.same_ports (subst (λ (state : State). LinesFit state progress.script) waiting sound.lines)

pub record_lines : (progress : Progress) → IsSound progress → progress.state ≡ GivenRecord
    → IfNone (line_of progress.script.ahead) (Ends (lines progress.capture.ports progress.script.tick progress.script.line 0) progress.script.window None)
record_lines progress sound given = lines_at_ports progress sound.same_ports (subst (λ (state : State). LinesFit state progress.script) given sound.lines)

-- the event of a source is given

pub record_given : (old new : Progress) (tick : ℕ) (capture_left script_left : Option (List ℕ)) → IsSound old → old.state ≡ Waiting → next_of (ahead_of old.capture.ahead) (line_of old.script.ahead) ≡ nexts.Record
    → old.served < old.limit → new ≡ record old { served = old.served + 1; tick = tick; state = GivenRecord }
    → GivesNext (reading new) (rest (reading old) capture_left script_left) (rest (reading new) capture_left script_left)
record_given old new tick capture_left script_left sound waiting next below same =
    let after : Progress = record old { served = old.served + 1; tick = tick; state = GivenRecord } in
    let P : State → Type 0 = λ state. GivesNext (reading after) (rest (reading (record old { state = state })) capture_left script_left) (rest (reading after) capture_left script_left) in
    let Q : Progress → Type 0 = λ progress. GivesNext (reading progress) (rest (reading old) capture_left script_left) (rest (reading progress) capture_left script_left) in
    subst Q (sym same) (subst P (sym waiting)
    (gives_record old.capture old.script old.limit old.served old.tick tick capture_left script_left next below (waiting_lines old sound waiting)))

pub line_given : (old new : Progress) (tick : ℕ) (capture_left script_left : Option (List ℕ)) → IsSound old → old.state ≡ Waiting → next_of (ahead_of old.capture.ahead) (line_of old.script.ahead) ≡ nexts.Line
    → old.served < old.limit → new ≡ record old { served = old.served + 1; tick = tick; state = GivenLine }
    → GivesNext (reading new) (rest (reading old) capture_left script_left) (rest (reading new) capture_left script_left)
line_given old new tick capture_left script_left sound waiting next below same =
    let after : Progress = record old { served = old.served + 1; tick = tick; state = GivenLine } in
    let P : State → Type 0 = λ state. GivesNext (reading after) (rest (reading (record old { state = state })) capture_left script_left) (rest (reading after) capture_left script_left) in
    let Q : Progress → Type 0 = λ progress. GivesNext (reading progress) (rest (reading old) capture_left script_left) (rest (reading progress) capture_left script_left) in
    subst Q (sym same) (subst P (sym waiting)
    (gives_line old.capture old.script old.limit old.served old.tick tick capture_left script_left next below (waiting_records old sound waiting)))

pub record_refused : (old new : Progress) → IsSound old → old.state ≡ Waiting → next_of (ahead_of old.capture.ahead) (line_of old.script.ahead) ≡ nexts.Record → old.served ≡ old.limit
    → new ≡ record old { state = Stopped TooMany } → ShowsOver (Some TooLong) (reading new)
record_refused old new sound waiting next full same =
    subst (λ (progress : Progress). ShowsOver (Some TooLong) (reading progress)) (sym same)
    (too_many-record old.capture old.script old.limit old.served old.tick next full (waiting_lines old sound waiting))

pub line_refused : (old new : Progress) → IsSound old → old.state ≡ Waiting → next_of (ahead_of old.capture.ahead) (line_of old.script.ahead) ≡ nexts.Line → old.served ≡ old.limit
    → new ≡ record old { state = Stopped TooMany } → ShowsOver (Some TooLong) (reading new)
line_refused old new sound waiting next full same =
    subst (λ (progress : Progress). ShowsOver (Some TooLong) (reading progress)) (sym same)
    (too_many-line old.capture old.script old.limit old.served old.tick next full (waiting_records old sound waiting))

-- neither source has an event
pub nothing_comes : (progress : Progress) → IsSound progress → progress.state ≡ Waiting → ahead_of progress.capture.ahead ≡ None → line_of progress.script.ahead ≡ None → ShowsOver None (reading progress)
nothing_comes progress sound waiting no_record no_line =
    subst (λ (state : State). ShowsOver None (reading (record progress { state = state }))) (sym waiting)
    (shows_end progress.capture progress.script progress.limit progress.served progress.tick no_record no_line
    (MatchOption-at_none _ _ no_record (waiting_records progress sound waiting)) (MatchOption-at_none _ _ no_line (waiting_lines progress sound waiting)))

-- a stop at one event too many leaves what is to come
pub refused_rest : (old new : Progress) (capture_left script_left : Option (List ℕ)) → old.state ≡ Waiting → new ≡ record old { state = Stopped TooMany }
    → rest (reading new) capture_left script_left ≡ rest (reading old) capture_left script_left
refused_rest old new capture_left script_left waiting same =
    ap (λ (progress : Progress). rest (reading progress) capture_left script_left) same ∙ rest_stopped old TooMany capture_left script_left waiting

-- a look at the capture leaves the script as it was
pub lines_still : (old new : Progress) → new.script ≡ old.script → new.capture.ports ≡ old.capture.ports
    → IfNone (line_of old.script.ahead) (Ends (lines old.capture.ports old.script.tick old.script.line 0) old.script.window None)
    → IfNone (line_of new.script.ahead) (Ends (lines new.capture.ports new.script.tick new.script.line 0) new.script.window None)
lines_still old new script ports fits =
    let P : ScriptSource → Type 0 = λ source. IfNone (line_of source.ahead) (Ends (lines new.capture.ports source.tick source.line 0) source.window None) in
    let Q : ℕ → Type 0 = λ n. IfNone (line_of old.script.ahead) (Ends (lines n old.script.tick old.script.line 0) old.script.window None) in
    subst P (sym script) (subst Q (sym ports) fits)
