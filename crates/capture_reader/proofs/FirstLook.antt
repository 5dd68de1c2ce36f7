-- What is to come at the beginning.
use Rattle.std.proofs.Common.{◌≡◌, ◌≢◌, ℕ, zero, suc, ◌-◌, ◌≤◌, false, List, [], drop, Option, Some, None, option_map, IfSome, IfNone, Ok, Err, inl, inr, refl, sym, ap, ◌∙◌, subst, arith}
use Rattle.std.proofs.lemmas.Option.{MatchOption-at_none, same_Some}
use Rattle.psd_base.specs.declared.outlet.Input.{Input}
use Rattle.psd_base.specs.declared.outlet.Input.TheVariants as inputs
use Rattle.psd_base.specs.declared.stop.Stop.{Stop}
use Rattle.psd_base.specs.declared.stop.Stop.TheVariants as stops
use Rattle.psd_base.specs.Desk.{Rose, Told}
use Rattle.psd_base.specs.Event.{Seen}
use Rattle.capture_reader.specs.declared.fault.Fault.{Fault}
use Rattle.capture_reader.specs.declared.fault.Fault.TheVariants as faults
use Rattle.capture_reader.specs.declared.fault.RecordFault.{RecordFault}
use Rattle.capture_reader.specs.declared.fault.RecordFault.TheVariants as of_record
use Rattle.capture_reader.specs.declared.fault.LineFault.{LineFault}
use Rattle.capture_reader.specs.declared.fault.LineFault.TheVariants as of_line
use Rattle.capture_reader.specs.declared.next.Next.TheVariants as nexts
use Rattle.capture_reader.specs.declared.progress.State.TheVariants.{Waiting}
use Rattle.capture_reader.specs.declared.script.ScriptSource.{ScriptSource}
use Rattle.capture_reader.specs.declared.source.CaptureSource.{CaptureSource}
use Rattle.capture_reader.specs.Capture.{header, records}
use Rattle.capture_reader.specs.Ahead.{ahead_of, line_of}
use Rattle.capture_reader.specs.Fault.{record_stop, line_stop, stop_of}
use Rattle.capture_reader.specs.Schedule.{Schedule, in_front, over}
use Rattle.capture_reader.specs.Lines.{lines_with_ahead, LineLookFailed}
use Rattle.capture_reader.specs.Merge.{merge, cut, cut_to, both, merged, schedule, schedule_told, port_count}
use Rattle.capture_reader.specs.Progress.{reading, next_of}
use Rattle.capture_reader.specs.Reader.{to_come, upcoming, rest, IsLooked, IsOver, NewFailed}
use Rattle.capture_reader.specs.Script.{lines, script}
use Rattle.capture_reader.specs.Source.{later, after_ahead, Ends, LookFailed, OpenFailed}
use Rattle.capture_reader.specs.Window.{coming, still}
use Rattle.capture_reader.proofs.Looks.{later_ends}
use Rattle.capture_reader.proofs.Merging.{record_step, line_step, end_step, capture_over, script_over, cut_over, none_weaker, of_some}
use Rattle.capture_reader.proofs.Upcoming.{rest_is, shows_end}

-- behind the first looks what is to come is what was to come before
pub rest_first : (capture : CaptureSource) (source : ScriptSource) (limit : ℕ) (before : Option Schedule) (capture_left script_left : Option (List ℕ)) → source.ports ≡ capture.ports
    → before ≡ option_map (after_ahead (ahead_of capture.ahead)) (later (records capture.ports capture.tick capture.offset 0) capture.window capture_left)
    → rest (reading (record { capture = capture; script = source; limit = limit; served = 0; tick = 0; state = Waiting })) capture_left script_left
    ≡ merged limit before (lines_with_ahead source script_left)
rest_first capture source limit before capture_left script_left ports read =
    let whole : limit - 0 ≡ limit = omega arith in
    rest_is (reading (record { capture = capture; script = source; limit = limit; served = 0; tick = 0; state = Waiting })) capture_left script_left
    ∙ ap (λ n. merged n (option_map (after_ahead (ahead_of capture.ahead)) (later (records capture.ports capture.tick capture.offset 0) capture.window capture_left))
    (option_map (after_ahead (line_of source.ahead)) (later (lines capture.ports source.tick source.line 0) source.window script_left))) whole
    ∙ ap (λ records. merged limit records (option_map (after_ahead (line_of source.ahead)) (later (lines capture.ports source.tick source.line 0) source.window script_left))) (sym read)
    ∙ ap (λ n. merged limit before (option_map (after_ahead (line_of source.ahead)) (later (lines n source.tick source.line 0) source.window script_left))) (sym ports)

over_stops : (one other : Option Stop) → Some (over one) ≡ Some (over other) → one ≡ other
over_stops one other same = ap (λ (schedule : Schedule). schedule.stop) (same_Some (over one) (over other) same)

cut_no_fault : (limit : ℕ) (event : Seen) (recording : Schedule) (stop : Stop) → stop ≢ stops.TooLong → cut_to limit (in_front event recording) ≡ over (Some stop) → ⊥
unfolding cut
cut_no_fault zero event recording stop other same = other (same_Some stop stops.TooLong (sym (ap (λ (schedule : Schedule). schedule.stop) same)))
cut_no_fault (suc limit) event recording stop other same =
    let none = ap (λ (schedule : Schedule). schedule.events) same in cc

-- behind looks that found no fault none comes at once
no_fault : (capture : CaptureSource) (source : ScriptSource) (limit : ℕ) (capture_left script_left : Option (List ℕ))
    → IfNone (ahead_of capture.ahead) (Ends (records capture.ports capture.tick capture.offset 0) capture.window None) → IfNone (line_of source.ahead) (Ends (lines capture.ports source.tick source.line 0) source.window None)
    → (stop : Stop) → stop ≢ stops.TooLong
    → rest (reading (record { capture = capture; script = source; limit = limit; served = 0; tick = 0; state = Waiting })) capture_left script_left ≢ Some (over (Some stop))
unfolding rest upcoming to_come
no_fault capture source limit None script_left records_end lines_end stop other same = cc
no_fault capture source limit (Some capture_left) None records_end lines_end stop other same = cc
no_fault capture source limit (Some capture_left) (Some script_left) records_end lines_end stop other same =
    let told : Schedule = records capture.ports capture.tick capture.offset 0 (coming capture.window capture_left) in
    let said : Schedule = lines capture.ports source.tick source.line 0 (coming source.window script_left) in
    let over_at_once : cut_to (limit - 0) (merge (after_ahead (line_of source.ahead) said) (after_ahead (ahead_of capture.ahead) told)) ≡ over (Some stop) =
    same_Some _ _ same in
    elim (next_of (ahead_of capture.ahead) (line_of source.ahead)) as (λ n. next_of (ahead_of capture.ahead) (line_of source.ahead) ≡ n → ⊥) [
      | nexts.Record ↦ λ next. of_some (ahead_of capture.ahead) (λ event step. cut_no_fault (limit - 0) event _ stop other (sym (ap (cut_to (limit - 0)) step) ∙ over_at_once))
          (record_step (ahead_of capture.ahead) (line_of source.ahead) told said next (none_weaker (line_of source.ahead) (λ all. all script_left) lines_end))
      | nexts.Line ↦ λ next. of_some (line_of source.ahead) (λ event step. cut_no_fault (limit - 0) event _ stop other (sym (ap (cut_to (limit - 0)) step) ∙ over_at_once))
          (line_step (ahead_of capture.ahead) (line_of source.ahead) told said next (none_weaker (ahead_of capture.ahead) (λ all. all capture_left) records_end))
      | nexts.End ↦ λ next.
          let none = end_step (ahead_of capture.ahead) (line_of source.ahead) next in
          let shown = shows_end capture source limit 0 0 none.0 none.1 (MatchOption-at_none _ _ none.0 records_end) (MatchOption-at_none _ _ none.1 lines_end) capture_left script_left in
          let stopped = over_stops None (Some stop) (ap Some (sym shown ∙ over_at_once)) in cc
    ] refl

pub looked_first : (capture : CaptureSource) (source : ScriptSource) (limit : ℕ) (before : Option Schedule) (capture_left script_left : Option (List ℕ))
    → IfNone (ahead_of capture.ahead) (Ends (records capture.ports capture.tick capture.offset 0) capture.window None) → IfNone (line_of source.ahead) (Ends (lines capture.ports source.tick source.line 0) source.window None)
    → rest (reading (record { capture = capture; script = source; limit = limit; served = 0; tick = 0; state = Waiting })) capture_left script_left ≡ before → IsLooked before
looked_first capture source limit before capture_left script_left records_end lines_end is = record {
  no_capture_fault = λ offset why same. no_fault capture source limit capture_left script_left records_end lines_end (stops.Capture offset why) (λ equal. cc) (is ∙ same);
  no_script_fault = λ line why same. no_fault capture source limit capture_left script_left records_end lines_end (stops.Script line why) (λ equal. cc) (is ∙ same);
}

merged_over-capture : (limit : ℕ) (told said : Option Schedule) (ahead : Option Seen) (stop : Stop) → IfSome told (λ recording. recording ≡ over (Some stop))
    → IfNone ahead (IfSome said (λ recording. recording ≡ over None)) → IsOver (Some stop) (merged limit told (option_map (after_ahead ahead) said))
merged_over-capture limit None said ahead stop ends none = tt
merged_over-capture limit (Some told) None ahead stop ends none = tt
merged_over-capture limit (Some told) (Some said) ahead stop ends none = cut_over limit _ (Some stop) (capture_over ahead told said stop ends none)

merged_over-script : (limit : ℕ) (told said : Option Schedule) (stop : Stop) → IfSome said (λ recording. recording ≡ over (Some stop)) → IsOver (Some stop) (merged limit told said)
merged_over-script limit None said stop ends = tt
merged_over-script limit (Some told) None stop ends = tt
merged_over-script limit (Some told) (Some said) stop ends = cut_over limit _ (Some stop) (script_over told said stop ends)

-- the first look at the capture failed
pub capture_failed : (capture : CaptureSource) (source : ScriptSource) (limit : ℕ) (before : Option Schedule) (left script_left : Option (List ℕ)) (desk desk_after : Told) (fault : RecordFault)
    → later (records capture.ports capture.tick capture.offset 0) capture.window left ≡ before → IfNone (line_of source.ahead) (Ends (lines source.ports source.tick source.line 0) source.window None)
    → LookFailed capture.ports capture.tick capture.offset capture.window desk desk_after fault
    → NewFailed (merged limit before (lines_with_ahead source script_left)) desk desk_after ⊥ (record_stop fault)
capture_failed capture source limit before left script_left desk desk_after (of_record.Faulty offset why) same lines_end failed =
    merged_over-capture limit before (later (lines source.ports source.tick source.line 0) source.window script_left) (line_of source.ahead) (stops.Capture offset why)
    (subst (λ (recording : Option Schedule). IfSome recording (λ r. r ≡ over (Some (stops.Capture offset why)))) same
    (later_ends (records capture.ports capture.tick capture.offset 0) capture.window (Some (stops.Capture offset why)) left failed))
    (none_weaker (line_of source.ahead) (later_ends (lines source.ports source.tick source.line 0) source.window None script_left) lines_end)
capture_failed capture source limit before left script_left desk desk_after of_record.Unread same lines_end failed = failed.0

-- the first look at the script failed
pub script_failed : (source : ScriptSource) (limit : ℕ) (told before : Option Schedule) (left : Option (List ℕ)) (desk desk_after : Told) (fault : LineFault)
    → later (lines source.ports source.tick source.line 0) source.window left ≡ before
    → LineLookFailed source.ports source.tick source.line source.window desk desk_after fault
    → NewFailed (merged limit told before) desk desk_after ⊥ (line_stop fault)
script_failed source limit told before left desk desk_after (of_line.Faulty line why) same failed =
    merged_over-script limit told before (stops.Script line why)
    (subst (λ (recording : Option Schedule). IfSome recording (λ r. r ≡ over (Some (stops.Script line why)))) same
    (later_ends (lines source.ports source.tick source.line 0) source.window (Some (stops.Script line why)) left failed))
script_failed source limit told before left desk desk_after of_line.Unread same failed = failed.0

-- the schedule of the bytes that were left
pub schedules : (limit ports : ℕ) (capture_left script_left : Option (List ℕ)) → IfSome capture_left (λ bytes. header bytes ≡ Ok ports)
    → merged limit (option_map (λ bytes. records ports 0 8 0 (drop 8 bytes)) capture_left) (option_map (script ports) script_left) ≡ both (schedule limit) capture_left script_left
unfolding schedule
schedules limit ports None script_left told = refl
schedules limit ports (Some bytes) None told = refl
schedules limit ports (Some bytes) (Some script_bytes) told = rw (told, schedule) refl

-- of a script of which nothing was read all lines are to come
pub unread_script : (ports : ℕ) (left : Option (List ℕ)) → later (lines ports 0 1 0) (record { bytes = []; ended = false }) left ≡ option_map (script ports) left
unfolding later still script
unread_script ports None = refl
unread_script ports (Some left) = refl

pub port_count_told : (left : Option (List ℕ)) (ports ports_after : ℕ) → ports_after ≡ ports → IfSome left (λ bytes. header bytes ≡ Ok ports)
    → IfSome left (λ bytes. port_count bytes ≡ ports_after)
unfolding port_count
port_count_told None ports ports_after same told = tt
port_count_told (Some bytes) ports ports_after same told = rw (told, port_count) (sym same)

over_of_header : (limit : ℕ) (left script_left : Option (List ℕ)) (stop : Stop) → IfSome left (λ bytes. header bytes ≡ Err stop) → IsOver (Some stop) (both (schedule limit) left script_left)
unfolding schedule
over_of_header limit None script_left stop faulty = tt
over_of_header limit (Some bytes) None stop faulty = tt
over_of_header limit (Some bytes) (Some script_bytes) stop faulty = rw (faulty, schedule) refl

-- the header couldn't be read
pub open_is_new : (limit : ℕ) (desk desk_after : Told) (fault : RecordFault) → OpenFailed desk desk_after fault
    → NewFailed (schedule_told limit desk) desk desk_after ⊥ (record_stop fault)
open_is_new limit desk desk_after (of_record.Faulty offset why) failed = over_of_header limit (desk.left inputs.Capture) (desk.left inputs.Script) (stops.Capture offset why) failed
open_is_new limit desk desk_after of_record.Unread failed = failed

rose_since : (earlier before after : ℕ) → earlier ≤ before → Rose before after → Rose earlier after
rose_since earlier before after ordered (inl above) = inl (omega arith)
rose_since earlier before after ordered (inr last) = inr last

-- a count that rose is above what it was earlier, too
pub failed_since : (before : Option Schedule) (earlier desk desk_after : Told) (fault : Fault) → ((input : Input) → earlier.read_faults input ≤ desk.read_faults input)
    → NewFailed before desk desk_after ⊥ (stop_of fault) → NewFailed before earlier desk_after ⊥ (stop_of fault)
failed_since before earlier desk desk_after (faults.Record (of_record.Faulty offset why)) ordered failed = failed
failed_since before earlier desk desk_after (faults.Line (of_line.Faulty line why)) ordered failed = failed
failed_since before earlier desk desk_after faults.TooMany ordered failed = failed
failed_since before earlier desk desk_after (faults.Record of_record.Unread) ordered failed = rose_since (earlier.read_faults inputs.Capture) (desk.read_faults inputs.Capture) (desk_after.read_faults inputs.Capture) (ordered inputs.Capture) failed
failed_since before earlier desk desk_after (faults.Line of_line.Unread) ordered failed = rose_since (earlier.read_faults inputs.Script) (desk.read_faults inputs.Script) (desk_after.read_faults inputs.Script) (ordered inputs.Script) failed
