-- What is taken at the beginning, and where a read fails there.
use Rattle.std.proofs.Common.{◌≡◌, ℕ, ◌+◌, ◌<◌, ◌≤◌, Bool, false, List, [], ◌++◌, length, drop, Option, None, Ok, Err, refl, sym, ap, ◌∙◌, subst, arith}
use Rattle.std.proofs.lemmas.List.{drop-append-le}
use Rattle.psd_base.specs.declared.outlet.Input.TheVariants as inputs
use Rattle.psd_base.specs.declared.stop.CaptureFault.TheVariants.{Truncated}
use Rattle.psd_base.specs.declared.stop.Stop.{Stop}
use Rattle.psd_base.specs.declared.stop.Stop.TheVariants as stops
use Rattle.psd_base.specs.Desk.{Told}
use Rattle.capture_reader.specs.declared.fault.Fault.{Fault}
use Rattle.capture_reader.specs.declared.fault.Fault.TheVariants as faults
use Rattle.capture_reader.specs.declared.fault.RecordFault.{RecordFault}
use Rattle.capture_reader.specs.declared.fault.RecordFault.TheVariants as of_record
use Rattle.capture_reader.specs.declared.fault.LineFault.{LineFault}
use Rattle.capture_reader.specs.declared.fault.LineFault.TheVariants as of_line
use Rattle.capture_reader.specs.declared.progress.Progress.{Progress}
use Rattle.capture_reader.specs.declared.progress.State.TheVariants.{Waiting}
use Rattle.capture_reader.specs.declared.script.ScriptSource.{ScriptSource}
use Rattle.capture_reader.specs.declared.source.CaptureSource.{CaptureSource}
use Rattle.capture_reader.specs.Ahead.{ahead_of, line_of}
use Rattle.capture_reader.specs.Capture.{header, records}
use Rattle.capture_reader.specs.Fault.{record_stop, line_stop, stop_of}
use Rattle.capture_reader.specs.Lines.{lines_in, LineLookFailed}
use Rattle.capture_reader.specs.Progress.{capture_reading, script_reading, reading}
use Rattle.capture_reader.specs.Reader.{records_held, lines_held, TookBoth}
use Rattle.capture_reader.specs.Source.{records_in, LookFailed, IsFaulty}
use Rattle.capture_reader.specs.Taken.{waiting, given_from, whole_records, whole_lines, Took, TookNone, FailsFirst}
use Rattle.capture_reader.specs.Window.{Held, HeldMore}
use Rattle.capture_reader.proofs.Counting.{none_taken, no_line_taken}
use Rattle.capture_reader.proofs.Opening.{header-append, header-short}
use Rattle.capture_reader.proofs.Taken.{taken_on, took_on}

-- the header

whole_is : (ports : ℕ) (bytes : List ℕ) → header bytes ≡ Ok ports → whole_records bytes ≡ length (records ports 0 8 0 (drop 8 bytes)).events
unfolding whole_records
whole_is ports bytes is = rw (is, whole_records) refl

whole_none : (stop : Stop) (bytes : List ℕ) → header bytes ≡ Err stop → whole_records bytes ≡ 0
unfolding whole_records
whole_none stop bytes is = rw (is, whole_records) refl

all_taken : (window held : Held) (left left_after : Option (List ℕ)) (more : HeldMore window held left left_after) → window.bytes ≡ [] → held.bytes ≡ more.bytes
all_taken window held left left_after more empty = more.held_is ∙ ap (λ bytes. bytes ++ more.bytes) empty

pub opened : (window held : Held) (source : CaptureSource) (left left_after : Option (List ℕ)) → HeldMore window held left left_after → window.bytes ≡ [] → 8 ≤ length held.bytes
    → header held.bytes ≡ Ok source.ports → source.window ≡ record held { bytes = drop 8 held.bytes } → source.tick ≡ 0 → source.offset ≡ 8
    → Took whole_records (records_in source) false left left_after 0
unfolding records_in
opened window held source left left_after more_held empty whole is rest tick offset = record {
  bytes = more_held.bytes;
  left_is = more_held.left_is;
  counted = λ unmet more.
      let count : List ℕ → ℕ = λ bytes. length (records source.ports 0 8 0 bytes).events in
      let start : whole_records (more_held.bytes ++ more) ≡ whole_records (held.bytes ++ more) =
      ap (λ bytes. whole_records (bytes ++ more)) (sym (all_taken window held left left_after more_held empty)) in
      let all : whole_records (held.bytes ++ more) ≡ count (drop 8 (held.bytes ++ more)) =
      whole_is source.ports (held.bytes ++ more) (header-append held.bytes more whole ∙ is) in
      let behind : count (drop 8 (held.bytes ++ more)) ≡ count (source.window.bytes ++ more) =
      ap count (drop-append-le 8 held.bytes more whole ∙ ap (λ (window : Held). window.bytes ++ more) (sym rest)) in
      let place : count (source.window.bytes ++ more) ≡ length (records source.ports source.tick source.offset 0 (source.window.bytes ++ more)).events =
      ap (λ n. length (records source.ports n 8 0 (source.window.bytes ++ more)).events) (sym tick)
      ∙ ap (λ n. length (records source.ports source.tick n 0 (source.window.bytes ++ more)).events) (sym offset) in
      omega arith;
}

pub none_opened : (window held : Held) (left left_after : Option (List ℕ)) → HeldMore window held left left_after → window.bytes ≡ [] → length held.bytes < 8 → TookNone whole_records left left_after
none_opened window held left left_after more_held empty short = record {
  bytes = more_held.bytes;
  left_is = more_held.left_is;
  none = ap whole_records (sym (all_taken window held left left_after more_held empty)) ∙ whole_none (stops.Capture 0 Truncated) held.bytes (header-short held.bytes short);
}

pub faulty_first : (told told_after : Told) (fault : RecordFault) → IsFaulty fault → FailsFirst whole_records whole_lines told told_after (record_stop fault)
faulty_first told told_after of_record.Unread is = absurd is
faulty_first told told_after (of_record.Faulty offset why) is = tt

-- the first looks, as the reader's value has them

pub first_record_looked : (now new : CaptureSource) (ended : Bool) (left left_after : Option (List ℕ)) → Took (records_in now) (records_in new) ended left left_after (waiting (ahead_of new.ahead))
    → Took (records_in now) (records_held new.ports (capture_reading Waiting new)) ended left left_after 0
unfolding records_in records_held
first_record_looked now new ended left left_after took = record {
  bytes = took.bytes;
  left_is = took.left_is;
  counted = λ unmet more. let same = took.counted unmet more in omega arith;
}

pub first_line_looked : (now new : ScriptSource) (ended : Bool) (left left_after : Option (List ℕ)) → Took (lines_in now) (lines_in new) ended left left_after (waiting (line_of new.ahead))
    → Took (lines_in now) (lines_held (script_reading Waiting new)) ended left left_after 0
unfolding lines_in lines_held
first_line_looked now new ended left left_after took = record {
  bytes = took.bytes;
  left_is = took.left_is;
  counted = λ unmet more. let same = took.counted unmet more in omega arith;
}

-- a look that failed

pub capture_first : (now new : CaptureSource) (lines : List ℕ → ℕ) (told told_after : Told) (fault : RecordFault) → ahead_of new.ahead ≡ None
    → Took (records_in now) (records_in new) new.window.ended (told.left inputs.Capture) (told_after.left inputs.Capture) (waiting (ahead_of new.ahead))
    → LookFailed new.ports new.tick new.offset new.window told told_after fault → FailsFirst (records_in now) lines told told_after (record_stop fault)
capture_first now new lines told told_after (of_record.Faulty offset why) none took failed = tt
capture_first now new lines told told_after of_record.Unread none took failed =
    none_taken now new (told.left inputs.Capture) (told_after.left inputs.Capture)
    (subst (λ n. Took (records_in now) (records_in new) new.window.ended (told.left inputs.Capture) (told_after.left inputs.Capture) n) (ap waiting none) took) failed.2 failed.1

pub script_first : (now new : ScriptSource) (records : List ℕ → ℕ) (told told_after : Told) (fault : LineFault) → line_of new.ahead ≡ None
    → Took (lines_in now) (lines_in new) new.window.ended (told.left inputs.Script) (told_after.left inputs.Script) (waiting (line_of new.ahead))
    → LineLookFailed new.ports new.tick new.line new.window told told_after fault → FailsFirst records (lines_in now) told told_after (line_stop fault)
script_first now new records told told_after (of_line.Faulty line why) none took failed = tt
script_first now new records told told_after of_line.Unread none took failed =
    no_line_taken now new (told.left inputs.Script) (told_after.left inputs.Script)
    (subst (λ n. Took (lines_in now) (lines_in new) new.window.ended (told.left inputs.Script) (told_after.left inputs.Script) n) (ap waiting none) took) failed.2 failed.1

-- a read of the capture that failed behind the first line
pub first_since : (records lines : List ℕ → ℕ) (earlier told told_after : Told) (fault : Fault) → told.left inputs.Capture ≡ earlier.left inputs.Capture
    → FailsFirst records (λ _. 1) told told_after (stop_of fault) → FailsFirst records lines earlier told_after (stop_of fault)
first_since records lines earlier told told_after (faults.Record (of_record.Faulty offset why)) same failed = tt
first_since records lines earlier told told_after (faults.Line (of_line.Faulty line why)) same failed = tt
first_since records lines earlier told told_after faults.TooMany same failed = tt
first_since records lines earlier told told_after (faults.Record of_record.Unread) same failed =
    subst (λ (left : Option (List ℕ)). TookNone records left (told_after.left inputs.Capture)) same failed
first_since records lines earlier told told_after (faults.Line of_line.Unread) same failed = absurd (let none = failed.none in omega arith)

-- and behind the header

empty_lines : (script : ScriptSource) (bytes : List ℕ) → script.window.bytes ≡ [] → whole_lines bytes ≡ lines_in script bytes
unfolding lines_in
empty_lines script bytes empty = ap (λ front. whole_lines (front ++ bytes)) (sym empty)

pub first_of_all : (capture : CaptureSource) (script : ScriptSource) (earlier told told_after : Told) (fault : Fault) → script.window.bytes ≡ [] → told.left inputs.Script ≡ earlier.left inputs.Script
    → Took whole_records (records_in capture) false (earlier.left inputs.Capture) (told.left inputs.Capture) 0
    → FailsFirst (records_in capture) (lines_in script) told told_after (stop_of fault) → FailsFirst whole_records whole_lines earlier told_after (stop_of fault)
first_of_all capture script earlier told told_after (faults.Record (of_record.Faulty offset why)) empty same opened failed = tt
first_of_all capture script earlier told told_after (faults.Line (of_line.Faulty line why)) empty same opened failed = tt
first_of_all capture script earlier told told_after faults.TooMany empty same opened failed = tt
first_of_all capture script earlier told told_after (faults.Record of_record.Unread) empty same opened failed = record {
  bytes = opened.bytes ++ failed.bytes;
  left_is = taken_on opened.bytes failed.bytes (earlier.left inputs.Capture) (told.left inputs.Capture) (told_after.left inputs.Capture) opened.left_is failed.left_is;
  none =
      let all : whole_records (opened.bytes ++ failed.bytes) ≡ records_in capture failed.bytes + 0 = opened.counted refl failed.bytes in
      let none : records_in capture failed.bytes ≡ 0 = failed.none in
      omega arith;
}
first_of_all capture script earlier told told_after (faults.Line of_line.Unread) empty same opened failed = record {
  bytes = failed.bytes;
  left_is = sym same ∙ failed.left_is;
  none = empty_lines script failed.bytes empty ∙ failed.none;
}

-- what the first looks took

pub first_took : (capture : CaptureSource) (script looked : ScriptSource) (progress : Progress) (earlier told told_after : Told) → told.left inputs.Capture ≡ earlier.left inputs.Capture
    → progress.script ≡ looked → Took (lines_in script) (lines_in looked) looked.window.ended (earlier.left inputs.Script) (told.left inputs.Script) (waiting (line_of looked.ahead))
    → TookBoth (records_in capture) (lines_held (script_reading Waiting looked)) (reading progress) told told_after
    → TookBoth (records_in capture) (lines_in script) (reading progress) earlier told_after
first_took capture script looked progress earlier told told_after same is line took = record {
  capture = subst (λ (left : Option (List ℕ)). Took (records_in capture) (records_held progress.capture.ports (reading progress).capture) progress.capture.window.ended left (told_after.left inputs.Capture)
      (given_from inputs.Capture (reading progress).given)) same took.capture;
  script = took_on (lines_in script) (lines_held (script_reading Waiting looked)) (lines_held (reading progress).script) looked.window.ended progress.script.window.ended
      (earlier.left inputs.Script) (told.left inputs.Script) (told_after.left inputs.Script) 0 _ _ (omega arith)
      (first_line_looked script looked looked.window.ended (earlier.left inputs.Script) (told.left inputs.Script) line) took.script
      (λ unmet. sym (ap (λ (source : ScriptSource). source.window.ended) is) ∙ unmet);
}

pub all_took : (capture : CaptureSource) (script : ScriptSource) (progress : Progress) (earlier told told_after : Told) → script.window.bytes ≡ [] → told.left inputs.Script ≡ earlier.left inputs.Script
    → Took whole_records (records_in capture) false (earlier.left inputs.Capture) (told.left inputs.Capture) 0
    → TookBoth (records_in capture) (lines_in script) (reading progress) told told_after
    → TookBoth whole_records whole_lines (reading progress) earlier told_after
all_took capture script progress earlier told told_after empty same opened took = record {
  capture = took_on whole_records (records_in capture) (records_held progress.capture.ports (reading progress).capture) false progress.capture.window.ended
      (earlier.left inputs.Capture) (told.left inputs.Capture) (told_after.left inputs.Capture) 0 _ _ (omega arith) opened took.capture (λ unmet. refl);
  script = record {
    bytes = took.script.bytes;
    left_is = sym same ∙ took.script.left_is;
    counted = λ unmet more. empty_lines script (took.script.bytes ++ more) empty ∙ took.script.counted unmet more;
  };
}
