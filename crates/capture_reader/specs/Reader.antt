-- What a reader has read, and what is still to come.
use Rattle.std.specs.Prelude.{◌≡◌, ◌≢◌, ℕ, ◌+◌, ◌-◌, ◌≤◌, false, List, [], ◌++◌, length, Option, Some, None, option_map, IfSome, IsSomeAnd}
use Rattle.psd_base.specs.declared.outlet.Input.TheVariants as inputs
use Rattle.psd_base.specs.declared.stop.CaptureFault.{CaptureFault}
use Rattle.psd_base.specs.declared.stop.ScriptFault.{ScriptFault}
use Rattle.psd_base.specs.declared.stop.Stop.{Stop}
use Rattle.psd_base.specs.declared.stop.Stop.TheVariants as stops
use Rattle.psd_base.specs.Desk.{ReadFailed, Told}
use Rattle.psd_base.specs.Event.{HappensWithin, Seen}
use Rattle.capture_reader.specs.Capture.{records}
use Rattle.capture_reader.specs.Schedule.{Schedule, in_front, over}
use Rattle.capture_reader.specs.Merge.{merge, both, cut_to}
use Rattle.capture_reader.specs.Script.{lines}
use Rattle.capture_reader.specs.Source.{after_ahead}
use Rattle.capture_reader.specs.Taken.{waiting, given_from, whole_lines, Took}
use Rattle.capture_reader.specs.Window.{EndIsTrue, Held, coming}

-- how far a source was read
pub record Following : Type 0 where
  -- the event that was read ahead and not given
  pub ahead : Option Seen
  -- the tick of the last event that was read
  pub tick : ℕ
  -- where the next one begins: the offset of a record's first byte, or the number of a line
  pub place : ℕ
  -- the bytes that were taken and not read
  pub held : Held

pub record Reading : Type 0 where
  -- the most events that are given, and how many were given
  pub limit : ℕ
  pub served : ℕ
  -- the capture's number of ports
  pub ports : ℕ
  -- the event that the last advance gave
  pub given : Option Seen
  -- the stop that was answered
  pub stopped : Option Stop
  -- the tick of the last event that was given, below which none comes; 0 before the first
  pub tick : ℕ
  pub capture : Following
  pub script : Following

-- what is still to come of a source, by what its bytes say from there on, where the desk has these left
unfoldable pub to_come : (List ℕ → Schedule) → Following → List ℕ → Schedule
to_come walk source left = after_ahead source.ahead (walk (coming source.held left))

-- what is still to come, where the desk has these bytes of the capture and these of the script left
unfoldable pub upcoming : Reading → List ℕ → List ℕ → Schedule
upcoming reading capture_left script_left =
    cut_to (reading.limit - reading.served)
    (merge (to_come (lines reading.ports reading.script.tick reading.script.place 0) reading.script script_left)
    (to_come (records reading.ports reading.capture.tick reading.capture.place 0) reading.capture capture_left))

-- the same where the desk may not tell
unfoldable pub rest : Reading → Option (List ℕ) → Option (List ℕ) → Option Schedule
rest reading capture_left script_left = both (upcoming reading) capture_left script_left

-- the same with what a desk tells
abbrev pub rest_told : Reading → Told → Option Schedule
rest_told reading told = rest reading (told.left inputs.Capture) (told.left inputs.Script)

-- the event that was given is the next of what was to come
abbrev pub GivesNext : Reading → Option Schedule → Option Schedule → Type 0
GivesNext new before after = IsSomeAnd new.given (λ event. before ≡ option_map (in_front event) after)

-- where the desk tells, no event was to come, and this end
abbrev pub IsOver : Option Stop → Option Schedule → Type 0
IsOver stop before = IfSome before (λ schedule. schedule ≡ over stop)

-- whatever the desk has left, no event is to come, and this end
abbrev pub ShowsOver : Option Stop → Reading → Type 0
ShowsOver stop reading = (capture_left script_left : List ℕ) → upcoming reading capture_left script_left ≡ over stop

-- the reader met the end of both sources
pub record IsAtEnd (reading : Reading) : Type 0 where
  pub nothing_given : reading.given ≡ None
  pub no_record : reading.capture.ahead ≡ None
  pub no_line : reading.script.ahead ≡ None
  pub no_stop : reading.stopped ≡ None

-- an end that was met is one: nothing is left of that source, where the desk tells
pub record EndsAreTrue (reading : Reading) (told : Told) : Type 0 where
  pub capture : EndIsTrue reading.capture.held (told.left inputs.Capture)
  pub script : EndIsTrue reading.script.held (told.left inputs.Script)

-- how many whole records, and how many whole lines, wait or are in the bytes that were taken and not read, and these further ones

unfoldable pub records_held : ℕ → Following → List ℕ → ℕ
records_held ports source more = waiting source.ahead + length (records ports source.tick source.place 0 (source.held.bytes ++ more)).events

unfoldable pub lines_held : Following → List ℕ → ℕ
lines_held source more = waiting source.ahead + whole_lines (source.held.bytes ++ more)

-- What a call took of the capture and of the script, and what it gave of that: of the whole records, and of the whole lines, that
-- there were in all, those are left that are held now.
pub record TookBoth (records_before lines_before : List ℕ → ℕ) (new : Reading) (told told_after : Told) : Type 0 where
  pub capture : Took records_before (records_held new.ports new.capture) new.capture.held.ended (told.left inputs.Capture) (told_after.left inputs.Capture) (given_from inputs.Capture new.given)
  pub script : Took lines_before (lines_held new.script) new.script.held.ended (told.left inputs.Script) (told_after.left inputs.Script) (given_from inputs.Script new.given)

-- the end of the capture wasn't met, and no whole record waits or is in the bytes that were taken and not read
abbrev pub HoldsNoRecord : Reading → Type 0
HoldsNoRecord reading = (reading.capture.held.ended ≡ false) × (records_held reading.ports reading.capture [] ≡ 0)

-- the end of the script wasn't met, and no whole line waits or is in the bytes that were taken and not read
abbrev pub HoldsNoLine : Reading → Type 0
HoldsNoLine reading = (reading.script.held.ended ≡ false) × (lines_held reading.script [] ≡ 0)

-- an event at one of so many ports, which is not below the last one given, and is the last one given now
abbrev pub IsInOrder : ℕ → ℕ → ℕ → Seen → Type 0
IsInOrder tick_before tick_after ports event = (tick_before ≤ event.tick) × (event.tick ≡ tick_after) × HappensWithin ports event.happening

-- why a reader stops: what was to come is over so, or a read failed and its count rose
abbrev pub StopsBecause : Reading → Option Schedule → Told → Told → Stop → Type 0
StopsBecause new before told told_after (stops.ReadFault inputs.Capture) = ReadFailed inputs.Capture told told_after × HoldsNoRecord new
StopsBecause new before told told_after (stops.ReadFault inputs.Script) = ReadFailed inputs.Script told told_after × HoldsNoLine new
StopsBecause new before told told_after (stops.Capture offset why) = ShowsOver (Some (stops.Capture offset why)) new × IsOver (Some (stops.Capture offset why)) before
StopsBecause new before told told_after (stops.Script line why) = ShowsOver (Some (stops.Script line why)) new × IsOver (Some (stops.Script line why)) before
StopsBecause new before told told_after stops.TooLong = ShowsOver (Some stops.TooLong) new × IsOver (Some stops.TooLong) before × (new.served ≡ new.limit)
StopsBecause new before told told_after stop = ⊥

-- a source isn't faulty before its in_front event
pub record IsLooked (before : Option Schedule) : Type 0 where
  pub no_capture_fault : (offset : ℕ) (why : CaptureFault) → before ≢ Some (over (Some (stops.Capture offset why)))
  pub no_script_fault : (line : ℕ) (why : ScriptFault) → before ≢ Some (over (Some (stops.Script line why)))

-- why there is no reader: no event is to come and a source is faulty, or a read failed and its count rose
abbrev pub NewFailed : Option Schedule → Told → Told → Type 0 → Stop → Type 0
NewFailed before told told_after unread (stops.ReadFault inputs.Capture) = ReadFailed inputs.Capture told told_after
NewFailed before told told_after unread (stops.ReadFault inputs.Script) = ReadFailed inputs.Script told told_after
NewFailed before told told_after unread (stops.Capture offset why) = IsOver (Some (stops.Capture offset why)) before
NewFailed before told told_after unread (stops.Script line why) = IsOver (Some (stops.Script line why)) before
NewFailed before told told_after unread stops.OutOfMemory = unread
NewFailed before told told_after unread stop = ⊥
