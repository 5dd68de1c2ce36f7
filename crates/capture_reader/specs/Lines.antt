-- A script as a source of events, which is read one line ahead.
use Rattle.std.specs.Prelude.{◌≡◌, ℕ, true, false, List, ◌++◌, Option, Some, option_map}
use Rattle.psd_base.specs.declared.outlet.Input.TheVariants as inputs
use Rattle.psd_base.specs.declared.stop.Stop.{Stop}
use Rattle.psd_base.specs.declared.stop.Stop.TheVariants as stops
use Rattle.psd_base.specs.Desk.{ReadFailed, Told}
use Rattle.psd_base.specs.Event.{HappensWithin, Seen}
use Rattle.capture_reader.specs.declared.fault.LineFault.{LineFault}
use Rattle.capture_reader.specs.declared.fault.LineFault.TheVariants.{Unread, Faulty}
use Rattle.capture_reader.specs.declared.script.ScriptSource.{ScriptSource}
use Rattle.capture_reader.specs.Ahead.{line_of}
use Rattle.capture_reader.specs.Schedule.{Schedule}
use Rattle.capture_reader.specs.Script.{lines}
use Rattle.capture_reader.specs.Source.{after_ahead, later, Ends}
use Rattle.capture_reader.specs.Taken.{moves_panel, whole_lines}
use Rattle.capture_reader.specs.Window.{Held, HasNoLine}

-- what the lines say that are still to come
abbrev pub later_lines_of : ScriptSource → Option (List ℕ) → Option Schedule
later_lines_of source left = later (lines source.ports source.tick source.line 0) source.window left

abbrev pub lines_later : ScriptSource → Told → Option Schedule
lines_later source told = later_lines_of source (told.left inputs.Script)

abbrev pub LinesEndNow : ScriptSource → Option Stop → Type 0
LinesEndNow source stop = Ends (lines source.ports source.tick source.line 0) source.window stop

-- how many whole lines are in what is held and these bytes
unfoldable pub lines_in : ScriptSource → List ℕ → ℕ
lines_in source more = whole_lines (source.window.bytes ++ more)

-- why looking ahead failed: a fault that the bytes show, or a failed read, whose count rose, before a line was whole
abbrev pub LineLookFailed : ℕ → ℕ → ℕ → Held → Told → Told → LineFault → Type 0
LineLookFailed ports last number held told told_after Unread = ReadFailed inputs.Script told told_after × HasNoLine held.bytes × (held.ended ≡ false)
LineLookFailed ports last number held told told_after (Faulty place why) = Ends (lines ports last number 0) held (Some (stops.Script place why))

abbrev pub FailedLineLook : ScriptSource → Told → Told → LineFault → Type 0
FailedLineLook source told told_after fault = LineLookFailed source.ports source.tick source.line source.window told told_after fault

-- the next event, whose tick is that of the last line that was read, at one of the ports
abbrev pub IsNextLine : ScriptSource → Seen → Type 0
IsNextLine source event = (event.tick ≡ source.tick) × HappensWithin source.ports event.happening × (moves_panel event.happening ≡ true)

-- the line that was read ahead, and the lines that are still to come
abbrev pub lines_with_ahead : ScriptSource → Option (List ℕ) → Option Schedule
lines_with_ahead source left = option_map (after_ahead (line_of source.ahead)) (later_lines_of source left)
