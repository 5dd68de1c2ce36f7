-- A reader's value by its parts, and what is so of the parts.
use Rattle.std.specs.Prelude.{◌≡◌, ℕ, ◌+◌, ◌*◌, ◌≤◌, Bool, true, false, Option, Some, None, Result, Ok, Err, nat_le, if◌then◌else◌, IsSome, IfSome, IfNone}
use Rattle.psd_base.specs.declared.event.TheConstants.{EVENTS_MAX}
use Rattle.psd_base.specs.declared.port.TheConstants.{MAX_PORTS}
use Rattle.psd_base.specs.declared.stop.Stop.{Stop}
use Rattle.psd_base.specs.Event.{HappensWithin, Seen}
use Rattle.capture_reader.specs.declared.next.Next.{Next}
use Rattle.capture_reader.specs.declared.next.Next.TheVariants as nexts
use Rattle.capture_reader.specs.declared.progress.Progress.{Progress}
use Rattle.capture_reader.specs.declared.progress.State.{State}
use Rattle.capture_reader.specs.declared.progress.State.TheVariants.{Waiting, GivenRecord, GivenLine, Stopped}
use Rattle.capture_reader.specs.declared.script.ScriptSource.{ScriptSource}
use Rattle.capture_reader.specs.declared.source.CaptureSource.{CaptureSource}
use Rattle.capture_reader.specs.declared.window.TheConstants.{WINDOW_SIZE}
use Rattle.capture_reader.specs.Ahead.{ahead_of, line_of}
use Rattle.capture_reader.specs.Fault.{stop_of}
use Rattle.capture_reader.specs.Lines.{IsNextLine, LinesEndNow}
use Rattle.capture_reader.specs.Reader.{Following, Reading}
use Rattle.capture_reader.specs.Source.{EndsNow}
use Rattle.capture_reader.specs.Taken.{moves_panel}

-- the source whose event comes next, by the record and the line that were read ahead; at equal ticks it is the script
abbrev pub next_of : Option Seen → Option Seen → Next
next_of None None = nexts.End
next_of (Some record_event) None = nexts.Record
next_of None (Some line_event) = nexts.Line
next_of (Some record_event) (Some line_event) = if nat_le line_event.tick record_event.tick then nexts.Line else nexts.Record

-- the event that was given, of the record and the line that were read ahead
abbrev pub given_in : State → Option Seen → Option Seen → Option Seen
given_in Waiting record_ahead line_ahead = None
given_in GivenRecord record_ahead line_ahead = record_ahead
given_in GivenLine record_ahead line_ahead = line_ahead
given_in (Stopped fault) record_ahead line_ahead = None

-- the record, and the line, that was read ahead and not given

abbrev pub record_waiting : State → Option Seen → Option Seen
record_waiting Waiting ahead = ahead
record_waiting GivenRecord ahead = None
record_waiting GivenLine ahead = ahead
record_waiting (Stopped fault) ahead = ahead

abbrev pub line_waiting : State → Option Seen → Option Seen
line_waiting Waiting ahead = ahead
line_waiting GivenRecord ahead = ahead
line_waiting GivenLine ahead = None
line_waiting (Stopped fault) ahead = ahead

abbrev pub stop_in : State → Option Stop
stop_in Waiting = None
stop_in GivenRecord = None
stop_in GivenLine = None
stop_in (Stopped fault) = Some (stop_of fault)

abbrev pub capture_reading : State → CaptureSource → Following
capture_reading state source = record {
  ahead = record_waiting state (ahead_of source.ahead);
  tick = source.tick;
  place = source.offset;
  held = source.window;
}

abbrev pub script_reading : State → ScriptSource → Following
script_reading state source = record {
  ahead = line_waiting state (line_of source.ahead);
  tick = source.tick;
  place = source.line;
  held = source.window;
}

abbrev pub reading : Progress → Reading
reading progress = record {
  limit = progress.limit;
  served = progress.served;
  ports = progress.capture.ports;
  given = given_in progress.state (ahead_of progress.capture.ahead) (line_of progress.script.ahead);
  stopped = stop_in progress.state;
  tick = progress.tick;
  capture = capture_reading progress.state progress.capture;
  script = script_reading progress.state progress.script;
}

-- the same progress where nothing is given of what was read ahead
abbrev pub as_waiting : Progress → Progress
as_waiting progress = record progress { state = Waiting }

-- the progress behind a look: where it succeeded, nothing is given of what was read ahead
abbrev pub after_look : {Done Fault : Type 0} → Result Done Fault → Progress → Progress
after_look (Ok done) progress = as_waiting progress
after_look (Err fault) progress = progress

-- how many records, and how many lines, were read at most, and one more
abbrev pub read_at_most : State → ℕ → ℕ
read_at_most Waiting served = served + 2
read_at_most GivenRecord served = served + 1
read_at_most GivenLine served = served + 1
read_at_most (Stopped fault) served = served + 2

-- where no record is ahead and none was given, the capture is at its end
abbrev pub RecordsFit : State → CaptureSource → Type 0
RecordsFit Waiting source = IfNone (ahead_of source.ahead) (EndsNow source None)
RecordsFit GivenRecord source = IsSome (ahead_of source.ahead)
RecordsFit GivenLine source = IfNone (ahead_of source.ahead) (EndsNow source None)
RecordsFit (Stopped fault) source = Unit {0}

-- where no line is ahead and none was given, the script is at its end
abbrev pub LinesFit : State → ScriptSource → Type 0
LinesFit Waiting source = IfNone (line_of source.ahead) (LinesEndNow source None)
LinesFit GivenRecord source = IfNone (line_of source.ahead) (LinesEndNow source None)
LinesFit GivenLine source = IsSome (line_of source.ahead)
LinesFit (Stopped fault) source = Unit {0}

-- an event that was read ahead of its source, whose last tick this is, and is not below the last event that was given; it moves the
-- panel, or doesn't
abbrev pub IsAhead : ℕ → ℕ → ℕ → Bool → Seen → Type 0
IsAhead ports given_tick tick moves event = (event.tick ≡ tick) × (given_tick ≤ tick) × HappensWithin ports event.happening × (moves_panel event.happening ≡ moves)

-- a capture whose header was read, and no record
pub record IsOpened (source : CaptureSource) : Type 0 where
  pub some_ports : 2 ≤ source.ports
  pub ports : source.ports ≤ MAX_PORTS
  pub tick : source.tick ≡ 0
  pub offset : source.offset ≡ 8
  pub none : ahead_of source.ahead ≡ None

-- a script of which nothing was read
pub record IsUnread (ports : ℕ) (source : ScriptSource) : Type 0 where
  pub same_ports : source.ports ≡ ports
  pub tick : source.tick ≡ 0
  pub line : source.line ≡ 1
  pub none : line_of source.ahead ≡ None

-- a script whose first line was looked at
pub record IsLookedAt (ports : ℕ) (source : ScriptSource) : Type 0 where
  pub same_ports : source.ports ≡ ports
  pub line : source.line ≤ 2
  pub ahead : IfSome (line_of source.ahead) (IsNextLine source)
  pub lines : IfNone (line_of source.ahead) (LinesEndNow source None)

pub record IsSound (progress : Progress) : Type 0 where
  pub limit : progress.limit ≤ EVENTS_MAX
  pub served : progress.served ≤ progress.limit
  pub some_ports : 2 ≤ progress.capture.ports
  pub ports : progress.capture.ports ≤ MAX_PORTS
  pub same_ports : progress.script.ports ≡ progress.capture.ports
  pub offset : progress.capture.offset ≤ WINDOW_SIZE * read_at_most progress.state progress.served
  pub line : progress.script.line ≤ read_at_most progress.state progress.served
  pub record_ahead : IfSome (ahead_of progress.capture.ahead) (IsAhead progress.capture.ports progress.tick progress.capture.tick false)
  pub line_ahead : IfSome (line_of progress.script.ahead) (IsAhead progress.capture.ports progress.tick progress.script.tick true)
  pub records : RecordsFit progress.state progress.capture
  pub lines : LinesFit progress.state progress.script
