-- How far a replay came, and what it leaves where it stops.
use Rattle.std.specs.Prelude.{◌≡◌, ◌≢◌, ℕ, ◌*◌, ◌<◌, ◌≤◌, List, [], ◌∷◌, ◌++◌, length, Option, Some, None, option_map, IfSome}
use Rattle.std.specs.List.{count_by}
use Rattle.psd_base.specs.Port.{IsPort}
use Rattle.psd_base.specs.History.{onto}
use Rattle.psd_base.specs.Desk.{IsAppendedPart, ReadFailed, Told, WriteFailed}
use Rattle.psd_base.specs.Event.{Seen}
use Rattle.psd_base.specs.declared.console.TheConstants.{NOTES_MAX}
use Rattle.psd_base.specs.declared.event.TheConstants.{EVENTS_MAX}
use Rattle.psd_base.specs.declared.outlet.Input.{Input}
use Rattle.psd_base.specs.declared.outlet.Input.TheVariants as input
use Rattle.psd_base.specs.declared.outlet.Outlet.{Outlet}
use Rattle.psd_base.specs.declared.outlet.Outlet.TheVariants as outlet
use Rattle.psd_base.specs.declared.stop.Stop.{Stop}
use Rattle.psd_base.specs.declared.stop.Stop.TheVariants.{Usage, Rules, Capture, Script, TooLong, ReadFault, WriteFault, OutOfMemory}
use Rattle.peripheral_filter.specs.declared.rule.RuleSet.{RuleSet}
use Rattle.capture_reader.specs.Schedule.{Schedule, in_front}
use Rattle.capture_reader.specs.Reader.{EndsAreTrue, Reading, TookBoth, lines_held, records_held, rest_told}
use Rattle.capture_reader.specs.Taken.{Took, is_from, shortest, whole_lines, whole_records}
use Rattle.psd_base.specs.declared.render.TheConstants.{RENDERED_MAX}
use Rattle.switch_core.specs.declared.switch.Switch.{Switch}
use Rattle.switch_core.specs.StandsFor.{StandsFor, port_total}
use Rattle.kvm_program.specs.declared.tally.Tally.{Tally}
use Rattle.kvm_program.specs.Tally.{bytes_at}
use Rattle.kvm_program.specs.Outlets.{Grew}
use Rattle.kvm_program.specs.Log.{is_leave, is_refusal, noted}
use Rattle.kvm_program.specs.Texts.{text_after, text_of}
use Rattle.kvm_program.specs.Transcript.{transcript_after}

-- what comes, behind the events of a history, which is newest first
abbrev pub behind : List Seen → Schedule → Schedule
behind [] coming = coming
behind (event ∷ past) coming = behind past (in_front event coming)

-- the counts are those of a history
pub record Counts (rules : RuleSet) (tally : Tally) (past : List Seen) : Type 0 where
  pub bytes : (port : ℕ) → IsPort port → bytes_at tally port ≡ length (transcript_after rules port past)
  pub left : tally.left ≡ noted rules is_leave past
  pub refused : tally.refused ≡ noted rules is_refusal past

-- the newest of a history
abbrev pub latest : List Seen → Option Seen
latest [] = None
latest (event ∷ past) = Some event

-- What was taken of the capture and of the script since the start. Of the whole records, and of the whole lines, that are in these
-- bytes and any further ones, the reader gave as many as a history has, and the others are in what it holds and the further ones.
pub record TookSince (start now : Told) (reader : Reading) (past : List Seen) : Type 0 where
  pub capture : Took whole_records (records_held reader.ports reader.capture) reader.capture.held.ended (start.left input.Capture) (now.left input.Capture) (count_by (is_from input.Capture) past)
  pub script : Took whole_lines (lines_held reader.script) reader.script.held.ended (start.left input.Script) (now.left input.Script) (count_by (is_from input.Script) past)

-- The events of `past` were served: the switch stands for them, each outlet grew by what they write to it, and they are the
-- first of what was to come. What was taken since the start is given or held, and the newest of them is what the reader gave.
-- Where the reader met an end, nothing is left.
pub record Progress (rules : RuleSet) (coming : Option Schedule) (start : Told) (reader : Reading) (now : Told) (switch : Switch) (tally : Tally) : Type 0 where
  pub past : List Seen
  pub stands : StandsFor rules switch past
  pub whole : coming ≡ option_map (behind past) (rest_told reader now)
  pub written : (to : Outlet) → Grew (start.sent to) (now.sent to) (text_after rules to past)
  pub counted : Counts rules tally past
  pub served : length past ≡ switch.served
  pub took : TookSince start now reader past
  pub given : reader.given ≡ latest past
  pub ends : EndsAreTrue reader now

-- the reader was made of what the desk had left at the start, nothing was given, and nothing was written
pub record IsBegun (start : Told) (reader : Reading) (now : Told) : Type 0 where
  pub took : TookBoth whole_records whole_lines reader start now
  pub none_given : reader.given ≡ None
  pub unsent : (to : Outlet) → now.sent to ≡ start.sent to
  pub ends : EndsAreTrue reader now

-- where the desk tells, nothing is left of the capture and of the script
pub record NothingLeft (told : Told) : Type 0 where
  pub capture : IfSome (told.left input.Capture) (λ rest. rest ≡ [])
  pub script : IfSome (told.left input.Script) (λ rest. rest ≡ [])

-- All of a schedule was served: it ends without a stop, each outlet has all of its text, and nothing is left of the inputs.
pub record Finished (rules : RuleSet) (schedule : Schedule) (start after : Told) (switch : Switch) (tally : Tally) : Type 0 where
  pub whole : schedule.stop ≡ None
  pub written : (to : Outlet) → Grew (start.sent to) (after.sent to) (text_of rules to schedule.events)
  pub counted : Counts rules tally (onto schedule.events [])
  pub served : switch.served ≡ length schedule.events
  pub left : NothingLeft after

-- so many events leave room for the counts of one more
pub record HasRoom (tally : Tally) (served : ℕ) : Type 0 where
  pub bytes : (port : ℕ) → IsPort port → bytes_at tally port ≤ RENDERED_MAX * served
  pub left : tally.left ≤ NOTES_MAX * served
  pub refused : tally.refused ≤ NOTES_MAX * served

-- what the reader gives can be served: its ports are there, and no count overflows
pub record IsReady (reader : Reading) (switch : Switch) (tally : Tally) : Type 0 where
  pub going : reader.stopped ≡ None
  pub ports : reader.ports ≤ port_total switch
  pub served : switch.served ≡ reader.served
  pub limit : reader.limit ≤ EVENTS_MAX
  pub room : HasRoom tally switch.served

-- outlets of ports above the last one stay as they were
abbrev pub PortsAboveStay : ℕ → Told → Told → Type 0
PortsAboveStay ports before after = (port : ℕ) → ports < port → after.sent (outlet.Port port) ≡ before.sent (outlet.Port port)

-- An outlet grew by exactly its text over the shortest part of the events, from the front, that holds every whole record, or line
-- with its line feed, among the bytes that were taken of an input.
pub record WroteTaken (which : Input) (whole : List ℕ → ℕ) (text : List Seen → List ℕ) (events : List Seen) (to : Outlet) (before after : Told) : Type 0 where
  -- the bytes that were taken: they stood in front of what is left
  pub bytes : List ℕ
  pub left_is : before.left which ≡ option_map (λ rest. bytes ++ rest) (after.left which)
  -- as many events of the input as there are whole records, or lines, in these bytes
  pub grew : Grew (before.sent to) (after.sent to) (text (shortest which (whole bytes) events))

-- What a run that stopped wrote to an outlet, whose text over events this is: all of it, a part of it, or nothing. Where a read of
-- the capture or the script failed, it is exactly the text of what was taken whole of that input, and of what comes before it.
abbrev pub WroteAtStop : Stop → (List Seen → List ℕ) → List Seen → Outlet → Told → Told → Type 0
WroteAtStop (Capture offset why) text events to before after = Grew (before.sent to) (after.sent to) (text events)
WroteAtStop (Script line why) text events to before after = Grew (before.sent to) (after.sent to) (text events)
WroteAtStop TooLong text events to before after = Grew (before.sent to) (after.sent to) (text events)
WroteAtStop (ReadFault input.Capture) text events to before after = WroteTaken input.Capture whole_records text events to before after
WroteAtStop (ReadFault input.Script) text events to before after = WroteTaken input.Script whole_lines text events to before after
WroteAtStop (ReadFault input.Rules) text events to before after = after.sent to ≡ before.sent to
WroteAtStop (WriteFault outlet) text events to before after = IsAppendedPart (before.sent to) (after.sent to) (text events)
WroteAtStop Usage text events to before after = after.sent to ≡ before.sent to
WroteAtStop (Rules why) text events to before after = after.sent to ≡ before.sent to
WroteAtStop OutOfMemory text events to before after = after.sent to ≡ before.sent to

-- why serving stops: the schedule ends so, a read of the capture or the script failed, or a write
abbrev pub ServingStops : Stop → Option Schedule → Told → Told → Type 0
ServingStops (Capture offset why) coming before after = IfSome coming (λ schedule. schedule.stop ≡ Some (Capture offset why))
ServingStops (Script line why) coming before after = IfSome coming (λ schedule. schedule.stop ≡ Some (Script line why))
ServingStops TooLong coming before after = IfSome coming (λ schedule. schedule.stop ≡ Some TooLong)
ServingStops (ReadFault which) coming before after = (which ≢ input.Rules) × ReadFailed which before after
ServingStops (WriteFault to) coming before after = (to ≢ outlet.Faults) × (to ≢ outlet.Report) × WriteFailed to before after
ServingStops Usage coming before after = ⊥
ServingStops (Rules why) coming before after = ⊥
ServingStops OutOfMemory coming before after = ⊥

-- what serves begins: it stands for no event, under these rules, and nothing is counted
pub record IsFresh (rules : RuleSet) (switch : Switch) (tally : Tally) : Type 0 where
  pub stands : StandsFor rules switch []
  pub empty : Counts rules tally []
  pub unserved : switch.served ≡ 0
