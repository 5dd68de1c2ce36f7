-- What a replay promises.
use Rattle.std.specs.Prelude.{◌≡◌, ◌≢◌, ◌⊎◌, ℕ, List, Option, Some, None, IfSome, IfOk, IfErr, IsOk, OnOk, Result, Ok, Err}
use Rattle.psd_base.specs.Desk.{IsAppendedPart, IsSource, ReadFailed, Told, Touches, WriteFailed}
use Rattle.psd_base.specs.declared.event.TheConstants.{EVENTS_MAX}
use Rattle.psd_base.specs.declared.outlet.Input.{Input}
use Rattle.psd_base.specs.declared.outlet.Input.TheVariants as input
use Rattle.psd_base.specs.declared.outlet.Outlet.{Outlet}
use Rattle.psd_base.specs.declared.outlet.Outlet.TheVariants as outlet
use Rattle.psd_base.specs.declared.stop.RulesFault.{RulesFault}
use Rattle.psd_base.specs.declared.stop.Stop.{Stop}
use Rattle.psd_base.specs.declared.stop.Stop.TheVariants.{Usage, Rules, Capture, Script, TooLong, ReadFault, WriteFault, OutOfMemory}
use Rattle.psd_base.specs.declared.summary.Summary.{Summary}
use Rattle.psd_base.specs.Event.{Seen}
use Rattle.admin_rules.specs.RuleFile.{Lists, rules_of}
use Rattle.capture_reader.specs.Merge.{schedule_told}
use Rattle.capture_reader.specs.Schedule.{Schedule}
use Rattle.port_transcript.specs.StopLine.{stop_text}
use Rattle.kvm_program.specs.Console.{console_of}
use Rattle.kvm_program.specs.Delivered.{Delivers}
use Rattle.kvm_program.specs.Owned.{Owns}
use Rattle.kvm_program.specs.Log.{log_of}
use Rattle.kvm_program.specs.Outlets.{AndFaults, Grew}
use Rattle.kvm_program.specs.Progress.{NothingLeft, PortsAboveStay, WroteAtStop}
use Rattle.kvm_program.specs.Report.{report_text, summary_of}
use Rattle.kvm_program.specs.Rules.{FewRulesTaken, RulesAreFaulty}
use Rattle.kvm_program.specs.Run.{Run, run_told}
use Rattle.kvm_program.specs.Transcript.{transcript_of}

-- A port, the console, and the log get all of their text over the events, or a part of it, or nothing, by how the run ends.
abbrev pub TextWritten : Result Summary Stop → (List Seen → List ℕ) → List Seen → Outlet → Told → Told → Type 0
TextWritten (Ok summary) text events to before after = Grew (before.sent to) (after.sent to) (text events)
TextWritten (Err stop) text events to before after = WroteAtStop stop text events to before after

-- The report is written at the end of a run alone.
abbrev pub ReportAtStop : Stop → List ℕ → Option (List ℕ) → Option (List ℕ) → Type 0
ReportAtStop (WriteFault outlet.Report) text before after = IsAppendedPart before after text
ReportAtStop stop text before after = after ≡ before

abbrev pub ReportWritten : Result Summary Stop → List ℕ → Option (List ℕ) → Option (List ℕ) → Type 0
ReportWritten (Ok summary) text before after = Grew before after text
ReportWritten (Err stop) text before after = ReportAtStop stop text before after

-- What a run over these events writes and answers.
pub record Serves (result : Result Summary Stop) (run : Run) (before after : Told) : Type 0 where
  -- each port's transcript is that of a one-port switch over the port's own view, all of it or a part by how the run ends
  pub ports : (port : ℕ) → TextWritten result (transcript_of run.rules port) run.schedule.events (outlet.Port port) before after
  -- in each span of its view a port's computer reads what was typed and moved, in order and whole, and its release once it is left
  pub delivered : (port : ℕ) → Delivers run.rules port run.schedule.events
  -- the token serves one port at a time, and between two its power goes off
  pub owned : Owns run.rules run.schedule.events
  -- nothing is written to a port that the capture doesn't have
  pub above : PortsAboveStay run.ports before after
  -- the console has what its peripherals are told, all of it or a part in the same way
  pub console : TextWritten result (console_of run.rules) run.schedule.events outlet.Console before after
  -- the log tells of the self-test, of the peripherals and of the selection, all of it or a part in the same way
  pub log : TextWritten result (log_of run.rules) run.schedule.events outlet.Log before after
  -- the report tells of the whole run, and is written at its end alone
  pub report : ReportWritten result (report_text (summary_of run.rules run.ports run.schedule.events)) (before.sent outlet.Report) (after.sent outlet.Report)
  -- where it comes to its end, all of the capture and of the script was taken
  pub taken : OnOk result (NothingLeft after)
  pub ok : IfOk result (λ summary. (run.schedule.stop ≡ None) × (summary ≡ summary_of run.rules run.ports run.schedule.events))

-- Why a replay stops: its rules are refused, its schedule ends so, a read failed, a write failed that isn't that of a fault line, or there
-- was no memory. With the rules, and with no memory, it stops before anything but the rules is read.
abbrev pub RunStops : Stop → (RulesFault → Type 0) → Type 0 → Option Schedule → Told → Told → Type 0
RunStops (Rules why) refused unread coming before after = refused why × unread
RunStops (Capture offset why) refused unread coming before after = IfSome coming (λ schedule. schedule.stop ≡ Some (Capture offset why))
RunStops (Script line why) refused unread coming before after = IfSome coming (λ schedule. schedule.stop ≡ Some (Script line why))
RunStops TooLong refused unread coming before after = IfSome coming (λ schedule. schedule.stop ≡ Some TooLong)
RunStops (ReadFault input.Rules) refused unread coming before after = ReadFailed input.Rules before after × unread
RunStops (ReadFault input.Capture) refused unread coming before after = ReadFailed input.Capture before after
RunStops (ReadFault input.Script) refused unread coming before after = ReadFailed input.Script before after
RunStops (WriteFault to) refused unread coming before after = (to ≢ outlet.Faults) × WriteFailed to before after
RunStops OutOfMemory refused unread coming before after = unread
RunStops Usage refused unread coming before after = ⊥

-- Neither the capture nor the script was read.
abbrev pub IsUnread : Told → Told → Type 0
IsUnread before after = (after.left input.Capture ≡ before.left input.Capture) × (after.left input.Script ≡ before.left input.Script)

-- Rules that are refused stop a replay, and rules that aren't stop none.
abbrev pub RulesJudged : Result Summary Stop → Result Lists RulesFault → Type 0
RulesJudged (Ok summary) judged = IsOk judged
RulesJudged (Err (Rules why)) judged = judged ≡ Err why
RulesJudged (Err (Capture offset why)) judged = IsOk judged
RulesJudged (Err (Script line why)) judged = IsOk judged
RulesJudged (Err TooLong) judged = IsOk judged
RulesJudged (Err (ReadFault input.Rules)) judged = Unit {0}
RulesJudged (Err (ReadFault input.Capture)) judged = IsOk judged
RulesJudged (Err (ReadFault input.Script)) judged = IsOk judged
RulesJudged (Err (WriteFault to)) judged = IsOk judged
RulesJudged (Err OutOfMemory) judged = Unit {0}
RulesJudged (Err Usage) judged = ⊥

-- no read and no write failed
pub record NothingFailed (before after : Told) : Type 0 where
  pub reads : (input : Input) → ¬ ReadFailed input before after
  pub writes : (to : Outlet) → ¬ WriteFailed to before after

-- a command came to its end, or there was no memory
abbrev pub EndsUnlessNoMemory : Result Summary Stop → Type 0
EndsUnlessNoMemory result = IsOk result ⊎ (result ≡ Err OutOfMemory)

abbrev pub AnyInput : Input → Type 0
AnyInput input = Unit {0}

-- the outlets that a replay writes to: all, but to the faults for a stop alone
abbrev pub IsReplayed : Outlet → Type 0
IsReplayed (outlet.Port port) = Unit {0}
IsReplayed outlet.Log = Unit {0}
IsReplayed outlet.Report = Unit {0}
IsReplayed outlet.Console = Unit {0}
IsReplayed outlet.Faults = ⊥

abbrev pub OnlyReplays : Told → Told → Type 0
OnlyReplays = Touches AnyInput (AndFaults IsReplayed)

-- once the rules were judged they aren't read, and a run writes no fault line itself
abbrev pub OnlyRuns : Told → Told → Type 0
OnlyRuns = Touches IsSource IsReplayed

-- what `replay` promises
pub record Replays (result : Result Summary Stop) (before after : Told) : Type 0 where
  pub serves : (run : Run) → run_told before ≡ Some run → Serves result run before after
  -- rules that are refused stop it before anything else is read, with the first of their faults, and no others do
  pub rules : (bytes : List ℕ) → before.left input.Rules ≡ Some bytes → RulesJudged result (rules_of bytes)
  -- each stop has its cause, and without a cause it comes to its end
  pub stop : IfErr result (λ stop. RunStops stop (RulesAreFaulty before) (IsUnread before after) (schedule_told EVENTS_MAX before) before after)
  pub complete : (run : Run) (bytes : List ℕ) → run_told before ≡ Some run → run.schedule.stop ≡ None → before.left input.Rules ≡ Some bytes
      → IsOk (rules_of bytes) → NothingFailed before after → EndsUnlessNoMemory result
  -- it takes no more of the rules than shows that they are too big
  pub few : FewRulesTaken before after
  pub only : OnlyReplays before after

-- the line of a stop was written to the faults, or a part of it where that write failed and its count rose
abbrev pub FaultWritten : Stop → Told → Told → Type 0
FaultWritten stop before after =
    Grew (before.sent outlet.Faults) (after.sent outlet.Faults) (stop_text stop)
    ⊎ (IsAppendedPart (before.sent outlet.Faults) (after.sent outlet.Faults) (stop_text stop) × WriteFailed outlet.Faults before after)

-- a stop alone writes to the faults
abbrev pub FaultsWritten : Result Summary Stop → Told → Told → Type 0
FaultsWritten (Ok summary) before after = after.sent outlet.Faults ≡ before.sent outlet.Faults
FaultsWritten (Err stop) before after = FaultWritten stop before after
