-- What a command gives, put together from what its parts give.
use Rattle.std.proofs.Common.{◌≡◌, ◌≢◌, ℕ, ◌≤◌, inl, inr, List, [], Option, Some, None, IfSome, IfErr, IsOk, OnOk, Result, Ok, Err, refl, sym, ap, ◌∙◌, subst, arith}
use Rattle.psd_base.specs.Desk.{IsAppendedPart, OnlyReads, OnlyWrites, Told}
use Rattle.psd_base.specs.History.{onto}
use Rattle.km_port.proofs.DeliveryLaw.{delivery-all}
use Rattle.port_model.specs.View.{view}
use Rattle.switch_core.proofs.Owning.{heard_by_owner_alone, life_is_routed_once}
use Rattle.switch_core.proofs.Stamping.{life_is_one_ports, lives_are_apart}
use Rattle.kvm_program.specs.Owned.{Owns}
use Rattle.psd_base.specs.declared.event.TheConstants.{EVENTS_MAX}
use Rattle.psd_base.specs.declared.outlet.Input.{Input}
use Rattle.psd_base.specs.declared.outlet.Input.TheVariants as input
use Rattle.psd_base.specs.declared.outlet.Outlet.{Outlet}
use Rattle.psd_base.specs.declared.outlet.Outlet.TheVariants as outlet
use Rattle.psd_base.specs.declared.stop.RulesFault.{RulesFault}
use Rattle.psd_base.specs.declared.stop.Stop.{Stop}
use Rattle.psd_base.specs.declared.stop.Stop.TheVariants.{Usage, Rules, Capture, Script, TooLong, ReadFault, WriteFault, OutOfMemory}
use Rattle.psd_base.specs.declared.summary.Summary.{Summary}
use Rattle.psd_base.specs.Event.{Seen}
use Rattle.peripheral_filter.specs.declared.rule.RuleSet.{RuleSet}
use Rattle.admin_rules.specs.RuleFile.{lists_of, rules_of}
use Rattle.capture_reader.specs.Reader.{IsOver, NewFailed}
use Rattle.capture_reader.specs.Merge.{schedule_told}
use Rattle.capture_reader.specs.Schedule.{Schedule, over}
use Rattle.capture_reader.specs.Taken.{FailsFirst, TookNone, shortest, whole_lines, whole_records}
use Rattle.capture_reader.proofs.Shortest.{shortest_none}
use Rattle.port_transcript.specs.StopLine.{stop_text}
use Rattle.kvm_program.specs.declared.rules.TheConstants.{RULES_READ}
use Rattle.kvm_program.specs.Check.{CheckEnds, Checks, CheckStops}
use Rattle.kvm_program.specs.Outlets.{Grew}
use Rattle.kvm_program.specs.Progress.{NothingLeft, PortsAboveStay, WroteAtStop, WroteTaken}
use Rattle.kvm_program.specs.Replay.{EndsUnlessNoMemory, FaultWritten, IsUnread, NothingFailed, OnlyRuns, Replays, ReportAtStop, ReportWritten, RulesJudged, RunStops, Serves, TextWritten}
use Rattle.kvm_program.specs.Report.{report_text, summary_of}
use Rattle.kvm_program.specs.Rules.{FewRulesTaken, RulesAreFaulty, RulesStop, TakesAtMost}
use Rattle.kvm_program.specs.Run.{Run, run_told, run_under}
use Rattle.kvm_program.specs.Console.{console_of}
use Rattle.kvm_program.specs.Log.{log_of}
use Rattle.kvm_program.specs.Texts.{text_of}
use Rattle.kvm_program.specs.Transcript.{transcript_of}
use Rattle.kvm_program.proofs.Parts.{Grew-nothing, Grew-whole}
use Rattle.kvm_program.proofs.Serving.{Grew-empty, Rose-between, SameSources, WroteAtStop-between}
use Rattle.kvm_program.proofs.Told.{run_of_taken, schedule_of_run, schedule_of_told}

-- a fact of what an outlet held before and after, where both are the same elsewhere
moved : (Holds : Option (List ℕ) → Option (List ℕ) → Type 0) (before before_too after after_too : Option (List ℕ))
    → before_too ≡ before → after_too ≡ after → Holds before after → Holds before_too after_too
moved Holds before before_too after after_too same same_after holds =
    subst (λ (b : Option (List ℕ)). Holds b after_too) (sym same) (subst (λ (a : Option (List ℕ)). Holds before a) (sym same_after) holds)

-- a report that wasn't written
Report-stays : (stop : Stop) (text : List ℕ) (before after : Option (List ℕ)) → after ≡ before → ReportAtStop stop text before after
Report-stays (WriteFault outlet.Report) text before after same = (0, Grew-nothing before after same)
Report-stays (WriteFault outlet.Faults) text before after same = same
Report-stays (WriteFault outlet.Console) text before after same = same
Report-stays (WriteFault outlet.Log) text before after same = same
Report-stays (WriteFault (outlet.Port port)) text before after same = same
Report-stays Usage text before after same = same
Report-stays (Rules why) text before after same = same
Report-stays (Capture offset why) text before after same = same
Report-stays (Script line why) text before after same = same
Report-stays TooLong text before after same = same
Report-stays (ReadFault which) text before after same = same
Report-stays OutOfMemory text before after same = same

-- nothing is left where what is left stays
NothingLeft-same : (before after : Told) → SameSources before after → NothingLeft before → NothingLeft after
NothingLeft-same before after same left = record {
  capture = subst (λ (rest : Option (List ℕ)). IfSome rest (λ bytes. bytes ≡ [])) (sym same.0) left.capture;
  script = subst (λ (rest : Option (List ℕ)). IfSome rest (λ bytes. bytes ≡ [])) (sym same.1) left.script;
}

-- the token's ownership holds of whatever events
owns : (rules : RuleSet) (events : List Seen) → Owns rules events
owns rules events = record {
  apart = lives_are_apart rules (onto events []);
  one_port = life_is_one_ports rules (onto events []);
  once = life_is_routed_once rules (onto events []);
  heard = heard_by_owner_alone rules (onto events []);
}

-- serving stopped
pub Serves-stopped : (stop : Stop) (run : Run) (before after : Told)
    → ((to : Outlet) → WroteAtStop stop (text_of run.rules to) run.schedule.events to before after)
    → PortsAboveStay run.ports before after
    → after.sent outlet.Report ≡ before.sent outlet.Report → Serves (Err stop) run before after
Serves-stopped stop run before after written above same = record {
  ports = λ port. written (outlet.Port port);
  delivered = λ port served left is. delivery-all (view run.rules port (onto served []));
  owned = owns run.rules run.schedule.events;
  above = above;
  console = written outlet.Console;
  log = written outlet.Log;
  report = Report-stays stop _ _ _ same;
  taken = tt;
  ok = tt;
}

-- all was served, and the report couldn't be written
pub Serves-unreported : (run : Run) (before mid after : Told)
    → ((to : Outlet) → Grew (before.sent to) (mid.sent to) (text_of run.rules to run.schedule.events))
    → PortsAboveStay run.ports before mid
    → mid.sent outlet.Report ≡ before.sent outlet.Report → OnlyWrites outlet.Report mid after
    → IsAppendedPart (mid.sent outlet.Report) (after.sent outlet.Report) (report_text (summary_of run.rules run.ports run.schedule.events))
    → Serves (Err (WriteFault outlet.Report)) run before after
Serves-unreported run before mid after written above unreported only part = record {
  ports = λ port. Grew-whole _ _ _ (rw (only.outlets (outlet.Port port) (λ e. absurd (cc))) (written (outlet.Port port)));
  delivered = λ port served left is. delivery-all (view run.rules port (onto served []));
  owned = owns run.rules run.schedule.events;
  above = λ port over. only.outlets (outlet.Port port) (λ e. absurd (cc)) ∙ above port over;
  console = Grew-whole _ _ _ (rw (only.outlets outlet.Console (λ e. absurd (cc))) (written outlet.Console));
  log = Grew-whole _ _ _ (rw (only.outlets outlet.Log (λ e. absurd (cc))) (written outlet.Log));
  report = subst (λ (start : Option (List ℕ)). IsAppendedPart start (after.sent outlet.Report) (report_text (summary_of run.rules run.ports run.schedule.events))) unreported part;
  taken = tt;
  ok = tt;
}

-- all was served and reported
pub Serves-all : (run : Run) (before mid after : Told) (summary : Summary)
    → ((to : Outlet) → Grew (before.sent to) (mid.sent to) (text_of run.rules to run.schedule.events))
    → PortsAboveStay run.ports before mid
    → mid.sent outlet.Report ≡ before.sent outlet.Report → OnlyWrites outlet.Report mid after → NothingLeft mid
    → run.schedule.stop ≡ None → summary ≡ summary_of run.rules run.ports run.schedule.events
    → Grew (mid.sent outlet.Report) (after.sent outlet.Report) (report_text summary)
    → Serves (Ok summary) run before after
Serves-all run before mid after summary written above unreported only nothing_left whole is report = record {
  ports = λ port. rw (only.outlets (outlet.Port port) (λ e. absurd (cc))) (written (outlet.Port port));
  delivered = λ port served left is. delivery-all (view run.rules port (onto served []));
  owned = owns run.rules run.schedule.events;
  above = λ port over. only.outlets (outlet.Port port) (λ e. absurd (cc)) ∙ above port over;
  console = rw (only.outlets outlet.Console (λ e. absurd (cc))) (written outlet.Console);
  log = rw (only.outlets outlet.Log (λ e. absurd (cc))) (written outlet.Log);
  report = subst (λ (s : Summary). Grew (before.sent outlet.Report) (after.sent outlet.Report) (report_text s)) is
      (subst (λ (start : Option (List ℕ)). Grew start (after.sent outlet.Report) (report_text summary)) unreported report);
  taken = NothingLeft-same mid after (only.inputs input.Capture (λ e. e), only.inputs input.Script (λ e. e)) nothing_left;
  ok = (whole, is);
}

-- there was no reader, so that nothing was written
pub Serves-none : (rules : RuleSet) (stop : Stop) (run : Run) (before after : Told) (unread : Type 0) → run_under rules before ≡ Some run
    → NewFailed (schedule_told EVENTS_MAX before) before after unread stop → FailsFirst whole_records whole_lines before after stop
    → ((to : Outlet) → after.sent to ≡ before.sent to) → Serves (Err stop) run before after
Serves-none rules stop run before after unread told failed first same =
    Serves-stopped stop run before after (λ to. by_stop stop to failed first) (λ port above. same (outlet.Port port)) (same outlet.Report) where
      nothing : (end : Option Stop) (to : Outlet) → IsOver end (schedule_told EVENTS_MAX before) → Grew (before.sent to) (after.sent to) (text_of run.rules to run.schedule.events)
      nothing end to is =
          let Over : Option Schedule → Type 0 = λ coming. IsOver end coming in
          let none : run.schedule ≡ over end = subst Over (schedule_of_run rules before run told).0 is in
          subst (λ (s : Schedule). Grew (before.sent to) (after.sent to) (text_of run.rules to s.events)) (sym none) (Grew-empty run.rules (before.sent to) (after.sent to) to (same to))

      taken : (which : Input) (whole : List ℕ → ℕ) (to : Outlet) → TookNone whole (before.left which) (after.left which)
          → WroteTaken which whole (text_of run.rules to) run.schedule.events to before after
      taken which whole to took = record {
        bytes = took.bytes;
        left_is = took.left_is;
        grew =
            let none : shortest which (whole took.bytes) run.schedule.events ≡ [] =
            ap (λ (n : ℕ). shortest which n run.schedule.events) took.none ∙ shortest_none which run.schedule.events in
            subst (λ (events : List Seen). Grew (before.sent to) (after.sent to) (text_of run.rules to events)) (sym none) (Grew-empty run.rules (before.sent to) (after.sent to) to (same to));
      }

      by_stop : (stop : Stop) (to : Outlet) → NewFailed (schedule_told EVENTS_MAX before) before after unread stop → FailsFirst whole_records whole_lines before after stop
          → WroteAtStop stop (text_of run.rules to) run.schedule.events to before after
      by_stop (Capture offset why) to is first = nothing (Some (Capture offset why)) to is
      by_stop (Script line why) to is first = nothing (Some (Script line why)) to is
      by_stop TooLong to is first = absurd is
      by_stop (ReadFault input.Capture) to is first = taken input.Capture whole_records to first
      by_stop (ReadFault input.Script) to is first = taken input.Script whole_lines to first
      by_stop (ReadFault input.Rules) to is first = absurd is
      by_stop (WriteFault place) to is first = absurd is
      by_stop Usage to is first = absurd is
      by_stop (Rules why) to is first = absurd is
      by_stop OutOfMemory to is first = same to

-- what a run gives, where neither of its sources was read and nothing was written before it, and only the faults after it
pub Serves-between : (result : Result Summary Stop) (run : Run) (before mid mid_after after : Told)
    → ((to : Outlet) → mid.sent to ≡ before.sent to) → ((to : Outlet) → to ≢ outlet.Faults → after.sent to ≡ mid_after.sent to)
    → SameSources before mid → SameSources mid_after after
    → Serves result run mid mid_after → Serves result run before after
Serves-between result run before mid mid_after after same same_after sources sources_after serves = record {
  ports = λ port. text result (transcript_of run.rules port) (outlet.Port port) (λ e. absurd (cc)) (serves.ports port);
  delivered = serves.delivered;
  owned = serves.owned;
  above = λ port over. same_after (outlet.Port port) (λ e. absurd (cc)) ∙ (serves.above port over ∙ same (outlet.Port port));
  console = text result (console_of run.rules) outlet.Console (λ e. absurd (cc)) serves.console;
  log = text result (log_of run.rules) outlet.Log (λ e. absurd (cc)) serves.log;
  report = moved (ReportWritten result (report_text (summary_of run.rules run.ports run.schedule.events))) _ _ _ _ (sym (same outlet.Report)) (same_after outlet.Report (λ e. absurd (cc))) serves.report;
  taken = drained result serves.taken;
  ok = serves.ok;
} where
  drained : (result : Result Summary Stop) → OnOk result (NothingLeft mid_after) → OnOk result (NothingLeft after)
  drained (Ok summary) left = NothingLeft-same mid_after after sources_after left
  drained (Err stop) left = tt

  text : (result : Result Summary Stop) (of : List Seen → List ℕ) (to : Outlet) → to ≢ outlet.Faults
      → TextWritten result of run.schedule.events to mid mid_after → TextWritten result of run.schedule.events to before after
  text (Ok summary) of to apart grew = moved (λ b a. Grew b a (of run.schedule.events)) (mid.sent to) (before.sent to) (mid_after.sent to) (after.sent to) (sym (same to)) (same_after to apart) grew
  text (Err stop) of to apart wrote = WroteAtStop-between stop of run.schedule.events to before mid mid_after after (same to) (same_after to apart) sources sources_after wrote

-- the rules and the number of ports by another way
pub Serves-same : (result : Result Summary Stop) (run : Run) (rules : RuleSet) (ports : ℕ) (before after : Told) → run.rules ≡ rules → ports ≡ run.ports
    → Serves result (record { rules = rules; ports = ports; schedule = run.schedule }) before after → Serves result run before after
Serves-same result run rules ports before after same_rules same_ports serves =
    subst (λ (r : RuleSet). Serves result (record { rules = r; ports = run.ports; schedule = run.schedule }) before after) (sym same_rules)
    (subst (λ (n : ℕ). Serves result (record { rules = rules; ports = n; schedule = run.schedule }) before after) same_ports serves)

-- why a run stops, told from an earlier and to a later moment
pub RunStops-between : (stop : Stop) (refused : RulesFault → Type 0) (unread unread_too : Type 0) (coming : Option Schedule) (before mid mid_after after : Told)
    → ((which : Input) → before.read_faults which ≤ mid.read_faults which) → ((which : Input) → mid_after.read_faults which ≤ after.read_faults which)
    → ((to : Outlet) → before.write_faults to ≤ mid.write_faults to) → ((to : Outlet) → mid_after.write_faults to ≤ after.write_faults to)
    → (unread → unread_too) → RunStops stop refused unread coming mid mid_after → RunStops stop refused unread_too coming before after
RunStops-between (Rules why) refused unread unread_too coming before mid mid_after after reads reads_after writes writes_after still is = (is.0, still is.1)
RunStops-between (Capture offset why) refused unread unread_too coming before mid mid_after after reads reads_after writes writes_after still is = is
RunStops-between (Script line why) refused unread unread_too coming before mid mid_after after reads reads_after writes writes_after still is = is
RunStops-between TooLong refused unread unread_too coming before mid mid_after after reads reads_after writes writes_after still is = is
RunStops-between (ReadFault input.Rules) refused unread unread_too coming before mid mid_after after reads reads_after writes writes_after still is =
    (Rose-between _ _ _ _ (reads input.Rules) (reads_after input.Rules) is.0, still is.1)
RunStops-between (ReadFault input.Capture) refused unread unread_too coming before mid mid_after after reads reads_after writes writes_after still is =
    Rose-between _ _ _ _ (reads input.Capture) (reads_after input.Capture) is
RunStops-between (ReadFault input.Script) refused unread unread_too coming before mid mid_after after reads reads_after writes writes_after still is =
    Rose-between _ _ _ _ (reads input.Script) (reads_after input.Script) is
RunStops-between (WriteFault to) refused unread unread_too coming before mid mid_after after reads reads_after writes writes_after still is =
    (is.0, Rose-between _ _ _ _ (writes to) (writes_after to) is.1)
RunStops-between OutOfMemory refused unread unread_too coming before mid mid_after after reads reads_after writes writes_after still is = still is
RunStops-between Usage refused unread unread_too coming before mid mid_after after reads reads_after writes writes_after still is = absurd is

-- without a cause for a stop a replay comes to its end
replay_completes : (result : Result Summary Stop) (before after : Told) (run : Run) (bytes : List ℕ)
    → IfErr result (λ stop. RunStops stop (RulesAreFaulty before) (IsUnread before after) (schedule_told EVENTS_MAX before) before after)
    → run_told before ≡ Some run → run.schedule.stop ≡ None → before.left input.Rules ≡ Some bytes
    → IsOk (rules_of bytes) → NothingFailed before after → EndsUnlessNoMemory result
replay_completes (Ok summary) before after run bytes because told whole read sound none = inl refl
replay_completes (Err stop) before after run bytes because told whole read sound none = by_stop stop because where
  ends : (end : Stop) → IfSome (schedule_told EVENTS_MAX before) (λ schedule. schedule.stop ≡ Some end) → ⊥
  ends end is =
      let same : run.schedule.stop ≡ Some end = subst (λ (coming : Option Schedule). IfSome coming (λ schedule. schedule.stop ≡ Some end)) (schedule_of_told before run told) is in
      absurd (cc (same, whole))

  refused : (why : RulesFault) → RulesAreFaulty before why → ⊥
  refused why is =
      let same : rules_of bytes ≡ Err why = subst (λ (left : Option (List ℕ)). IfSome left (λ bs. rules_of bs ≡ Err why)) read is in
      absurd (cc (same, sound))

  by_stop : (stop : Stop) → RunStops stop (RulesAreFaulty before) (IsUnread before after) (schedule_told EVENTS_MAX before) before after → EndsUnlessNoMemory (Err stop)
  by_stop (Rules why) is = absurd (refused why is.0)
  by_stop (Capture offset why) is = absurd (ends (Capture offset why) is)
  by_stop (Script line why) is = absurd (ends (Script line why) is)
  by_stop TooLong is = absurd (ends TooLong is)
  by_stop (ReadFault input.Rules) is = absurd (none.reads input.Rules is.0)
  by_stop (ReadFault input.Capture) is = absurd (none.reads input.Capture is)
  by_stop (ReadFault input.Script) is = absurd (none.reads input.Script is)
  by_stop (WriteFault to) is = absurd (none.writes to is.1)
  by_stop OutOfMemory is = inr refl
  by_stop Usage is = absurd is

-- the rules were refused, or not read
pub Replays-refused : (stop : Stop) (before after : Told) → RulesStop before after stop → FewRulesTaken before after → OnlyReads input.Rules before after
    → Replays (Err stop) before after
Replays-refused stop before after because few only = record {
  serves = λ run told. Serves-stopped stop run before after (λ to. written stop run to because)
      (λ port above. same (outlet.Port port)) (same outlet.Report);
  rules = λ bytes read. judged stop bytes read because;
  stop = by_stop stop because;
  complete = λ run bytes told whole read sound none. replay_completes (Err stop) before after run bytes (by_stop stop because) told whole read sound none;
  few = few;
  only = record {
    inputs = λ which apart. absurd (apart tt);
    outlets = λ to apart. same to;
    read_counts = only.read_counts;
    write_counts = only.write_counts;
    other_reads = λ which apart. absurd (apart tt);
    other_writes = λ to apart. only.other_writes to (λ e. e);
  };
} where
  same : (to : Outlet) → after.sent to ≡ before.sent to
  same to = only.outlets to (λ e. e)

  unread : IsUnread before after
  unread = (only.inputs input.Capture (λ e. absurd (cc)), only.inputs input.Script (λ e. absurd (cc)))

  written : (stop : Stop) (run : Run) (to : Outlet) → RulesStop before after stop → WroteAtStop stop (text_of run.rules to) run.schedule.events to before after
  written (Rules why) run to is = same to
  written (ReadFault input.Rules) run to is = same to
  written (ReadFault input.Capture) run to is = absurd is
  written (ReadFault input.Script) run to is = absurd is
  written OutOfMemory run to is = same to
  written (Capture offset why) run to is = absurd is
  written (Script line why) run to is = absurd is
  written TooLong run to is = absurd is
  written (WriteFault place) run to is = absurd is
  written Usage run to is = absurd is

  judged : (stop : Stop) (bytes : List ℕ) → before.left input.Rules ≡ Some bytes → RulesStop before after stop → RulesJudged (Err stop) (rules_of bytes)
  judged (Rules why) bytes read is = subst (λ (left : Option (List ℕ)). IfSome left (λ bs. rules_of bs ≡ Err why)) read is
  judged (ReadFault input.Rules) bytes read is = tt
  judged (ReadFault input.Capture) bytes read is = absurd is
  judged (ReadFault input.Script) bytes read is = absurd is
  judged OutOfMemory bytes read is = tt
  judged (Capture offset why) bytes read is = absurd is
  judged (Script line why) bytes read is = absurd is
  judged TooLong bytes read is = absurd is
  judged (WriteFault place) bytes read is = absurd is
  judged Usage bytes read is = absurd is

  by_stop : (stop : Stop) → RulesStop before after stop → RunStops stop (RulesAreFaulty before) (IsUnread before after) (schedule_told EVENTS_MAX before) before after
  by_stop (Rules why) is = (is, unread)
  by_stop (ReadFault input.Rules) is = (is, unread)
  by_stop (ReadFault input.Capture) is = absurd is
  by_stop (ReadFault input.Script) is = absurd is
  by_stop OutOfMemory is = unread
  by_stop (Capture offset why) is = absurd is
  by_stop (Script line why) is = absurd is
  by_stop TooLong is = absurd is
  by_stop (WriteFault place) is = absurd is
  by_stop Usage is = absurd is

-- so many bytes were taken, and then none
FewRulesTaken-then : (before mid after : Told) → FewRulesTaken before mid → after.left input.Rules ≡ mid.left input.Rules → FewRulesTaken before after
FewRulesTaken-then before mid after few same = subst (λ (left : Option (List ℕ)). TakesAtMost RULES_READ (before.left input.Rules) left) (sym same) few

-- the rules were taken, and then the run under them went so
pub Replays-run : (rules : RuleSet) (result : Result Summary Stop) (before mid after : Told) → OnlyReads input.Rules before mid → FewRulesTaken before mid
    → IfSome (before.left input.Rules) (λ bytes. rules_of bytes ≡ Ok (lists_of rules))
    → ((run : Run) → run_under rules mid ≡ Some run → Serves result run mid after)
    → IfErr result (λ stop. RunStops stop (λ _. ⊥) (IsUnread mid after) (schedule_told EVENTS_MAX mid) mid after)
    → OnlyRuns mid after → Replays result before after
Replays-run rules result before mid after read few taken serves because only = record {
  serves = λ run told. Serves-between result run before mid after after unwritten (λ to apart. refl) (capture, script) (refl, refl) (serves run (run_of_taken rules before mid run taken capture script told));
  rules = λ bytes is. judged result bytes because (sound bytes is);
  stop = by_result result because;
  complete = λ run bytes told whole is fine none. replay_completes result before after run bytes (by_result result because) told whole is fine none;
  few = FewRulesTaken-then before mid after few (only.inputs input.Rules (λ e. e));
  only = record {
    inputs = λ which apart. absurd (apart tt);
    outlets = λ to apart. only.outlets to (λ is. apart (inl is)) ∙ unwritten to;
    read_counts = λ which. omega (arith, read.read_counts which, only.read_counts which);
    write_counts = λ to. omega (arith, read.write_counts to, only.write_counts to);
    other_reads = λ which apart. absurd (apart tt);
    other_writes = λ to apart. only.other_writes to (λ is. apart (inl is)) ∙ read.other_writes to (λ e. e);
  };
} where
  unwritten : (to : Outlet) → mid.sent to ≡ before.sent to
  unwritten to = read.outlets to (λ e. e)

  capture : mid.left input.Capture ≡ before.left input.Capture
  capture = read.inputs input.Capture (λ e. absurd (cc))

  script : mid.left input.Script ≡ before.left input.Script
  script = read.inputs input.Script (λ e. absurd (cc))

  same_schedule : schedule_told EVENTS_MAX mid ≡ schedule_told EVENTS_MAX before
  same_schedule = rw (capture, script) refl

  sound : (bytes : List ℕ) → before.left input.Rules ≡ Some bytes → IsOk (rules_of bytes)
  sound bytes is =
      let fine : rules_of bytes ≡ Ok (lists_of rules) = subst (λ (left : Option (List ℕ)). IfSome left (λ bs. rules_of bs ≡ Ok (lists_of rules))) is taken in
      rw fine refl

  judged : (result : Result Summary Stop) (bytes : List ℕ)
      → IfErr result (λ stop. RunStops stop (λ _. ⊥) (IsUnread mid after) (schedule_told EVENTS_MAX mid) mid after)
      → IsOk (rules_of bytes) → RulesJudged result (rules_of bytes)
  judged (Ok summary) bytes because fine = fine
  judged (Err (Rules why)) bytes because fine = absurd because.0
  judged (Err (Capture offset why)) bytes because fine = fine
  judged (Err (Script line why)) bytes because fine = fine
  judged (Err TooLong) bytes because fine = fine
  judged (Err (ReadFault input.Rules)) bytes because fine = tt
  judged (Err (ReadFault input.Capture)) bytes because fine = fine
  judged (Err (ReadFault input.Script)) bytes because fine = fine
  judged (Err (WriteFault to)) bytes because fine = fine
  judged (Err OutOfMemory) bytes because fine = tt
  judged (Err Usage) bytes because fine = absurd because

  by_stop : (stop : Stop) → RunStops stop (λ _. ⊥) (IsUnread mid after) (schedule_told EVENTS_MAX mid) mid after
      → RunStops stop (RulesAreFaulty before) (IsUnread before after) (schedule_told EVENTS_MAX before) before after
  by_stop (Rules why) is = absurd is.0
  by_stop (Capture offset why) is = subst (λ (coming : Option Schedule). IfSome coming (λ schedule. schedule.stop ≡ Some (Capture offset why))) same_schedule is
  by_stop (Script line why) is = subst (λ (coming : Option Schedule). IfSome coming (λ schedule. schedule.stop ≡ Some (Script line why))) same_schedule is
  by_stop TooLong is = subst (λ (coming : Option Schedule). IfSome coming (λ schedule. schedule.stop ≡ Some TooLong)) same_schedule is
  by_stop (ReadFault input.Rules) is = (Rose-between _ _ _ _ (read.read_counts input.Rules) (omega arith) is.0, (is.1.0 ∙ capture, is.1.1 ∙ script))
  by_stop (ReadFault input.Capture) is = Rose-between _ _ _ _ (read.read_counts input.Capture) (omega arith) is
  by_stop (ReadFault input.Script) is = Rose-between _ _ _ _ (read.read_counts input.Script) (omega arith) is
  by_stop (WriteFault to) is = (is.0, Rose-between _ _ _ _ (read.write_counts to) (omega arith) is.1)
  by_stop OutOfMemory is = (is.0 ∙ capture, is.1 ∙ script)
  by_stop Usage is = absurd is

  by_result : (result : Result Summary Stop) → IfErr result (λ stop. RunStops stop (λ _. ⊥) (IsUnread mid after) (schedule_told EVENTS_MAX mid) mid after)
      → IfErr result (λ stop. RunStops stop (RulesAreFaulty before) (IsUnread before after) (schedule_told EVENTS_MAX before) before after)
  by_result (Ok summary) is = tt
  by_result (Err stop) is = by_stop stop is

-- no failure so far, where none was counted at the end
none_earlier : (before mid after : Told) → OnlyWrites outlet.Faults mid after → NothingFailed before after → NothingFailed before mid
none_earlier before mid after only none = record {
  reads = λ which failed. none.reads which (Rose-between _ _ _ _ (omega arith) (only.read_counts which) failed);
  writes = λ to failed. none.writes to (Rose-between _ _ _ _ (omega arith) (only.write_counts to) failed);
}

-- a fault line moves nothing of what a replay promises
pub Replays-told : (result : Result Summary Stop) (before mid after : Told) → Replays result before mid → OnlyWrites outlet.Faults mid after → Replays result before after
Replays-told result before mid after replays only = record {
  serves = λ run told. Serves-between result run before before mid after (λ to. refl) (λ to apart. only.outlets to apart)
      (refl, refl) (only.inputs input.Capture (λ e. e), only.inputs input.Script (λ e. e)) (replays.serves run told);
  rules = replays.rules;
  stop = by_result result replays.stop;
  complete = λ run bytes told whole read sound none. replays.complete run bytes told whole read sound (none_earlier before mid after only none);
  few = FewRulesTaken-then before mid after replays.few (only.inputs input.Rules (λ e. e));
  only = record {
    inputs = λ which apart. absurd (apart tt);
    outlets = λ to apart. only.outlets to (λ is. apart (inr is)) ∙ replays.only.outlets to apart;
    read_counts = λ which. omega (arith, replays.only.read_counts which, only.read_counts which);
    write_counts = λ to. omega (arith, replays.only.write_counts to, only.write_counts to);
    other_reads = λ which apart. absurd (apart tt);
    other_writes = λ to apart. only.other_writes to (λ is. apart (inr is)) ∙ replays.only.other_writes to apart;
  };
} where
  by_result : (result : Result Summary Stop) → IfErr result (λ stop. RunStops stop (RulesAreFaulty before) (IsUnread before mid) (schedule_told EVENTS_MAX before) before mid)
      → IfErr result (λ stop. RunStops stop (RulesAreFaulty before) (IsUnread before after) (schedule_told EVENTS_MAX before) before after)
  by_result (Ok summary) is = tt
  by_result (Err stop) is = RunStops-between stop (RulesAreFaulty before) _ _ _ before before mid after (λ which. omega arith) only.read_counts (λ to. omega arith) only.write_counts
      (λ still. (only.inputs input.Capture (λ e. e) ∙ still.0, only.inputs input.Script (λ e. e) ∙ still.1)) is

-- a fault line moves nothing of what a check promises
pub Checks-told : (result : Result Summary Stop) (before mid after : Told) → Checks result before mid → OnlyWrites outlet.Faults mid after → Checks result before after
Checks-told result before mid after checks only = record {
  ends = λ bytes read. subst (λ (sent : Option (List ℕ)). CheckEnds result (rules_of bytes) (before.sent outlet.Report) sent)
      (sym (only.outlets outlet.Report (λ e. absurd (cc)))) (checks.ends bytes read);
  stop = by_result result checks.stop;
  complete = λ bytes read sound none. checks.complete bytes read sound (none_earlier before mid after only none);
  few = FewRulesTaken-then before mid after checks.few (only.inputs input.Rules (λ e. e));
  only = record {
    inputs = λ which apart. only.inputs which (λ e. e) ∙ checks.only.inputs which apart;
    outlets = λ to apart. only.outlets to (λ is. apart (inr is)) ∙ checks.only.outlets to apart;
    read_counts = λ which. omega (arith, checks.only.read_counts which, only.read_counts which);
    write_counts = λ to. omega (arith, checks.only.write_counts to, only.write_counts to);
    other_reads = λ which apart. only.other_reads which (λ e. e) ∙ checks.only.other_reads which apart;
    other_writes = λ to apart. only.other_writes to (λ is. apart (inr is)) ∙ checks.only.other_writes to apart;
  };
} where
  by_stop : (stop : Stop) → CheckStops before mid stop → CheckStops before after stop
  by_stop (Rules why) is = is
  by_stop (ReadFault which) is = (is.0, Rose-between _ _ _ _ (omega arith) (only.read_counts input.Rules) is.1)
  by_stop (WriteFault to) is = (is.0, Rose-between _ _ _ _ (omega arith) (only.write_counts outlet.Report) is.1)
  by_stop OutOfMemory is = tt
  by_stop (Capture offset why) is = absurd is
  by_stop (Script line why) is = absurd is
  by_stop TooLong is = absurd is
  by_stop Usage is = absurd is

  by_result : (result : Result Summary Stop) → IfErr result (CheckStops before mid) → IfErr result (CheckStops before after)
  by_result (Ok summary) is = tt
  by_result (Err stop) is = by_stop stop is

-- without a cause for a stop a check comes to its end
pub check_completes : (result : Result Summary Stop) (before after : Told) (bytes : List ℕ) → IfErr result (CheckStops before after)
    → before.left input.Rules ≡ Some bytes → IsOk (rules_of bytes) → NothingFailed before after → EndsUnlessNoMemory result
check_completes (Ok summary) before after bytes because read sound none = inl refl
check_completes (Err stop) before after bytes because read sound none = by_stop stop because where
  refused : (why : RulesFault) → RulesAreFaulty before why → ⊥
  refused why is =
      let same : rules_of bytes ≡ Err why = subst (λ (left : Option (List ℕ)). IfSome left (λ bs. rules_of bs ≡ Err why)) read is in
      absurd (cc (same, sound))

  by_stop : (stop : Stop) → CheckStops before after stop → EndsUnlessNoMemory (Err stop)
  by_stop (Rules why) is = absurd (refused why is)
  by_stop (ReadFault which) is = absurd (none.reads input.Rules is.1)
  by_stop (WriteFault to) is = absurd (none.writes outlet.Report is.1)
  by_stop OutOfMemory is = inr refl
  by_stop (Capture offset why) is = absurd is
  by_stop (Script line why) is = absurd is
  by_stop TooLong is = absurd is
  by_stop Usage is = absurd is

-- a fault line is the only thing that was written to the faults
pub FaultWritten-told : (stop : Stop) (before mid after : Told) → mid.sent outlet.Faults ≡ before.sent outlet.Faults
    → before.write_faults outlet.Faults ≤ mid.write_faults outlet.Faults → FaultWritten stop mid after → FaultWritten stop before after
FaultWritten-told stop before mid after same counted (inl grew) = inl (subst (λ (start : Option (List ℕ)). Grew start (after.sent outlet.Faults) (stop_text stop)) same grew)
FaultWritten-told stop before mid after same counted (inr part) = inr (
  subst (λ (start : Option (List ℕ)). IsAppendedPart start (after.sent outlet.Faults) (stop_text stop)) same part.0,
  Rose-between _ _ _ _ counted (omega arith) part.1,
)
