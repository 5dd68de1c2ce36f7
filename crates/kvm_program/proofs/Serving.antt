-- A replay that goes on, ends or stops.
use Rattle.std.proofs.Common.{◌≡◌, ℕ, ◌+◌, ◌≤◌, inl, inr, List, [], ◌∷◌, ◌++◌, length, Option, Some, None, option_map, IfSome, Result, refl, sym, ap, ◌∙◌, subst, arith}
use Rattle.std.proofs.lemmas.Option.{same_Some}
use Rattle.psd_base.specs.Desk.{IsAppendedPart, ReadsSources, Rose, Told}
use Rattle.psd_base.specs.declared.outlet.Input.{Input}
use Rattle.psd_base.specs.Event.{HappensWithin, Seen}
use Rattle.psd_base.specs.History.{onto}
use Rattle.psd_base.specs.declared.outlet.Outlet.{Outlet}
use Rattle.psd_base.specs.declared.outlet.Outlet.TheVariants as outlet
use Rattle.psd_base.specs.declared.stop.RulesFault.{RulesFault}
use Rattle.psd_base.specs.declared.stop.Stop.{Stop}
use Rattle.psd_base.specs.declared.stop.Stop.TheVariants.{Usage, Rules, Capture, Script, TooLong, ReadFault, WriteFault, OutOfMemory}
use Rattle.psd_base.specs.declared.outlet.Input.TheVariants as input
use Rattle.peripheral_filter.specs.declared.rule.RuleSet.{RuleSet}
use Rattle.capture_reader.specs.Reader.{EndsAreTrue, Reading, StopsBecause, lines_held, records_held, rest_told}
use Rattle.capture_reader.specs.Schedule.{Schedule, in_front, over}
use Rattle.capture_reader.specs.Taken.{FailsBehind, shortest, whole_lines, whole_records}
use Rattle.switch_core.specs.StandsFor.{StandsFor}
use Rattle.switch_core.specs.declared.switch.Switch.{Switch}
use Rattle.kvm_program.specs.declared.tally.Tally.{Tally}
use Rattle.kvm_program.specs.Outlets.{Grew, OnlyServes, OnlyWritesTexts, Wrote, WroteTo}
use Rattle.kvm_program.specs.Texts.{text_after, text_of, step_text}
use Rattle.kvm_program.specs.Progress.{Counts, Progress, Finished, IsBegun, IsFresh, NothingLeft, PortsAboveStay, TookSince, WroteTaken, behind, WroteAtStop, ServingStops}
use Rattle.kvm_program.specs.Replay.{RunStops}
use Rattle.kvm_program.proofs.Parts.{Grew-nothing, Grew-more, Grew-part, Wrote-stays}
use Rattle.kvm_program.proofs.TakenSince.{behind_is, EndsAreTrue-same, Took-wrote, TookSince-begun, TookSince-same}
use Rattle.kvm_program.proofs.Texts.{text_after-step, text_after-onto}
use Rattle.kvm_program.proofs.Transcripts.{text_at-above}

-- the capture and the script are as they were
abbrev pub SameSources : Told → Told → Type 0
SameSources before after = (after.left input.Capture ≡ before.left input.Capture) × (after.left input.Script ≡ before.left input.Script)

-- the sources are read, and then texts are written
pub OnlyServes-event : (before mid after : Told) → ReadsSources before mid → OnlyWritesTexts mid after → OnlyServes before after
OnlyServes-event before mid after reads writes = record {
  inputs = λ which apart. writes.inputs which (λ e. e) ∙ reads.inputs which apart;
  outlets = λ to apart. writes.outlets to apart ∙ reads.outlets to (λ e. e);
  read_counts = λ which. omega (arith, reads.read_counts which, writes.read_counts which);
  write_counts = λ to. omega (arith, reads.write_counts to, writes.write_counts to);
  other_reads = λ which apart. writes.other_reads which (λ e. e) ∙ reads.other_reads which apart;
  other_writes = λ to apart. writes.other_writes to apart ∙ reads.other_writes to (λ e. e);
}

-- an event that comes is the newest of what was served
behind-in_front : (past : List Seen) (event : Seen) (later : Option Schedule)
    → option_map (behind past) (option_map (in_front event) later) ≡ option_map (behind (event ∷ past)) later
behind-in_front past event None = refl
behind-in_front past event (Some schedule) = refl

behind-step : (coming now later : Option Schedule) (past : List Seen) (event : Seen)
    → now ≡ option_map (in_front event) later → coming ≡ option_map (behind past) now → coming ≡ option_map (behind (event ∷ past)) later
behind-step coming now later past event next whole = whole ∙ (ap (option_map (behind past)) next ∙ behind-in_front past event later)

behind-nothing : (now : Option Schedule) → now ≡ option_map (behind []) now
behind-nothing None = refl
behind-nothing (Some schedule) = refl

-- the next event was served
pub Progress-more : (rules : RuleSet) (coming : Option Schedule) (start : Told) (reader reader_after : Reading) (desk desk_between desk_after : Told) (switch switch_later : Switch) (tally tally_later : Tally) (event : Seen)
    (so_far : Progress rules coming start reader desk switch tally)
    → rest_told reader desk ≡ option_map (in_front event) (rest_told reader_after desk_between)
    → desk_after.left input.Capture ≡ desk_between.left input.Capture → desk_after.left input.Script ≡ desk_between.left input.Script
    → StandsFor rules switch_later (event ∷ so_far.past)
    → ((to : Outlet) → Grew (desk.sent to) (desk_after.sent to) (step_text rules to event so_far.past))
    → Counts rules tally_later (event ∷ so_far.past)
    → switch_later.served ≡ switch.served + 1
    → reader_after.given ≡ Some event
    → TookSince start desk_between reader_after (event ∷ so_far.past)
    → EndsAreTrue reader_after desk_between
    → Progress rules coming start reader_after desk_after switch_later tally_later
Progress-more rules coming start reader reader_after desk desk_between desk_after switch switch_later tally tally_later event so_far next same_capture same_script stands wrote counted served given took ends =
    let past = so_far.past in
    let same : rest_told reader_after desk_after ≡ rest_told reader_after desk_between = rw (same_capture, same_script) refl in
    record {
      past = event ∷ past;
      stands = stands;
      whole = behind-step coming (rest_told reader desk) (rest_told reader_after desk_between) past event next so_far.whole ∙ ap (option_map (behind (event ∷ past))) (sym same);
      written = λ to. subst (λ (text : List ℕ). Grew (start.sent to) (desk_after.sent to) text) (sym (text_after-step rules to event past))
          (Grew-more (start.sent to) (desk.sent to) (desk_after.sent to) _ _ (so_far.written to) (wrote to));
      counted = counted;
      served = let one : length (event ∷ past) ≡ length past + 1 = omega arith in one ∙ (ap (λ (n : ℕ). n + 1) so_far.served ∙ sym served);
      took = TookSince-same start desk_between desk_after reader_after (event ∷ past) same_capture same_script took;
      given = given;
      ends = EndsAreTrue-same desk_between desk_after reader_after same_capture same_script ends;
    }

-- what was served and what follows is all that was to come
all_is : (schedule : Schedule) (now : Option Schedule) (past : List Seen) (later : Schedule)
    → Some schedule ≡ option_map (behind past) now → now ≡ Some later → schedule ≡ behind past later
all_is schedule now past later whole is = same_Some _ _ (whole ∙ ap (option_map (behind past)) is)

history_is : (schedule : Schedule) (now : Option Schedule) (past : List Seen) (later : Schedule)
    → Some schedule ≡ option_map (behind past) now → now ≡ Some later → onto schedule.events [] ≡ onto later.events past
history_is schedule now past later whole is = ap (λ (s : Schedule). onto s.events []) (all_is schedule now past later whole is) ∙ (behind_is past later).0

stop_is : (schedule : Schedule) (now : Option Schedule) (past : List Seen) (later : Schedule)
    → Some schedule ≡ option_map (behind past) now → now ≡ Some later → schedule.stop ≡ later.stop
stop_is schedule now past later whole is = ap (λ (s : Schedule). s.stop) (all_is schedule now past later whole is) ∙ (behind_is past later).1

-- nothing is left: each port has all of its transcript
pub Progress-over : (rules : RuleSet) (schedule : Schedule) (start : Told) (reader : Reading) (desk : Told) (switch : Switch) (tally : Tally) (stop : Option Stop)
    (so_far : Progress rules (Some schedule) start reader desk switch tally)
    → IfSome (rest_told reader desk) (λ left. left ≡ over stop)
    → (schedule.stop ≡ stop) × (onto schedule.events [] ≡ so_far.past)
Progress-over rules schedule start reader desk switch tally stop so_far over_now = by_now (rest_told reader desk) so_far.whole over_now where
  by_now : (now : Option Schedule) → Some schedule ≡ option_map (behind so_far.past) now → IfSome now (λ left. left ≡ over stop)
      → (schedule.stop ≡ stop) × (onto schedule.events [] ≡ so_far.past)
  by_now None whole is = absurd (cc)
  by_now (Some left) whole is = (
    stop_is schedule (Some left) so_far.past left whole refl ∙ ap (λ (s : Schedule). s.stop) is,
    history_is schedule (Some left) so_far.past left whole refl ∙ ap (λ (s : Schedule). onto s.events so_far.past) is,
  )

-- what was written so far, and a part of what the next event gave, is a part of all that was to be written
pub Progress-broken : (rules : RuleSet) (schedule : Schedule) (later : Option Schedule) (start : Told) (reader : Reading) (desk desk_after : Told) (switch : Switch) (tally : Tally) (event : Seen) (to : Outlet)
    (so_far : Progress rules (Some schedule) start reader desk switch tally)
    → rest_told reader desk ≡ option_map (in_front event) later
    → IsAppendedPart (desk.sent to) (desk_after.sent to) (step_text rules to event so_far.past)
    → IsAppendedPart (start.sent to) (desk_after.sent to) (text_of rules to schedule.events)
Progress-broken rules schedule later start reader desk desk_after switch tally event to so_far next part = by_later later (behind-step (Some schedule) (rest_told reader desk) later so_far.past event next so_far.whole) where
  by_later : (later : Option Schedule) → Some schedule ≡ option_map (behind (event ∷ so_far.past)) later
      → IsAppendedPart (start.sent to) (desk_after.sent to) (text_of rules to schedule.events)
  by_later None whole = absurd (cc)
  by_later (Some left) whole =
      let past = so_far.past in
      let more = text_after-onto rules to left.events (event ∷ past) in
      let all = ap (text_after rules to) (history_is schedule (Some left) (event ∷ past) left whole refl) ∙ (more.1 ∙ ap (λ (text : List ℕ). text ++ more.0) (text_after-step rules to event past)) in
      subst (λ (text : List ℕ). IsAppendedPart (start.sent to) (desk_after.sent to) text) (sym all)
      (Grew-part _ _ _ (text_after rules to past) (step_text rules to event past) more.0 (so_far.written to) part)

-- what an event at one of the ports gives goes to none above them
pub PortsAboveStay-step : (rules : RuleSet) (ports : ℕ) (event : Seen) (past : List Seen) (result : Result (Unit {0}) Stop) (before mid after : Told)
    → HappensWithin ports event.happening → ((to : Outlet) → mid.sent to ≡ before.sent to)
    → ((to : Outlet) → WroteTo to result mid after (step_text rules to event past))
    → PortsAboveStay ports before after
PortsAboveStay-step rules ports event past result before mid after within same wrote = λ port above.
    Wrote-stays result (mid.sent (outlet.Port port)) (after.sent (outlet.Port port))
    (subst (λ (text : List ℕ). Wrote result (mid.sent (outlet.Port port)) (after.sent (outlet.Port port)) text)
    (text_at-above rules ports port event past within above) (wrote (outlet.Port port))) ∙ same (outlet.Port port)

pub PortsAboveStay-then : (ports ports_now : ℕ) (before mid after : Told) → ports_now ≡ ports → PortsAboveStay ports before mid → PortsAboveStay ports_now mid after
    → PortsAboveStay ports before after
PortsAboveStay-then ports ports_now before mid after same one two = λ port above.
    two port (omega (arith, same, above)) ∙ one port above

-- what an outlet got, where the reader stops
pub WroteAtStop-advance : (rules : RuleSet) (stop : Stop) (reader reader_after : Reading) (schedule : Schedule) (start desk desk_after : Told) (switch : Switch) (tally : Tally) (to : Outlet)
    (so_far : Progress rules (Some schedule) start reader desk switch tally)
    → desk_after.sent to ≡ desk.sent to
    → StopsBecause reader_after (rest_told reader desk) desk desk_after stop
    → FailsBehind reader.given stop
    → TookSince start desk_after reader_after so_far.past
    → WroteAtStop stop (text_of rules to) schedule.events to start desk_after
WroteAtStop-advance rules stop reader reader_after schedule start desk desk_after switch tally to so_far same because behind_one took = by_stop stop because behind_one where
  all : (end : Option Stop) → IfSome (rest_told reader desk) (λ left. left ≡ over end) → Grew (start.sent to) (desk_after.sent to) (text_of rules to schedule.events)
  all end is =
      let over_now = Progress-over rules schedule start reader desk switch tally end so_far is in
      rw same (subst (λ (past : List Seen). Grew (start.sent to) (desk.sent to) (text_after rules to past)) (sym over_now.1) (so_far.written to))

  wrote : Grew (start.sent to) (desk_after.sent to) (text_after rules to so_far.past)
  wrote = rw same (so_far.written to)

  by_input : (which : Input) → StopsBecause reader_after (rest_told reader desk) desk desk_after (ReadFault which) → FailsBehind reader.given (ReadFault which)
      → WroteAtStop (ReadFault which) (text_of rules to) schedule.events to start desk_after
  by_input input.Capture is from =
      Took-wrote rules input.Capture whole_records (records_held reader_after.ports reader_after.capture) reader_after.capture.held.ended schedule (rest_told reader desk) so_far.past reader.given start desk_after to
      so_far.whole so_far.given from took.capture is.1.0 is.1.1 wrote
  by_input input.Script is from =
      Took-wrote rules input.Script whole_lines (lines_held reader_after.script) reader_after.script.held.ended schedule (rest_told reader desk) so_far.past reader.given start desk_after to
      so_far.whole so_far.given from took.script is.1.0 is.1.1 wrote
  by_input input.Rules is from = absurd is

  by_stop : (stop : Stop) → StopsBecause reader_after (rest_told reader desk) desk desk_after stop → FailsBehind reader.given stop → WroteAtStop stop (text_of rules to) schedule.events to start desk_after
  by_stop (Capture offset why) is from = all (Some (Capture offset why)) is.1
  by_stop (Script line why) is from = all (Some (Script line why)) is.1
  by_stop TooLong is from = all (Some TooLong) is.1
  by_stop (ReadFault which) is from = by_input which is from
  by_stop Usage is from = absurd is
  by_stop (Rules why) is from = absurd is
  by_stop (WriteFault place) is from = absurd is
  by_stop OutOfMemory is from = absurd is

-- what a read, a write or a stop leaves of that
pub WroteAtStop-between : (stop : Stop) (text : List Seen → List ℕ) (events : List Seen) (to : Outlet) (before mid mid_after after : Told)
    → mid.sent to ≡ before.sent to → after.sent to ≡ mid_after.sent to → SameSources before mid → SameSources mid_after after
    → WroteAtStop stop text events to mid mid_after → WroteAtStop stop text events to before after
WroteAtStop-between stop text events to before mid mid_after after same same_after sources sources_after wrote = by_stop stop wrote where
  moved : (Holds : Option (List ℕ) → Option (List ℕ) → Type 0) → Holds (mid.sent to) (mid_after.sent to) → Holds (before.sent to) (after.sent to)
  moved Holds holds = subst (λ (b : Option (List ℕ)). Holds b (after.sent to)) same (subst (λ (a : Option (List ℕ)). Holds (mid.sent to) a) (sym same_after) holds)

  taken : (which : Input) (whole : List ℕ → ℕ) → mid.left which ≡ before.left which → after.left which ≡ mid_after.left which
      → WroteTaken which whole text events to mid mid_after → WroteTaken which whole text events to before after
  taken which whole left left_after is = record {
    bytes = is.bytes;
    left_is = sym left ∙ (is.left_is ∙ ap (option_map (λ rest. is.bytes ++ rest)) (sym left_after));
    grew = moved (λ b a. Grew b a (text (shortest which (whole is.bytes) events))) is.grew;
  }

  by_stop : (stop : Stop) → WroteAtStop stop text events to mid mid_after → WroteAtStop stop text events to before after
  by_stop (Capture offset why) is = moved (λ b a. Grew b a (text events)) is
  by_stop (Script line why) is = moved (λ b a. Grew b a (text events)) is
  by_stop TooLong is = moved (λ b a. Grew b a (text events)) is
  by_stop (ReadFault input.Capture) is = taken input.Capture whole_records sources.0 sources_after.0 is
  by_stop (ReadFault input.Script) is = taken input.Script whole_lines sources.1 sources_after.1 is
  by_stop (ReadFault input.Rules) is = moved (λ b a. a ≡ b) is
  by_stop (WriteFault place) is = moved (λ b a. IsAppendedPart b a (text events)) is
  by_stop Usage is = moved (λ b a. a ≡ b) is
  by_stop (Rules why) is = moved (λ b a. a ≡ b) is
  by_stop OutOfMemory is = moved (λ b a. a ≡ b) is

-- why the reader stops is why serving stops
pub ServingStops-advance : (rules : RuleSet) (stop : Stop) (reader reader_after : Reading) (coming : Option Schedule) (start desk desk_after : Told) (switch : Switch) (tally : Tally)
    → Progress rules coming start reader desk switch tally
    → StopsBecause reader_after (rest_told reader desk) desk desk_after stop
    → ServingStops stop coming desk desk_after
ServingStops-advance rules stop reader reader_after coming start desk desk_after switch tally so_far because = by_stop stop because where
  ends : (end : Option Stop) → IfSome (rest_told reader desk) (λ left. left ≡ over end) → IfSome coming (λ schedule. schedule.stop ≡ end)
  ends end is = by_coming coming so_far where
    by_coming : (coming : Option Schedule) → Progress rules coming start reader desk switch tally → IfSome coming (λ schedule. schedule.stop ≡ end)
    by_coming None progress = tt
    by_coming (Some schedule) progress = (Progress-over rules schedule start reader desk switch tally end progress is).0

  by_input : (which : Input) → StopsBecause reader_after (rest_told reader desk) desk desk_after (ReadFault which) → ServingStops (ReadFault which) coming desk desk_after
  by_input input.Capture is = ((λ e. absurd (cc)), is.0)
  by_input input.Script is = ((λ e. absurd (cc)), is.0)
  by_input input.Rules is = absurd is

  by_stop : (stop : Stop) → StopsBecause reader_after (rest_told reader desk) desk desk_after stop → ServingStops stop coming desk desk_after
  by_stop (Capture offset why) is = ends (Some (Capture offset why)) is.1
  by_stop (Script line why) is = ends (Some (Script line why)) is.1
  by_stop TooLong is = ends (Some TooLong) is.1
  by_stop (ReadFault which) is = by_input which is
  by_stop Usage is = absurd is
  by_stop (Rules why) is = absurd is
  by_stop (WriteFault place) is = absurd is
  by_stop OutOfMemory is = absurd is

-- a count that rose later, and earlier, rose in between too
pub Rose-between : (first before after last : ℕ) → first ≤ before → after ≤ last → Rose before after → Rose first last
Rose-between first before after last earlier later (inl rose) = inl (omega arith)
Rose-between first before after last earlier later (inr most) = inr (omega arith)

Rose-earlier : (first before after : ℕ) → first ≤ before → Rose before after → Rose first after
Rose-earlier first before after earlier rose = Rose-between first before after after earlier (omega arith) rose

-- no event writes nothing
pub Grew-empty : (rules : RuleSet) (before after : Option (List ℕ)) (to : Outlet) → after ≡ before → Grew before after (text_after rules to [])
Grew-empty rules before after (outlet.Port port) same = Grew-nothing before after same
Grew-empty rules before after outlet.Log same = Grew-nothing before after same
Grew-empty rules before after outlet.Report same = Grew-nothing before after same
Grew-empty rules before after outlet.Faults same = Grew-nothing before after same
Grew-empty rules before after outlet.Console same = Grew-nothing before after same

-- why serving stops, told from an earlier moment
pub ServingStops-earlier : (stop : Stop) (coming : Option Schedule) (first before after : Told)
    → ((input : Input) → first.read_faults input ≤ before.read_faults input) → ((to : Outlet) → first.write_faults to ≤ before.write_faults to)
    → ServingStops stop coming before after → ServingStops stop coming first after
ServingStops-earlier (Capture offset why) coming first before after reads_grow writes_grow is = is
ServingStops-earlier TooLong coming first before after reads_grow writes_grow is = is
ServingStops-earlier (ReadFault which) coming first before after reads_grow writes_grow is =
    (is.0, Rose-earlier (first.read_faults which) (before.read_faults which) (after.read_faults which) (reads_grow which) is.1)
ServingStops-earlier (WriteFault to) coming first before after reads_grow writes_grow is =
    (is.0, is.1, Rose-earlier (first.write_faults to) (before.write_faults to) (after.write_faults to) (writes_grow to) is.2)
ServingStops-earlier (Script line why) coming first before after reads_grow writes_grow is = is
ServingStops-earlier Usage coming first before after reads_grow writes_grow is = absurd is
ServingStops-earlier (Rules why) coming first before after reads_grow writes_grow is = absurd is
ServingStops-earlier OutOfMemory coming first before after reads_grow writes_grow is = absurd is

length-onto : (events past : List Seen) → length (onto events past) ≡ length events + length past
length-onto [] past = omega arith
length-onto (event ∷ events) past = let later = length-onto events (event ∷ past) in omega (arith, later)

-- a replay to the end of its schedule
pub Finished-over : (rules : RuleSet) (schedule : Schedule) (start : Told) (reader : Reading) (desk desk_after : Told) (switch switch_after : Switch) (tally tally_after : Tally)
    → Progress rules (Some schedule) start reader desk switch tally
    → IfSome (rest_told reader desk) (λ left. left ≡ over None)
    → ((to : Outlet) → desk_after.sent to ≡ desk.sent to) → switch_after ≡ switch → tally_after ≡ tally → NothingLeft desk_after
    → Finished rules schedule start desk_after switch_after tally_after
Finished-over rules schedule start reader desk desk_after switch switch_after tally tally_after so_far is same same_switch same_tally nothing_left =
    let end = Progress-over rules schedule start reader desk switch tally None so_far is in
    record {
      whole = end.0;
      written = λ to. rw same (subst (λ (past : List Seen). Grew (start.sent to) (desk.sent to) (text_after rules to past)) (sym end.1) (so_far.written to));
      counted = subst (λ (past : List Seen). Counts rules tally_after past) (sym end.1) (subst (λ (t : Tally). Counts rules t so_far.past) (sym same_tally) so_far.counted);
      served = let nothing : length schedule.events ≡ length so_far.past = omega (arith, length-onto schedule.events [], ap length end.1) in
          rw same_switch (sym so_far.served ∙ sym nothing);
      left = nothing_left;
    }

-- what serves with a new switch begins
pub IsFresh-new : (rules : RuleSet) (switch served_by : Switch) (tally : Tally) → StandsFor rules switch [] → switch.served ≡ 0 → served_by ≡ switch
    → ((any : RuleSet) → Counts any tally []) → IsFresh rules served_by tally
IsFresh-new rules switch served_by tally stands unserved same empty = record {
  stands = subst (λ (s : Switch). StandsFor rules s []) (sym same) stands;
  empty = empty rules;
  unserved = ap (λ (s : Switch). s.served) same ∙ unserved;
}

-- a replay that begins
pub Progress-start : (rules : RuleSet) (start : Told) (reader : Reading) (desk desk_after : Told) (switch : Switch) (tally : Tally)
    → IsFresh rules switch tally → IsBegun start reader desk → ((to : Outlet) → desk_after.sent to ≡ desk.sent to)
    → desk_after.left input.Capture ≡ desk.left input.Capture → desk_after.left input.Script ≡ desk.left input.Script
    → Progress rules (rest_told reader desk) start reader desk_after switch tally
Progress-start rules start reader desk desk_after switch tally fresh begun unsent same_capture same_script =
    let same : rest_told reader desk ≡ rest_told reader desk_after = rw (same_capture, same_script) refl in
    record {
      past = [];
      stands = fresh.stands;
      whole = same ∙ behind-nothing (rest_told reader desk_after);
      written = λ to. Grew-empty rules (start.sent to) (desk_after.sent to) to (unsent to ∙ begun.unsent to);
      counted = fresh.empty;
      served = sym fresh.unserved;
      took = TookSince-same start desk desk_after reader [] same_capture same_script (TookSince-begun start desk reader begun.none_given begun.took);
      given = begun.none_given;
      ends = EndsAreTrue-same desk desk_after reader same_capture same_script begun.ends;
    }

-- why serving stops is why a run stops
pub RunStops-serving : (stop : Stop) (refused : RulesFault → Type 0) (unread : Type 0) (coming : Option Schedule) (first before after : Told)
    → ((input : Input) → first.read_faults input ≤ before.read_faults input) → ((to : Outlet) → first.write_faults to ≤ before.write_faults to)
    → ServingStops stop coming before after → RunStops stop refused unread coming first after
RunStops-serving stop refused unread coming first before after reads_grow writes_grow is = by_stop stop is where
  by_stop : (stop : Stop) → ServingStops stop coming before after → RunStops stop refused unread coming first after
  by_stop (Capture offset why) is = is
  by_stop (Script line why) is = is
  by_stop TooLong is = is
  by_stop (ReadFault input.Capture) is = Rose-earlier (first.read_faults input.Capture) (before.read_faults input.Capture) (after.read_faults input.Capture) (reads_grow input.Capture) is.1
  by_stop (ReadFault input.Script) is = Rose-earlier (first.read_faults input.Script) (before.read_faults input.Script) (after.read_faults input.Script) (reads_grow input.Script) is.1
  by_stop (ReadFault input.Rules) is = absurd (is.0 refl)
  by_stop (WriteFault to) is = (is.0, Rose-earlier (first.write_faults to) (before.write_faults to) (after.write_faults to) (writes_grow to) is.2)
  by_stop Usage is = absurd is
  by_stop (Rules why) is = absurd is
  by_stop OutOfMemory is = absurd is
