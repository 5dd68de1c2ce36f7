-- What was taken since the start, what of it was given, and the shortest part of a schedule that holds it.
use Rattle.std.proofs.Common.{◌≡◌, ℕ, suc, ◌+◌, Bool, true, false, cond, List, [], ◌∷◌, ◌++◌, Option, Some, None, option_map, IsSomeAnd, refl, sym, ap, ◌∙◌, subst, arith, append_assoc, append-nil}
use Rattle.std.specs.List.{count_by}
use Rattle.std.proofs.lemmas.List.Sums.{sum_by-cons}
use Rattle.std.proofs.lemmas.Option.{same_Some}
use Rattle.psd_base.specs.Desk.{Told}
use Rattle.psd_base.specs.declared.outlet.Input.{Input}
use Rattle.psd_base.specs.declared.outlet.Input.TheVariants as input
use Rattle.psd_base.specs.declared.outlet.Outlet.{Outlet}
use Rattle.psd_base.specs.Event.{Seen}
use Rattle.psd_base.specs.History.{onto}
use Rattle.peripheral_filter.specs.declared.rule.RuleSet.{RuleSet}
use Rattle.capture_reader.specs.Reader.{EndsAreTrue, Reading, TookBoth, lines_held, records_held}
use Rattle.capture_reader.specs.Schedule.{Schedule, in_front, over}
use Rattle.capture_reader.specs.Taken.{Took, given_from, is_from, shortest, whole_lines, whole_records}
use Rattle.capture_reader.specs.Window.{EndIsTrue}
use Rattle.capture_reader.proofs.Shortest.{shortest_is}
use Rattle.capture_reader.proofs.Taken.{took_on}
use Rattle.kvm_program.specs.Outlets.{Grew}
use Rattle.kvm_program.specs.Texts.{text_after, text_of}
use Rattle.kvm_program.specs.Progress.{TookSince, WroteTaken, behind, latest}

-- the events of a history and those behind them are all events
pub behind_is : (past : List Seen) (later : Schedule) → (onto (behind past later).events [] ≡ onto later.events past) × ((behind past later).stop ≡ later.stop)
behind_is [] later = (refl, refl)
behind_is (event ∷ past) later = behind_is past (in_front event later)

-- the events of a history, oldest first
abbrev oldest_first : List Seen → List Seen
oldest_first past = (behind past (over None)).events

oldest_first_is : (past : List Seen) (later : Schedule) → (behind past later).events ≡ oldest_first past ++ later.events
oldest_first_is [] later = refl
oldest_first_is (event ∷ past) later =
    oldest_first_is past (in_front event later) ∙ (sym (append_assoc (oldest_first past) (event ∷ []) later.events)
    ∙ ap (λ (events : List Seen). events ++ later.events) (sym (oldest_first_is past (in_front event (over None)))))

count_next : (passes : Seen → Bool) (event : Seen) (events : List Seen) → count_by passes (event ∷ events) ≡ cond (passes event) 1 0 + count_by passes events
count_next passes event events = sum_by-cons (λ event. cond (passes event) 1 0) event events

-- as many of them pass, in whichever order they stand
count_behind : (passes : Seen → Bool) (past : List Seen) (later : Schedule) → count_by passes (behind past later).events ≡ count_by passes past + count_by passes later.events
count_behind passes [] later = let none : count_by passes [] ≡ 0 = refl in omega (arith, none)
count_behind passes (event ∷ past) later =
    let deeper : count_by passes (behind past (in_front event later)).events ≡ count_by passes past + count_by passes (event ∷ later.events) = count_behind passes past (in_front event later) in
    let one : ℕ = cond (passes event) 1 0 in
    let first : count_by passes (event ∷ later.events) ≡ one + count_by passes later.events = count_next passes event later.events in
    let newest : count_by passes (event ∷ past) ≡ one + count_by passes past = count_next passes event past in
    omega (arith, deeper, first, newest)

-- The shortest part of a schedule that holds as many events of an input as a history, whose newest is one of them, is the history.
shortest_behind : (which : Input) (event : Seen) (past : List Seen) (later : Schedule) → is_from which event ≡ true
    → shortest which (count_by (is_from which) (event ∷ past)) (behind (event ∷ past) later).events ≡ oldest_first (event ∷ past)
shortest_behind which event past later is =
    let passes : Seen → Bool = is_from which in
    let older = oldest_first past in
    let next : count_by passes (event ∷ past) ≡ cond (passes event) 1 0 + count_by passes past = count_next passes event past in
    let one : cond {A = ℕ} (passes event) 1 0 ≡ 1 = ap (λ (b : Bool). cond b 1 0) is in
    let newest : count_by passes (event ∷ past) ≡ suc (count_by passes past) = omega (arith, next, one) in
    let none : count_by passes [] ≡ 0 = refl in
    let same : count_by passes past ≡ count_by passes older = let all = count_behind passes past (over None) in omega (arith, all, none) in
    ap (λ (n : ℕ). shortest which n (behind (event ∷ past) later).events) newest
    ∙ (ap (shortest which (suc (count_by passes past))) (oldest_first_is past (in_front event later))
    ∙ (shortest_is which older event later.events (count_by passes past) same is
    ∙ sym (oldest_first_is past (in_front event (over None)))))

-- A read failed behind the newest of what was served, and nothing whole is held: what was written is the text of what was taken.
pub Took-wrote : (rules : RuleSet) (which : Input) (whole held : List ℕ → ℕ) (ended : Bool) (schedule : Schedule) (now : Option Schedule) (past : List Seen) (given : Option Seen) (start after : Told) (to : Outlet)
    → Some schedule ≡ option_map (behind past) now → given ≡ latest past → IsSomeAnd given (λ event. is_from which event ≡ true)
    → Took whole held ended (start.left which) (after.left which) (count_by (is_from which) past) → ended ≡ false → held [] ≡ 0
    → Grew (start.sent to) (after.sent to) (text_after rules to past)
    → WroteTaken which whole (text_of rules to) schedule.events to start after
Took-wrote rules which whole held ended schedule now [] given start after to all newest from took unmet none grew =
    absurd (subst (λ (last : Option Seen). IsSomeAnd last (λ event. is_from which event ≡ true)) newest from)
Took-wrote rules which whole held ended schedule None (event ∷ past) given start after to all newest from took unmet none grew = absurd (cc)
Took-wrote rules which whole held ended schedule (Some later) (event ∷ past) given start after to all newest from took unmet none grew = record {
  bytes = took.bytes;
  left_is = took.left_is;
  grew = subst (λ (text : List ℕ). Grew (start.sent to) (after.sent to) text) (sym text_is) grew;
} where
  count : ℕ
  count = count_by (is_from which) (event ∷ past)

  taken : whole took.bytes ≡ count
  taken =
      let held_now : whole (took.bytes ++ []) ≡ held [] + count = took.counted unmet [] in
      ap whole (sym (append-nil took.bytes)) ∙ omega (arith, held_now, none)

  is : is_from which event ≡ true
  is = subst (λ (last : Option Seen). IsSomeAnd last (λ event. is_from which event ≡ true)) newest from

  part_is : shortest which (whole took.bytes) schedule.events ≡ oldest_first (event ∷ past)
  part_is =
      ap (λ (n : ℕ). shortest which n schedule.events) taken
      ∙ (ap (λ (s : Schedule). shortest which count s.events) (same_Some _ _ all) ∙ shortest_behind which event past later is)

  text_is : text_of rules to (shortest which (whole took.bytes) schedule.events) ≡ text_after rules to (event ∷ past)
  text_is = ap (text_of rules to) part_is ∙ ap (text_after rules to) (behind_is (event ∷ past) (over None)).0

-- an end that isn't met now wasn't met before
unmet_before : (ended ended_after : Bool) → (ended ≡ true → ended_after ≡ true) → ended_after ≡ false → ended ≡ false
unmet_before true ended_after stays unmet = absurd (cc (stays refl, unmet))
unmet_before false ended_after stays unmet = refl

-- so many were given, and then another event, or none

took_next : (which : Input) (before between after : List ℕ → ℕ) (ended ended_after : Bool) (left left_between left_after : Option (List ℕ)) (given : Option Seen) (event : Seen) (past : List Seen)
    → given ≡ Some event → (ended ≡ true → ended_after ≡ true)
    → Took before between ended left left_between (count_by (is_from which) past)
    → Took between after ended_after left_between left_after (given_from which given)
    → Took before after ended_after left left_after (count_by (is_from which) (event ∷ past))
took_next which before between after ended ended_after left left_between left_after given event past is stays first then =
    took_on before between after ended ended_after left left_between left_after (count_by (is_from which) past) (given_from which given) _ total first then
    (unmet_before ended ended_after stays) where
      total : count_by (is_from which) (event ∷ past) ≡ count_by (is_from which) past + given_from which given
      total =
          let newest : count_by (is_from which) (event ∷ past) ≡ cond (is_from which event) 1 0 + count_by (is_from which) past = count_next (is_from which) event past in
          let one : given_from which given ≡ cond (is_from which event) 1 0 = ap (given_from which) is in
          omega (arith, newest, one)

took_none : (which : Input) (before between after : List ℕ → ℕ) (ended ended_after : Bool) (left left_between left_after : Option (List ℕ)) (given : Option Seen) (past : List Seen)
    → given ≡ None → (ended ≡ true → ended_after ≡ true)
    → Took before between ended left left_between (count_by (is_from which) past)
    → Took between after ended_after left_between left_after (given_from which given)
    → Took before after ended_after left left_after (count_by (is_from which) past)
took_none which before between after ended ended_after left left_between left_after given past is stays first then =
    took_on before between after ended ended_after left left_between left_after (count_by (is_from which) past) (given_from which given) _ total first then
    (unmet_before ended ended_after stays) where
      total : count_by (is_from which) past ≡ count_by (is_from which) past + given_from which given
      total = let none : given_from which given ≡ 0 = ap (given_from which) is in omega (arith, none)

pub TookSince-next : (start desk desk_after : Told) (reader reader_after : Reading) (event : Seen) (past : List Seen) → reader_after.given ≡ Some event
    → (reader.capture.held.ended ≡ true → reader_after.capture.held.ended ≡ true) → (reader.script.held.ended ≡ true → reader_after.script.held.ended ≡ true)
    → TookSince start desk reader past → TookBoth (records_held reader.ports reader.capture) (lines_held reader.script) reader_after desk desk_after
    → TookSince start desk_after reader_after (event ∷ past)
TookSince-next start desk desk_after reader reader_after event past is capture_stays script_stays first then = record {
  capture = took_next input.Capture whole_records (records_held reader.ports reader.capture) (records_held reader_after.ports reader_after.capture) _ _ _ _ _ reader_after.given event past is capture_stays first.capture then.capture;
  script = took_next input.Script whole_lines (lines_held reader.script) (lines_held reader_after.script) _ _ _ _ _ reader_after.given event past is script_stays first.script then.script;
}

pub TookSince-none : (start desk desk_after : Told) (reader reader_after : Reading) (past : List Seen) → reader_after.given ≡ None
    → (reader.capture.held.ended ≡ true → reader_after.capture.held.ended ≡ true) → (reader.script.held.ended ≡ true → reader_after.script.held.ended ≡ true)
    → TookSince start desk reader past → TookBoth (records_held reader.ports reader.capture) (lines_held reader.script) reader_after desk desk_after
    → TookSince start desk_after reader_after past
TookSince-none start desk desk_after reader reader_after past is capture_stays script_stays first then = record {
  capture = took_none input.Capture whole_records (records_held reader.ports reader.capture) (records_held reader_after.ports reader_after.capture) _ _ _ _ _ reader_after.given past is capture_stays first.capture then.capture;
  script = took_none input.Script whole_lines (lines_held reader.script) (lines_held reader_after.script) _ _ _ _ _ reader_after.given past is script_stays first.script then.script;
}

-- where nothing is taken
pub TookSince-same : (start desk desk_after : Told) (reader : Reading) (past : List Seen) → desk_after.left input.Capture ≡ desk.left input.Capture → desk_after.left input.Script ≡ desk.left input.Script
    → TookSince start desk reader past → TookSince start desk_after reader past
TookSince-same start desk desk_after reader past capture script took = record {
  capture = subst (λ (left : Option (List ℕ)). Took whole_records (records_held reader.ports reader.capture) reader.capture.held.ended (start.left input.Capture) left (count_by (is_from input.Capture) past)) (sym capture) took.capture;
  script = subst (λ (left : Option (List ℕ)). Took whole_lines (lines_held reader.script) reader.script.held.ended (start.left input.Script) left (count_by (is_from input.Script) past)) (sym script) took.script;
}

pub EndsAreTrue-same : (desk desk_after : Told) (reader : Reading) → desk_after.left input.Capture ≡ desk.left input.Capture → desk_after.left input.Script ≡ desk.left input.Script
    → EndsAreTrue reader desk → EndsAreTrue reader desk_after
EndsAreTrue-same desk desk_after reader capture script ends = record {
  capture = subst (λ (left : Option (List ℕ)). EndIsTrue reader.capture.held left) (sym capture) ends.capture;
  script = subst (λ (left : Option (List ℕ)). EndIsTrue reader.script.held left) (sym script) ends.script;
}

-- where nothing was given
pub TookSince-begun : (start desk : Told) (reader : Reading) → reader.given ≡ None → TookBoth whole_records whole_lines reader start desk → TookSince start desk reader []
TookSince-begun start desk reader none took = record {
  capture = subst (λ (n : ℕ). Took whole_records (records_held reader.ports reader.capture) reader.capture.held.ended (start.left input.Capture) (desk.left input.Capture) n) (ap (given_from input.Capture) none) took.capture;
  script = subst (λ (n : ℕ). Took whole_lines (lines_held reader.script) reader.script.held.ended (start.left input.Script) (desk.left input.Script) n) (ap (given_from input.Script) none) took.script;
}
