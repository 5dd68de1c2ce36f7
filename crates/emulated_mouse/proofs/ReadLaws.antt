-- What a host reads is what was owed, and then what the mouse made.
use Rattle.std.proofs.Common.{◌≡◌, ◌≤◌, ◌<◌, Bool, true, false, not, ◌&&◌, List, [], ◌∷◌, ◌++◌, length, drop, Option, Some, None, refl, sym, ap, ◌∙◌, ⊎_elim, arith, append_assoc, if◌then◌else◌}
use Rattle.std.proofs.lemmas.Bool.{false≢true, cases_lt}
use Rattle.std.proofs.lemmas.List.{append-nil, drop-append-le, drop_all, take_all, take-append-drop}
use Rattle.std.proofs.lemmas.List.Prefix.{front_rest}
use Rattle.psd_base.specs.KeySet.{has_no_key}
use Rattle.input_latch.specs.Buttons.{no_buttons}
use Rattle.input_latch.specs.PointerHistory.{accepted, delivered, next_change, held_after}
use Rattle.input_latch.specs.declared.pointer_latch.PointerChange.{PointerChange}
use Rattle.input_latch.proofs.PointerGiven.{none_undelivered}
use Rattle.emulated_mouse.specs.declared.given.Given.{Given}
use Rattle.emulated_mouse.specs.declared.motion.Motion.{Motion}
use Rattle.emulated_mouse.specs.declared.given.Given.TheVariants.{Again, Due, Rest, Next, Nothing}
use Rattle.emulated_mouse.specs.declared.motion.Piece.{Piece}
use Rattle.emulated_mouse.specs.declared.report.Report.{Report}
use Rattle.emulated_mouse.specs.Motion.{is_still}
use Rattle.emulated_mouse.specs.Report.{released}
use Rattle.emulated_mouse.specs.MouseHistory.{MouseEntry, Entered, Parted, Reset, Configured, Restarted, Requested, Polled, PolledApart, is_report, begun, rest, last_made, made_by, is_unread, unread_after, was_left, left_after, is_due, is_entered, given_next}
use Rattle.emulated_mouse.specs.HostReading.{reports_from, reports_of, reports_left, reports_with, made, made_more, acknowledged, read_more, unacknowledged, due_release, owed, fresh, last_read, BeginsWith}
use Rattle.emulated_mouse.specs.Delivery.{Moment, Showed, Selected, Left, BusReset, SetUp, ToggleRestarted, Asked, Read, Sides, after, sides_of, MakesAccepted, ReadsAccepted, ReadsAll, ReadsOwed}
use Rattle.emulated_mouse.proofs.MadeLaws.{makes, nothing_named, reports_from-append}
use Rattle.emulated_mouse.proofs.MotionLaws.{pieces_left-none}

-- what is to be sent before anything new, by its tests
abbrev waiting : Bool → Bool → Report → List Report
waiting unread is_due last = (if unread then last ∷ [] else []) ++ (if is_due then released ∷ [] else [])

-- whether a release is due after a case
abbrev due_after : Given → Bool → List Bool → Bool
due_after given left buttons = left_after given left && not (has_no_key buttons)

none_down : has_no_key no_buttons ≡ true
unfolding no_buttons
none_down = refl

-- a poll of a case by which nothing new is made moves reports from what waits to what is read
module _ (read : List Report) (last : Report) where
  again : (is_due acked : Bool) → read_more Again acked read last ++ waiting (not acked) is_due last ≡ read ++ waiting true is_due last
  again is_due true = append_assoc read (last ∷ []) (if is_due then released ∷ [] else [])
  again is_due false = refl

  released_now : (acked : Bool) → read_more Due acked read released ++ waiting (not acked) false released ≡ read ++ waiting false true last
  released_now true = append_assoc read (released ∷ []) []
  released_now false = refl

  -- a new report is read, or waits
  made_now : (acked : Bool) (given : Given) → is_report given ≡ true → (all : List Report) → read ++ waiting false false last ≡ all → (new : Report)
      → read_more given acked read new ++ waiting (unread_after given acked false) false new ≡ all ++ new ∷ []
  made_now true given is all so_far new = rw is (append-nil (read ++ new ∷ []) ∙ ap (λ (reports : List Report). reports ++ new ∷ []) (sym (append-nil read) ∙ so_far))
  made_now false given is all so_far new = rw is (ap (λ (reports : List Report). reports ++ new ∷ []) (sym (append-nil read) ∙ so_far))

-- what a poll makes of what is read and of what waits, by the tests on which its case depends
module _ (past : List MouseEntry) where
  -- what waits, by the two tests
  waits : (unread is_due_now : Bool) → is_unread past ≡ unread → is_due past ≡ is_due_now → unacknowledged past ++ due_release past ≡ waiting unread is_due_now (last_made past)
  waits unread is_due_now o d = rw (o, d) refl

  -- where nothing new is made, the same reports are read or wait
  pub same_reports : (given : Given) (acked : Bool) (unread is_due_now : Bool) → is_unread past ≡ unread → is_due past ≡ is_due_now
      → given ≡ (if unread then Again else if is_due_now then Due else Nothing)
      → read_more given acked (acknowledged past) (made_by given (begun past) (rest past) (last_made past))
      ++ waiting (unread_after given acked (is_unread past)) (due_after given (was_left past) (made_by given (begun past) (rest past) (last_made past)).buttons) (made_by given (begun past) (rest past) (last_made past))
      ≡ acknowledged past ++ (unacknowledged past ++ due_release past)
  same_reports given acked true is_due_now o d is = rw (is, o) (again (acknowledged past) (last_made past) (is_due past) acked)
  same_reports given acked false true o d is = rw (is, o, d) (released_now (acknowledged past) (last_made past) acked)
  same_reports given acked false false o d is = rw (is, o) refl

  -- where a report of the latch's changes is made, it comes behind them
  pub new_report : (given : Given) (acked : Bool) → is_report given ≡ true → left_after given (was_left past) ≡ false → is_unread past ≡ false → is_due past ≡ false
      → (all : List Report) → acknowledged past ++ (unacknowledged past ++ due_release past) ≡ all
      → read_more given acked (acknowledged past) (made_by given (begun past) (rest past) (last_made past))
      ++ waiting (unread_after given acked (is_unread past)) (due_after given (was_left past) (made_by given (begun past) (rest past) (last_made past)).buttons) (made_by given (begun past) (rest past) (last_made past))
      ≡ all ++ made_by given (begun past) (rest past) (last_made past) ∷ []
  new_report given acked is left o d all so_far =
      rw (o, left)
      (made_now (acknowledged past) (last_made past) acked given is all (sym (ap (λ (reports : List Report). acknowledged past ++ reports) (waits false false o d)) ∙ so_far) (made_by given (begun past) (rest past) (last_made past)))

next_cases : (next : Option PointerChange) (left : Motion) (P : Given → Type 0) → P Nothing → P Rest → ((change : PointerChange) → P (Next change)) → P (given_next next left)
next_cases None left P nothing more named = by (is_still left) where
  by : (b : Bool) → P (if b then Nothing else Rest)
  by true = nothing
  by false = more
next_cases (Some change) left P nothing more named = by (is_still left) where
  by : (b : Bool) → P (if b then Next change else Rest)
  by true = named change
  by false = more

-- what is read and what waits, after a poll of a case
abbrev read_after : Given → Bool → List MouseEntry → List Report
read_after given acked past =
    read_more given acked (acknowledged past) (made_by given (begun past) (rest past) (last_made past))
    ++ waiting (unread_after given acked (is_unread past)) (due_after given (was_left past) (made_by given (begun past) (rest past) (last_made past)).buttons) (made_by given (begun past) (rest past) (last_made past))

module _ (past : List MouseEntry) (acked : Bool) where
  selected_step : (next : Option PointerChange) (unread is_due_now : Bool) → is_unread past ≡ unread → is_due past ≡ is_due_now
      → acknowledged past ++ (unacknowledged past ++ due_release past) ≡ owed past ++ made past
      → let given = if unread then Again else if is_due_now then Due else given_next next (rest past) in
      read_after given acked past ≡ owed past ++ made_more given (made past) (made_by given (begun past) (rest past) (last_made past))
  selected_step next true is_due_now o d so_far = same_reports past Again acked true is_due_now o d refl ∙ so_far
  selected_step next false true o d so_far = same_reports past Due acked false true o d refl ∙ so_far
  selected_step next false false o d so_far =
      next_cases next (rest past)
      (λ (given : Given). read_after given acked past ≡ owed past ++ made_more given (made past) (made_by given (begun past) (rest past) (last_made past)))
      (same_reports past Nothing acked false false o d refl ∙ so_far)
      (new_report past Rest acked refl refl o d (owed past ++ made past) so_far ∙ append_assoc (owed past) (made past) (made_by Rest (begun past) (rest past) (last_made past) ∷ []))
      (λ change. new_report past (Next change) acked refl refl o d (owed past ++ made past) so_far ∙ append_assoc (owed past) (made past) (made_by (Next change) (begun past) (rest past) (last_made past) ∷ []))

  apart_step : (unread is_due_now : Bool) → is_unread past ≡ unread → is_due past ≡ is_due_now → BeginsWith (owed past) (acknowledged past ++ (unacknowledged past ++ due_release past))
      → BeginsWith (owed past) (read_after (if unread then Again else if is_due_now then Due else Nothing) acked past)
  apart_step unread is_due_now o d so_far =
      let given = if unread then Again else if is_due_now then Due else Nothing in
      record {
        others = so_far.others;
        is = so_far.is ∙ ap (λ (reports : List Report). reports ++ so_far.others) (sym (same_reports past given acked unread is_due_now o d refl));
      }

  apart_up : (unread is_due_now : Bool) → (was_left past ≡ false → (last_made past).buttons ≡ no_buttons)
      → let given = if unread then Again else if is_due_now then Due else Nothing in
      left_after given (was_left past) ≡ false → (made_by given (begun past) (rest past) (last_made past)).buttons ≡ no_buttons
  apart_up true is_due_now up stayed = up stayed
  apart_up false true up stayed = refl
  apart_up false false up stayed = up stayed

record Reads (sides : Sides) : Type 0 where
  selected : is_entered sides.mouse ≡ true → acknowledged sides.mouse ++ (unacknowledged sides.mouse ++ due_release sides.mouse) ≡ owed sides.mouse ++ made sides.mouse
  apart : is_entered sides.mouse ≡ false → BeginsWith (owed sides.mouse) (acknowledged sides.mouse ++ (unacknowledged sides.mouse ++ due_release sides.mouse))
  all_up : is_entered sides.mouse ≡ false → was_left sides.mouse ≡ false → (last_made sides.mouse).buttons ≡ no_buttons

-- a reset or a configuration: nothing is read since, or what is dropped isn't
abbrev due_then : Bool → Bool
due_then left = left && not (has_no_key no_buttons)

none_due : (left : Bool) → due_then left ≡ false
none_due true = rw none_down refl
none_due false = refl

whole : (reports : List Report) → BeginsWith reports ([] ++ reports)
whole reports = record { others = []; is = sym (append-nil reports) }

dropped : (owing read waits : List Report) (left : Bool) → BeginsWith owing (read ++ waits) → BeginsWith owing (read ++ waiting false (due_then left) released)
dropped owing read waits left so_far =
    rw (none_due left)
    (record {
      others = waits ++ so_far.others;
      is = so_far.is ∙ append_assoc read waits so_far.others ∙ ap (λ (reports : List Report). reports ++ (waits ++ so_far.others)) (sym (append-nil read));
    })

none_read : (left : Bool) → [] ++ waiting false (due_then left) released ≡ []
none_read left = rw (none_due left) refl

module _ (sides : Sides) (law : Reads sides) where
  moved : (moment : Moment) (selected : Bool) → is_entered sides.mouse ≡ selected → Reads (after moment selected sides)
  moved (Showed sample) true is = record { selected = law.selected; apart = law.apart; all_up = law.all_up }
  moved (Showed sample) false is = law
  moved Selected true is = law
  moved Selected false is = record {
    selected = λ _. sym (append-nil (unacknowledged sides.mouse ++ due_release sides.mouse));
    apart = λ out. absurd (false≢true (sym out));
    all_up = λ out. absurd (false≢true (sym out));
  }
  moved Left true is = record {
    selected = λ e. absurd (false≢true e);
    apart = λ _. whole (unacknowledged (Parted ∷ sides.mouse) ++ due_release (Parted ∷ sides.mouse));
    all_up = λ _ stayed. absurd (false≢true (sym stayed));
  }
  moved Left false is = law
  moved BusReset true is = record {
    selected = λ _. rw is (none_read (was_left sides.mouse));
    apart = λ out. absurd (false≢true (sym out ∙ is));
    all_up = λ _ _. refl;
  }
  moved BusReset false is = record {
    selected = λ e. absurd (false≢true (sym is ∙ e));
    apart = λ out. rw is (dropped (owed sides.mouse) (acknowledged sides.mouse) (unacknowledged sides.mouse ++ due_release sides.mouse) (was_left sides.mouse) (law.apart out));
    all_up = λ _ _. refl;
  }
  moved SetUp true is = record {
    selected = λ _. rw is (none_read (was_left sides.mouse));
    apart = λ out. absurd (false≢true (sym out ∙ is));
    all_up = λ _ _. refl;
  }
  moved SetUp false is = record {
    selected = λ e. absurd (false≢true (sym is ∙ e));
    apart = λ out. rw is (dropped (owed sides.mouse) (acknowledged sides.mouse) (unacknowledged sides.mouse ++ due_release sides.mouse) (was_left sides.mouse) (law.apart out));
    all_up = λ _ _. refl;
  }
  moved ToggleRestarted selected is = record { selected = law.selected; apart = law.apart; all_up = law.all_up }
  moved (Asked request) selected is = record { selected = law.selected; apart = law.apart; all_up = law.all_up }
  moved (Read acked) true is = record {
    selected = λ e. selected_step sides.mouse acked (next_change sides.latch) (is_unread sides.mouse) (is_due sides.mouse) refl refl (law.selected e);
    apart = λ out. absurd (false≢true (sym out ∙ is));
    all_up = λ out. absurd (false≢true (sym out ∙ is));
  }
  moved (Read acked) false is = record {
    selected = λ e. absurd (false≢true (sym is ∙ e));
    apart = λ out. apart_step sides.mouse acked (is_unread sides.mouse) (is_due sides.mouse) refl refl (law.apart out);
    all_up = λ out stayed. apart_up sides.mouse acked (is_unread sides.mouse) (is_due sides.mouse) (law.all_up out) stayed;
  }

reads : (past : List Moment) → Reads (sides_of past)
unfolding sides_of
reads [] = record {
  selected = λ e. absurd (false≢true e);
  apart = λ _. whole [];
  all_up = λ _ _. refl;
}
reads (moment ∷ past) = moved (sides_of past) (reads past) moment (is_entered (sides_of past).mouse) refl

-- the fresh reports begin those that were made
begins : (owing read waits shown : List Report) → read ++ waits ≡ owing ++ shown → BeginsWith shown (drop (length owing) read)
begins owing read waits shown is = ⊎_elim few enough (cases_lt (length read) (length owing)) where
  few : length read < length owing → BeginsWith shown (drop (length owing) read)
  few h = record { others = shown; is = ap (λ (reports : List Report). reports ++ shown) (sym (drop_all (length owing) read (omega arith))) }

  enough : length owing ≤ length read → BeginsWith shown (drop (length owing) read)
  enough h = record { others = waits; is = sym (front_rest (read ++ waits) owing shown is) ∙ drop-append-le (length owing) read waits h }

-- all reports of what was accepted: those that were made, those that are left, and those of what wasn't given
module _ (sides : Sides) (law : MakesAccepted sides) where
  all_reports : is_entered sides.mouse ≡ true
      → reports_of (accepted sides.latch) ≡ (made sides.mouse ++ reports_left sides.mouse) ++ reports_from (held_after (begun sides.mouse)) (drop (delivered sides.latch) (accepted sides.latch))
  all_reports entered =
      ap (λ (changes : List PointerChange). reports_of changes) (sym (take-append-drop (delivered sides.latch) (accepted sides.latch)))
      ∙ ap (λ (changes : List PointerChange). reports_of (changes ++ drop (delivered sides.latch) (accepted sides.latch))) (sym (law.begun_first entered))
      ∙ reports_from-append no_buttons (begun sides.mouse) (drop (delivered sides.latch) (accepted sides.latch))
      ∙ ap (λ (reports : List Report). reports ++ reports_from (held_after (begun sides.mouse)) (drop (delivered sides.latch) (accepted sides.latch))) (sym (law.all_made entered))

  first_of_all : is_entered sides.mouse ≡ true → BeginsWith (made sides.mouse) (fresh sides.mouse) → BeginsWith (reports_of (accepted sides.latch)) (fresh sides.mouse)
  first_of_all entered read =
      let left = reports_left sides.mouse in
      let later = reports_from (held_after (begun sides.mouse)) (drop (delivered sides.latch) (accepted sides.latch)) in
      record {
        others = read.others ++ reports_left sides.mouse ++ reports_from (held_after (begun sides.mouse)) (drop (delivered sides.latch) (accepted sides.latch));
        is =
            all_reports entered
            ∙ ap (λ (reports : List Report). (reports ++ left) ++ later) read.is
            ∙ ap (λ (reports : List Report). reports ++ later) (append_assoc (fresh sides.mouse) read.others left)
            ∙ append_assoc (fresh sides.mouse) (read.others ++ left) later;
      }

  owed_then_all : is_entered sides.mouse ≡ true → acknowledged sides.mouse ++ (unacknowledged sides.mouse ++ due_release sides.mouse) ≡ owed sides.mouse ++ made sides.mouse
      → BeginsWith (owed sides.mouse ++ reports_of (accepted sides.latch)) (acknowledged sides.mouse)
  owed_then_all entered read =
      let waits = unacknowledged sides.mouse ++ due_release sides.mouse in
      let left = reports_left sides.mouse in
      let later = reports_from (held_after (begun sides.mouse)) (drop (delivered sides.latch) (accepted sides.latch)) in
      record {
        others = (unacknowledged sides.mouse ++ due_release sides.mouse) ++ (reports_left sides.mouse ++ reports_from (held_after (begun sides.mouse)) (drop (delivered sides.latch) (accepted sides.latch)));
        is =
            ap (λ (reports : List Report). owed sides.mouse ++ reports) (all_reports entered ∙ append_assoc (made sides.mouse) left later)
            ∙ sym (append_assoc (owed sides.mouse) (made sides.mouse) (left ++ later))
            ∙ ap (λ (reports : List Report). reports ++ (left ++ later)) (sym read)
            ∙ append_assoc (acknowledged sides.mouse) waits (left ++ later);
      }

pub reads_accepted-all : (past : List Moment) → ReadsAccepted (sides_of past)
reads_accepted-all past = record {
  owed_first = λ entered. owed_then_all (sides_of past) (makes past).law entered ((reads past).selected entered);
  fresh_first = λ entered.
      first_of_all (sides_of past) (makes past).law entered
      (begins (owed (sides_of past).mouse) (acknowledged (sides_of past).mouse) (unacknowledged (sides_of past).mouse ++ due_release (sides_of past).mouse) (made (sides_of past).mouse) ((reads past).selected entered));
}

-- a poll finds nothing to answer where nothing waits
record Quiet (unread is_due_now : Bool) : Type 0 where
  closed : unread ≡ false
  none_due : is_due_now ≡ false

quiet : (unread is_due_now : Bool) (other : Given) → (if unread then Again else if is_due_now then Due else other) ≡ Nothing → Quiet unread is_due_now
quiet true is_due_now other is = absurd (cc)
quiet false true other is = absurd (cc)
quiet false false other is = record { closed = refl; none_due = refl }

module _ (sides : Sides) (law : MakesAccepted sides) (read : Reads sides) where
  all_read : ReadsAll sides
  all_read entered nothing =
      let none = quiet (is_unread sides.mouse) (is_due sides.mouse) (given_next (next_change sides.latch) (rest sides.mouse)) nothing in
      let nothings = nothing_named (is_unread sides.mouse) (is_due sides.mouse) (next_change sides.latch) (rest sides.mouse) nothing in
      let settled : acknowledged sides.mouse ≡ owed sides.mouse ++ made sides.mouse =
      sym (append-nil (acknowledged sides.mouse))
      ∙ ap (λ (reports : List Report). acknowledged sides.mouse ++ reports) (sym (waits sides.mouse false false none.closed none.none_due))
      ∙ read.selected entered
      in
      let all_given : begun sides.mouse ≡ accepted sides.latch =
      law.begun_first entered ∙ take_all (delivered sides.latch) (accepted sides.latch) (none_undelivered (accepted sides.latch) (delivered sides.latch) nothings.no_next)
      in
      front_rest (acknowledged sides.mouse) (owed sides.mouse) (made sides.mouse) settled
      ∙ sym (append-nil (made sides.mouse))
      ∙ ap (λ (shown : List Piece). made sides.mouse ++ reports_with (held_after (begun sides.mouse)) shown) (sym (pieces_left-none (rest sides.mouse) nothings.none_left))
      ∙ law.all_made entered
      ∙ ap (λ (changes : List PointerChange). reports_of changes) all_given

pub reads_all-all : (past : List Moment) → ReadsAll (sides_of past)
reads_all-all past = all_read (sides_of past) (makes past).law (reads past)

-- where the report that was made last is acknowledged, it is the one that was read last
read_case : (given : Given) (acked unread : Bool) (read last new : Report) → (unread ≡ false → read ≡ last) → (is_report given ≡ false → new ≡ last)
    → unread_after given acked unread ≡ false → (if is_report given && acked then new else read) ≡ new
read_case Again true unread read last new so_far kept is = refl
read_case Again false unread read last new so_far kept is = absurd (false≢true (sym is))
read_case Due true unread read last new so_far kept is = refl
read_case Due false unread read last new so_far kept is = absurd (false≢true (sym is))
read_case Rest true unread read last new so_far kept is = refl
read_case Rest false unread read last new so_far kept is = absurd (false≢true (sym is))
read_case (Next change) true unread read last new so_far kept is = refl
read_case (Next change) false unread read last new so_far kept is = absurd (false≢true (sym is))
read_case Nothing acked unread read last new so_far kept is = so_far is ∙ sym (kept refl)

made_kept : (given : Given) (past : List MouseEntry) → is_report given ≡ false → made_by given (begun past) (rest past) (last_made past) ≡ last_made past
made_kept Again past is = absurd (cc)
made_kept Due past is = absurd (cc)
made_kept Rest past is = absurd (cc)
made_kept (Next change) past is = absurd (cc)
made_kept Nothing past is = refl

last_read-is : (past : List MouseEntry) → is_unread past ≡ false → last_read past ≡ last_made past
last_read-is [] closed = refl
last_read-is (Entered ∷ past) closed = last_read-is past closed
last_read-is (Parted ∷ past) closed = last_read-is past closed
last_read-is (Reset ∷ past) closed = refl
last_read-is (Configured ∷ past) closed = refl
last_read-is (Restarted ∷ past) closed = last_read-is past closed
last_read-is (Requested request ∷ past) closed = last_read-is past closed
last_read-is (Polled given acked ∷ past) closed =
    read_case given acked (is_unread past) (last_read past) (last_made past) (made_by given (begun past) (rest past) (last_made past)) (last_read-is past) (made_kept given past) closed
last_read-is (PolledApart given acked ∷ past) closed =
    read_case given acked (is_unread past) (last_read past) (last_made past) (made_by given (begun past) (rest past) (last_made past)) (last_read-is past) (made_kept given past) closed

-- nothing is due where the last report has no button down
none_of : (left : Bool) (buttons : List Bool) → (left && not (has_no_key buttons)) ≡ false → (left ≡ false → buttons ≡ no_buttons) → has_no_key buttons ≡ true
none_of true buttons none up = by (has_no_key buttons) none where
  by : (b : Bool) → not b ≡ false → b ≡ true
  by true is = refl
  by false is = absurd (false≢true (sym is))
none_of false buttons none up = ap (λ (flags : List Bool). has_no_key flags) (up refl) ∙ none_down

module _ (sides : Sides) (read : Reads sides) where
  owed_read : ReadsOwed sides
  owed_read = record {
    owed_alone = λ out.
        let so_far = read.apart out in
        record {
          others = (unacknowledged sides.mouse ++ due_release sides.mouse) ++ so_far.others;
          is = so_far.is ∙ append_assoc (acknowledged sides.mouse) (unacknowledged sides.mouse ++ due_release sides.mouse) so_far.others;
        };
    ends_released = λ out nothing.
        let none = quiet (is_unread sides.mouse) (is_due sides.mouse) Nothing nothing in
        ap (λ (shown : Report). has_no_key shown.buttons) (last_read-is sides.mouse none.closed)
        ∙ none_of (was_left sides.mouse) (last_made sides.mouse).buttons none.none_due (read.all_up out);
  }

pub reads_owed-all : (past : List Moment) → ReadsOwed (sides_of past)
reads_owed-all past = owed_read (sides_of past) (reads past)
