-- What the reader of a mouse sees is what the mouse was told, moment by moment.
use Rattle.std.proofs.Common.{◌≡◌, ◌-◌, Bool, true, false, not, ◌&&◌, List, [], ◌∷◌, ◌++◌, length, Option, Some, None, refl, sym, ap, ◌∙◌, subst, length-set, if◌then◌else◌}
use Rattle.std.proofs.lemmas.Bool.{false≢true}
use Rattle.psd_base.specs.KeySet.{has_no_key}
use Rattle.input_latch.specs.Buttons.{no_buttons}
use Rattle.input_latch.specs.PointerHistory.{held_with, held_from, held_after}
use Rattle.input_latch.specs.declared.pointer_latch.PointerChange.{PointerChange}
use Rattle.input_latch.specs.declared.pointer_latch.PointerChange.TheVariants.{Press, Release, Motion as Moved}
use Rattle.emulated_mouse.specs.HostReading as host
use Rattle.emulated_mouse.specs.Motion.{is_still}
use Rattle.emulated_mouse.specs.MouseHistory.{MouseEntry, Entered, Parted, Reset, Configured, Restarted as ToggleRestarted, Requested, Polled, PolledApart, begun, rest, motion_of, last_made, made_by, was_left, toggle_of, given_next, answer_of}
use Rattle.emulated_mouse.specs.MouseHistory as history
use Rattle.emulated_mouse.specs.Report.{released, report_bytes}
use Rattle.emulated_mouse.specs.declared.given.Given.{Given}
use Rattle.emulated_mouse.specs.declared.given.Given.TheVariants.{Again, Due, Rest, Next, Nothing}
use Rattle.emulated_mouse.specs.declared.motion.Motion.{Motion}
use Rattle.emulated_mouse.specs.declared.report.Report.{Report}
use Rattle.km_port.specs.Reading.{Seen, Sent, Chosen, Left, Restarted, Dropped, mouse, last_sent, last_read, is_unread, is_due, acknowledged, owed, with_answer}
use Rattle.km_port.specs.Reports.{flags, report_in}
use Rattle.km_port.proofs.ReadBack.{report-read}

-- what a report says can be read from it, and each report that a mouse makes is such
abbrev pub IsReadable : Report → Type 0
IsReadable shown = report_in (report_bytes shown) ≡ shown

five-held : (buttons : List Bool) (changes : List PointerChange) → length buttons ≡ 5 → length (held_from buttons changes) ≡ 5
unfolding held_from
five-held buttons [] five = five
five-held buttons (change ∷ changes) five = five-held (held_with buttons change) changes (one change) where
  one : (change : PointerChange) → length (held_with buttons change) ≡ 5
  one (Press button) = length-set buttons (button - 1) true ∙ five
  one (Release button) = length-set buttons (button - 1) false ∙ five
  one (Moved x y wheel) = five

five-after : (changes : List PointerChange) → length (held_after changes) ≡ 5
unfolding no_buttons
five-after changes = five-held no_buttons changes refl

readable-released : IsReadable released
unfolding report_in flags no_buttons
readable-released = refl

readable-by : (given : Given) (changes : List PointerChange) (left : Motion) (last : Report) → IsReadable last → IsReadable (made_by given changes left last)
readable-by Again changes left last readable = readable
readable-by Due changes left last readable = readable-released
readable-by Rest changes left last readable = report-read (held_after changes) left.x left.y left.wheel (five-after changes)
readable-by (Next change) changes left last readable =
    report-read (held_after (changes ++ change ∷ [])) (motion_of change).x (motion_of change).y (motion_of change).wheel (five-after (changes ++ change ∷ []))
readable-by Nothing changes left last readable = readable

pub readable-made : (past : List MouseEntry) → IsReadable (last_made past)
readable-made [] = readable-released
readable-made (Entered ∷ past) = readable-made past
readable-made (Parted ∷ past) = readable-made past
readable-made (Reset ∷ past) = readable-released
readable-made (Configured ∷ past) = readable-released
readable-made (ToggleRestarted ∷ past) = readable-made past
readable-made (Requested request ∷ past) = readable-made past
readable-made (Polled given acked ∷ past) = readable-by given (begun past) (rest past) (last_made past) (readable-made past)
readable-made (PolledApart given acked ∷ past) = readable-by given (begun past) (rest past) (last_made past) (readable-made past)

-- what a history of the mouse comes to, as far as its reader can know
pub record Told : Type 0 where
  pub entered : Bool
  pub unread : Bool
  pub sent : Report
  pub due : Bool
  pub read : Report
  pub acknowledged : List Report
  pub owed : List Report

abbrev pub told_of : List MouseEntry → Told
told_of past = record {
  entered = history.is_entered past;
  unread = history.is_unread past;
  sent = last_made past;
  due = history.is_due past;
  read = host.last_read past;
  acknowledged = host.acknowledged past;
  owed = host.owed past;
}

-- what its reader sees, and what the mouse was told
pub record AgreesWith (selected : Bool) (seen : List (Seen Report)) (told : Told) : Type 0 where
  pub entered : told.entered ≡ selected
  pub unread : is_unread seen ≡ told.unread
  pub sent : last_sent mouse seen ≡ told.sent
  pub due : is_due mouse seen ≡ told.due
  pub read : last_read mouse seen ≡ told.read
  pub acknowledged_is : acknowledged seen ≡ told.acknowledged
  pub owed_is : owed mouse seen ≡ told.owed

abbrev pub Agrees : Bool → List (Seen Report) → List MouseEntry → Type 0
Agrees selected seen past = AgreesWith selected seen (told_of past)

-- a poll, which the mouse was told by an entry of this case
module _ (seen : List (Seen Report)) (past : List MouseEntry) (selected acked : Bool) (before : Agrees selected seen past) where
  same_due : (given : Given) → history.is_report given ≡ true → history.is_again given ≡ history.is_unread past
      → (if is_unread seen then is_due mouse seen else false) ≡ history.is_due (Polled given acked ∷ past)
  same_due Again is again = ap (λ (b : Bool). if b then is_due mouse seen else false) (before.unread ∙ sym again) ∙ before.due
  same_due Due is again = ap (λ (b : Bool). if b then is_due mouse seen else false) (before.unread ∙ sym again)
  same_due Rest is again = ap (λ (b : Bool). if b then is_due mouse seen else false) (before.unread ∙ sym again)
  same_due (Next change) is again = ap (λ (b : Bool). if b then is_due mouse seen else false) (before.unread ∙ sym again)
  same_due Nothing is again = absurd (false≢true is)

  sent_now : (given : Given) → history.is_report given ≡ true → history.is_again given ≡ history.is_unread past
      → Agrees selected (Sent (last_made (Polled given acked ∷ past)) acked ∷ seen) (Polled given acked ∷ past)
  sent_now given is again = record {
    entered = before.entered;
    unread = ap (λ (b : Bool). if b then not acked else history.is_unread past) (sym is);
    sent = refl;
    due = same_due given is again;
    read =
        ap (λ (shown : Report). if acked then last_made (Polled given acked ∷ past) else shown) before.read
        ∙ ap (λ (b : Bool). if b && acked then last_made (Polled given acked ∷ past) else host.last_read past) (sym is);
    acknowledged_is =
        ap (λ (reports : List Report). if acked then reports ++ last_made (Polled given acked ∷ past) ∷ [] else reports) before.acknowledged_is
        ∙ ap (λ (b : Bool). if b && acked then host.acknowledged past ++ last_made (Polled given acked ∷ past) ∷ [] else host.acknowledged past) (sym is);
    owed_is = before.owed_is;
  }

  read_back : (given : Given) → Agrees selected (Sent (last_made (Polled given acked ∷ past)) acked ∷ seen) (Polled given acked ∷ past)
      → Agrees selected (Sent (report_in (report_bytes (last_made (Polled given acked ∷ past)))) acked ∷ seen) (Polled given acked ∷ past)
  read_back given agrees =
      subst (λ (shown : Report). Agrees selected (Sent shown acked ∷ seen) (Polled given acked ∷ past)) (sym (readable-made (Polled given acked ∷ past))) agrees

  abbrev now : Given → Type 0
  now given = Agrees selected (with_answer mouse (answer_of given (toggle_of past) (last_made (Polled given acked ∷ past))) acked seen) (Polled given acked ∷ past)

  answered_by : (given : Given) → (history.is_report given ≡ true → history.is_again given ≡ history.is_unread past) → now given
  answered_by Again again = read_back Again (sent_now Again refl (again refl))
  answered_by Due again = read_back Due (sent_now Due refl (again refl))
  answered_by Rest again = read_back Rest (sent_now Rest refl (again refl))
  answered_by (Next change) again = read_back (Next change) (sent_now (Next change) refl (again refl))
  answered_by Nothing again = before

-- which cases send the last report again
again_at : (unread due : Bool) (later : Given) → history.is_again later ≡ false
    → history.is_report (if unread then Again else if due then Due else later) ≡ true
    → history.is_again (if unread then Again else if due then Due else later) ≡ unread
again_at true due later other is = refl
again_at false true later other is = refl
again_at false false later other is = other

next_other : (next : Option PointerChange) (left : Motion) → history.is_again (given_next next left) ≡ false
next_other None left = by (is_still left) where
  by : (b : Bool) → history.is_again (if b then Nothing else Rest) ≡ false
  by true = refl
  by false = refl
next_other (Some change) left = by (is_still left) where
  by : (b : Bool) → history.is_again (if b then Next change else Rest) ≡ false
  by true = refl
  by false = refl

module _ (seen : List (Seen Report)) (past : List MouseEntry) (acked : Bool) where
  pub answered : Agrees true seen past → (next : Option PointerChange)
      → let given = history.given_at next past in
      Agrees true (with_answer mouse (answer_of given (toggle_of past) (last_made (Polled given acked ∷ past))) acked seen) (Polled given acked ∷ past)
  answered before next =
      answered_by seen past true acked before (history.given_at next past)
      (again_at (history.is_unread past) (history.is_due past) (given_next next (rest past)) (next_other next (rest past)))

  -- while the port isn't selected the mouse is told the same by another entry
  pub answered_apart : Agrees false seen past
      → let given = history.given_apart past in
      Agrees false (with_answer mouse (answer_of given (toggle_of past) (last_made (PolledApart given acked ∷ past))) acked seen) (PolledApart given acked ∷ past)
  answered_apart before =
      answered_by seen past false acked before (history.given_apart past)
      (again_at (history.is_unread past) (history.is_due past) Nothing refl)

-- the other moments
none_due : (b : Bool) → false ≡ (b && not (has_no_key no_buttons))
unfolding no_buttons
none_due true = refl
none_due false = refl

pub agrees-new : Agrees false [] []
agrees-new = record { entered = refl; unread = refl; sent = refl; due = refl; read = refl; acknowledged_is = refl; owed_is = refl }

module _ (seen : List (Seen Report)) (past : List MouseEntry) where
  same_unacknowledged : (selected : Bool) → Agrees selected seen past
      → (if is_unread seen then last_sent mouse seen ∷ [] else []) ≡ host.unacknowledged past
  same_unacknowledged selected before =
      ap (λ (b : Bool). if b then last_sent mouse seen ∷ [] else []) before.unread
      ∙ ap (λ (shown : Report). if history.is_unread past then shown ∷ [] else []) before.sent

  pub chosen : Agrees false seen past → Agrees true (Chosen ∷ seen) (Entered ∷ past)
  chosen before = record {
    entered = refl;
    unread = before.unread;
    sent = before.sent;
    due = before.due;
    read = before.read;
    acknowledged_is = refl;
    owed_is =
        ap (λ (first : List Report). first ++ (if is_due mouse seen then released ∷ [] else [])) (same_unacknowledged false before)
        ∙ ap (λ (b : Bool). host.unacknowledged past ++ (if b then released ∷ [] else [])) before.due;
  }

  pub parted : Agrees true seen past → Agrees false (Left ∷ seen) (Parted ∷ past)
  parted before =
      let due : not (has_no_key (last_sent mouse seen).buttons) ≡ not (has_no_key (last_made past).buttons) = ap (λ (shown : Report). not (has_no_key shown.buttons)) before.sent in
      record {
        entered = refl;
        unread = before.unread;
        sent = before.sent;
        due = due;
        read = before.read;
        acknowledged_is = refl;
        owed_is =
            ap (λ (first : List Report). first ++ (if not (has_no_key (last_sent mouse seen).buttons) then released ∷ [] else [])) (same_unacknowledged true before)
            ∙ ap (λ (b : Bool). host.unacknowledged past ++ (if b then released ∷ [] else [])) due;
      }

  pub restarted : Agrees true seen past → Agrees true (Restarted ∷ seen) (Configured ∷ past)
  restarted before = record {
    entered = before.entered;
    unread = refl;
    sent = refl;
    due = none_due (was_left past);
    read = refl;
    acknowledged_is = ap (λ (b : Bool). if b then [] else host.acknowledged past) (sym before.entered);
    owed_is = ap (λ (b : Bool). if b then [] else host.owed past) (sym before.entered);
  }

  pub dropped : Agrees false seen past → Agrees false (Dropped ∷ seen) (Configured ∷ past)
  dropped before = record {
    entered = before.entered;
    unread = refl;
    sent = refl;
    due = none_due (was_left past);
    read = refl;
    acknowledged_is = before.acknowledged_is ∙ ap (λ (b : Bool). if b then [] else host.acknowledged past) (sym before.entered);
    owed_is = before.owed_is ∙ ap (λ (b : Bool). if b then [] else host.owed past) (sym before.entered);
  }
