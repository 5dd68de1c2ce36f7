-- What a host reads of an emulated mouse in one span: from a selection, or a reset or a configuration while the port is
-- selected, or from a deselection, to the next of these.
use Rattle.std.specs.Prelude.{◌≡◌, ◌+ℤ◌, Bool, true, false, ◌&&◌, List, [], ◌∷◌, ◌++◌, map, length, drop, if◌then◌else◌}
use Rattle.input_latch.specs.declared.pointer_latch.PointerChange.{PointerChange}
use Rattle.input_latch.specs.declared.pointer_latch.PointerChange.TheVariants.{Press, Release, Motion as Moved}
use Rattle.input_latch.specs.Buttons.{no_buttons}
use Rattle.input_latch.specs.PointerHistory.{held_with, held_after}
use Rattle.emulated_mouse.specs.declared.given.Given.{Given}
use Rattle.emulated_mouse.specs.declared.given.Given.TheVariants.{Again, Due, Rest, Next, Nothing}
use Rattle.emulated_mouse.specs.declared.motion.Motion.{Motion}
use Rattle.emulated_mouse.specs.declared.motion.Piece.{Piece}
use Rattle.emulated_mouse.specs.declared.report.Report.{Report}
use Rattle.emulated_mouse.specs.Motion.{motion, still, still_piece, pieces_of, pieces_left}
use Rattle.emulated_mouse.specs.Report.{report, released}
use Rattle.emulated_mouse.specs.MouseHistory.{MouseEntry, Entered, Parted, Reset, Configured, Restarted, Requested, Polled, PolledApart, is_report, begun, motion_of, rest, last_made, is_unread, is_due, is_entered}

-- the reports of a list of changes, from these buttons on: one for each piece, with the buttons after the change
abbrev pub reports_with : List Bool → List Piece → List Report
reports_with buttons pieces = map (report buttons) pieces

unfoldable pub reports_from : List Bool → List PointerChange → List Report
reports_from buttons [] = []
reports_from buttons (change ∷ changes) =
    reports_with (held_with buttons change) (pieces_of (motion_of change)) ++ reports_from (held_with buttons change) changes

abbrev pub reports_of : List PointerChange → List Report
reports_of changes = reports_from no_buttons changes

-- the reports of the motion that was begun, as far as they aren't made
abbrev pub reports_left : List MouseEntry → List Report
reports_left past = reports_with (held_after (begun past)) (pieces_left (rest past))

-- the reports of the latch's changes that were made in the span, oldest first
abbrev pub made_more : Given → List Report → Report → List Report
made_more Again before last = before
made_more Due before last = before
made_more Rest before last = before ++ last ∷ []
made_more (Next change) before last = before ++ last ∷ []
made_more Nothing before last = before

abbrev pub made : List MouseEntry → List Report
made [] = []
made (Entered ∷ past) = []
made (Parted ∷ past) = []
made (Reset ∷ past) = []
made (Configured ∷ past) = []
made (Restarted ∷ past) = made past
made (Requested request ∷ past) = made past
made (Polled given acked ∷ past) = made_more given (made past) (last_made (Polled given acked ∷ past))
made (PolledApart given acked ∷ past) = made_more given (made past) (last_made (PolledApart given acked ∷ past))

-- the reports that were acknowledged in the span, oldest first
abbrev pub read_more : Given → Bool → List Report → Report → List Report
read_more given acked before last = if is_report given && acked then before ++ last ∷ [] else before

abbrev pub acknowledged : List MouseEntry → List Report
acknowledged [] = []
acknowledged (Entered ∷ past) = []
acknowledged (Parted ∷ past) = []
acknowledged (Reset ∷ past) = if is_entered past then [] else acknowledged past
acknowledged (Configured ∷ past) = if is_entered past then [] else acknowledged past
acknowledged (Restarted ∷ past) = acknowledged past
acknowledged (Requested request ∷ past) = acknowledged past
acknowledged (Polled given acked ∷ past) = read_more given acked (acknowledged past) (last_made (Polled given acked ∷ past))
acknowledged (PolledApart given acked ∷ past) = read_more given acked (acknowledged past) (last_made (PolledApart given acked ∷ past))

-- what is to be sent before anything new: the report that isn't acknowledged, and then the release that is due
abbrev pub unacknowledged : List MouseEntry → List Report
unacknowledged past = if is_unread past then last_made past ∷ [] else []

abbrev pub due_release : List MouseEntry → List Report
due_release past = if is_due past then released ∷ [] else []

-- the reports that the span owed when it began: none where it began with a reset or a configuration
abbrev pub owed : List MouseEntry → List Report
owed [] = []
owed (Entered ∷ past) = unacknowledged past ++ due_release past
owed (Parted ∷ past) = unacknowledged (Parted ∷ past) ++ due_release (Parted ∷ past)
owed (Reset ∷ past) = if is_entered past then [] else owed past
owed (Configured ∷ past) = if is_entered past then [] else owed past
owed (Restarted ∷ past) = owed past
owed (Requested request ∷ past) = owed past
owed (Polled given acked ∷ past) = owed past
owed (PolledApart given acked ∷ past) = owed past

-- the fresh reports: the acknowledged ones behind those that were owed
abbrev pub fresh : List MouseEntry → List Report
fresh past = drop (length (owed past)) (acknowledged past)

-- the report that was acknowledged last since the last reset or configuration, or the one with no button down
abbrev pub last_read : List MouseEntry → Report
last_read [] = released
last_read (Entered ∷ past) = last_read past
last_read (Parted ∷ past) = last_read past
last_read (Reset ∷ past) = released
last_read (Configured ∷ past) = released
last_read (Restarted ∷ past) = last_read past
last_read (Requested request ∷ past) = last_read past
last_read (Polled given acked ∷ past) = if is_report given && acked then last_made (Polled given acked ∷ past) else last_read past
last_read (PolledApart given acked ∷ past) = if is_report given && acked then last_made (PolledApart given acked ∷ past) else last_read past

-- one list begins with another
pub record BeginsWith (whole part : List Report) : Type 0 where
  pub others : List Report
  pub is : whole ≡ part ++ others

-- how far the mouse moved by a list of changes, and by a list of reports
abbrev pub plus : Motion → Motion → Motion
plus a b = motion (a.x +ℤ b.x) (a.y +ℤ b.y) (a.wheel +ℤ b.wheel)

unfoldable pub moved_by_changes : List PointerChange → Motion
moved_by_changes [] = still
moved_by_changes (change ∷ changes) = plus (motion_of change) (moved_by_changes changes)

unfoldable pub moved_by_reports : List Report → Motion
moved_by_reports [] = still
moved_by_reports (shown ∷ reports) = plus (motion shown.moved.x shown.moved.y shown.moved.wheel) (moved_by_reports reports)

abbrev pub is_of_button : PointerChange → Bool
is_of_button (Press button) = true
is_of_button (Release button) = true
is_of_button (Moved x y wheel) = false

-- the one report of a button change after others
abbrev pub button_report : List PointerChange → PointerChange → Report
button_report before change = report (held_after (before ++ change ∷ [])) still_piece
