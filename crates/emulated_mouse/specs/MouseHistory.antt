-- What the calls on an emulated mouse come to: the changes that were begun, the report that was made last, whether it is
-- acknowledged, what is left of a motion, what is due, and the toggle.
use Rattle.std.specs.Prelude.{ℕ, Bool, true, false, not, ◌&&◌, List, [], ◌∷◌, ◌++◌, Option, Some, None, if◌then◌else◌}
use Rattle.psd_base.specs.KeySet.{has_no_key}
use Rattle.psd_base.specs.declared.act.Answer.{Answer}
use Rattle.psd_base.specs.declared.act.Answer.TheVariants.{Nak, Data}
use Rattle.control_pipe.specs.declared.hid_request.HidRequest.{HidRequest}
use Rattle.control_pipe.specs.declared.hid_request.HidRequest.TheVariants.{GetInput}
use Rattle.control_pipe.specs.declared.hid_settings.HidSettings.{HidSettings}
use Rattle.control_pipe.specs.HidSettings.{reset_settings, settings_after, settings_answer}
use Rattle.input_latch.specs.declared.pointer_latch.PointerChange.{PointerChange}
use Rattle.input_latch.specs.declared.pointer_latch.PointerChange.TheVariants.{Press, Release, Motion as Moved}
use Rattle.input_latch.specs.PointerHistory.{held_after}
use Rattle.emulated_mouse.specs.declared.given.Given.{Given}
use Rattle.emulated_mouse.specs.declared.given.Given.TheVariants.{Again, Due, Rest, Next, Nothing}
use Rattle.emulated_mouse.specs.declared.motion.Motion.{Motion}
use Rattle.emulated_mouse.specs.declared.report.Report.{Report}
use Rattle.emulated_mouse.specs.Motion.{motion, still, still_piece, is_still, piece_of, left_of}
use Rattle.emulated_mouse.specs.Report.{report, released, report_bytes}

-- What happened to the mouse, newest first: its port was selected or was left, its bus was reset, it was configured, its
-- toggle was restarted, a class request was completed, or it was polled, while the port is selected or while it isn't, by
-- a case, and acknowledged or not.
pub data MouseEntry : Type 0 where
  Entered : MouseEntry
  Parted : MouseEntry
  Reset : MouseEntry
  Configured : MouseEntry
  Restarted : MouseEntry
  Requested : HidRequest → MouseEntry
  Polled : Given → Bool → MouseEntry
  PolledApart : Given → Bool → MouseEntry

-- whether a case answers with a report
abbrev pub is_report : Given → Bool
is_report Again = true
is_report Due = true
is_report Rest = true
is_report (Next change) = true
is_report Nothing = false

abbrev pub is_again : Given → Bool
is_again Again = true
is_again Due = false
is_again Rest = false
is_again (Next change) = false
is_again Nothing = false

-- the changes that were begun since the last selection, reset or configuration, oldest first: a change is begun with its
-- first report
abbrev pub begun_by : Given → List PointerChange → List PointerChange
begun_by Again changes = changes
begun_by Due changes = changes
begun_by Rest changes = changes
begun_by (Next change) changes = changes ++ change ∷ []
begun_by Nothing changes = changes

abbrev pub begun : List MouseEntry → List PointerChange
begun [] = []
begun (Entered ∷ past) = []
begun (Parted ∷ past) = begun past
begun (Reset ∷ past) = []
begun (Configured ∷ past) = []
begun (Restarted ∷ past) = begun past
begun (Requested request ∷ past) = begun past
begun (Polled given acked ∷ past) = begun_by given (begun past)
begun (PolledApart given acked ∷ past) = begun_by given (begun past)

-- the motion of a change; that of a button is none
abbrev pub motion_of : PointerChange → Motion
motion_of (Press button) = still
motion_of (Release button) = still
motion_of (Moved x y wheel) = motion x y wheel

-- what is left of the motion that was begun last; a reset, a configuration and a deselection drop it
abbrev pub rest_by : Given → Motion → Motion
rest_by Again rest = rest
rest_by Due rest = rest
rest_by Rest rest = left_of rest
rest_by (Next change) rest = left_of (motion_of change)
rest_by Nothing rest = rest

abbrev pub rest : List MouseEntry → Motion
rest [] = still
rest (Entered ∷ past) = rest past
rest (Parted ∷ past) = still
rest (Reset ∷ past) = still
rest (Configured ∷ past) = still
rest (Restarted ∷ past) = rest past
rest (Requested request ∷ past) = rest past
rest (Polled given acked ∷ past) = rest_by given (rest past)
rest (PolledApart given acked ∷ past) = rest_by given (rest past)

-- the report that was made last since the last reset or configuration: what it shows of the buttons, the changes that
-- were begun come to
abbrev pub made_by : Given → List PointerChange → Motion → Report → Report
made_by Again changes rest last = last
made_by Due changes rest last = released
made_by Rest changes rest last = report (held_after changes) (piece_of rest)
made_by (Next change) changes rest last = report (held_after (changes ++ change ∷ [])) (piece_of (motion_of change))
made_by Nothing changes rest last = last

abbrev pub last_made : List MouseEntry → Report
last_made [] = released
last_made (Entered ∷ past) = last_made past
last_made (Parted ∷ past) = last_made past
last_made (Reset ∷ past) = released
last_made (Configured ∷ past) = released
last_made (Restarted ∷ past) = last_made past
last_made (Requested request ∷ past) = last_made past
last_made (Polled given acked ∷ past) = made_by given (begun past) (rest past) (last_made past)
last_made (PolledApart given acked ∷ past) = made_by given (begun past) (rest past) (last_made past)

-- whether the report that was made last isn't acknowledged
abbrev pub unread_after : Given → Bool → Bool → Bool
unread_after given acked before = if is_report given then not acked else before

abbrev pub is_unread : List MouseEntry → Bool
is_unread [] = false
is_unread (Entered ∷ past) = is_unread past
is_unread (Parted ∷ past) = is_unread past
is_unread (Reset ∷ past) = false
is_unread (Configured ∷ past) = false
is_unread (Restarted ∷ past) = is_unread past
is_unread (Requested request ∷ past) = is_unread past
is_unread (Polled given acked ∷ past) = unread_after given acked (is_unread past)
is_unread (PolledApart given acked ∷ past) = unread_after given acked (is_unread past)

-- whether the port was left since the last report was made
abbrev pub left_after : Given → Bool → Bool
left_after Again before = before
left_after Due before = false
left_after Rest before = false
left_after (Next change) before = false
left_after Nothing before = before

abbrev pub was_left : List MouseEntry → Bool
was_left [] = false
was_left (Entered ∷ past) = was_left past
was_left (Parted ∷ past) = true
was_left (Reset ∷ past) = was_left past
was_left (Configured ∷ past) = was_left past
was_left (Restarted ∷ past) = was_left past
was_left (Requested request ∷ past) = was_left past
was_left (Polled given acked ∷ past) = left_after given (was_left past)
was_left (PolledApart given acked ∷ past) = left_after given (was_left past)

-- A release is due where the last made report has a button down, and the port was left since.
abbrev pub is_due : List MouseEntry → Bool
is_due past = was_left past && not (has_no_key (last_made past).buttons)

-- the toggle, as the parity of the acknowledged reports since it was restarted; true is DATA1
abbrev pub toggled : Given → Bool → Bool → Bool
toggled given acked toggle = if is_report given && acked then not toggle else toggle

abbrev pub toggle_of : List MouseEntry → Bool
toggle_of [] = false
toggle_of (Entered ∷ past) = toggle_of past
toggle_of (Parted ∷ past) = toggle_of past
toggle_of (Reset ∷ past) = false
toggle_of (Configured ∷ past) = false
toggle_of (Restarted ∷ past) = false
toggle_of (Requested request ∷ past) = toggle_of past
toggle_of (Polled given acked ∷ past) = toggled given acked (toggle_of past)
toggle_of (PolledApart given acked ∷ past) = toggled given acked (toggle_of past)

-- the idle rate, which means nothing to a mouse and is 0 after a reset, and the protocol: what was set since then
abbrev pub settings : List MouseEntry → HidSettings
settings [] = reset_settings 0
settings (Entered ∷ past) = settings past
settings (Parted ∷ past) = settings past
settings (Reset ∷ past) = reset_settings 0
settings (Configured ∷ past) = settings past
settings (Restarted ∷ past) = settings past
settings (Requested request ∷ past) = settings_after request (settings past)
settings (Polled given acked ∷ past) = settings past
settings (PolledApart given acked ∷ past) = settings past

-- whether the port is selected
abbrev pub is_entered : List MouseEntry → Bool
is_entered [] = false
is_entered (Entered ∷ past) = true
is_entered (Parted ∷ past) = false
is_entered (Reset ∷ past) = is_entered past
is_entered (Configured ∷ past) = is_entered past
is_entered (Restarted ∷ past) = is_entered past
is_entered (Requested request ∷ past) = is_entered past
is_entered (Polled given acked ∷ past) = is_entered past
is_entered (PolledApart given acked ∷ past) = is_entered past

-- The case of a poll, the first that applies: while the port isn't selected the first two, and while it is all, with
-- the next change of the latch. What is left of a motion comes before that.
abbrev pub given_apart : List MouseEntry → Given
given_apart past = if is_unread past then Again else if is_due past then Due else Nothing

abbrev pub given_next : Option PointerChange → Motion → Given
given_next None rest = if is_still rest then Nothing else Rest
given_next (Some change) rest = if is_still rest then Next change else Rest

abbrev pub given_at : Option PointerChange → List MouseEntry → Given
given_at next past = if is_unread past then Again else if is_due past then Due else given_next next (rest past)

-- what a poll of this case is answered, by the report that stands after it
abbrev pub answer_of : Given → Bool → Report → Answer
answer_of given toggle made = if is_report given then Data toggle (report_bytes made) else Nak

-- what a class request that reads is answered, by the last made report and the settings: the input report shows the
-- buttons, and no motion
abbrev pub request_answer : HidRequest → Report → HidSettings → Option (List ℕ)
request_answer GetInput last set = Some (report_bytes (report last.buttons still_piece))
request_answer request last set = settings_answer request set

abbrev pub read_answer : HidRequest → List MouseEntry → Option (List ℕ)
read_answer request past = request_answer request (last_made past) (settings past)
