-- What the calls on an emulated keyboard come to: the reports that it made, and what each poll is answered.
use Rattle.std.specs.Prelude.{ℕ, ◌+◌, ◌*◌, ◌%◌, nat_le, nat_lt, Bool, true, false, not, ◌&&◌, List, [], ◌∷◌, ◌++◌, Option, Some, None, if◌then◌else◌}
use Rattle.psd_base.specs.KeySet.{no_keys, has_no_key}
use Rattle.psd_base.specs.declared.act.Answer.{Answer}
use Rattle.psd_base.specs.declared.act.Answer.TheVariants.{Nak, Data}
use Rattle.control_pipe.specs.declared.hid_request.HidRequest.{HidRequest}
use Rattle.control_pipe.specs.declared.hid_request.HidRequest.TheVariants.{GetInput, GetOutput, SetOutput, SetIdle}
use Rattle.control_pipe.specs.declared.hid_settings.HidSettings.{HidSettings}
use Rattle.control_pipe.specs.HidSettings.{reset_settings, settings_after, settings_answer}
use Rattle.input_latch.specs.declared.key_latch.KeyChange.{KeyChange}
use Rattle.input_latch.specs.KeyHistory.{held_after}
use Rattle.emulated_keyboard.specs.declared.given.Given.{Given}
use Rattle.emulated_keyboard.specs.declared.given.Given.TheVariants.{Again, Due, Next, Repeated, Nothing}
use Rattle.emulated_keyboard.specs.Report.{key_report}
use Rattle.emulated_keyboard.specs.declared.keyboard.TheConstants.{IDLE_RATE, LAMPS}

-- What happened to the keyboard, newest first: its port was selected at a tick or was left, its bus was reset at a
-- tick, it was configured, its toggle was restarted, a class request was
-- completed at a tick with the bytes that the host sent, or it was polled, at a tick while
-- the port is selected, by a case, and acknowledged or not.
pub data KeyboardEntry : Type 0 where
  Entered : ℕ → KeyboardEntry
  Parted : KeyboardEntry
  Reset : ℕ → KeyboardEntry
  Configured : KeyboardEntry
  Restarted : KeyboardEntry
  Requested : ℕ → HidRequest → List ℕ → KeyboardEntry
  Polled : ℕ → Given → Bool → KeyboardEntry
  PolledApart : Given → Bool → KeyboardEntry

-- whether a case answers with a report
abbrev pub is_report : Given → Bool
is_report Again = true
is_report Due = true
is_report (Next change) = true
is_report Repeated = true
is_report Nothing = false

abbrev pub is_again : Given → Bool
is_again Again = true
is_again Due = false
is_again (Next change) = false
is_again Repeated = false
is_again Nothing = false

-- the changes that were shown since the last selection, reset or configuration, oldest first
abbrev pub shown_by : Given → List KeyChange → List KeyChange
shown_by Again changes = changes
shown_by Due changes = changes
shown_by (Next change) changes = changes ++ change ∷ []
shown_by Repeated changes = changes
shown_by Nothing changes = changes

abbrev pub shown : List KeyboardEntry → List KeyChange
shown [] = []
shown (Entered tick ∷ past) = []
shown (Parted ∷ past) = shown past
shown (Reset tick ∷ past) = []
shown (Configured ∷ past) = []
shown (Restarted ∷ past) = shown past
shown (Requested tick request bytes ∷ past) = shown past
shown (Polled tick given acked ∷ past) = shown_by given (shown past)
shown (PolledApart given acked ∷ past) = shown_by given (shown past)

-- the keys of the report that was made last since the last reset or configuration
abbrev pub made_by : Given → List KeyChange → List Bool → List Bool
made_by Again changes keys = keys
made_by Due changes keys = no_keys
made_by (Next change) changes keys = held_after (changes ++ change ∷ [])
made_by Repeated changes keys = keys
made_by Nothing changes keys = keys

abbrev pub last_made : List KeyboardEntry → List Bool
last_made [] = no_keys
last_made (Entered tick ∷ past) = last_made past
last_made (Parted ∷ past) = last_made past
last_made (Reset tick ∷ past) = no_keys
last_made (Configured ∷ past) = no_keys
last_made (Restarted ∷ past) = last_made past
last_made (Requested tick request bytes ∷ past) = last_made past
last_made (Polled tick given acked ∷ past) = made_by given (shown past) (last_made past)
last_made (PolledApart given acked ∷ past) = made_by given (shown past) (last_made past)

-- whether the host hasn't acknowledged the report that was made last
abbrev pub unread_after : Given → Bool → Bool → Bool
unread_after given acked before = if is_report given then not acked else before

abbrev pub is_unread : List KeyboardEntry → Bool
is_unread [] = false
is_unread (Entered tick ∷ past) = is_unread past
is_unread (Parted ∷ past) = is_unread past
is_unread (Reset tick ∷ past) = false
is_unread (Configured ∷ past) = false
is_unread (Restarted ∷ past) = is_unread past
is_unread (Requested tick request bytes ∷ past) = is_unread past
is_unread (Polled tick given acked ∷ past) = unread_after given acked (is_unread past)
is_unread (PolledApart given acked ∷ past) = unread_after given acked (is_unread past)

-- whether the port was left since the last report was made
abbrev pub left_after : Given → Bool → Bool
left_after Again before = before
left_after Due before = false
left_after (Next change) before = false
left_after Repeated before = false
left_after Nothing before = before

abbrev pub was_left : List KeyboardEntry → Bool
was_left [] = false
was_left (Entered tick ∷ past) = was_left past
was_left (Parted ∷ past) = true
was_left (Reset tick ∷ past) = was_left past
was_left (Configured ∷ past) = was_left past
was_left (Restarted ∷ past) = was_left past
was_left (Requested tick request bytes ∷ past) = was_left past
was_left (Polled tick given acked ∷ past) = left_after given (was_left past)
was_left (PolledApart given acked ∷ past) = left_after given (was_left past)

-- A release is due where the last made report has something pressed, and the port was left since.
abbrev pub is_due : List KeyboardEntry → Bool
is_due past = was_left past && not (has_no_key (last_made past))

-- the toggle, as the parity of the acknowledged reports since it was restarted; true is DATA1
abbrev pub toggled : Given → Bool → Bool → Bool
toggled given acked toggle = if is_report given && acked then not toggle else toggle

abbrev pub toggle_of : List KeyboardEntry → Bool
toggle_of [] = false
toggle_of (Entered tick ∷ past) = toggle_of past
toggle_of (Parted ∷ past) = toggle_of past
toggle_of (Reset tick ∷ past) = false
toggle_of (Configured ∷ past) = false
toggle_of (Restarted ∷ past) = false
toggle_of (Requested tick request bytes ∷ past) = toggle_of past
toggle_of (Polled tick given acked ∷ past) = toggled given acked (toggle_of past)
toggle_of (PolledApart given acked ∷ past) = toggled given acked (toggle_of past)

-- the idle rate and the protocol: what was set since the last reset
abbrev pub settings : List KeyboardEntry → HidSettings
settings [] = reset_settings IDLE_RATE
settings (Entered tick ∷ past) = settings past
settings (Parted ∷ past) = settings past
settings (Reset tick ∷ past) = reset_settings IDLE_RATE
settings (Configured ∷ past) = settings past
settings (Restarted ∷ past) = settings past
settings (Requested tick request bytes ∷ past) = settings_after request (settings past)
settings (Polled tick given acked ∷ past) = settings past
settings (PolledApart given acked ∷ past) = settings past

abbrev pub idle_rate : List KeyboardEntry → ℕ
idle_rate past = (settings past).idle_rate

-- the lamps: bits 0 to 4 of the last output report since the last reset
abbrev pub lamps_in : List ℕ → ℕ → ℕ
lamps_in [] before = before
lamps_in (byte ∷ bytes) before = byte % LAMPS

abbrev pub lamps_after : HidRequest → List ℕ → ℕ → ℕ
lamps_after SetOutput bytes before = lamps_in bytes before
lamps_after _ bytes before = before

abbrev pub lamps : List KeyboardEntry → ℕ
lamps [] = 0
lamps (Entered tick ∷ past) = lamps past
lamps (Parted ∷ past) = lamps past
lamps (Reset tick ∷ past) = 0
lamps (Configured ∷ past) = lamps past
lamps (Restarted ∷ past) = lamps past
lamps (Requested tick request bytes ∷ past) = lamps_after request bytes (lamps past)
lamps (Polled tick given acked ∷ past) = lamps past
lamps (PolledApart given acked ∷ past) = lamps past

-- the tick from which the idle rate counts: the latest of the selection, the last reset, the last setting of the rate, and
-- the last acknowledged report
abbrev pub since_after : HidRequest → ℕ → ℕ → ℕ
since_after (SetIdle rate) tick before = tick
since_after _ tick before = before

abbrev pub idle_since : List KeyboardEntry → ℕ
idle_since [] = 0
idle_since (Entered tick ∷ past) = tick
idle_since (Parted ∷ past) = idle_since past
idle_since (Reset tick ∷ past) = tick
idle_since (Configured ∷ past) = idle_since past
idle_since (Restarted ∷ past) = idle_since past
idle_since (Requested tick request bytes ∷ past) = since_after request tick (idle_since past)
idle_since (Polled tick given acked ∷ past) = if is_report given && acked then tick else idle_since past
idle_since (PolledApart given acked ∷ past) = idle_since past

abbrev pub is_time : ℕ → ℕ → ℕ → Bool
is_time rate since tick = nat_lt 0 rate && nat_le (since + 4 * rate) tick

abbrev pub is_idle : ℕ → List KeyboardEntry → Bool
is_idle tick past = is_time (idle_rate past) (idle_since past) tick

-- whether the port is selected
abbrev pub is_entered : List KeyboardEntry → Bool
is_entered [] = false
is_entered (Entered tick ∷ past) = true
is_entered (Parted ∷ past) = false
is_entered (Reset tick ∷ past) = is_entered past
is_entered (Configured ∷ past) = is_entered past
is_entered (Restarted ∷ past) = is_entered past
is_entered (Requested tick request bytes ∷ past) = is_entered past
is_entered (Polled tick given acked ∷ past) = is_entered past
is_entered (PolledApart given acked ∷ past) = is_entered past

-- The case of a poll, the first that applies: while the port isn't selected the first two, and while it is all, with
-- the next change of the latch.
abbrev pub given_apart : List KeyboardEntry → Given
given_apart past = if is_unread past then Again else if is_due past then Due else Nothing

abbrev pub given_next : Option KeyChange → ℕ → List KeyboardEntry → Given
given_next None tick past = if is_idle tick past then Repeated else Nothing
given_next (Some change) tick past = Next change

abbrev pub given_at : Option KeyChange → ℕ → List KeyboardEntry → Given
given_at next tick past = if is_unread past then Again else if is_due past then Due else given_next next tick past

-- what a poll of this case is answered, by the keys of the report that stands after it
abbrev pub answer_of : Given → Bool → List Bool → Answer
answer_of given toggle keys = if is_report given then Data toggle (key_report keys) else Nak

-- what a class request that reads is answered, by the last made report, the lamps and the settings
abbrev pub request_answer : HidRequest → List Bool → ℕ → HidSettings → Option (List ℕ)
request_answer GetInput keys lit set = Some (key_report keys)
request_answer GetOutput keys lit set = Some (lit ∷ [])
request_answer request keys lit set = settings_answer request set

abbrev pub read_answer : HidRequest → List KeyboardEntry → Option (List ℕ)
read_answer request past = request_answer request (last_made past) (lamps past) (settings past)
