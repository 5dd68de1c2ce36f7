-- What a contract sees of a control pipe, and which histories that stands for.
use Rattle.std.specs.Prelude.{◌≡◌, ℕ, Bool, true, false, ◌&&◌, ◌==◌, nat_lt, List, Option, Some, None, is_some, if◌then◌else◌}
use Rattle.psd_base.specs.History.{number_of}
use Rattle.psd_base.specs.declared.setup.Setup.{Setup}
use Rattle.control_pipe.specs.declared.registers.Registers.{Registers}
use Rattle.control_pipe.specs.Transfer.{Transfer, Form, Reading, Writing, NoData, form_of, all_fit, cut_data, packet_count, is_acked_in, is_out, is_open, received, expected_toggle}
use Rattle.control_pipe.specs.Progress.{Progress, Refusing, DataIn, StatusOut, DoneOut, DataOut, StatusIn}
use Rattle.control_pipe.specs.Control.{ControlAct, session_of, registers_after_acts}

-- a pipe as plain data: the device's function, its registers, and how far the last transfer is
pub record PipeValue (D : Type 0) : Type 0 where
  pub function : D
  pub registers : Registers
  pub progress : Progress

-- how far a transfer is, of which each act fitted: whether no status stage came, and packets are left; or whether the
-- status stage is still to come
abbrev pub reading_progress : Bool → Bool → List ℕ → ℕ → ℕ → ℕ → Progress
reading_progress true true bytes maximum count sent = DataIn bytes maximum count sent
reading_progress true false bytes maximum count sent = StatusOut
reading_progress false left bytes maximum count sent = DoneOut

abbrev pub writing_progress : Bool → Setup → List ℕ → Bool → Progress
writing_progress true setup bytes next = DataOut setup bytes next
writing_progress false setup bytes next = Refusing

abbrev pub status_progress : Bool → Setup → Progress
status_progress true setup = StatusIn setup
status_progress false setup = Refusing

abbrev pub progress_of_form : Form → Transfer → Progress
progress_of_form Reading transfer =
    reading_progress (number_of is_out transfer.acts == 0)
    (nat_lt (number_of is_acked_in transfer.acts) (packet_count transfer))
    (cut_data transfer) transfer.maximum (packet_count transfer) (number_of is_acked_in transfer.acts)
progress_of_form Writing transfer =
    writing_progress (is_open transfer.acts) transfer.setup (received transfer.acts)
    (expected_toggle transfer.acts)
progress_of_form NoData transfer = status_progress (is_open transfer.acts) transfer.setup

-- how far a transfer is after its acts
abbrev pub progress_of : Option Transfer → Progress
progress_of None = Refusing
progress_of (Some transfer) =
    if is_some transfer.due && all_fit transfer transfer.acts
    then progress_of_form (form_of transfer.setup) transfer else
    Refusing

-- registers and progress stand for a history of acts, newest first, where they are what the history tells
pub record ControlStands (registers : Registers) (progress : Progress) (past : List ControlAct) : Type 0 where
  pub registers_are : registers ≡ registers_after_acts past
  pub progress_is : progress ≡ progress_of (session_of past).transfer

-- a pipe stands for a history whatever its function is, which may be changed from outside
abbrev pub PipeStands : {D : Type 0} → PipeValue D → List ControlAct → Type 0
PipeStands pipe past = ControlStands pipe.registers pipe.progress past
