-- How far the bridge's transfer at endpoint 0 is, and the exact step at each transaction.
use Rattle.std.specs.Prelude.{ℕ, ◌+◌, ◌*◌, ◌<◌, ◌≤◌, Bool, true, false, not, ◌&&◌, ◌==◌, List, [], length, take, Option, None, option_map, if◌then◌else◌}
use Rattle.psd_base.specs.declared.setup.Setup.{Setup}
use Rattle.psd_base.specs.declared.act.Answer.{Answer}
use Rattle.psd_base.specs.declared.packet.TheConstants.{PACKET_SIZE, BLOCK_SIZE}
use Rattle.control_pipe.specs.Requests.{when}
use Rattle.control_pipe.specs.Transfer.{Form, Reading, Writing, NoData}
use Rattle.control_pipe.specs.Progress.{Progress, Refusing, DataIn, StatusOut, DoneOut, DataOut, StatusIn, first_stage, begun_progress, in_answer, after_in, after_out, completion}
use Rattle.auth_router.specs.declared.control.Stage.{Stage}
use Rattle.auth_router.specs.declared.control.Stage.TheVariants as stage
use Rattle.auth_router.specs.declared.control.Forwarding.{Forwarding}
use Rattle.auth_router.specs.declared.control.Forwarding.TheVariants.{Known, Due, Asked}
use Rattle.auth_router.specs.Forwarding.{is_set_address}
use Rattle.auth_router.specs.Bridge.{is_data, withheld}

-- the transfer as plain data
pub record ControlValue : Type 0 where
  pub setup : Setup
  pub progress : Progress
  pub forwarding : Forwarding
  pub maximum : ℕ

abbrev pub progress_in : Stage → Setup → List ℕ → ℕ → Progress
progress_in stage.Refusing setup bytes maximum = Refusing
progress_in (stage.DataIn sent count) setup bytes maximum = DataIn bytes maximum count sent
progress_in stage.StatusOut setup bytes maximum = StatusOut
progress_in stage.DoneOut setup bytes maximum = DoneOut
progress_in (stage.DataOut toggle) setup bytes maximum = DataOut setup bytes toggle
progress_in stage.StatusIn setup bytes maximum = StatusIn setup

-- each packet lies within the data; what comes from the host fits what it announced
abbrev pub IsSoundAt : Stage → Setup → List ℕ → ℕ → Type 0
IsSoundAt stage.Refusing setup bytes maximum = Unit {0}
IsSoundAt (stage.DataIn sent count) setup bytes maximum = (sent < count) × (count * maximum ≤ length bytes + maximum) × (0 < setup.length) × (setup.length ≤ BLOCK_SIZE)
IsSoundAt stage.StatusOut setup bytes maximum = Unit {0}
IsSoundAt stage.DoneOut setup bytes maximum = Unit {0}
IsSoundAt (stage.DataOut toggle) setup bytes maximum = (setup.length ≤ BLOCK_SIZE) × (length bytes ≤ setup.length)
IsSoundAt stage.StatusIn setup bytes maximum = Unit {0}

pub record IsSound (stage : Stage) (setup : Setup) (bytes : List ℕ) (maximum : ℕ) : Type 0 where
  pub some : 0 < maximum
  pub fits : maximum ≤ PACKET_SIZE
  pub sound : IsSoundAt stage setup bytes maximum

abbrev pub waits : Forwarding → Bool
waits Known = false
waits Due = true
waits Asked = true

abbrev pub is_due : Forwarding → Bool
is_due Known = false
is_due Due = true
is_due Asked = false

-- A request was taken, of which no data are known yet: data to the host begin with one packet, which is withheld.
abbrev pub stage_for : Form → Stage
stage_for Reading = stage.DataIn 0 1
stage_for Writing = stage.DataOut true
stage_for NoData = stage.StatusIn

abbrev pub forwarding_for : Setup → Bool → Forwarding
forwarding_for setup passes = if passes && not (is_set_address setup) then Due else Known

abbrev pub begun : Setup → Bool → ControlValue → ControlValue
begun setup passes control = record {
  setup = setup;
  progress = begun_progress control.maximum setup (when passes []);
  forwarding = forwarding_for setup passes;
  maximum = control.maximum;
}

-- an IN
abbrev pub is_withheld : ControlValue → Bool
is_withheld control = waits control.forwarding && is_data (in_answer control.progress)

abbrev pub control_in_answer : ControlValue → Answer
control_in_answer control = withheld (waits control.forwarding) (in_answer control.progress)

abbrev pub after_control_in : Bool → ControlValue → ControlValue
after_control_in acked control = if is_withheld control then control else record control { progress = after_in acked control.progress }

-- an OUT
abbrev pub after_control_out : Bool → List ℕ → ControlValue → ControlValue
after_control_out toggle packet control = record control { progress = after_out toggle packet control.progress }

-- the token's answer
abbrev pub answered : Setup → ℕ → List ℕ → Progress → Progress
answered setup maximum bytes Refusing = Refusing
answered setup maximum bytes (DataIn old size count sent) = first_stage maximum Reading setup (take setup.length bytes)
answered setup maximum bytes StatusOut = StatusOut
answered setup maximum bytes DoneOut = DoneOut
answered setup maximum bytes (DataOut kept old next) = DataOut kept old next
answered setup maximum bytes (StatusIn kept) = StatusIn kept

abbrev pub settled_control : ℕ → List ℕ → ControlValue → ControlValue
settled_control status bytes control = record control {
  progress = if status == 0 then answered control.setup control.maximum bytes control.progress else Refusing;
  forwarding = Known;
}

-- the setup of the request that an acknowledged IN completes
abbrev pub completed_setup : Progress → Option Setup
completed_setup progress = option_map (λ (done : Setup × List ℕ). done.0) (completion progress)

abbrev pub control_completes : Bool → ControlValue → Option Setup
control_completes acked control = if acked && not (waits control.forwarding) then completed_setup control.progress else None

-- the bytes that the host sent
abbrev pub sent_bytes : Progress → List ℕ
sent_bytes Refusing = []
sent_bytes (DataIn bytes maximum count sent) = []
sent_bytes StatusOut = []
sent_bytes DoneOut = []
sent_bytes (DataOut setup bytes next) = bytes
sent_bytes (StatusIn setup) = []
