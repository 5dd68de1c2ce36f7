-- How the fields of a transfer tell its progress, and what they keep.
use Rattle.std.specs.Prelude.{◌≡◌, ℕ, ◌+◌, ◌*◌, ◌<◌, ◌≤◌, List, [], length}
use Rattle.psd_base.specs.declared.setup.Setup.{Setup}
use Rattle.control_pipe.specs.declared.transfer.Stage.{Stage}
use Rattle.control_pipe.specs.declared.transfer.Stage.TheVariants as stage
use Rattle.control_pipe.specs.Progress.{Progress, Refusing, DataIn, StatusOut, DoneOut, DataOut, StatusIn}

-- how far a transfer of this maximum packet size is that has these fields
abbrev pub progress_in : ℕ → Stage → Setup → List ℕ → Progress
progress_in maximum stage.Refusing setup bytes = Refusing
progress_in maximum (stage.DataIn sent count) setup bytes = DataIn bytes maximum count sent
progress_in maximum stage.StatusOut setup bytes = StatusOut
progress_in maximum stage.DoneOut setup bytes = DoneOut
progress_in maximum (stage.DataOut toggle) setup bytes = DataOut setup bytes toggle
progress_in maximum stage.StatusIn setup bytes = StatusIn setup

-- each packet lies within the data; what comes from the host fits so many bytes
abbrev pub IsSound : ℕ → ℕ → Stage → Setup → List ℕ → Type 0
IsSound maximum room stage.Refusing setup bytes = Unit {0}
IsSound maximum room (stage.DataIn sent count) setup bytes =
    (sent < count) × (count * maximum ≤ length bytes + maximum)
IsSound maximum room stage.StatusOut setup bytes = Unit {0}
IsSound maximum room stage.DoneOut setup bytes = Unit {0}
IsSound maximum room (stage.DataOut toggle) setup bytes =
    (setup.length ≤ room) × (length bytes ≤ setup.length)
IsSound maximum room stage.StatusIn setup bytes = (setup.length ≡ 0) × (bytes ≡ [])
