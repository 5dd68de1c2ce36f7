-- What a bridge stands for: what happened since it was brought up, newest first.
use Rattle.std.specs.Prelude.{◌≡◌, ℕ, ◌<◌, Bool, true, false, not, ◌&&◌, List, [], ◌∷◌, length, Option, Some, None, slice_index_or, if◌then◌else◌}
use Rattle.psd_base.specs.declared.setup.Setup.{Setup}
use Rattle.psd_base.specs.declared.act.Act.{Act}
use Rattle.psd_base.specs.declared.act.Act.TheVariants as act
use Rattle.psd_base.specs.declared.console.JobKind.{JobKind}
use Rattle.psd_base.specs.declared.console.JobKind.TheVariants as job
use Rattle.control_pipe.specs.Progress.{DoneOut}
use Rattle.control_pipe.specs.PipeStands.{progress_of}
use Rattle.auth_router.specs.declared.up.Up.{Up}
use Rattle.auth_router.specs.Endpoint as endpoint
use Rattle.auth_router.specs.declared.endpoints.Endpoints.{Endpoints}
use Rattle.auth_router.specs.declared.endpoints.TheConstants.{ENDPOINTS}
use Rattle.auth_router.specs.declared.control.Forwarding.{Forwarding}
use Rattle.auth_router.specs.declared.control.Forwarding.TheVariants.{Known, Due, Asked}
use Rattle.auth_router.specs.declared.live.Live.{Live}
use Rattle.auth_router.specs.declared.live.Outstanding.{Outstanding}
use Rattle.auth_router.specs.declared.live.Work.{Work}
use Rattle.auth_router.specs.declared.live.Work.TheVariants as work
use Rattle.auth_router.specs.Entries.{Request, Entry}
use Rattle.auth_router.specs.Bridge.{BridgePast, IsDown, IsUp, history_of, address_after, is_configured_after, last_request, is_waiting, is_job_made, last_transfer, transfer_acts, reads, is_halted_after, toggle_after, held_after, job_count, last_job, is_outstanding, is_orphaned}
use Rattle.auth_router.specs.ControlStep.{ControlValue}
use Rattle.auth_router.specs.LiveStep.{no_setup, is_control_work}

-- the last request's setup
abbrev pub setup_of_request : Option Request → Setup
setup_of_request None = no_setup
setup_of_request (Some request) = request.setup

abbrev pub setup_after : List Entry → Setup
setup_after past = setup_of_request (last_request past)

-- what the last transfer waits for
abbrev pub forwarding_of : Bool → Bool → Forwarding
forwarding_of waiting made = if waiting then (if made then Asked else Due) else Known

abbrev pub forwarding_after : List Entry → Forwarding
forwarding_after past = forwarding_of (is_waiting past) (is_job_made past)

-- While a transfer to the host waits for the token, its first act that isn't to come again is an OUT.
abbrev pub is_out_act : Act → Bool
is_out_act act.Reset = false
is_out_act (act.Setup address setup) = false
is_out_act (act.Out address endpoint toggle bytes) = true
is_out_act (act.In address endpoint acked) = false

abbrev pub begins_with_out : List Act → Bool
begins_with_out [] = true
begins_with_out (taken ∷ []) = is_out_act taken
begins_with_out (taken ∷ (before ∷ acts)) = begins_with_out (before ∷ acts)

pub record ControlStands (control : ControlValue) (maximum : ℕ) (past : List Entry) : Type 0 where
  pub setup_is : control.setup ≡ setup_after past
  pub progress_is : control.progress ≡ progress_of (last_transfer maximum past)
  pub forwarding_is : control.forwarding ≡ forwarding_after past
  pub maximum_is : control.maximum ≡ maximum
  pub early : is_waiting past ≡ true → reads (setup_after past) ≡ true → begins_with_out (transfer_acts past) ≡ true

-- each endpoint by its number
pub record EndpointsStand (endpoints : Endpoints) (past : List Entry) : Type 0 where
  pub in_halts : (number : ℕ) → number < ENDPOINTS → slice_index_or endpoints.in_halts number false ≡ is_halted_after (endpoint.In number) past
  pub out_halts : (number : ℕ) → number < ENDPOINTS → slice_index_or endpoints.out_halts number false ≡ is_halted_after (endpoint.Out number) past
  pub in_toggles : (number : ℕ) → 0 < number → number < ENDPOINTS → slice_index_or endpoints.in_toggles number false ≡ toggle_after (endpoint.In number) past
  pub out_toggles : (number : ℕ) → number < ENDPOINTS → slice_index_or endpoints.out_toggles number false ≡ toggle_after (endpoint.Out number) past
  pub held : (number : ℕ) → 0 < number → number < ENDPOINTS → slice_index_or endpoints.held number None ≡ held_after number past

pub record AreWhole (endpoints : Endpoints) : Type 0 where
  pub in_halts : length endpoints.in_halts ≡ ENDPOINTS
  pub out_halts : length endpoints.out_halts ≡ ENDPOINTS
  pub in_toggles : length endpoints.in_toggles ≡ ENDPOINTS
  pub out_toggles : length endpoints.out_toggles ≡ ENDPOINTS
  pub held : length endpoints.held ≡ ENDPOINTS

-- the outstanding job
abbrev pub work_of : JobKind → Work
work_of (job.Control setup bytes) = work.Control
work_of (job.In number) = work.In number
work_of (job.Out number bytes) = work.Out number

abbrev pub outstanding_with : Option JobKind → Bool → Option Outstanding
outstanding_with None orphaned = None
outstanding_with (Some kind) orphaned = Some (record { work = work_of kind; orphaned = orphaned })

abbrev pub outstanding_after : List Entry → Option Outstanding
outstanding_after past = if is_outstanding past then outstanding_with (last_job past) (is_orphaned past) else None

-- whether the outstanding job is the last request's, and its answer is wanted
abbrev pub is_wanted : Option Outstanding → Bool
is_wanted None = false
is_wanted (Some outstanding) = is_control_work outstanding.work && not outstanding.orphaned

pub record LiveStands (live : Live) (up : Up) (past : List Entry) : Type 0 where
  pub size : 0 < up.max0
  pub up_is : live.up ≡ up
  pub address_is : live.address ≡ address_after past
  pub configured_is : live.configured ≡ is_configured_after past
  pub control : ControlStands live.control up.max0 past
  pub endpoints : EndpointsStand live.endpoints past
  pub whole : AreWhole live.endpoints
  pub jobs_is : live.jobs ≡ job_count past
  pub outstanding_is : live.outstanding ≡ outstanding_after past
  -- an answer is wanted for a transfer that waits for it, and hasn't ended
  pub asks : is_wanted live.outstanding ≡ true → live.control.forwarding ≡ Asked
  pub ended : is_wanted live.outstanding ≡ true → live.control.progress ≡ DoneOut → ⊥

abbrev pub BridgeStands : Option Live → BridgePast → Type 0
BridgeStands None IsDown = Unit {0}
BridgeStands (Some live) (IsUp up items) = LiveStands live up (history_of up items)
BridgeStands None (IsUp up items) = ⊥
BridgeStands (Some live) IsDown = ⊥

-- how many jobs a bridge has made
abbrev pub jobs_of : Option Live → ℕ
jobs_of None = 0
jobs_of (Some live) = live.jobs
