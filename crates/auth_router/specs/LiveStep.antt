-- The exact steps of a bridge that is up.
use Rattle.std.specs.Prelude.{ℕ, ◌+◌, Bool, true, false, not, ◌&&◌, ◌||◌, ◌==◌, List, Option, Some, None, is_some, unwrap_or, option_map, if◌then◌else◌}
use Rattle.psd_base.specs.declared.setup.Setup.{Setup}
use Rattle.psd_base.specs.declared.act.Act.{Act}
use Rattle.psd_base.specs.declared.act.Act.TheVariants as act
use Rattle.psd_base.specs.declared.act.Answer.{Answer}
use Rattle.psd_base.specs.declared.act.Answer.TheVariants as answer
use Rattle.psd_base.specs.declared.console.Job.{Job}
use Rattle.psd_base.specs.declared.console.JobKind.{JobKind}
use Rattle.psd_base.specs.declared.console.JobKind.TheVariants as job
use Rattle.control_pipe.specs.Progress.{Refusing, out_answer}
use Rattle.auth_router.specs.declared.up.Up.{Up}
use Rattle.auth_router.specs.declared.endpoints.Endpoints.{Endpoints}
use Rattle.auth_router.specs.declared.live.Live.{Live}
use Rattle.auth_router.specs.declared.live.Outstanding.{Outstanding}
use Rattle.auth_router.specs.declared.live.Work.{Work}
use Rattle.auth_router.specs.declared.live.Work.TheVariants as work
use Rattle.auth_router.specs.declared.control.Forwarding.TheVariants.{Known, Asked}
use Rattle.auth_router.specs.Forwarding.{address_told, is_set_configuration, is_set_interface, is_clear_halt, is_passable}
use Rattle.auth_router.specs.Bridge.{is_in_set, is_ack, is_nak, reads}
use Rattle.auth_router.specs.ControlStep.{ControlValue, begun, is_due, is_withheld, control_in_answer, after_control_in, after_control_out, control_completes, sent_bytes, settled_control}
use Rattle.auth_router.specs.EndpointStep.{idle, restarted, restarted_at, polled_answer, after_poll, out_reply, out_sends, after_out, after_in_answer, after_out_answer}

abbrev pub no_setup : Setup
no_setup = record { kind = 0; request = 0; value = 0; index = 0; length = 0 }

abbrev pub new_control : ℕ → ControlValue
new_control maximum = record { setup = no_setup; progress = Refusing; forwarding = Known; maximum = maximum }

abbrev pub opened_live : Up → Live
opened_live up = record { up = up; address = 0; configured = false; control = new_control up.max0; endpoints = idle; jobs = 0; outstanding = None }

abbrev pub is_control_work : Work → Bool
is_control_work work.Control = true
is_control_work (work.In number) = false
is_control_work (work.Out number) = false

abbrev pub orphaned_where : Bool → Outstanding → Outstanding
orphaned_where holds outstanding = record { work = outstanding.work; orphaned = outstanding.orphaned || holds }

abbrev pub orphaned_control : Option Outstanding → Option Outstanding
orphaned_control None = None
orphaned_control (Some outstanding) = Some (orphaned_where (is_control_work outstanding.work) outstanding)

abbrev pub orphaned_endpoint : Option Outstanding → Option Outstanding
orphaned_endpoint None = None
orphaned_endpoint (Some outstanding) = Some (orphaned_where (not (is_control_work outstanding.work)) outstanding)

abbrev pub reset_live : Live → Live
reset_live live = record live {
  address = 0;
  configured = false;
  control = new_control live.control.maximum;
  endpoints = idle;
  outstanding = orphaned_control (orphaned_endpoint live.outstanding);
}

abbrev pub is_reached_live : ℕ → ℕ → ℕ → Live → Bool
is_reached_live set address number live = address == live.address && (number == 0 || (live.configured && is_in_set set number))

abbrev pub begun_live : Setup → Live → Live
begun_live setup live = record live {
  control = begun setup (is_passable live.up.value live.configured setup) live.control;
  outstanding = orphaned_control live.outstanding;
}

-- a completed request
abbrev pub endpoints_after : Setup → Endpoints → Endpoints
endpoints_after setup endpoints =
    if is_set_configuration setup then idle else
    (if is_set_interface setup then restarted endpoints else
    (if is_clear_halt setup then restarted_at setup.index endpoints else
    endpoints))

abbrev pub completed_live : Setup → Live → Live
completed_live setup live = record live {
  address = unwrap_or (address_told setup) live.address;
  configured = if is_set_configuration setup then not (setup.value == 0) else live.configured;
  endpoints = endpoints_after setup live.endpoints;
  outstanding = if is_set_configuration setup then orphaned_endpoint live.outstanding else live.outstanding;
}

abbrev pub completed_by : Option Setup → Live → Live
completed_by None live = live
completed_by (Some setup) live = completed_live setup live

-- a job is made
abbrev pub with_job : Work → Live → Live
with_job work live = record live { jobs = 1 + live.jobs; outstanding = Some (record { work = work; orphaned = false }) }

abbrev pub numbered_job : Live → Option JobKind → Option Job
numbered_job live kind = option_map (λ (k : JobKind). record { life = live.up.life; number = 1 + live.jobs; kind = k }) kind

-- whether the token can be asked for the request
abbrev pub can_ask : Live → Bool
can_ask live = not (is_some live.outstanding) && is_due live.control.forwarding

abbrev pub asked_live : Live → Live
asked_live live = if can_ask live then with_job work.Control (record live { control = record live.control { forwarding = Asked } }) else live

abbrev pub ask_job : Live → Option JobKind
ask_job live = if can_ask live then Some (job.Control live.control.setup (sent_bytes live.control.progress)) else None

-- an IN at endpoint 0
abbrev pub moved_in : Bool → Live → Live
moved_in acked live = record live { control = after_control_in acked live.control }

abbrev pub control_in_live : Bool → Live → Live
control_in_live acked live =
    if is_withheld live.control then asked_live (moved_in acked live) else completed_by (control_completes acked live.control) (moved_in acked live)

abbrev pub control_in_job : Bool → Live → Option JobKind
control_in_job acked live = if is_withheld live.control then ask_job (moved_in acked live) else None

-- an OUT at endpoint 0
abbrev pub control_out_live : Bool → List ℕ → Live → Live
control_out_live toggle packet live = record live {
  control = after_control_out toggle packet live.control;
  outstanding = if reads live.control.setup && is_ack (out_answer toggle packet live.control.progress) then orphaned_control live.outstanding else live.outstanding;
}

-- an IN at another endpoint
abbrev pub wants_packet : ℕ → Live → Bool
wants_packet number live = is_nak (polled_answer number live.endpoints) && not (is_some live.outstanding)

abbrev pub in_job_live : ℕ → Live → Option JobKind
in_job_live number live = if wants_packet number live then Some (job.In number) else None

abbrev pub in_live : ℕ → Bool → Live → Live
in_live number acked live =
    let polled : Live = record live { endpoints = after_poll number acked live.endpoints } in
    if wants_packet number live then with_job (work.In number) polled else polled

-- an OUT at another endpoint
abbrev pub sends_live : ℕ → Bool → Live → Bool
sends_live number toggle live = out_sends number toggle (is_some live.outstanding) live.endpoints

abbrev pub out_job_live : ℕ → Bool → List ℕ → Live → Option JobKind
out_job_live number toggle packet live = if sends_live number toggle live then Some (job.Out number packet) else None

abbrev pub out_live : ℕ → Bool → Live → Live
out_live number toggle live =
    let taken : Live = record live { endpoints = after_out number toggle (is_some live.outstanding) live.endpoints } in
    if sends_live number toggle live then with_job (work.Out number) taken else taken

-- the token's word
abbrev pub settled_work : Work → ℕ → List ℕ → Live → Live
settled_work work.Control status bytes live = record live { control = settled_control status bytes live.control }
settled_work (work.In number) status bytes live = record live { endpoints = after_in_answer number status bytes live.endpoints }
settled_work (work.Out number) status bytes live = record live { endpoints = after_out_answer number status live.endpoints }

abbrev pub settled_of : Outstanding → ℕ → List ℕ → Live → Live
settled_of outstanding status bytes live = if outstanding.orphaned then live else settled_work outstanding.work status bytes live

abbrev pub settled_outstanding : Option Outstanding → ℕ → ℕ → List ℕ → Live → Live
settled_outstanding None number status bytes live = live
settled_outstanding (Some outstanding) number status bytes live =
    if number == live.jobs then settled_of outstanding status bytes (record live { outstanding = None }) else live

abbrev pub settled_live : ℕ → ℕ → List ℕ → Live → Live
settled_live number status bytes live = settled_outstanding live.outstanding number status bytes live

-- an act: what it is answered, the job that it makes, and what it leaves
abbrev pub live_answer : Act → Live → Answer
live_answer act.Reset live = answer.Silent
live_answer (act.Setup address setup) live = if address == live.address then answer.Ack else answer.Silent
live_answer (act.Out address number toggle packet) live =
    if is_reached_live live.up.outs address number live
    then (if number == 0 then out_answer toggle packet live.control.progress else out_reply number toggle (is_some live.outstanding) live.endpoints)
    else answer.Silent
live_answer (act.In address number acked) live =
    if is_reached_live live.up.ins address number live
    then (if number == 0 then control_in_answer live.control else polled_answer number live.endpoints)
    else answer.Silent

abbrev pub live_job : Act → Live → Option JobKind
live_job act.Reset live = None
live_job (act.Setup address setup) live = None
live_job (act.Out address number toggle packet) live =
    if is_reached_live live.up.outs address number live
    then (if number == 0 then None else out_job_live number toggle packet live)
    else None
live_job (act.In address number acked) live =
    if is_reached_live live.up.ins address number live
    then (if number == 0 then control_in_job acked live else in_job_live number live)
    else None

abbrev pub live_after : Act → Live → Live
live_after act.Reset live = reset_live live
live_after (act.Setup address setup) live = if address == live.address then begun_live setup live else live
live_after (act.Out address number toggle packet) live =
    if is_reached_live live.up.outs address number live
    then (if number == 0 then control_out_live toggle packet live else out_live number toggle live)
    else live
live_after (act.In address number acked) live =
    if is_reached_live live.up.ins address number live
    then (if number == 0 then control_in_live acked live else in_live number acked live)
    else live

-- the same of a bridge, which may be down
abbrev pub bridge_after : Act → Option Live → Option Live
bridge_after taken None = None
bridge_after taken (Some live) = Some (live_after taken live)

abbrev pub answer_by : Act → Option Live → Answer
answer_by taken None = answer.Silent
answer_by taken (Some live) = live_answer taken live

abbrev pub job_by : Act → Option Live → Option Job
job_by taken None = None
job_by taken (Some live) = numbered_job live (live_job taken live)

abbrev pub heard_live : ℕ → ℕ → ℕ → List ℕ → Live → Live
heard_live life number status bytes live = if life == live.up.life then settled_live number status bytes live else live

abbrev pub hears : ℕ → ℕ → Live → Bool
hears life number live = life == live.up.life && is_some live.outstanding && number == live.jobs

abbrev pub bridge_heard : ℕ → ℕ → ℕ → List ℕ → Option Live → Option Live
bridge_heard life number status bytes None = None
bridge_heard life number status bytes (Some live) = Some (heard_live life number status bytes live)

abbrev pub hears_by : ℕ → ℕ → Option Live → Bool
hears_by life number None = false
hears_by life number (Some live) = hears life number live
