-- What the bridge answers, and which jobs it makes, told by what happened since it was brought up.
use Rattle.std.specs.Prelude.{ℕ, ◌+◌, ◌/◌, ◌%◌, ◌^◌, Bool, true, false, not, ◌&&◌, ◌||◌, ◌==◌, nat_lt, nat_le, List, [], ◌∷◌, length, Option, Some, None, is_some, unwrap_or, option_map, if◌then◌else◌}
use Rattle.std.specs.List.{list_any}
use Rattle.psd_base.specs.History.{since, or_else, newest, number_of}
use Rattle.psd_base.specs.declared.setup.Setup.{Setup}
use Rattle.psd_base.specs.declared.act.Act.{Act}
use Rattle.psd_base.specs.declared.act.Act.TheVariants as act
use Rattle.psd_base.specs.declared.act.Answer.{Answer}
use Rattle.psd_base.specs.declared.act.Answer.TheVariants as answer
use Rattle.psd_base.specs.declared.console.Job.{Job}
use Rattle.psd_base.specs.declared.console.JobKind.{JobKind}
use Rattle.psd_base.specs.declared.console.JobKind.TheVariants as job
use Rattle.psd_base.specs.declared.packet.TheConstants.{PACKET_SIZE}
use Rattle.control_pipe.specs.Requests.{when}
use Rattle.control_pipe.specs.Transfer.{Transfer, Form, Reading, Writing, NoData, form_of, received, same_toggle, transfer_answer, is_completed_by}
use Rattle.auth_router.specs.declared.up.Up.{Up}
use Rattle.auth_router.specs.Endpoint.{Endpoint}
use Rattle.auth_router.specs.Endpoint as endpoint
use Rattle.auth_router.specs.Entries.{BridgeItem, Acted, Done, Request, Entry}
use Rattle.auth_router.specs.Forwarding.{is_set_address, is_set_configuration, address_told, configuration_told, is_passable, restarts}

-- Words on the entries

-- what those have that have it
abbrev pub with_value : {V : Type 0} → Option V → List V → List V
with_value None values = values
with_value (Some value) values = value ∷ values

abbrev pub each_of : {E V : Type 0} → (E → Option V) → List E → List V
each_of value_of [] = []
each_of value_of (event ∷ past) = with_value (value_of event) (each_of value_of past)

-- whether an odd number pass
abbrev pub is_odd_number : {E : Type 0} → (E → Bool) → List E → Bool
is_odd_number passes [] = false
is_odd_number passes (event ∷ past) = if passes event then not (is_odd_number passes past) else is_odd_number passes past

abbrev pub is_reset_act : Act → Bool
is_reset_act act.Reset = true
is_reset_act (act.Setup address setup) = false
is_reset_act (act.Out address endpoint toggle bytes) = false
is_reset_act (act.In address endpoint acked) = false

abbrev pub is_reset_item : BridgeItem → Bool
is_reset_item (Done number status bytes) = false
is_reset_item (Acted taken) = is_reset_act taken

abbrev pub is_reset : Entry → Bool
is_reset entry = is_reset_item entry.item

-- what came since the last bus reset
abbrev pub since_reset : List Entry → List Entry
since_reset past = since is_reset past

-- The registers

-- the requests that were completed since the last bus reset
abbrev pub completed_requests : List Entry → List Setup
completed_requests past = each_of (λ entry. entry.completed) (since_reset past)

abbrev pub address_after : List Entry → ℕ
address_after past = unwrap_or (newest address_told (completed_requests past)) 0

abbrev pub is_configured_after : List Entry → Bool
is_configured_after past = not (unwrap_or (newest configuration_told (completed_requests past)) 0 == 0)

-- Jobs

abbrev pub makes_job : Entry → Bool
makes_job entry = is_some entry.job

-- how many jobs were made; they are numbered from 1
abbrev pub job_count : List Entry → ℕ
job_count past = number_of makes_job past

abbrev pub last_job : List Entry → Option JobKind
last_job past = newest (λ entry. entry.job) past

-- whether the token says that the job of this number is done
abbrev pub is_done_of : ℕ → BridgeItem → Bool
is_done_of number (Acted taken) = false
is_done_of number (Done done status bytes) = done == number

abbrev pub finishes : ℕ → Entry → Bool
finishes number entry = is_done_of number entry.item

-- whether the last job is outstanding: the token hasn't said since that it is done
abbrev pub is_outstanding : List Entry → Bool
is_outstanding past = is_some (last_job past) && not (list_any (finishes (job_count past)) (since makes_job past))

abbrev pub is_ack : Answer → Bool
is_ack answer.Ack = true
is_ack answer.Nak = false
is_ack answer.Stall = false
is_ack answer.Silent = false
is_ack (answer.Data toggle bytes) = false

abbrev pub is_nak : Answer → Bool
is_nak answer.Nak = true
is_nak answer.Ack = false
is_nak answer.Stall = false
is_nak answer.Silent = false
is_nak (answer.Data toggle bytes) = false

abbrev pub is_data : Answer → Bool
is_data (answer.Data toggle bytes) = true
is_data answer.Ack = false
is_data answer.Nak = false
is_data answer.Stall = false
is_data answer.Silent = false

abbrev pub is_reading : Form → Bool
is_reading Reading = true
is_reading Writing = false
is_reading NoData = false

abbrev pub reads : Setup → Bool
reads setup = is_reading (form_of setup)

abbrev pub reads_request : Option Request → Bool
reads_request None = false
reads_request (Some request) = reads request.setup

abbrev pub configures : Option Setup → Bool
configures None = false
configures (Some setup) = is_set_configuration setup

abbrev pub ends_configuration : Entry → Bool
ends_configuration entry = configures entry.completed

-- Whether a job is orphaned by what came after it: nothing asks for its answer any more. A control job is so at a bus reset,
-- the next setup, or an early end of the transfer; a job of another endpoint at a bus reset or SET_CONFIGURATION.
abbrev pub orphans : JobKind → Entry → Bool
orphans (job.Control setup bytes) entry = is_reset entry || is_some entry.request || entry.ends_reading
orphans (job.In number) entry = is_reset entry || ends_configuration entry
orphans (job.Out number bytes) entry = is_reset entry || ends_configuration entry

abbrev pub is_orphaned_by : Option JobKind → List Entry → Bool
is_orphaned_by None after = false
is_orphaned_by (Some kind) after = list_any (orphans kind) after

abbrev pub is_orphaned : List Entry → Bool
is_orphaned past = is_orphaned_by (last_job past) (since makes_job past)

-- whether the token's word on the job of this number is taken
abbrev pub takes : ℕ → List Entry → Bool
takes number past = is_outstanding past && number == job_count past

-- the job that an item answers
abbrev pub settled_at : List Entry → BridgeItem → Option JobKind
settled_at past (Acted taken) = None
settled_at past (Done number status bytes) = if takes number past && not (is_orphaned past) then last_job past else None

-- Endpoint 0

-- the token's answer to a job
pub record Reply : Type 0 where
  pub status : ℕ
  pub bytes : List ℕ

abbrev pub reply_of_item : BridgeItem → Option Reply
reply_of_item (Acted taken) = None
reply_of_item (Done number status bytes) = Some (record { status = status; bytes = bytes })

abbrev pub is_control_job : JobKind → Bool
is_control_job (job.Control setup bytes) = true
is_control_job (job.In number) = false
is_control_job (job.Out number bytes) = false

abbrev pub is_control : Option JobKind → Bool
is_control None = false
is_control (Some kind) = is_control_job kind

-- the last request, and what came since then
abbrev pub last_request : List Entry → Option Request
last_request past = newest (λ entry. entry.request) (since_reset past)

abbrev pub since_request : List Entry → List Entry
since_request past = since (λ entry. is_some entry.request) (since_reset past)

-- the answer to the last request's job
abbrev pub request_reply : List Entry → Option Reply
request_reply past = newest (λ entry. if is_control entry.settled then reply_of_item entry.item else None) (since_request past)

-- whether the last request's job was made
abbrev pub is_job_made : List Entry → Bool
is_job_made past = list_any (λ entry. is_control entry.job) (since_request past)

-- whether a request waits for the token: the bridge lets it pass and isn't meant itself, and there is no answer
abbrev pub waits_for : Request → Option Reply → Bool
waits_for request reply = request.supported && not (is_set_address request.setup) && not (is_some reply)

abbrev pub is_waiting_for : Option Request → Option Reply → Bool
is_waiting_for None reply = false
is_waiting_for (Some request) reply = waits_for request reply

abbrev pub is_waiting : List Entry → Bool
is_waiting past = is_waiting_for (last_request past) (request_reply past)

-- The data due for a request, and none for one that isn't supported or fails at the token. While it waits for the token no
-- data are known; whether an act fits doesn't rest on them then.
abbrev pub due_of_reply : Option Reply → Option (List ℕ)
due_of_reply None = Some []
due_of_reply (Some reply) = if reply.status == 0 then Some reply.bytes else None

abbrev pub due_of : Request → Option Reply → Option (List ℕ)
due_of request reply = if request.supported then due_of_reply reply else None

-- the acts of a transfer: an act that is answered NAK is to come again, and isn't one of them
abbrev pub is_taken : Answer → Bool
is_taken answer.Ack = true
is_taken answer.Stall = true
is_taken (answer.Data toggle bytes) = true
is_taken answer.Nak = false
is_taken answer.Silent = false

abbrev pub taken_act : Act → Answer → Option Act
taken_act act.Reset reply = None
taken_act (act.Setup address setup) reply = None
taken_act (act.Out address endpoint toggle bytes) reply = when (endpoint == 0 && is_taken reply) (act.Out address endpoint toggle bytes)
taken_act (act.In address endpoint acked) reply = when (endpoint == 0 && is_taken reply) (act.In address endpoint acked)

abbrev pub control_act : BridgeItem → Answer → Option Act
control_act (Done number status bytes) reply = None
control_act (Acted taken) reply = taken_act taken reply

abbrev pub transfer_acts : List Entry → List Act
transfer_acts past = each_of (λ entry. control_act entry.item entry.answer) (since_request past)

-- the last transfer, with this maximum packet size
abbrev pub transfer_for : ℕ → Option Reply → List Act → Request → Transfer
transfer_for maximum reply acts request = record { setup = request.setup; due = due_of request reply; maximum = maximum; acts = acts }

abbrev pub last_transfer : ℕ → List Entry → Option Transfer
last_transfer maximum past = option_map (transfer_for maximum (request_reply past) (transfer_acts past)) (last_request past)

-- what would be data is NAK while the transfer waits for the token
abbrev pub withheld : Bool → Answer → Answer
withheld false reply = reply
withheld true answer.Ack = answer.Ack
withheld true answer.Nak = answer.Nak
withheld true answer.Stall = answer.Stall
withheld true answer.Silent = answer.Silent
withheld true (answer.Data toggle bytes) = answer.Nak

abbrev pub answer_in : Bool → Option Transfer → Act → Answer
answer_in waiting None taken = answer.Stall
answer_in waiting (Some transfer) taken = withheld waiting (transfer_answer transfer taken)

-- the bytes that the host sent
abbrev pub payload_of : Form → List Act → List ℕ
payload_of Reading acts = []
payload_of Writing acts = received acts
payload_of NoData acts = []

abbrev pub payload : Transfer → List ℕ
payload transfer = payload_of (form_of transfer.setup) transfer.acts

abbrev pub control_job : Transfer → JobKind
control_job transfer = job.Control transfer.setup (payload transfer)

-- the request that an IN completes
abbrev pub completed_in : Bool → Option Transfer → Act → Option Setup
completed_in waiting None taken = None
completed_in waiting (Some transfer) taken = when (not waiting && is_completed_by transfer taken) transfer.setup

-- The other endpoints

-- whether an endpoint is one of a set, in which bit n stands for endpoint n
abbrev pub is_in_set : ℕ → ℕ → Bool
is_in_set set number = nat_lt number 16 && (set / 2 ^ number) % 2 == 1

-- what a completed request, or the token's answer to a job, makes of an endpoint's halt
abbrev pub restart_told : Endpoint → Option Setup → Option Bool
restart_told place None = None
restart_told place (Some setup) = when (restarts place setup) false

-- whether the answer to a job of an IN endpoint is a packet; status 3 says that there was none
abbrev pub is_packet : Reply → Bool
is_packet reply = reply.status == 0 && nat_le (length reply.bytes) PACKET_SIZE

abbrev pub halts_in : Reply → Bool
halts_in reply = not (is_packet reply) && not (reply.status == 3)

abbrev pub halts_out : Reply → Bool
halts_out reply = not (reply.status == 0)

abbrev pub failure_of : Endpoint → JobKind → Reply → Bool
failure_of (endpoint.In number) (job.In asked) reply = asked == number && halts_in reply
failure_of (endpoint.In number) (job.Out sent bytes) reply = false
failure_of (endpoint.In number) (job.Control setup bytes) reply = false
failure_of (endpoint.Out number) (job.Out sent bytes) reply = sent == number && halts_out reply
failure_of (endpoint.Out number) (job.In asked) reply = false
failure_of (endpoint.Out number) (job.Control setup bytes) reply = false

abbrev pub failure_told : Endpoint → Option JobKind → Option Reply → Option Bool
failure_told place None reply = None
failure_told place (Some kind) None = None
failure_told place (Some kind) (Some reply) = when (failure_of place kind reply) true

abbrev pub halt_told : Endpoint → Entry → Option Bool
halt_told place entry = or_else (restart_told place entry.completed) (failure_told place entry.settled (reply_of_item entry.item))

abbrev pub is_halted_after : Endpoint → List Entry → Bool
is_halted_after place past = unwrap_or (newest (halt_told place) (since_reset past)) false

-- whether an act's packet was acknowledged at an IN endpoint
abbrev pub is_delivered_by : ℕ → Act → Answer → Bool
is_delivered_by number act.Reset reply = false
is_delivered_by number (act.Setup address setup) reply = false
is_delivered_by number (act.Out address endpoint toggle bytes) reply = false
is_delivered_by number (act.In address endpoint acked) reply = endpoint == number && acked && is_data reply

abbrev pub is_delivery : ℕ → BridgeItem → Answer → Bool
is_delivery number (Done done status bytes) reply = false
is_delivery number (Acted taken) reply = is_delivered_by number taken reply

abbrev pub is_delivered : ℕ → Entry → Bool
is_delivered number entry = is_delivery number entry.item entry.answer

abbrev pub is_sent_to : ℕ → JobKind → Bool
is_sent_to number (job.Control setup bytes) = false
is_sent_to number (job.In asked) = false
is_sent_to number (job.Out sent bytes) = sent == number

abbrev pub is_sent : ℕ → Option JobKind → Bool
is_sent number None = false
is_sent number (Some kind) = is_sent_to number kind

-- Toggles: DATA0 first; at an IN endpoint each acknowledged packet turns it, at an OUT endpoint each job.
abbrev pub turns : Endpoint → Entry → Bool
turns (endpoint.In number) entry = is_delivered number entry
turns (endpoint.Out number) entry = is_sent number entry.job

abbrev pub begins_anew : Endpoint → Entry → Bool
begins_anew place entry = is_some (restart_told place entry.completed)

abbrev pub toggle_after : Endpoint → List Entry → Bool
toggle_after place past = is_odd_number (turns place) (since (begins_anew place) (since_reset past))

-- The packet held at an IN endpoint: the answer of its last job, unless it was acknowledged or SET_CONFIGURATION dropped it.
abbrev pub packet_of : ℕ → JobKind → Reply → Option (List ℕ)
packet_of number (job.Control setup bytes) reply = None
packet_of number (job.Out sent bytes) reply = None
packet_of number (job.In asked) reply = when (asked == number && is_packet reply) reply.bytes

abbrev pub packet_in : ℕ → Option JobKind → Option Reply → Option (List ℕ)
packet_in number None reply = None
packet_in number (Some kind) None = None
packet_in number (Some kind) (Some reply) = packet_of number kind reply

abbrev pub held_told : ℕ → Entry → Option (Option (List ℕ))
held_told number entry =
    if ends_configuration entry || is_delivered number entry then Some None else
    option_map Some (packet_in number entry.settled (reply_of_item entry.item))

abbrev pub held_after : ℕ → List Entry → Option (List ℕ)
held_after number past = unwrap_or (newest (held_told number) (since_reset past)) None

-- Answers and jobs

abbrev pub reply_with : Bool → Option (List ℕ) → Answer
reply_with toggle None = answer.Nak
reply_with toggle (Some bytes) = answer.Data toggle bytes

abbrev pub in_answer_at : ℕ → List Entry → Answer
in_answer_at number past =
    if is_halted_after (endpoint.In number) past then answer.Stall else
    reply_with (toggle_after (endpoint.In number) past) (held_after number past)

abbrev pub out_answer_at : ℕ → Bool → List Entry → Answer
out_answer_at number toggle past =
    if is_halted_after (endpoint.Out number) past then answer.Stall else
    (if same_toggle toggle (toggle_after (endpoint.Out number) past) && is_outstanding past then answer.Nak else answer.Ack)

-- whether an act reaches an endpoint: its address is the present one, and the endpoint is 0, or there and the bridge configured
abbrev pub is_reached : ℕ → ℕ → ℕ → List Entry → Bool
is_reached set address number past =
    address == address_after past && (number == 0 || (is_configured_after past && is_in_set set number))

abbrev pub answer_to : Up → List Entry → Act → Answer
answer_to up past act.Reset = answer.Silent
answer_to up past (act.Setup address setup) = if address == address_after past then answer.Ack else answer.Silent
answer_to up past (act.Out address number toggle bytes) =
    if is_reached up.outs address number past
    then (if number == 0 then answer_in (is_waiting past) (last_transfer up.max0 past) (act.Out address number toggle bytes) else out_answer_at number toggle past)
    else answer.Silent
answer_to up past (act.In address number acked) =
    if is_reached up.ins address number past
    then (if number == 0 then answer_in (is_waiting past) (last_transfer up.max0 past) (act.In address number acked) else in_answer_at number past)
    else answer.Silent

-- the job of an IN that is answered NAK, where none is outstanding; a request has one job
abbrev pub in_job : ℕ → Up → List Entry → Option JobKind
in_job number up past =
    if number == 0 then (if is_job_made past then None else option_map control_job (last_transfer up.max0 past)) else Some (job.In number)

abbrev pub job_for : Up → List Entry → Act → Answer → Option JobKind
job_for up past act.Reset reply = None
job_for up past (act.Setup address setup) reply = None
job_for up past (act.Out address number toggle bytes) reply =
    when (not (number == 0) && is_ack reply && same_toggle toggle (toggle_after (endpoint.Out number) past)) (job.Out number bytes)
job_for up past (act.In address number acked) reply = if is_nak reply && not (is_outstanding past) then in_job number up past else None

abbrev pub job_of_act : Up → List Entry → Act → Option JobKind
job_of_act up past taken = job_for up past taken (answer_to up past taken)

abbrev pub request_at : Up → List Entry → Act → Option Request
request_at up past act.Reset = None
request_at up past (act.Setup address setup) =
    when (address == address_after past) (record { setup = setup; supported = is_passable up.value (is_configured_after past) setup })
request_at up past (act.Out address number toggle bytes) = None
request_at up past (act.In address number acked) = None

abbrev pub completed_at : Up → List Entry → Act → Option Setup
completed_at up past act.Reset = None
completed_at up past (act.Setup address setup) = None
completed_at up past (act.Out address number toggle bytes) = None
completed_at up past (act.In address number acked) =
    if is_reached up.ins address number past
    then (if number == 0 then completed_in (is_waiting past) (last_transfer up.max0 past) (act.In address number acked) else None)
    else None

-- whether an act ends a transfer whose data go to the host: its status stage
abbrev pub ends_reading_at : List Entry → Act → Answer → Bool
ends_reading_at past act.Reset reply = false
ends_reading_at past (act.Setup address setup) reply = false
ends_reading_at past (act.Out address number toggle bytes) reply = number == 0 && is_ack reply && reads_request (last_request past)
ends_reading_at past (act.In address number acked) reply = false

-- an item with what comes of it
abbrev pub entry_for : Up → List Entry → BridgeItem → Entry
entry_for up past (Acted taken) = record {
  item = Acted taken;
  answer = answer_to up past taken;
  request = request_at up past taken;
  job = job_of_act up past taken;
  completed = completed_at up past taken;
  ends_reading = ends_reading_at past taken (answer_to up past taken);
  settled = None;
}
entry_for up past (Done number status bytes) = record {
  item = Done number status bytes;
  answer = answer.Silent;
  request = None;
  job = None;
  completed = None;
  ends_reading = false;
  settled = settled_at past (Done number status bytes);
}

abbrev pub history_of : Up → List BridgeItem → List Entry
history_of up [] = []
history_of up (item ∷ items) = entry_for up (history_of up items) item ∷ history_of up items

-- a bridge is down, or was brought up and these items came since, newest first
pub data BridgePast : Type 0 where
  IsDown : BridgePast
  IsUp : Up → List BridgeItem → BridgePast

-- what an act is answered
abbrev pub bridge_answer : BridgePast → Act → Answer
bridge_answer IsDown taken = answer.Silent
bridge_answer (IsUp up items) taken = answer_to up (history_of up items) taken

-- the job that an act makes, with its number
abbrev pub bridge_made : BridgePast → Act → Option Job
bridge_made IsDown taken = None
bridge_made (IsUp up items) taken =
    option_map (λ (k : JobKind). record { life = up.life; number = 1 + job_count (history_of up items); kind = k }) (job_of_act up (history_of up items) taken)

-- how many jobs were made
abbrev pub bridge_jobs : BridgePast → ℕ
bridge_jobs IsDown = 0
bridge_jobs (IsUp up items) = job_count (history_of up items)

-- whether the token's word is taken
abbrev pub bridge_takes : ℕ → ℕ → BridgePast → Bool
bridge_takes life number IsDown = false
bridge_takes life number (IsUp up items) = life == up.life && takes number (history_of up items)

abbrev pub after_act : Act → BridgePast → BridgePast
after_act taken IsDown = IsDown
after_act taken (IsUp up items) = IsUp up (Acted taken ∷ items)

-- a word of another life isn't heard
abbrev pub after_done : ℕ → ℕ → ℕ → List ℕ → BridgePast → BridgePast
after_done life number status bytes IsDown = IsDown
after_done life number status bytes (IsUp up items) = if life == up.life then IsUp up (Done number status bytes ∷ items) else IsUp up items
