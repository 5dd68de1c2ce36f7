-- How far a control transfer is, with what is still needed of it, and the exact step at each transaction.
use Rattle.std.specs.Prelude.{ℕ, ◌+◌, ◌*◌, ◌%◌, Bool, true, not, ◌&&◌, ◌==◌, nat_lt, nat_le, List, [], ◌++◌, length, take, drop, Option, Some, None, if◌then◌else◌}
use Rattle.psd_base.specs.declared.setup.Setup.{Setup}
use Rattle.psd_base.specs.declared.act.Answer.{Answer}
use Rattle.psd_base.specs.declared.act.Answer.TheVariants as answer
use Rattle.control_pipe.specs.Requests.{when}
use Rattle.control_pipe.specs.Transfer.{Form, Reading, Writing, NoData, form_of, packets_of, same_toggle}

-- how far a transfer is
pub data Progress : Type 0 where
  -- all is answered STALL: no setup since the bus reset, a request that isn't supported, or a transfer that is over
  Refusing : Progress
  -- the data, the maximum packet size, the number of packets, and how many of them were acknowledged
  DataIn : List ℕ → ℕ → ℕ → ℕ → Progress
  -- the data are acknowledged, and the host's empty packet, the status stage, is awaited
  StatusOut : Progress
  -- the status stage came, and may be repeated
  DoneOut : Progress
  -- the setup, the bytes that are in, and the next toggle
  DataOut : Setup → List ℕ → Bool → Progress
  StatusIn : Setup → Progress

-- the stage in which a transfer of this maximum packet size begins whose data to the host are these, if it has any
abbrev pub first_stage : ℕ → Form → Setup → List ℕ → Progress
first_stage maximum Reading setup bytes =
    DataIn bytes maximum (packets_of (length bytes) setup.length maximum) 0
first_stage maximum Writing setup bytes = DataOut setup [] true
first_stage maximum NoData setup bytes = StatusIn setup

-- a setup was taken for which these data are due
abbrev pub begun_progress : ℕ → Setup → Option (List ℕ) → Progress
begun_progress maximum setup None = Refusing
begun_progress maximum setup (Some due) = first_stage maximum (form_of setup) setup (take setup.length due)

-- an IN: what it is answered, and how far the transfer is then
abbrev pub in_answer : Progress → Answer
in_answer Refusing = answer.Stall
in_answer (DataIn bytes maximum count sent) =
    answer.Data (sent % 2 == 0) (take maximum (drop (sent * maximum) bytes))
in_answer StatusOut = answer.Stall
in_answer DoneOut = answer.Stall
in_answer (DataOut setup bytes next) =
    if length bytes == setup.length then answer.Data true [] else answer.Stall
in_answer (StatusIn setup) = answer.Data true []

abbrev pub after_in : Bool → Progress → Progress
after_in acked Refusing = Refusing
after_in acked (DataIn bytes maximum count sent) =
    if acked then (if nat_lt (1 + sent) count then DataIn bytes maximum count (1 + sent) else StatusOut) else
    DataIn bytes maximum count sent
after_in acked StatusOut = Refusing
after_in acked DoneOut = Refusing
after_in acked (DataOut setup bytes next) =
    if length bytes == setup.length && not acked then DataOut setup bytes next else Refusing
after_in acked (StatusIn setup) = if acked then Refusing else StatusIn setup

-- the setup and the bytes of the request that an acknowledged IN completes
abbrev pub completion : Progress → Option (Setup × List ℕ)
completion Refusing = None
completion (DataIn bytes maximum count sent) = None
completion StatusOut = None
completion DoneOut = None
completion (DataOut setup bytes next) = when (length bytes == setup.length) (setup, bytes)
completion (StatusIn setup) = Some (setup, [])

-- whether an OUT can be the status stage of a transfer whose data went to the host
abbrev pub is_status_out : Bool → List ℕ → Bool
is_status_out toggle packet = toggle && length packet == 0

-- whether a packet fits what the host announced, after these bytes
abbrev pub is_room_for : List ℕ → List ℕ → ℕ → Bool
is_room_for packet bytes asked = nat_lt (length bytes) asked && nat_le (length bytes + length packet) asked

-- an OUT: what it is answered, and how far the transfer is then
abbrev pub out_answer : Bool → List ℕ → Progress → Answer
out_answer toggle packet Refusing = answer.Stall
out_answer toggle packet (DataIn bytes maximum count sent) =
    if is_status_out toggle packet then answer.Ack else answer.Stall
out_answer toggle packet StatusOut = if is_status_out toggle packet then answer.Ack else answer.Stall
out_answer toggle packet DoneOut = if is_status_out toggle packet then answer.Ack else answer.Stall
out_answer toggle packet (DataOut setup bytes next) =
    if same_toggle toggle next
    then (if is_room_for packet bytes setup.length then answer.Ack else answer.Stall) else
    answer.Ack
out_answer toggle packet (StatusIn setup) = answer.Stall

abbrev pub after_out : Bool → List ℕ → Progress → Progress
after_out toggle packet Refusing = Refusing
after_out toggle packet (DataIn bytes maximum count sent) =
    if is_status_out toggle packet then DoneOut else Refusing
after_out toggle packet StatusOut = if is_status_out toggle packet then DoneOut else Refusing
after_out toggle packet DoneOut = if is_status_out toggle packet then DoneOut else Refusing
after_out toggle packet (DataOut setup bytes next) =
    if same_toggle toggle next
    then (if is_room_for packet bytes setup.length then DataOut setup (bytes ++ packet) (not toggle) else
    Refusing)
    else DataOut setup bytes next
after_out toggle packet (StatusIn setup) = Refusing
