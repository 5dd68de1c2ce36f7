-- One control transfer, told by the acts since its setup (USB 2.0, 8.5.3).
use Rattle.std.specs.Prelude.{ℕ, ◌+◌, ◌-◌, ◌*◌, ◌/◌, ◌%◌, Bool, true, false, not, ◌&&◌, ◌==◌, nat_lt, nat_le, List, [], ◌∷◌, ◌++◌, length, take, drop, Option, is_some, unwrap_or, if◌then◌else◌}
use Rattle.psd_base.specs.History.{number_of}
use Rattle.psd_base.specs.declared.setup.Setup.{Setup}
use Rattle.psd_base.specs.declared.act.Act.{Act}
use Rattle.psd_base.specs.declared.act.Act.TheVariants as act
use Rattle.psd_base.specs.declared.act.Answer.{Answer}
use Rattle.psd_base.specs.declared.act.Answer.TheVariants as answer

-- a transfer: its setup, the data due where the request is supported, the endpoint's maximum packet size, and the acts
-- at this endpoint since the setup, newest first
pub record Transfer : Type 0 where
  pub setup : Setup
  pub due : Option (List ℕ)
  pub maximum : ℕ
  pub acts : List Act

-- which way the data go
pub data Form : Type 0 where
  Reading : Form
  Writing : Form
  NoData : Form

-- the direction bit of the request's kind, where there are data
abbrev pub form_of : Setup → Form
form_of setup = if setup.length == 0 then NoData else (if nat_lt setup.kind 128 then Writing else Reading)

abbrev pub is_acked_in : Act → Bool
is_acked_in (act.In address endpoint acked) = acked
is_acked_in _ = false

abbrev pub is_out : Act → Bool
is_out (act.Out address endpoint toggle bytes) = true
is_out _ = false

-- the data due, cut to the length that the host asked for
abbrev pub cut_data : Transfer → List ℕ
cut_data transfer = take transfer.setup.length (unwrap_or transfer.due [])

-- the number of packets of this many bytes where the host asked for so many, of a maximum size: a packet below the
-- maximum size, an empty one if need be, ends data that are shorter than the host asked for
abbrev pub packets_of : ℕ → ℕ → ℕ → ℕ
packets_of count asked maximum =
    if nat_lt count asked then count / maximum + 1 else (count + (maximum - 1)) / maximum

abbrev pub packet_count : Transfer → ℕ
packet_count transfer = packets_of (length (cut_data transfer)) transfer.setup.length transfer.maximum

-- the packet of this number, counted from 0
abbrev pub packet_at : Transfer → ℕ → List ℕ
packet_at transfer number = take transfer.maximum (drop (number * transfer.maximum) (cut_data transfer))

-- whether two toggles are the same
abbrev pub same_toggle : Bool → Bool → Bool
same_toggle true second = second
same_toggle false second = not second

-- the toggle that the next data packet from the host must have: DATA1 first, the other after each packet that was kept
abbrev pub expected_toggle : List Act → Bool
expected_toggle [] = true
expected_toggle (act.Out address endpoint toggle bytes ∷ acts) =
    if same_toggle toggle (expected_toggle acts) then not toggle else expected_toggle acts
expected_toggle (_ ∷ acts) = expected_toggle acts

-- the bytes of the kept packets
abbrev pub received : List Act → List ℕ
received [] = []
received (act.Out address endpoint toggle bytes ∷ acts) =
    if same_toggle toggle (expected_toggle acts) then received acts ++ bytes else received acts
received (_ ∷ acts) = received acts

-- whether the status stage is still to come: no acknowledged IN
abbrev pub is_open : List Act → Bool
is_open acts = number_of is_acked_in acts == 0

-- whether an act fits a transfer of this form, for which the host asked for so many bytes and which has so many packets,
-- after the acts before it
abbrev pub is_fit : Form → ℕ → ℕ → List Act → Act → Bool
is_fit Reading asked count acts (act.In address endpoint acked) =
    number_of is_out acts == 0 && nat_lt (number_of is_acked_in acts) count
is_fit Reading asked count acts (act.Out address endpoint toggle bytes) = toggle && length bytes == 0
is_fit Writing asked count acts (act.In address endpoint acked) =
    length (received acts) == asked && is_open acts
is_fit Writing asked count acts (act.Out address endpoint toggle bytes) =
    is_open acts && (if same_toggle toggle (expected_toggle acts)
    then nat_lt (length (received acts)) asked && nat_le (length (received acts) + length bytes) asked
    else true)
is_fit NoData asked count acts (act.In address endpoint acked) = is_open acts
is_fit form asked count acts _ = false

-- whether each of the acts is fit
abbrev pub each_fit : Form → ℕ → ℕ → List Act → Bool
each_fit form asked count [] = true
each_fit form asked count (act ∷ acts) = is_fit form asked count acts act && each_fit form asked count acts

abbrev pub all_fit : Transfer → List Act → Bool
all_fit transfer acts = each_fit (form_of transfer.setup) transfer.setup.length (packet_count transfer) acts

-- the data packet that answers a fit IN
abbrev pub reply_to_in : Form → Transfer → Answer
reply_to_in Reading transfer =
    answer.Data (number_of is_acked_in transfer.acts % 2 == 0)
    (packet_at transfer (number_of is_acked_in transfer.acts))
reply_to_in _ transfer = answer.Data true []

abbrev pub fit_answer : Transfer → Act → Answer
fit_answer transfer (act.In address endpoint acked) = reply_to_in (form_of transfer.setup) transfer
fit_answer transfer _ = answer.Ack

-- the first act that isn't fit, and all later ones, are answered STALL, and so is every act of a request that isn't supported
abbrev pub transfer_answer : Transfer → Act → Answer
transfer_answer transfer act =
    if is_some transfer.due && all_fit transfer (act ∷ transfer.acts) then fit_answer transfer act else
    answer.Stall

-- whether the status stage goes to the host
abbrev pub has_status_in : Form → Bool
has_status_in Reading = false
has_status_in Writing = true
has_status_in NoData = true

-- whether the act ends the status stage of a transfer whose data don't go to the host: an acknowledged IN, answered with data
abbrev pub is_completed_by : Transfer → Act → Bool
is_completed_by transfer act =
    is_some transfer.due && is_acked_in act && has_status_in (form_of transfer.setup)
    && all_fit transfer (act ∷ transfer.acts)
