-- What the control endpoint of an emulated device answers, told by the history of the acts there. A history is newest first.
use Rattle.std.specs.Prelude.{ℕ, Bool, true, ◌==◌, List, [], ◌∷◌, Option, Some, None, if◌then◌else◌}
use Rattle.psd_base.specs.declared.setup.Setup.{Setup}
use Rattle.psd_base.specs.declared.act.Act.{Act}
use Rattle.psd_base.specs.declared.act.Act.TheVariants as act
use Rattle.psd_base.specs.declared.act.Answer.{Answer}
use Rattle.psd_base.specs.declared.act.Answer.TheVariants as answer
use Rattle.psd_base.specs.declared.packet.TheConstants.{PACKET_SIZE}
use Rattle.control_pipe.specs.declared.reaction.Effect.{Effect}
use Rattle.control_pipe.specs.declared.reaction.Effect.TheVariants as effect
use Rattle.control_pipe.specs.declared.registers.Registers.{Registers}
use Rattle.control_pipe.specs.declared.request.Request.{Request}
use Rattle.control_pipe.specs.Transfer.{Transfer, transfer_answer, is_completed_by, received}
use Rattle.control_pipe.specs.Requests.{Offer, no_offer, when, request_of, due_for, is_configured, effect_for, function_for}
use Rattle.control_pipe.specs.Registers.{registers_of, halted_at}

-- an act at the control endpoint, a bus reset or a transaction at endpoint 0, with what the device's function had for its
-- setup at that moment
pub record ControlAct : Type 0 where
  pub act : Act
  pub offer : Offer

-- what the device's function has for a setup
abbrev pub offer_for : (Setup → Option (List ℕ)) → (Setup → Option (List ℕ)) → (Setup → Bool) → Setup → Offer
offer_for descriptor class_input takes setup =
    record { descriptor = descriptor setup; class_input = class_input setup; class_taken = takes setup }

-- and for the setup of an act, if it has one
abbrev pub offer_at : (Setup → Option (List ℕ)) → (Setup → Option (List ℕ)) → (Setup → Bool) → Act → Offer
offer_at descriptor class_input takes (act.Setup address setup) = offer_for descriptor class_input takes setup
offer_at descriptor class_input takes act.Reset = no_offer
offer_at descriptor class_input takes (act.Out address endpoint toggle bytes) = no_offer
offer_at descriptor class_input takes (act.In address endpoint acked) = no_offer

-- an act, with what the function had for it
abbrev pub moment_of : (Setup → Option (List ℕ)) → (Setup → Option (List ℕ)) → (Setup → Bool) → Act
    → ControlAct
moment_of descriptor class_input takes act =
    record { act = act; offer = offer_at descriptor class_input takes act }

-- whether an act is a bus reset or a transaction at endpoint 0
abbrev pub is_control_act : Act → Bool
is_control_act act.Reset = true
is_control_act (act.Setup address setup) = true
is_control_act (act.Out address endpoint toggle bytes) = endpoint == 0
is_control_act (act.In address endpoint acked) = endpoint == 0

-- what a history comes to: the requests that were completed since the last bus reset, newest first, and the last transfer
pub record Session : Type 0 where
  pub completed : List Request
  pub transfer : Option Transfer

abbrev pub fresh : Session
fresh = record { completed = []; transfer = None }

abbrev pub completed_with : Option Request → List Request → List Request
completed_with (Some request) completed = request ∷ completed
completed_with None completed = completed

-- the last transfer goes on
abbrev pub continued : Act → Session → Session
continued act session = continued_transfer act session.completed session.transfer where
  continued_transfer : Act → List Request → Option Transfer → Session
  continued_transfer act completed None = record { completed = completed; transfer = None }
  continued_transfer act completed (Some transfer) = record {
    completed = completed_with
        (if is_completed_by transfer act then request_of transfer.setup else None) completed;
    transfer = Some (record transfer { acts = act ∷ transfer.acts });
  }

-- the data due for a setup are fixed when it is taken
abbrev pub begun : Setup → Offer → Session → Session
begun setup offer session = record session {
  transfer = Some (record {
    setup = setup;
    due = due_for (registers_of session.completed) offer (request_of setup);
    maximum = PACKET_SIZE;
    acts = [];
  });
}

-- an act at another address than the present one isn't read
abbrev pub session_with : ControlAct → Session → Session
session_with moment session = with_act moment.act moment.offer session where
  with_act : Act → Offer → Session → Session
  with_act act.Reset offer session = fresh
  with_act (act.Setup address setup) offer session =
      if address == (registers_of session.completed).address then begun setup offer session else session
  with_act (act.Out address endpoint toggle bytes) offer session =
      if address == (registers_of session.completed).address
      then continued (act.Out address endpoint toggle bytes) session else session
  with_act (act.In address endpoint acked) offer session =
      if address == (registers_of session.completed).address
      then continued (act.In address endpoint acked) session else session

abbrev pub session_of : List ControlAct → Session
session_of [] = fresh
session_of (moment ∷ past) = session_with moment (session_of past)

-- the registers after a history
abbrev pub registers_after_acts : List ControlAct → Registers
registers_after_acts past = registers_of (session_of past).completed

abbrev pub address_after : List ControlAct → ℕ
address_after past = (registers_after_acts past).address

abbrev pub is_configured_after : List ControlAct → Bool
is_configured_after past = is_configured (registers_after_acts past)

abbrev pub is_halted_after : ℕ → List ControlAct → Bool
is_halted_after endpoint past = halted_at (registers_after_acts past) endpoint

-- what a transaction of the last transfer is answered; before any setup there is nothing to answer
abbrev pub answer_in : Option Transfer → Act → Answer
answer_in None act = answer.Stall
answer_in (Some transfer) act = transfer_answer transfer act

-- what an act is answered after a history
abbrev pub control_answer : List ControlAct → Act → Answer
control_answer past act.Reset = answer.Silent
control_answer past (act.Setup address setup) =
    if address == address_after past then answer.Ack else answer.Silent
control_answer past (act.Out address endpoint toggle bytes) =
    if address == address_after past
    then answer_in (session_of past).transfer (act.Out address endpoint toggle bytes) else answer.Silent
control_answer past (act.In address endpoint acked) =
    if address == address_after past
    then answer_in (session_of past).transfer (act.In address endpoint acked) else answer.Silent

-- the transfer whose request an act completes after a history
abbrev pub completed_in : Option Transfer → Act → Option Transfer
completed_in None act = None
completed_in (Some transfer) act = when (is_completed_by transfer act) transfer

abbrev pub transfer_completed : List ControlAct → Act → Option Transfer
transfer_completed past act.Reset = None
transfer_completed past (act.Setup address setup) = None
transfer_completed past (act.Out address endpoint toggle bytes) = None
transfer_completed past (act.In address endpoint acked) =
    if address == address_after past
    then completed_in (session_of past).transfer (act.In address endpoint acked) else None

-- what the completed request tells the device
abbrev pub effect_of_completed : Option Transfer → Effect
effect_of_completed None = effect.Nothing
effect_of_completed (Some transfer) = effect_for (request_of transfer.setup)

abbrev pub control_effect : List ControlAct → ControlAct → Effect
control_effect past moment = effect_after past moment.act where
  effect_after : List ControlAct → Act → Effect
  effect_after past act.Reset = effect.Reset
  effect_after past (act.Setup address setup) = effect.Nothing
  effect_after past (act.Out address endpoint toggle bytes) = effect.Nothing
  effect_after past (act.In address endpoint acked) =
      effect_of_completed (transfer_completed past (act.In address endpoint acked))

-- what an act at a tick makes of the device's function: a completed class request with its bytes is carried out
abbrev pub function_of_completed : {D : Type 0} → (D → ℕ → Setup → List ℕ → D) → ℕ → Option Transfer → D → D
function_of_completed after_class tick None device = device
function_of_completed after_class tick (Some transfer) device =
    function_for (request_of transfer.setup)
    (after_class device tick transfer.setup (received transfer.acts)) device

abbrev pub control_function : {D : Type 0} → (D → ℕ → Setup → List ℕ → D) → List ControlAct → ℕ → Act → D → D
control_function after_class past tick act device =
    function_of_completed after_class tick (transfer_completed past act) device
