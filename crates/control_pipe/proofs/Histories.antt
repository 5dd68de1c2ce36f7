-- A pipe that stands for a history stands, after its exact step at an act, for the history with that act.
use Rattle.std.proofs.Common.{◌≡◌, ℕ, ◌+◌, ◌/◌, ◌<◌, ◌≤◌, length, take, Bool, true, false, List, [], ◌∷◌, Option, Some, None, cond, refl, sym, ap, ◌∙◌, arith}
use Rattle.std.specs.Prelude.{◌&&◌, ◌==◌, nat_lt, is_some, option_map}
use Rattle.std.proofs.lemmas.Bool.{cond_both, eqb-false, ltb-false, lt-ltb}
use Rattle.psd_base.specs.declared.setup.Setup.{Setup}
use Rattle.psd_base.specs.declared.act.Act.{Act}
use Rattle.psd_base.specs.declared.act.Act.TheVariants as act
use Rattle.psd_base.specs.declared.act.Answer.{Answer}
use Rattle.psd_base.specs.declared.act.Answer.TheVariants as answer
use Rattle.psd_base.specs.declared.packet.TheConstants.{PACKET_SIZE}
use Rattle.control_pipe.specs.declared.registers.Registers.{Registers}
use Rattle.control_pipe.specs.declared.request.Request.{Request}
use Rattle.control_pipe.specs.declared.request.Request.TheVariants as request
use Rattle.control_pipe.specs.Transfer.{Transfer, packets_of, Reading, Writing, NoData, form_of, has_status_in, is_completed_by, all_fit}
use Rattle.control_pipe.specs.Requests.{Offer, when, request_of, due_for, function_for}
use Rattle.control_pipe.specs.Registers.{registers_of}
use Rattle.control_pipe.specs.Progress.{Progress, first_stage, begun_progress, in_answer, after_in, completion, out_answer, after_out}
use Rattle.control_pipe.specs.Control.{ControlAct, Session, continued, begun, completed_with, session_with, session_of, answer_in, control_answer, completed_in, transfer_completed, effect_of_completed, control_effect, function_of_completed, control_function, address_after}
use Rattle.control_pipe.specs.PipeStands.{PipeValue, progress_of_form, progress_of, PipeStands}
use Rattle.control_pipe.specs.PipeStep.{completed_by, registers_for, completed_registers, completed_effect, completed_function, registers_at, progress_at, answer_at, effect_at, IsKeptBy}
use Rattle.control_pipe.proofs.Requests.{registers_of-completed}
use Rattle.control_pipe.proofs.Stages.{contents_of, transfer_answer-In, transfer_answer-Out, progress_of-In, progress_of-Out, completed_by_In}

abbrev pub moment : Act → Offer → ControlAct
moment act offer = record { act = act; offer = offer }

-- The transfer that an act completes

none_where_not : (supported has_status fit : Bool) (transfer : Transfer) → option_map contents_of (when (supported && false && has_status && fit) transfer) ≡ None
none_where_not true has_status fit transfer = refl
none_where_not false has_status fit transfer = refl

contents_completed : (transfer : Option Transfer) (address endpoint : ℕ) (acked : Bool)
    → option_map contents_of (completed_in transfer (act.In address endpoint acked)) ≡ cond acked (completion (progress_of transfer)) None
contents_completed None address endpoint true = refl
contents_completed None address endpoint false = refl
contents_completed (Some transfer) address endpoint true = completed_by_In transfer address endpoint
contents_completed (Some transfer) address endpoint false =
    none_where_not (is_some transfer.due) (has_status_in (form_of transfer.setup)) (all_fit transfer (act.In address endpoint false ∷ transfer.acts)) transfer

-- What a completed transfer leaves

abbrev request_in : Option Transfer → Option Request
request_in None = None
request_in (Some transfer) = request_of transfer.setup

registers_with-completed : (o : Option Request) (completed : List Request)
    → registers_of (completed_with o completed) ≡ registers_for o (registers_of completed)
registers_with-completed None completed = refl
registers_with-completed (Some named) completed = registers_of-completed completed named

registers_after_completed : (ended : Option Transfer) (completed : List Request)
    → registers_of (completed_with (request_in ended) completed) ≡ completed_registers (option_map contents_of ended) (registers_of completed)
registers_after_completed None completed = refl
registers_after_completed (Some transfer) completed = registers_with-completed (request_of transfer.setup) completed

effect_after_completed : (ended : Option Transfer) → effect_of_completed ended ≡ completed_effect (option_map contents_of ended)
effect_after_completed None = refl
effect_after_completed (Some transfer) = refl

function_after_completed : {D : Type 0} (after_class : D → ℕ → Setup → List ℕ → D) (tick : ℕ) (ended : Option Transfer) (device : D)
    → function_of_completed after_class tick ended device ≡ completed_function after_class tick (option_map contents_of ended) device
function_after_completed after_class tick None device = refl
function_after_completed after_class tick (Some transfer) device = refl

request_in-when : (test : Bool) (transfer : Transfer) → cond test (request_of transfer.setup) None ≡ request_in (when test transfer)
request_in-when true transfer = refl
request_in-when false transfer = refl

continued_completed : (act : Act) (completed : List Request) (transfer : Option Transfer)
    → (continued act (record { completed = completed; transfer = transfer })).completed ≡ completed_with (request_in (completed_in transfer act)) completed
continued_completed act completed None = refl
continued_completed act completed (Some transfer) =
    ap (λ (o : Option Request). completed_with o completed) (request_in-when (is_completed_by transfer act) transfer)

-- One act more of a session

registers_of-continued : (here acked : Bool) (address endpoint : ℕ) (completed : List Request) (transfer : Option Transfer)
    → registers_of (cond here (continued (act.In address endpoint acked) (record { completed = completed; transfer = transfer })) (record { completed = completed; transfer = transfer })).completed
    ≡ completed_registers (cond (here && acked) (completion (progress_of transfer)) None) (registers_of completed)
registers_of-continued false acked address endpoint completed transfer = refl
registers_of-continued true acked address endpoint completed transfer =
    ap (λ (c : List Request). registers_of c) (continued_completed (act.In address endpoint acked) completed transfer)
    ∙ (registers_after_completed (completed_in transfer (act.In address endpoint acked)) completed
    ∙ ap (λ (o : Option (Setup × List ℕ)). completed_registers o (registers_of completed)) (contents_completed transfer address endpoint acked))

not_completed_by_Out : (here : Bool) (address endpoint : ℕ) (toggle : Bool) (packet : List ℕ) (completed : List Request) (transfer : Option Transfer)
    → (cond here (continued (act.Out address endpoint toggle packet) (record { completed = completed; transfer = transfer })) (record { completed = completed; transfer = transfer })).completed ≡ completed
not_completed_by_Out false address endpoint toggle packet completed transfer = refl
not_completed_by_Out true address endpoint toggle packet completed None = refl
not_completed_by_Out true address endpoint toggle packet completed (Some transfer) =
    ap (λ (b : Bool). completed_with (cond b (request_of transfer.setup) None) completed) (no_out (is_some transfer.due) (has_status_in (form_of transfer.setup)) (all_fit transfer (act.Out address endpoint toggle packet ∷ transfer.acts))) where
      no_out : (supported has_status fit : Bool) → (supported && false && has_status && fit) ≡ false
      no_out true has_status fit = refl
      no_out false has_status fit = refl

same_completed_after_setup : (here : Bool) (setup : Setup) (offer : Offer) (session : Session) → (cond here (begun setup offer session) session).completed ≡ session.completed
same_completed_after_setup true setup offer session = refl
same_completed_after_setup false setup offer session = refl

registers_of-session_with : (act : Act) (offer : Offer) (session : Session)
    → registers_of (session_with (moment act offer) session).completed ≡ registers_at (registers_of session.completed) (progress_of session.transfer) act
registers_of-session_with act.Reset offer session = refl
registers_of-session_with (act.Setup address setup) offer session =
    ap (λ (c : List Request). registers_of c) (same_completed_after_setup (address == (registers_of session.completed).address) setup offer session)
registers_of-session_with (act.Out address endpoint toggle packet) offer session =
    ap (λ (c : List Request). registers_of c) (not_completed_by_Out (address == (registers_of session.completed).address) address endpoint toggle packet session.completed session.transfer)
registers_of-session_with (act.In address endpoint acked) offer session =
    registers_of-continued (address == (registers_of session.completed).address) acked address endpoint session.completed session.transfer

-- a transfer that just began

-- there is at least one packet where the host asked for data
some_packets : (count asked : ℕ) → 0 < asked → nat_lt 0 (packets_of count asked PACKET_SIZE) ≡ true
some_packets count asked some =
    cond_both (nat_lt count asked) (count / 64 + 1) ((count + 63) / 64) (λ (n : ℕ). nat_lt 0 n ≡ true)
    (λ _. lt-ltb 0 (count / 64 + 1) (omega arith))
    (λ h. let enough : asked ≤ count = ltb-false count asked h in lt-ltb 0 ((count + 63) / 64) (omega arith))

begun_transfer : Setup → List ℕ → Transfer
begun_transfer setup due = record { setup = setup; due = Some due; maximum = PACKET_SIZE; acts = [] }

begun_of_form : (none writes : Bool) (setup : Setup) (due : List ℕ) → none ≡ (setup.length == 0) → writes ≡ nat_lt setup.kind 128
    → progress_of_form (cond none NoData (cond writes Writing Reading)) (record { setup = setup; due = Some due; maximum = PACKET_SIZE; acts = [] })
    ≡ first_stage PACKET_SIZE (cond none NoData (cond writes Writing Reading)) setup (take setup.length due)
begun_of_form true writes setup due e f = refl
begun_of_form false true setup due e f = refl
begun_of_form false false setup due e f =
    rw (some_packets (length (take setup.length due)) setup.length (positive setup.length (eqb-false setup.length 0 (sym e)))) refl where
      positive : (n : ℕ) → (n ≡ 0 → ⊥) → 0 < n
      positive n h = omega (arith, h)

progress_of-begun : (setup : Setup) (due : Option (List ℕ))
    → progress_of (Some (record { setup = setup; due = due; maximum = PACKET_SIZE; acts = [] })) ≡ begun_progress PACKET_SIZE setup due
progress_of-begun setup None = refl
progress_of-begun setup (Some due) = begun_of_form (setup.length == 0) (nat_lt setup.kind 128) setup due refl refl

progress_after_setup : (here : Bool) (setup : Setup) (offer : Offer) (session : Session)
    → progress_of (cond here (begun setup offer session) session).transfer
    ≡ cond here (begun_progress PACKET_SIZE setup (due_for (registers_of session.completed) offer (request_of setup))) (progress_of session.transfer)
progress_after_setup false setup offer session = refl
progress_after_setup true setup offer session = progress_of-begun setup (due_for (registers_of session.completed) offer (request_of setup))

progress_after_Out : (here : Bool) (address endpoint : ℕ) (toggle : Bool) (packet : List ℕ) (completed : List Request) (transfer : Option Transfer)
    → progress_of (cond here (continued (act.Out address endpoint toggle packet) (record { completed = completed; transfer = transfer })) (record { completed = completed; transfer = transfer })).transfer
    ≡ cond here (after_out toggle packet (progress_of transfer)) (progress_of transfer)
progress_after_Out false address endpoint toggle packet completed transfer = refl
progress_after_Out true address endpoint toggle packet completed None = refl
progress_after_Out true address endpoint toggle packet completed (Some transfer) = progress_of-Out transfer address endpoint toggle packet

progress_after_In : (here : Bool) (address endpoint : ℕ) (acked : Bool) (completed : List Request) (transfer : Option Transfer)
    → progress_of (cond here (continued (act.In address endpoint acked) (record { completed = completed; transfer = transfer })) (record { completed = completed; transfer = transfer })).transfer
    ≡ cond here (after_in acked (progress_of transfer)) (progress_of transfer)
progress_after_In false address endpoint acked completed transfer = refl
progress_after_In true address endpoint acked completed None = refl
progress_after_In true address endpoint acked completed (Some transfer) = progress_of-In transfer address endpoint acked

progress_of-session_with : (act : Act) (offer : Offer) (session : Session)
    → progress_of (session_with (moment act offer) session).transfer ≡ progress_at (registers_of session.completed) (progress_of session.transfer) offer act
progress_of-session_with act.Reset offer session = refl
progress_of-session_with (act.Setup address setup) offer session = progress_after_setup (address == (registers_of session.completed).address) setup offer session
progress_of-session_with (act.Out address endpoint toggle packet) offer session =
    progress_after_Out (address == (registers_of session.completed).address) address endpoint toggle packet session.completed session.transfer
progress_of-session_with (act.In address endpoint acked) offer session =
    progress_after_In (address == (registers_of session.completed).address) address endpoint acked session.completed session.transfer

-- What an act is answered

answer_in-Out : (transfer : Option Transfer) (address endpoint : ℕ) (toggle : Bool) (packet : List ℕ)
    → answer_in transfer (act.Out address endpoint toggle packet) ≡ out_answer toggle packet (progress_of transfer)
answer_in-Out None address endpoint toggle packet = refl
answer_in-Out (Some transfer) address endpoint toggle packet = transfer_answer-Out transfer address endpoint toggle packet

answer_in-In : (transfer : Option Transfer) (address endpoint : ℕ) (acked : Bool) → answer_in transfer (act.In address endpoint acked) ≡ in_answer (progress_of transfer)
answer_in-In None address endpoint acked = refl
answer_in-In (Some transfer) address endpoint acked = transfer_answer-In transfer address endpoint acked

control_answer-answer_at : (past : List ControlAct) (act : Act)
    → control_answer past act ≡ answer_at (registers_of (session_of past).completed) (progress_of (session_of past).transfer) act
control_answer-answer_at past act.Reset = refl
control_answer-answer_at past (act.Setup address setup) = refl
control_answer-answer_at past (act.Out address endpoint toggle packet) =
    ap (λ (a : Answer). cond (address == address_after past) a answer.Silent) (answer_in-Out (session_of past).transfer address endpoint toggle packet)
control_answer-answer_at past (act.In address endpoint acked) =
    ap (λ (a : Answer). cond (address == address_after past) a answer.Silent) (answer_in-In (session_of past).transfer address endpoint acked)

-- What an act completes

contents_where : (here acked : Bool) (ended : Option Transfer) (o : Option (Setup × List ℕ)) → option_map contents_of ended ≡ cond acked o None
    → option_map contents_of (cond here ended None) ≡ cond (here && acked) o None
contents_where true acked ended o e = e
contents_where false acked ended o e = refl

contents_of_completed : (past : List ControlAct) (act : Act)
    → option_map contents_of (transfer_completed past act) ≡ completed_by (registers_of (session_of past).completed) (progress_of (session_of past).transfer) act
contents_of_completed past act.Reset = refl
contents_of_completed past (act.Setup address setup) = refl
contents_of_completed past (act.Out address endpoint toggle packet) = refl
contents_of_completed past (act.In address endpoint acked) =
    contents_where (address == address_after past) acked (completed_in (session_of past).transfer (act.In address endpoint acked)) (completion (progress_of (session_of past).transfer))
    (contents_completed (session_of past).transfer address endpoint acked)

control_effect-effect_at : (past : List ControlAct) (act : Act) (offer : Offer)
    → control_effect past (moment act offer) ≡ effect_at (registers_of (session_of past).completed) (progress_of (session_of past).transfer) act
control_effect-effect_at past act.Reset offer = refl
control_effect-effect_at past (act.Setup address setup) offer = refl
control_effect-effect_at past (act.Out address endpoint toggle packet) offer = refl
control_effect-effect_at past (act.In address endpoint acked) offer =
    effect_after_completed (transfer_completed past (act.In address endpoint acked))
    ∙ ap (λ (o : Option (Setup × List ℕ)). completed_effect o) (contents_of_completed past (act.In address endpoint acked))

control_function-completed_function : {D : Type 0} (after_class : D → ℕ → Setup → List ℕ → D) (past : List ControlAct) (tick : ℕ) (act : Act) (device : D)
    → control_function after_class past tick act device
    ≡ completed_function after_class tick (completed_by (registers_of (session_of past).completed) (progress_of (session_of past).transfer) act) device
control_function-completed_function after_class past tick act device =
    function_after_completed after_class tick (transfer_completed past act) device
    ∙ ap (λ (o : Option (Setup × List ℕ)). completed_function after_class tick o device) (contents_of_completed past act)

-- What a pipe stands for

module _ {D : Type 0} where
  module _ (pipe : PipeValue D) (past : List ControlAct) (stands : PipeStands pipe past) where
    at_past : {V : Type 0} (f : Registers → Progress → V) → f pipe.registers pipe.progress ≡ f (registers_of (session_of past).completed) (progress_of (session_of past).transfer)
    at_past f = ap (λ (r : Registers). f r pipe.progress) stands.registers_are ∙ ap (λ (p : Progress). f (registers_of (session_of past).completed) p) stands.progress_is

    pub stands_after : (after : PipeValue D) (act : Act) (offer : Offer) → after.registers ≡ registers_at pipe.registers pipe.progress act
        → after.progress ≡ progress_at pipe.registers pipe.progress offer act → PipeStands after (moment act offer ∷ past)
    stands_after after act offer registers progress = record {
      registers_are = registers ∙ (at_past (λ r p. registers_at r p act) ∙ sym (registers_of-session_with act offer (session_of past)));
      progress_is = progress ∙ (at_past (λ r p. progress_at r p offer act) ∙ sym (progress_of-session_with act offer (session_of past)));
    }

    pub answer_after : (act : Act) → answer_at pipe.registers pipe.progress act ≡ control_answer past act
    answer_after act = at_past (λ r p. answer_at r p act) ∙ sym (control_answer-answer_at past act)

    pub effect_after : (act : Act) (offer : Offer) → effect_at pipe.registers pipe.progress act ≡ control_effect past (moment act offer)
    effect_after act offer = at_past (λ r p. effect_at r p act) ∙ sym (control_effect-effect_at past act offer)

    pub function_after : (after_class : D → ℕ → Setup → List ℕ → D) (tick : ℕ) (act : Act)
        → completed_function after_class tick (completed_by pipe.registers pipe.progress act) pipe.function ≡ control_function after_class past tick act pipe.function
    function_after after_class tick act =
        at_past (λ r p. completed_function after_class tick (completed_by r p act) pipe.function)
        ∙ sym (control_function-completed_function after_class past tick act pipe.function)

-- what no class request changes, a completed request doesn't change
pub completed-keeps : {D : Type 0} (after_class : D → ℕ → Setup → List ℕ → D) (test : D → Bool) → IsKeptBy after_class test → (tick : ℕ) (done : Option (Setup × List ℕ)) (device : D)
    → test (completed_function after_class tick done device) ≡ test device
completed-keeps after_class test kept tick None device = refl
completed-keeps after_class test kept tick (Some done) device = by (request_of done.0) where
  by : (found : Option Request) → test (function_for found (after_class device tick done.0 done.1) device) ≡ test device
  by None = refl
  by (Some request.ClassOut) = kept device tick done.0 done.1
  by (Some request.ClassIn) = refl
  by (Some request.GetDescriptor) = refl
  by (Some (request.Standard standard)) = refl
