-- The bridge's transfer at endpoint 0, one entry further.
use Rattle.std.proofs.Common.{◌≡◌, ℕ, ◌+◌, ◌<◌, Bool, true, false, not, List, [], ◌∷◌, length, take, Option, Some, None, cond, refl, sym, ap, ◌∙◌, arith}
use Rattle.std.specs.Prelude.{◌&&◌, ◌||◌, ◌==◌, nat_lt, is_some, option_map}
use Rattle.std.proofs.lemmas.Bool.{cond_both, false≢true, true≢false, lt-ltb, eqb-false, ne_eqb, and_from}
use Rattle.psd_base.specs.History.{or_else, number_of}
use Rattle.psd_base.specs.declared.setup.Setup.{Setup}
use Rattle.psd_base.specs.declared.act.Act.{Act}
use Rattle.psd_base.specs.declared.act.Act.TheVariants as act
use Rattle.psd_base.specs.declared.act.Answer.{Answer}
use Rattle.psd_base.specs.declared.act.Answer.TheVariants as answer
use Rattle.control_pipe.specs.Requests.{when}
use Rattle.control_pipe.specs.Transfer.{Transfer, Form, Reading, Writing, NoData, form_of, is_fit, each_fit, all_fit, is_completed_by, packets_of, packet_count, cut_data, is_out, is_acked_in, is_open, received, expected_toggle, same_toggle, has_status_in}
use Rattle.control_pipe.specs.Progress.{Progress, Refusing, DataIn, StatusOut, DoneOut, DataOut, StatusIn, first_stage, begun_progress, in_answer, after_in, out_answer, after_out, is_room_for}
use Rattle.control_pipe.specs.PipeStands.{progress_of, progress_of_form, reading_progress, writing_progress, status_progress}
use Rattle.control_pipe.proofs.Stages.{contents_of, transfer_answer-In, transfer_answer-Out, progress_of-In, progress_of-Out, completed_by_In}
use Rattle.auth_router.specs.declared.control.Forwarding.{Forwarding}
use Rattle.auth_router.specs.declared.control.Forwarding.TheVariants.{Known, Due, Asked}
use Rattle.auth_router.specs.Entries.{Request, Entry}
use Rattle.auth_router.specs.Forwarding.{is_set_address}
use Rattle.auth_router.specs.Bridge.{with_value, is_reset, is_data, is_taken, withheld, answer_in, completed_in, Reply, reply_of_item, is_control, last_request, request_reply, is_job_made, is_waiting, is_waiting_for, control_act, transfer_acts, due_of, transfer_for, payload, payload_of, reads, is_reading, is_ack, is_nak, waits_for}
use Rattle.auth_router.specs.ControlStep.{ControlValue, waits, is_withheld, after_control_in, after_control_out, completed_setup, sent_bytes, begun, answered, settled_control}
use Rattle.auth_router.specs.LiveStep.{new_control}
use Rattle.auth_router.specs.BridgeStands.{setup_of_request, forwarding_of, begins_with_out, ControlStands}
use Rattle.auth_router.proofs.Settles.{some_packets}
use Rattle.auth_router.proofs.Pasts.{request_kept, reply_step, made_step, acts_step}

-- What the forwarding tells

pub waits-forwarding_of : (waiting made : Bool) → waits (forwarding_of waiting made) ≡ waiting
waits-forwarding_of false made = refl
waits-forwarding_of true true = refl
waits-forwarding_of true false = refl

-- Answers

pub in_answer_of : (waiting : Bool) (transfer : Option Transfer) (address endpoint : ℕ) (acked : Bool)
    → withheld waiting (in_answer (progress_of transfer)) ≡ answer_in waiting transfer (act.In address endpoint acked)
in_answer_of true None address endpoint acked = refl
in_answer_of false None address endpoint acked = refl
in_answer_of waiting (Some transfer) address endpoint acked = ap (λ (a : Answer). withheld waiting a) (sym (transfer_answer-In transfer address endpoint acked))

-- an OUT is never answered with data
never_data : (waiting toggle : Bool) (packet : List ℕ) (progress : Progress) → withheld waiting (out_answer toggle packet progress) ≡ out_answer toggle packet progress
never_data false toggle packet progress = refl
never_data true toggle packet Refusing = refl
never_data true toggle packet (DataIn bytes maximum count sent) =
    cond_both (toggle && length packet == 0) answer.Ack answer.Stall (λ (a : Answer). withheld true a ≡ a) (λ _. refl) (λ _. refl)
never_data true toggle packet StatusOut =
    cond_both (toggle && length packet == 0) answer.Ack answer.Stall (λ (a : Answer). withheld true a ≡ a) (λ _. refl) (λ _. refl)
never_data true toggle packet DoneOut =
    cond_both (toggle && length packet == 0) answer.Ack answer.Stall (λ (a : Answer). withheld true a ≡ a) (λ _. refl) (λ _. refl)
never_data true toggle packet (DataOut setup bytes next) =
    cond_both (same_toggle toggle next) _ _ (λ (a : Answer). withheld true a ≡ a)
    (λ _. cond_both (is_room_for packet bytes setup.length) answer.Ack answer.Stall (λ (a : Answer). withheld true a ≡ a) (λ _. refl) (λ _. refl)) (λ _. refl)
never_data true toggle packet (StatusIn setup) = refl

pub out_answer_of : (waiting : Bool) (transfer : Option Transfer) (address endpoint : ℕ) (toggle : Bool) (packet : List ℕ)
    → out_answer toggle packet (progress_of transfer) ≡ answer_in waiting transfer (act.Out address endpoint toggle packet)
out_answer_of waiting None address endpoint toggle packet = refl
out_answer_of waiting (Some transfer) address endpoint toggle packet =
    sym (never_data waiting toggle packet (progress_of (Some transfer)))
    ∙ ap (λ (a : Answer). withheld waiting a) (sym (transfer_answer-Out transfer address endpoint toggle packet))

-- What a transfer stands for, over plain variables: the last request, its reply, whether its job was made, and its acts

pub record Follows (control : ControlValue) (maximum : ℕ) (request : Option Request) (reply : Option Reply) (made : Bool) (acts : List Act) : Type 0 where
  pub setup_is : control.setup ≡ setup_of_request request
  pub progress_is : control.progress ≡ progress_of (option_map (transfer_for maximum reply acts) request)
  pub forwarding_is : control.forwarding ≡ forwarding_of (is_waiting_for request reply) made
  pub maximum_is : control.maximum ≡ maximum
  pub early : is_waiting_for request reply ≡ true → reads (setup_of_request request) ≡ true → begins_with_out acts ≡ true

pub follows : (control : ControlValue) (maximum : ℕ) (past : List Entry) → ControlStands control maximum past
    → Follows control maximum (last_request past) (request_reply past) (is_job_made past) (transfer_acts past)
follows control maximum past stands = record {
  setup_is = stands.setup_is;
  progress_is = stands.progress_is;
  forwarding_is = stands.forwarding_is;
  maximum_is = stands.maximum_is;
  early = stands.early;
}

pub stands_by : (control : ControlValue) (maximum : ℕ) (past : List Entry) (request : Option Request) (reply : Option Reply) (made : Bool) (acts : List Act)
    → last_request past ≡ request → request_reply past ≡ reply → is_job_made past ≡ made → transfer_acts past ≡ acts
    → Follows control maximum request reply made acts → ControlStands control maximum past
stands_by control maximum past request reply made acts e f g h is = record {
  setup_is = is.setup_is ∙ ap (λ (r : Option Request). setup_of_request r) (sym e);
  progress_is = is.progress_is
      ∙ (ap (λ (r : Option Request). progress_of (option_map (transfer_for maximum reply acts) r)) (sym e)
      ∙ (ap (λ (p : Option Reply). progress_of (option_map (transfer_for maximum p acts) (last_request past))) (sym f)
      ∙ ap (λ (a : List Act). progress_of (option_map (transfer_for maximum (request_reply past) a) (last_request past))) (sym h)));
  forwarding_is = is.forwarding_is
      ∙ (ap (λ (r : Option Request). forwarding_of (is_waiting_for r reply) made) (sym e)
      ∙ (ap (λ (p : Option Reply). forwarding_of (is_waiting_for (last_request past) p) made) (sym f)
      ∙ ap (λ (m : Bool). forwarding_of (is_waiting past) m) (sym g)));
  maximum_is = is.maximum_is;
  early = λ waiting reading.
      ap (λ (a : List Act). begins_with_out a) h
      ∙ is.early (ap (λ (p : Option Reply). is_waiting_for request p) (sym f) ∙ (ap (λ (r : Option Request). is_waiting_for r (request_reply past)) (sym e) ∙ waiting))
      (ap (λ (r : Option Request). reads (setup_of_request r)) (sym e) ∙ reading);
}

-- an entry after which the request is the same
module _ (entry : Entry) (past : List Entry) (still : is_reset entry ≡ false) (no_request : entry.request ≡ None) where
  pub stands_after : (control : ControlValue) (maximum : ℕ) (reply : Option Reply) (made : Bool) (taken : Option Act)
      → or_else (cond (is_control entry.settled) (reply_of_item entry.item) None) (request_reply past) ≡ reply
      → (is_control entry.job || is_job_made past) ≡ made → control_act entry.item entry.answer ≡ taken
      → Follows control maximum (last_request past) reply made (with_value taken (transfer_acts past)) → ControlStands control maximum (entry ∷ past)
  stands_after control maximum reply made taken f g h is =
      stands_by control maximum (entry ∷ past) (last_request past) reply made (with_value taken (transfer_acts past))
      (request_kept entry past still no_request) (reply_step entry past still no_request ∙ f) (made_step entry past still no_request ∙ g)
      (acts_step entry past still no_request ∙ ap (λ (o : Option Act). with_value o (transfer_acts past)) h) is

  pub stands_same : (control : ControlValue) (maximum : ℕ) → ControlStands control maximum past
      → is_control entry.settled ≡ false → is_control entry.job ≡ false → control_act entry.item entry.answer ≡ None → ControlStands control maximum (entry ∷ past)
  stands_same control maximum stands f g h =
      stands_after control maximum (request_reply past) (is_job_made past) None
      (ap (λ (b : Bool). or_else (cond b (reply_of_item entry.item) None) (request_reply past)) f)
      (ap (λ (b : Bool). b || is_job_made past) g) h (follows control maximum past stands)

-- One IN more

in_progress : (acked : Bool) (maximum : ℕ) (reply : Option Reply) (acts : List Act) (request : Option Request) (address : ℕ)
    → after_in acked (progress_of (option_map (transfer_for maximum reply acts) request))
    ≡ progress_of (option_map (transfer_for maximum reply (act.In address 0 acked ∷ acts)) request)
in_progress acked maximum reply acts None address = refl
in_progress acked maximum reply acts (Some request) address = sym (progress_of-In (transfer_for maximum reply acts request) address 0 acked)

out_progress : (toggle : Bool) (packet : List ℕ) (maximum : ℕ) (reply : Option Reply) (acts : List Act) (request : Option Request) (address : ℕ)
    → after_out toggle packet (progress_of (option_map (transfer_for maximum reply acts) request))
    ≡ progress_of (option_map (transfer_for maximum reply (act.Out address 0 toggle packet ∷ acts)) request)
out_progress toggle packet maximum reply acts None address = refl
out_progress toggle packet maximum reply acts (Some request) address = sym (progress_of-Out (transfer_for maximum reply acts request) address 0 toggle packet)

-- the first stage of a transfer
fresh_reading : (setup : Setup) (maximum : ℕ) (due : List ℕ) → 0 < maximum → 0 < setup.length
    → progress_of_form Reading (record { setup = setup; due = Some due; maximum = maximum; acts = [] })
    ≡ first_stage maximum Reading setup (take setup.length due)
fresh_reading setup maximum due positive some =
    let count : ℕ = packets_of (length (take setup.length due)) setup.length maximum in
    ap (λ (b : Bool). reading_progress true b (take setup.length due) maximum count 0)
    (lt-ltb 0 count (some_packets (length (take setup.length due)) setup.length maximum some positive))

first_of_form : (none writes : Bool) (maximum : ℕ) (setup : Setup) → 0 < maximum → none ≡ (setup.length == 0)
    → progress_of_form (cond none NoData (cond writes Writing Reading)) (record { setup = setup; due = Some []; maximum = maximum; acts = [] })
    ≡ first_stage maximum (cond none NoData (cond writes Writing Reading)) setup (take setup.length [])
first_of_form true writes maximum setup positive e = refl
first_of_form false true maximum setup positive e = refl
first_of_form false false maximum setup positive e =
    fresh_reading setup maximum [] positive (positive_from setup.length (eqb-false setup.length 0 (sym e))) where
      positive_from : (n : ℕ) → (n ≡ 0 → ⊥) → 0 < n
      positive_from n h = omega (arith, h)

first_progress : (passes : Bool) (maximum : ℕ) (setup : Setup) → 0 < maximum
    → begun_progress maximum setup (when passes []) ≡ progress_of (Some (transfer_for maximum None [] (record { setup = setup; supported = passes })))
first_progress false maximum setup positive = refl
first_progress true maximum setup positive = sym (first_of_form (setup.length == 0) (nat_lt setup.kind 128) maximum setup positive refl)

first_forwarding : (passes own : Bool) → cond (passes && not own) Due Known ≡ forwarding_of (passes && not own && true) false
first_forwarding true true = refl
first_forwarding true false = refl
first_forwarding false own = refl

pub follows_begun : (control : ControlValue) (maximum : ℕ) (setup : Setup) (passes : Bool) → 0 < maximum → control.maximum ≡ maximum
    → Follows (begun setup passes control) maximum (Some (record { setup = setup; supported = passes })) None false []
follows_begun control maximum setup passes positive same = record {
  setup_is = refl;
  progress_is = ap (λ (m : ℕ). begun_progress m setup (when passes [])) same ∙ first_progress passes maximum setup positive;
  forwarding_is = first_forwarding passes (is_set_address setup);
  maximum_is = same;
  early = λ _ _. refl;
}

-- an IN of a transfer to the host that waits, before any act of it: it is answered NAK
fresh_of_form : (none writes : Bool) (maximum : ℕ) (setup : Setup) → 0 < maximum → none ≡ (setup.length == 0) → is_reading (cond none NoData (cond writes Writing Reading)) ≡ true
    → is_data (in_answer (progress_of_form (cond none NoData (cond writes Writing Reading)) (record { setup = setup; due = Some []; maximum = maximum; acts = [] }))) ≡ true
fresh_of_form none writes maximum setup positive e reading =
    ap (λ (p : Progress). is_data (in_answer p)) (first_of_form none writes maximum setup positive e) ∙ opened_data none writes reading where
      opened_data : (none writes : Bool) → is_reading (cond none NoData (cond writes Writing Reading)) ≡ true
          → is_data (in_answer (first_stage maximum (cond none NoData (cond writes Writing Reading)) setup (take setup.length []))) ≡ true
      opened_data true writes reading = absurd (false≢true reading)
      opened_data false true reading = absurd (false≢true reading)
      opened_data false false reading = refl

-- what waits: it is let through, isn't the bridge's own, and has no reply
waits_parts : (supported own replied : Bool) → (supported && not own && not replied) ≡ true → (supported ≡ true) × (replied ≡ false)
waits_parts true false false h = (refl, refl)
waits_parts true false true h = absurd (false≢true h)
waits_parts true true replied h = absurd (false≢true h)
waits_parts false own replied h = absurd (false≢true h)

no_reply : (reply : Option Reply) → is_some reply ≡ false → reply ≡ None
no_reply None h = refl
no_reply (Some reply) h = absurd (true≢false h)

fresh_withheld : (maximum : ℕ) (request : Option Request) (reply : Option Reply) → 0 < maximum → is_waiting_for request reply ≡ true → reads (setup_of_request request) ≡ true
    → is_data (in_answer (progress_of (option_map (transfer_for maximum reply []) request))) ≡ true
fresh_withheld maximum None reply positive waiting reading = absurd (false≢true waiting)
fresh_withheld maximum (Some request) reply positive waiting reading =
    let parts : (request.supported ≡ true) × (is_some reply ≡ false) = waits_parts request.supported (is_set_address request.setup) (is_some reply) waiting in
    rw (no_reply reply parts.1, parts.0)
    (fresh_of_form (request.setup.length == 0) (nat_lt request.setup.kind 128) maximum request.setup positive refl reading)

-- an IN that isn't answered NAK
pub follows_in : (control : ControlValue) (maximum : ℕ) (request : Option Request) (reply : Option Reply) (made : Bool) (acts : List Act) (address : ℕ) (acked : Bool)
    → 0 < maximum → Follows control maximum request reply made acts → is_withheld control ≡ false
    → Follows (after_control_in acked control) maximum request reply made (act.In address 0 acked ∷ acts)
follows_in control maximum request reply made acts address acked positive is free = rw free (record {
  setup_is = is.setup_is;
  progress_is = ap (λ (p : Progress). after_in acked p) is.progress_is ∙ in_progress acked maximum reply acts request address;
  forwarding_is = is.forwarding_is;
  maximum_is = is.maximum_is;
  early = λ waiting reading. later acts (is.early waiting reading) (λ (e : acts ≡ []). not_fresh waiting reading e);
}) where
  later : (acts : List Act) → begins_with_out acts ≡ true → (acts ≡ [] → ⊥) → begins_with_out (act.In address 0 acked ∷ acts) ≡ true
  later [] early fresh = absurd (fresh refl)
  later (before ∷ acts) early fresh = early

  not_fresh : is_waiting_for request reply ≡ true → reads (setup_of_request request) ≡ true → acts ≡ [] → ⊥
  not_fresh waiting reading e =
      let gives : is_data (in_answer control.progress) ≡ true =
      ap (λ (p : Progress). is_data (in_answer p)) is.progress_is
      ∙ (ap (λ (a : List Act). is_data (in_answer (progress_of (option_map (transfer_for maximum reply a) request)))) e
      ∙ fresh_withheld maximum request reply positive waiting reading) in
      let waits_still : waits control.forwarding ≡ true =
      ap (λ (f : Forwarding). waits f) is.forwarding_is ∙ (waits-forwarding_of (is_waiting_for request reply) made ∙ waiting) in
      true≢false (sym (and_from (waits control.forwarding) (is_data (in_answer control.progress)) waits_still gives) ∙ free)

-- an IN that is answered NAK, at which the token is asked or not
pub follows_asked : (control : ControlValue) (maximum : ℕ) (request : Option Request) (reply : Option Reply) (made : Bool) (acts : List Act)
    → Follows control maximum request reply made acts → is_waiting_for request reply ≡ true → Follows (record control { forwarding = Asked }) maximum request reply true acts
follows_asked control maximum request reply made acts is waiting = record {
  setup_is = is.setup_is;
  progress_is = is.progress_is;
  forwarding_is = sym (ap (λ (b : Bool). forwarding_of b true) waiting);
  maximum_is = is.maximum_is;
  early = is.early;
}

pub withheld_same : (control : ControlValue) (acked : Bool) → is_withheld control ≡ true → after_control_in acked control ≡ control
withheld_same control acked held = rw held refl

-- an OUT
pub follows_out : (control : ControlValue) (maximum : ℕ) (request : Option Request) (reply : Option Reply) (made : Bool) (acts : List Act) (address : ℕ) (toggle : Bool) (packet : List ℕ)
    → Follows control maximum request reply made acts
    → Follows (after_control_out toggle packet control) maximum request reply made (act.Out address 0 toggle packet ∷ acts)
follows_out control maximum request reply made acts address toggle packet is = record {
  setup_is = is.setup_is;
  progress_is = ap (λ (p : Progress). after_out toggle packet p) is.progress_is ∙ out_progress toggle packet maximum reply acts request address;
  forwarding_is = is.forwarding_is;
  maximum_is = is.maximum_is;
  early = λ waiting reading. later acts (is.early waiting reading);
} where
  later : (acts : List Act) → begins_with_out acts ≡ true → begins_with_out (act.Out address 0 toggle packet ∷ acts) ≡ true
  later [] early = refl
  later (before ∷ acts) early = early

-- a bus reset
pub follows_reset : (maximum : ℕ) → Follows (new_control maximum) maximum None None false []
follows_reset maximum = record { setup_is = refl; progress_is = refl; forwarding_is = refl; maximum_is = refl; early = λ _ _. refl }

-- The token's answer

-- whether each act fits doesn't rest on the number of packets, where the data don't go to the host or the first act is an OUT
some_out : (acts : List Act) (before : Act) → begins_with_out (before ∷ acts) ≡ true → (number_of is_out (before ∷ acts) == 0) ≡ false
some_out [] (act.Out address endpoint toggle packet) early = refl
some_out [] act.Reset early = absurd (false≢true early)
some_out [] (act.Setup address setup) early = absurd (false≢true early)
some_out [] (act.In address endpoint acked) early = absurd (false≢true early)
some_out (next ∷ acts) (act.Out address endpoint toggle packet) early = ne_eqb (1 + number_of is_out (next ∷ acts)) 0 (λ e. omega (arith, e))
some_out (next ∷ acts) act.Reset early = some_out acts next early
some_out (next ∷ acts) (act.Setup address setup) early = some_out acts next early
some_out (next ∷ acts) (act.In address endpoint acked) early = some_out acts next early

fit_whatever : (form : Form) (asked count other : ℕ) (acts : List Act) (taken : Act) → (is_reading form ≡ true → begins_with_out (taken ∷ acts) ≡ true)
    → is_fit form asked count acts taken ≡ is_fit form asked other acts taken
fit_whatever Writing asked count other acts act.Reset early = refl
fit_whatever Writing asked count other acts (act.Setup address setup) early = refl
fit_whatever Writing asked count other acts (act.Out address endpoint toggle packet) early = refl
fit_whatever Writing asked count other acts (act.In address endpoint acked) early = refl
fit_whatever NoData asked count other acts act.Reset early = refl
fit_whatever NoData asked count other acts (act.Setup address setup) early = refl
fit_whatever NoData asked count other acts (act.Out address endpoint toggle packet) early = refl
fit_whatever NoData asked count other acts (act.In address endpoint acked) early = refl
fit_whatever Reading asked count other acts act.Reset early = refl
fit_whatever Reading asked count other acts (act.Setup address setup) early = refl
fit_whatever Reading asked count other acts (act.Out address endpoint toggle packet) early = refl
fit_whatever Reading asked count other [] (act.In address endpoint acked) early = absurd (false≢true (early refl))
fit_whatever Reading asked count other (before ∷ acts) (act.In address endpoint acked) early = rw (some_out acts before (early refl)) refl

begins_before : (taken : Act) (acts : List Act) → begins_with_out (taken ∷ acts) ≡ true → begins_with_out acts ≡ true
begins_before taken [] early = refl
begins_before taken (before ∷ acts) early = early

all_whatever : (form : Form) (asked count other : ℕ) (acts : List Act) → (is_reading form ≡ true → begins_with_out acts ≡ true) → each_fit form asked count acts ≡ each_fit form asked other acts
all_whatever form asked count other [] early = refl
all_whatever form asked count other (taken ∷ acts) early =
    ap (λ (b : Bool). b && each_fit form asked count acts) (fit_whatever form asked count other acts taken early)
    ∙ ap (λ (b : Bool). is_fit form asked other acts taken && b) (all_whatever form asked count other acts (λ reading. begins_before taken acts (early reading)))

fresh_answered : (setup : Setup) (maximum : ℕ) (bytes : List ℕ) → 0 < maximum → 0 < setup.length
    → answered setup maximum bytes (progress_of_form Reading (record { setup = setup; due = Some []; maximum = maximum; acts = [] }))
    ≡ progress_of_form Reading (record { setup = setup; due = Some bytes; maximum = maximum; acts = [] })
fresh_answered setup maximum bytes positive some =
    ap (λ (p : Progress). answered setup maximum bytes p) (fresh_reading setup maximum [] positive some)
    ∙ sym (fresh_reading setup maximum bytes positive some)

answered_status : (left : Bool) (setup kept : Setup) (maximum : ℕ) (bytes : List ℕ) → answered setup maximum bytes (status_progress left kept) ≡ status_progress left kept
answered_status true setup kept maximum bytes = refl
answered_status false setup kept maximum bytes = refl

answered_writing : (left : Bool) (setup kept : Setup) (maximum : ℕ) (bytes old : List ℕ) (next : Bool) → answered setup maximum bytes (writing_progress left kept old next) ≡ writing_progress left kept old next
answered_writing true setup kept maximum bytes old next = refl
answered_writing false setup kept maximum bytes old next = refl

ended_reading : (setup : Setup) (maximum : ℕ) (due : List ℕ) (before : Act) (acts : List Act) → begins_with_out (before ∷ acts) ≡ true
    → progress_of_form Reading (record { setup = setup; due = Some due; maximum = maximum; acts = before ∷ acts }) ≡ DoneOut
ended_reading setup maximum due before acts early = rw (some_out acts before early) refl

answered_of_form : (form : Form) (setup : Setup) (maximum : ℕ) (bytes : List ℕ) (acts : List Act) → 0 < maximum → (is_reading form ≡ true → 0 < setup.length)
    → (is_reading form ≡ true → begins_with_out acts ≡ true)
    → (progress_of_form form (record { setup = setup; due = Some []; maximum = maximum; acts = acts }) ≡ DoneOut → ⊥)
    → answered setup maximum bytes (progress_of_form form (record { setup = setup; due = Some []; maximum = maximum; acts = acts }))
    ≡ progress_of_form form (record { setup = setup; due = Some bytes; maximum = maximum; acts = acts })
answered_of_form NoData setup maximum bytes acts positive some early open_still = answered_status (is_open acts) setup setup maximum bytes
answered_of_form Writing setup maximum bytes acts positive some early open_still = answered_writing (is_open acts) setup setup maximum bytes (received acts) (expected_toggle acts)
answered_of_form Reading setup maximum bytes [] positive some early open_still = fresh_answered setup maximum bytes positive (some refl)
answered_of_form Reading setup maximum bytes (before ∷ acts) positive some early open_still = absurd (open_still (ended_reading setup maximum [] before acts (early refl)))

answered_where : (all : Bool) (form : Form) (setup : Setup) (maximum : ℕ) (bytes : List ℕ) (acts : List Act) → 0 < maximum → (is_reading form ≡ true → 0 < setup.length)
    → (is_reading form ≡ true → begins_with_out acts ≡ true)
    → (cond all (progress_of_form form (record { setup = setup; due = Some []; maximum = maximum; acts = acts })) Refusing ≡ DoneOut → ⊥)
    → answered setup maximum bytes (cond all (progress_of_form form (record { setup = setup; due = Some []; maximum = maximum; acts = acts })) Refusing)
    ≡ cond all (progress_of_form form (record { setup = setup; due = Some bytes; maximum = maximum; acts = acts })) Refusing
answered_where false form setup maximum bytes acts positive some early open_still = refl
answered_where true form setup maximum bytes acts positive some early open_still = answered_of_form form setup maximum bytes acts positive some early open_still

some_length : (none writes : Bool) (n : ℕ) → none ≡ (n == 0) → is_reading (cond none NoData (cond writes Writing Reading)) ≡ true → 0 < n
some_length true writes n e reading = absurd (false≢true reading)
some_length false true n e reading = absurd (false≢true reading)
some_length false false n e reading = let h = eqb-false n 0 (sym e) in omega (arith, h)

answered_transfer : (setup : Setup) (maximum : ℕ) (bytes : List ℕ) (acts : List Act) → 0 < maximum → (reads setup ≡ true → begins_with_out acts ≡ true)
    → (progress_of (Some (record { setup = setup; due = Some []; maximum = maximum; acts = acts })) ≡ DoneOut → ⊥)
    → answered setup maximum bytes (progress_of (Some (record { setup = setup; due = Some []; maximum = maximum; acts = acts })))
    ≡ progress_of (Some (record { setup = setup; due = Some bytes; maximum = maximum; acts = acts }))
answered_transfer setup maximum bytes acts positive early open_still =
    answered_where (all_fit (record { setup = setup; due = Some []; maximum = maximum; acts = acts }) acts) (form_of setup) setup maximum bytes acts positive
    (some_length (setup.length == 0) (nat_lt setup.kind 128) setup.length refl) early open_still
    ∙ ap (λ (b : Bool). cond b (progress_of_form (form_of setup) (record { setup = setup; due = Some bytes; maximum = maximum; acts = acts })) Refusing)
    (all_whatever (form_of setup) setup.length (packet_count (record { setup = setup; due = Some []; maximum = maximum; acts = acts }))
    (packet_count (record { setup = setup; due = Some bytes; maximum = maximum; acts = acts })) acts early)

settled_progress : (good : Bool) (setup : Setup) (maximum : ℕ) (bytes : List ℕ) (acts : List Act) (progress : Progress) → 0 < maximum → (reads setup ≡ true → begins_with_out acts ≡ true)
    → progress ≡ progress_of (Some (record { setup = setup; due = Some []; maximum = maximum; acts = acts })) → (progress ≡ DoneOut → ⊥)
    → cond good (answered setup maximum bytes progress) Refusing
    ≡ progress_of (Some (record { setup = setup; due = cond good (Some bytes) None; maximum = maximum; acts = acts }))
settled_progress false setup maximum bytes acts progress positive early is open_still = refl
settled_progress true setup maximum bytes acts progress positive early is open_still =
    ap (λ (p : Progress). answered setup maximum bytes p) is
    ∙ answered_transfer setup maximum bytes acts positive early (λ e. open_still (is ∙ e))

no_longer_waits : (supported own : Bool) → (supported && not own && false) ≡ false
no_longer_waits true true = refl
no_longer_waits true false = refl
no_longer_waits false own = refl

follows_settled_one : (control : ControlValue) (maximum : ℕ) (request : Request) (reply : Option Reply) (made : Bool) (acts : List Act) (status : ℕ) (bytes : List ℕ)
    → 0 < maximum → Follows control maximum (Some request) reply made acts → waits_for request reply ≡ true → (control.progress ≡ DoneOut → ⊥)
    → Follows (settled_control status bytes control) maximum (Some request) (Some (record { status = status; bytes = bytes })) made acts
follows_settled_one control maximum request reply made acts status bytes positive is waiting open_still =
    let parts : (request.supported ≡ true) × (is_some reply ≡ false) = waits_parts request.supported (is_set_address request.setup) (is_some reply) waiting in
    let before : control.progress ≡ progress_of (Some (record { setup = request.setup; due = Some []; maximum = maximum; acts = acts })) =
    is.progress_is ∙ (ap (λ (p : Option Reply). progress_of (Some (transfer_for maximum p acts request))) (no_reply reply parts.1)
    ∙ ap (λ (b : Bool). progress_of (Some (record { setup = request.setup; due = cond b (Some []) None; maximum = maximum; acts = acts }))) parts.0) in
    record {
      setup_is = is.setup_is;
      progress_is =
          ap (λ (s : Setup). cond (status == 0) (answered s control.maximum bytes control.progress) Refusing) is.setup_is
          ∙ (ap (λ (m : ℕ). cond (status == 0) (answered request.setup m bytes control.progress) Refusing) is.maximum_is
          ∙ (settled_progress (status == 0) request.setup maximum bytes acts control.progress positive (is.early waiting) before open_still
          ∙ ap (λ (b : Bool). progress_of (Some (record { setup = request.setup; due = cond b (cond (status == 0) (Some bytes) None) None; maximum = maximum; acts = acts }))) (sym parts.0)));
      forwarding_is = ap (λ (b : Bool). forwarding_of b made) (sym (no_longer_waits request.supported (is_set_address request.setup)));
      maximum_is = is.maximum_is;
      early = λ still reading. absurd (false≢true (sym (no_longer_waits request.supported (is_set_address request.setup)) ∙ still));
    }

pub follows_settled : (control : ControlValue) (maximum : ℕ) (request : Option Request) (reply : Option Reply) (made : Bool) (acts : List Act) (status : ℕ) (bytes : List ℕ)
    → 0 < maximum → Follows control maximum request reply made acts → is_waiting_for request reply ≡ true → (control.progress ≡ DoneOut → ⊥)
    → Follows (settled_control status bytes control) maximum request (Some (record { status = status; bytes = bytes })) made acts
follows_settled control maximum None reply made acts status bytes positive is waiting open_still = absurd (false≢true waiting)
follows_settled control maximum (Some request) reply made acts status bytes positive is waiting open_still =
    follows_settled_one control maximum request reply made acts status bytes positive is waiting open_still

-- What an IN completes

abbrev first_of : Option (Setup × List ℕ) → Option Setup
first_of done = option_map (λ (d : Setup × List ℕ). d.0) done

first_contents : (b : Bool) (transfer : Transfer) → first_of (option_map contents_of (when b transfer)) ≡ when b transfer.setup
first_contents true transfer = refl
first_contents false transfer = refl

not_acked : (supported has fit : Bool) (transfer : Transfer) → None ≡ when (supported && false && has && fit) transfer.setup
not_acked true has fit transfer = refl
not_acked false has fit transfer = refl

pub completes_is : (acked waiting : Bool) (transfer : Option Transfer) (address : ℕ)
    → cond (acked && not waiting) (completed_setup (progress_of transfer)) None ≡ completed_in waiting transfer (act.In address 0 acked)
completes_is true true None address = refl
completes_is true false None address = refl
completes_is false waiting None address = refl
completes_is true true (Some transfer) address = refl
completes_is true false (Some transfer) address =
    ap (λ (o : Option (Setup × List ℕ)). first_of o) (sym (completed_by_In transfer address 0))
    ∙ first_contents (is_completed_by transfer (act.In address 0 true)) transfer
completes_is false true (Some transfer) address = refl
completes_is false false (Some transfer) address = not_acked (is_some transfer.due) (has_status_in (form_of transfer.setup)) (all_fit transfer (act.In address 0 false ∷ transfer.acts)) transfer

-- The bytes that the host sent

payload_where : (all : Bool) (form : Form) (transfer : Transfer) → is_data (in_answer (cond all (progress_of_form form transfer) Refusing)) ≡ true
    → sent_bytes (cond all (progress_of_form form transfer) Refusing) ≡ payload_of form transfer.acts
payload_where false form transfer gives = absurd (false≢true gives)
payload_where true Reading transfer gives =
    by_left (number_of is_out transfer.acts == 0) (nat_lt (number_of is_acked_in transfer.acts) (packet_count transfer)) where
      by_left : (none left : Bool) → sent_bytes (reading_progress none left (cut_data transfer) transfer.maximum (packet_count transfer) (number_of is_acked_in transfer.acts)) ≡ []
      by_left true true = refl
      by_left true false = refl
      by_left false left = refl
payload_where true Writing transfer gives = by_left (is_open transfer.acts) gives where
  by_left : (b : Bool) → is_data (in_answer (writing_progress b transfer.setup (received transfer.acts) (expected_toggle transfer.acts))) ≡ true
      → sent_bytes (writing_progress b transfer.setup (received transfer.acts) (expected_toggle transfer.acts)) ≡ received transfer.acts
  by_left true gives = refl
  by_left false gives = absurd (false≢true gives)
payload_where true NoData transfer gives = by_left (is_open transfer.acts) where
  by_left : (b : Bool) → sent_bytes (status_progress b transfer.setup) ≡ []
  by_left true = refl
  by_left false = refl

pub payload_is : (transfer : Transfer) → is_data (in_answer (progress_of (Some transfer))) ≡ true → sent_bytes (progress_of (Some transfer)) ≡ payload transfer
payload_is transfer gives = payload_where (is_some transfer.due && all_fit transfer transfer.acts) (form_of transfer.setup) transfer gives

-- Kinds of answers

pub in_taken : (waiting : Bool) (progress : Progress) → is_taken (withheld waiting (in_answer progress)) ≡ not (waiting && is_data (in_answer progress))
in_taken true Refusing = refl
in_taken false Refusing = refl
in_taken true (DataIn bytes maximum count sent) = refl
in_taken false (DataIn bytes maximum count sent) = refl
in_taken true StatusOut = refl
in_taken false StatusOut = refl
in_taken true DoneOut = refl
in_taken false DoneOut = refl
in_taken true (DataOut setup bytes next) = cond_both (length bytes == setup.length) (answer.Data true []) answer.Stall (λ (a : Answer). is_taken (withheld true a) ≡ not (true && is_data a)) (λ _. refl) (λ _. refl)
in_taken false (DataOut setup bytes next) = cond_both (length bytes == setup.length) (answer.Data true []) answer.Stall (λ (a : Answer). is_taken (withheld false a) ≡ not (false && is_data a)) (λ _. refl) (λ _. refl)
in_taken true (StatusIn setup) = refl
in_taken false (StatusIn setup) = refl

pub in_nak : (waiting : Bool) (progress : Progress) → is_nak (withheld waiting (in_answer progress)) ≡ (waiting && is_data (in_answer progress))
in_nak true Refusing = refl
in_nak false Refusing = refl
in_nak true (DataIn bytes maximum count sent) = refl
in_nak false (DataIn bytes maximum count sent) = refl
in_nak true StatusOut = refl
in_nak false StatusOut = refl
in_nak true DoneOut = refl
in_nak false DoneOut = refl
in_nak true (DataOut setup bytes next) = cond_both (length bytes == setup.length) (answer.Data true []) answer.Stall (λ (a : Answer). is_nak (withheld true a) ≡ (true && is_data a)) (λ _. refl) (λ _. refl)
in_nak false (DataOut setup bytes next) = cond_both (length bytes == setup.length) (answer.Data true []) answer.Stall (λ (a : Answer). is_nak (withheld false a) ≡ (false && is_data a)) (λ _. refl) (λ _. refl)
in_nak true (StatusIn setup) = refl
in_nak false (StatusIn setup) = refl

pub out_taken : (toggle : Bool) (packet : List ℕ) (progress : Progress) → is_taken (out_answer toggle packet progress) ≡ true
out_taken toggle packet Refusing = refl
out_taken toggle packet (DataIn bytes maximum count sent) = cond_both (toggle && length packet == 0) answer.Ack answer.Stall (λ (a : Answer). is_taken a ≡ true) (λ _. refl) (λ _. refl)
out_taken toggle packet StatusOut = cond_both (toggle && length packet == 0) answer.Ack answer.Stall (λ (a : Answer). is_taken a ≡ true) (λ _. refl) (λ _. refl)
out_taken toggle packet DoneOut = cond_both (toggle && length packet == 0) answer.Ack answer.Stall (λ (a : Answer). is_taken a ≡ true) (λ _. refl) (λ _. refl)
out_taken toggle packet (DataOut setup bytes next) =
    cond_both (same_toggle toggle next) _ _ (λ (a : Answer). is_taken a ≡ true)
    (λ _. cond_both (is_room_for packet bytes setup.length) answer.Ack answer.Stall (λ (a : Answer). is_taken a ≡ true) (λ _. refl) (λ _. refl)) (λ _. refl)
out_taken toggle packet (StatusIn setup) = refl

-- When a transfer to the host comes to its end before the token answered

pub in_not_ended : (acked : Bool) (progress : Progress) → is_data (in_answer progress) ≡ false → after_in acked progress ≡ DoneOut → ⊥
in_not_ended acked Refusing gives e = cc
in_not_ended acked (DataIn bytes maximum count sent) gives e = true≢false gives
in_not_ended acked StatusOut gives e = cc
in_not_ended acked DoneOut gives e = cc
in_not_ended acked (DataOut setup bytes next) gives e =
    cond_both (length bytes == setup.length && not acked) (DataOut setup bytes next) Refusing (λ (p : Progress). p ≡ DoneOut → ⊥) (λ _ f. cc) (λ _ f. cc) e
in_not_ended acked (StatusIn setup) gives e = true≢false gives

out_ended_where : (all : Bool) (form : Form) (toggle : Bool) (packet : List ℕ) (transfer : Transfer)
    → after_out toggle packet (cond all (progress_of_form form transfer) Refusing) ≡ DoneOut
    → (is_reading form && is_ack (out_answer toggle packet (cond all (progress_of_form form transfer) Refusing))) ≡ true
out_ended_where false form toggle packet transfer e = cc
out_ended_where true Reading toggle packet transfer e =
    by_left (number_of is_out transfer.acts == 0) (nat_lt (number_of is_acked_in transfer.acts) (packet_count transfer)) e where
      by_status : (b : Bool) → cond b DoneOut Refusing ≡ DoneOut → is_ack (cond b answer.Ack answer.Stall) ≡ true
      by_status true f = refl
      by_status false f = cc

      by_left : (none left : Bool) → after_out toggle packet (reading_progress none left (cut_data transfer) transfer.maximum (packet_count transfer) (number_of is_acked_in transfer.acts)) ≡ DoneOut
          → is_ack (out_answer toggle packet (reading_progress none left (cut_data transfer) transfer.maximum (packet_count transfer) (number_of is_acked_in transfer.acts))) ≡ true
      by_left true true f = by_status (toggle && length packet == 0) f
      by_left true false f = by_status (toggle && length packet == 0) f
      by_left false left f = by_status (toggle && length packet == 0) f
out_ended_where true Writing toggle packet transfer e = absurd (by_left (is_open transfer.acts) e) where
  by_left : (b : Bool) → after_out toggle packet (writing_progress b transfer.setup (received transfer.acts) (expected_toggle transfer.acts)) ≡ DoneOut → ⊥
  by_left false f = cc
  by_left true f =
      cond_both (same_toggle toggle (expected_toggle transfer.acts)) _ _ (λ (p : Progress). p ≡ DoneOut → ⊥)
      (λ _. cond_both (is_room_for packet (received transfer.acts) transfer.setup.length) _ Refusing (λ (p : Progress). p ≡ DoneOut → ⊥) (λ _ h. cc) (λ _ h. cc))
      (λ _ h. cc) f
out_ended_where true NoData toggle packet transfer e = absurd (by_left (is_open transfer.acts) e) where
  by_left : (b : Bool) → after_out toggle packet (status_progress b transfer.setup) ≡ DoneOut → ⊥
  by_left true f = cc
  by_left false f = cc

pub out_ended : (toggle : Bool) (packet : List ℕ) (maximum : ℕ) (request : Option Request) (reply : Option Reply) (acts : List Act)
    → after_out toggle packet (progress_of (option_map (transfer_for maximum reply acts) request)) ≡ DoneOut
    → (reads (setup_of_request request) && is_ack (out_answer toggle packet (progress_of (option_map (transfer_for maximum reply acts) request)))) ≡ true
out_ended toggle packet maximum None reply acts e = cc
out_ended toggle packet maximum (Some request) reply acts e =
    out_ended_where (is_some (due_of request reply) && all_fit (transfer_for maximum reply acts request) acts) (form_of request.setup) toggle packet (transfer_for maximum reply acts request) e
