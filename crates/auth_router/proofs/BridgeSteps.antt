-- What a bridge does at an act is what the list of what happened tells, and it goes on to stand for it.
use Rattle.std.proofs.Common.{◌≡◌, ℕ, ◌+◌, ◌<◌, Bool, true, false, not, List, ◌∷◌, Option, Some, None, cond, refl, sym, ap, ◌∙◌, arith, subst, slice_index_or}
use Rattle.std.specs.Prelude.{◌&&◌, ◌||◌, ◌==◌, is_some, option_map, nat_lt}
use Rattle.std.proofs.lemmas.Bool.{and_parts, false≢true, eqb-true, eqb-false, ltb-true}
use Rattle.psd_base.specs.declared.setup.Setup.{Setup}
use Rattle.psd_base.specs.declared.act.Act.{Act}
use Rattle.psd_base.specs.declared.act.Act.TheVariants as act
use Rattle.psd_base.specs.declared.act.Answer.{Answer}
use Rattle.psd_base.specs.declared.act.Answer.TheVariants as answer
use Rattle.psd_base.specs.declared.console.JobKind.{JobKind}
use Rattle.psd_base.specs.declared.console.JobKind.TheVariants as job
use Rattle.control_pipe.specs.Requests.{when}
use Rattle.control_pipe.specs.Transfer.{same_toggle}
use Rattle.control_pipe.specs.Progress.{Progress, in_answer, out_answer}
use Rattle.control_pipe.specs.PipeStands.{progress_of}
use Rattle.auth_router.specs.declared.up.Up.{Up}
use Rattle.auth_router.specs.Endpoint as endpoint
use Rattle.auth_router.specs.declared.endpoints.TheConstants.{ENDPOINTS}
use Rattle.auth_router.specs.declared.control.Forwarding.{Forwarding}
use Rattle.auth_router.specs.declared.live.Live.{Live}
use Rattle.auth_router.specs.declared.live.Outstanding.{Outstanding}
use Rattle.auth_router.specs.Entries.{BridgeItem, Acted, Done, Request, Entry}
use Rattle.auth_router.specs.Forwarding.{is_passable}
use Rattle.auth_router.specs.Bridge.{is_in_set, is_ack, is_nak, is_data, reads, reads_request, withheld, answer_in, completed_in, control_job, transfer_for, last_request, request_reply, transfer_acts, is_waiting, is_waiting_for, is_job_made, last_transfer, address_after, is_configured_after, is_outstanding, is_halted_after, toggle_after, reply_with, in_answer_at, out_answer_at, is_reached, answer_to, in_job, job_of_act, entry_for, history_of, BridgePast, IsDown, IsUp, job_count, bridge_answer, bridge_made, bridge_takes, after_act, after_done}
use Rattle.auth_router.specs.ControlStep.{ControlValue, waits, is_due, is_withheld, control_in_answer, control_completes, completed_setup, sent_bytes}
use Rattle.auth_router.specs.EndpointStep.{polled_answer, out_reply}
use Rattle.auth_router.specs.LiveStep.{is_reached_live, can_ask, asked_live, ask_job, moved_in, completed_by, control_in_live, control_in_job, control_out_live, in_live, in_job_live, wants_packet, out_live, out_job_live, live_answer, live_job, live_after, begun_live, settled_live, numbered_job, bridge_after, answer_by, job_by, bridge_heard, hears_by}
use Rattle.auth_router.specs.BridgeStands.{setup_of_request, forwarding_of, LiveStands, BridgeStands}
use Rattle.auth_router.proofs.JobSteps.{some_outstanding}
use Rattle.auth_router.proofs.ControlSteps.{waits-forwarding_of, in_answer_of, out_answer_of, in_nak, completes_is, payload_is, withheld_same}
use Rattle.auth_router.proofs.LiveSteps.{entry_of, silent_stands, reset_stands, begun_stands, poll_stands}
use Rattle.auth_router.proofs.LiveActs.{commuted, take_stands, withheld_stands, given_stands, control_out_stands}
use Rattle.auth_router.proofs.LiveDone.{done_stands}

-- the same entry, part by part
entry_eq : (taken : Act) (a b : Answer) (r s : Option Request) (j k : Option JobKind) (c d : Option Setup) (e f : Bool) → a ≡ b → r ≡ s → j ≡ k → c ≡ d → e ≡ f
    → entry_of taken a r j c e ≡ entry_of taken b s k d f
entry_eq taken a b r s j k c d e f p q t u v = cc

reads_request_is : (request : Option Request) → reads (setup_of_request request) ≡ reads_request request
reads_request_is None = refl
reads_request_is (Some request) = refl

due_where : (made : Bool) → is_due (forwarding_of true made) ≡ not made
due_where true = refl
due_where false = refl

-- the job of a packet for the token
sent_where : (halted same busy : Bool) (kind : JobKind)
    → cond (not halted && same && not busy) (Some kind) None ≡ when (true && is_ack (cond halted answer.Stall (cond (same && busy) answer.Nak answer.Ack)) && same) kind
sent_where true true busy kind = refl
sent_where true false busy kind = refl
sent_where false true true kind = refl
sent_where false true false kind = refl
sent_where false false busy kind = refl

module _ (live : Live) (up : Up) (past : List Entry) (stands : LiveStands live up past) where
  moved : (after : Live) (entry other : Entry) → entry ≡ other → LiveStands after up (entry ∷ past) → LiveStands after up (other ∷ past)
  moved after entry other e h = let P : Entry → Type 0 = λ (x : Entry). LiveStands after up (x ∷ past) in subst P e h

  reached_is : (set address number : ℕ) → is_reached_live set address number live ≡ is_reached set address number past
  reached_is set address number =
      ap (λ (n : ℕ). address == n && (number == 0 || (live.configured && is_in_set set number))) stands.address_is
      ∙ ap (λ (b : Bool). address == address_after past && (number == 0 || (b && is_in_set set number))) stands.configured_is

  ins_is : (address number : ℕ) → is_reached_live live.up.ins address number live ≡ is_reached up.ins address number past
  ins_is address number = ap (λ (u : Up). is_reached_live u.ins address number live) stands.up_is ∙ reached_is up.ins address number

  outs_is : (address number : ℕ) → is_reached_live live.up.outs address number live ≡ is_reached up.outs address number past
  outs_is address number = ap (λ (u : Up). is_reached_live u.outs address number live) stands.up_is ∙ reached_is up.outs address number

  waits_is : waits live.control.forwarding ≡ is_waiting past
  waits_is = ap (λ (f : Forwarding). waits f) stands.control.forwarding_is ∙ waits-forwarding_of (is_waiting past) (is_job_made past)

  busy_is : is_some live.outstanding ≡ is_outstanding past
  busy_is = ap (λ (o : Option Outstanding). is_some o) stands.outstanding_is ∙ some_outstanding past

  -- Answers

  control_in_is : (address : ℕ) (acked : Bool) → control_in_answer live.control ≡ answer_in (is_waiting past) (last_transfer up.max0 past) (act.In address 0 acked)
  control_in_is address acked =
      ap (λ (b : Bool). withheld b (in_answer live.control.progress)) waits_is
      ∙ (ap (λ (p : Progress). withheld (is_waiting past) (in_answer p)) stands.control.progress_is
      ∙ in_answer_of (is_waiting past) (last_transfer up.max0 past) address 0 acked)

  control_out_is : (address : ℕ) (toggle : Bool) (packet : List ℕ)
      → out_answer toggle packet live.control.progress ≡ answer_in (is_waiting past) (last_transfer up.max0 past) (act.Out address 0 toggle packet)
  control_out_is address toggle packet =
      ap (λ (p : Progress). out_answer toggle packet p) stands.control.progress_is ∙ out_answer_of (is_waiting past) (last_transfer up.max0 past) address 0 toggle packet

  polled_is : (number : ℕ) → 0 < number → number < ENDPOINTS → polled_answer number live.endpoints ≡ in_answer_at number past
  polled_is number some within =
      ap (λ (b : Bool). cond b answer.Stall (reply_with (slice_index_or live.endpoints.in_toggles number false) (slice_index_or live.endpoints.held number None))) (stands.endpoints.in_halts number within)
      ∙ (ap (λ (b : Bool). cond (is_halted_after (endpoint.In number) past) answer.Stall (reply_with b (slice_index_or live.endpoints.held number None))) (stands.endpoints.in_toggles number some within)
      ∙ ap (λ (o : Option (List ℕ)). cond (is_halted_after (endpoint.In number) past) answer.Stall (reply_with (toggle_after (endpoint.In number) past) o)) (stands.endpoints.held number some within))

  replied_is : (number : ℕ) (toggle : Bool) → number < ENDPOINTS → out_reply number toggle (is_some live.outstanding) live.endpoints ≡ out_answer_at number toggle past
  replied_is number toggle within =
      ap (λ (b : Bool). cond b answer.Stall (cond (same_toggle toggle (slice_index_or live.endpoints.out_toggles number false) && is_some live.outstanding) answer.Nak answer.Ack)) (stands.endpoints.out_halts number within)
      ∙ (ap (λ (b : Bool). cond (is_halted_after (endpoint.Out number) past) answer.Stall (cond (same_toggle toggle b && is_some live.outstanding) answer.Nak answer.Ack)) (stands.endpoints.out_toggles number within)
      ∙ ap (λ (b : Bool). cond (is_halted_after (endpoint.Out number) past) answer.Stall (cond (same_toggle toggle (toggle_after (endpoint.Out number) past) && b) answer.Nak answer.Ack)) busy_is)

  -- a number other than 0 that is reached is an endpoint's
  within_set : (set address number : ℕ) → (number == 0) ≡ false → is_reached set address number past ≡ true → number < ENDPOINTS
  within_set set address number other reached =
      let here : (number == 0 || (is_configured_after past && is_in_set set number)) ≡ true =
      (and_parts (address == address_after past) (number == 0 || (is_configured_after past && is_in_set set number)) reached).1 in
      let there : (is_configured_after past && is_in_set set number) ≡ true = sym (ap (λ (b : Bool). b || (is_configured_after past && is_in_set set number)) other) ∙ here in
      let listed : is_in_set set number ≡ true = (and_parts (is_configured_after past) (is_in_set set number) there).1 in
      ltb-true number 16 (and_parts (nat_lt number 16) _ listed).0

  positive : (number : ℕ) → (number == 0) ≡ false → 0 < number
  positive number other = let h = eqb-false number 0 other in omega (arith, h)

  -- An IN at another endpoint

  in_job_is : (number : ℕ) → (number == 0) ≡ false → 0 < number → number < ENDPOINTS
      → in_job_live number live ≡ cond (is_nak (in_answer_at number past) && not (is_outstanding past)) (in_job number up past) None
  in_job_is number other some within =
      ap (λ (a : Answer). cond (is_nak a && not (is_some live.outstanding)) (Some (job.In number)) None) (polled_is number some within)
      ∙ (ap (λ (b : Bool). cond (is_nak (in_answer_at number past) && not b) (Some (job.In number)) None) busy_is
      ∙ ap (λ (o : Option JobKind). cond (is_nak (in_answer_at number past) && not (is_outstanding past)) o None) (sym (in_job_other number other))) where
        in_job_other : (number : ℕ) → (number == 0) ≡ false → in_job number up past ≡ Some (job.In number)
        in_job_other number other = ap (λ (b : Bool). cond b (cond (is_job_made past) None (option_map control_job (last_transfer up.max0 past))) (Some (job.In number))) other

  -- An OUT at another endpoint

  out_job_is : (number : ℕ) (toggle : Bool) (packet : List ℕ) → (number == 0) ≡ false → number < ENDPOINTS
      → out_job_live number toggle packet live
      ≡ when (not (number == 0) && is_ack (out_answer_at number toggle past) && same_toggle toggle (toggle_after (endpoint.Out number) past)) (job.Out number packet)
  out_job_is number toggle packet other within =
      ap (λ (b : Bool). cond (not b && same_toggle toggle (slice_index_or live.endpoints.out_toggles number false) && not (is_some live.outstanding)) (Some (job.Out number packet)) None) (stands.endpoints.out_halts number within)
      ∙ (ap (λ (b : Bool). cond (not (is_halted_after (endpoint.Out number) past) && same_toggle toggle b && not (is_some live.outstanding)) (Some (job.Out number packet)) None) (stands.endpoints.out_toggles number within)
      ∙ (ap (λ (b : Bool). cond (not (is_halted_after (endpoint.Out number) past) && same_toggle toggle (toggle_after (endpoint.Out number) past) && not b) (Some (job.Out number packet)) None) busy_is
      ∙ (sent_where (is_halted_after (endpoint.Out number) past) (same_toggle toggle (toggle_after (endpoint.Out number) past)) (is_outstanding past) (job.Out number packet)
      ∙ ap (λ (b : Bool). when (not b && is_ack (out_answer_at number toggle past) && same_toggle toggle (toggle_after (endpoint.Out number) past)) (job.Out number packet)) (sym other))))

  -- An IN at endpoint 0

  nak_is : (address : ℕ) (acked : Bool) → is_nak (answer_in (is_waiting past) (last_transfer up.max0 past) (act.In address 0 acked)) ≡ is_withheld live.control
  nak_is address acked = ap (λ (a : Answer). is_nak a) (sym (control_in_is address acked)) ∙ in_nak (waits live.control.forwarding) live.control.progress

  completes_at : (address : ℕ) (acked : Bool) → control_completes acked live.control ≡ completed_in (is_waiting past) (last_transfer up.max0 past) (act.In address 0 acked)
  completes_at address acked =
      ap (λ (b : Bool). cond (acked && not b) (completed_setup live.control.progress) None) waits_is
      ∙ (ap (λ (p : Progress). cond (acked && not (is_waiting past)) (completed_setup p) None) stands.control.progress_is
      ∙ completes_is acked (is_waiting past) (last_transfer up.max0 past) address)

  -- the request's job, where the token can be asked
  asked_kind : (request : Option Request) → setup_of_request request ≡ live.control.setup
      → live.control.progress ≡ progress_of (option_map (transfer_for up.max0 (request_reply past) (transfer_acts past)) request)
      → is_waiting_for request (request_reply past) ≡ true → is_data (in_answer live.control.progress) ≡ true
      → Some (job.Control live.control.setup (sent_bytes live.control.progress)) ≡ option_map control_job (option_map (transfer_for up.max0 (request_reply past) (transfer_acts past)) request)
  asked_kind None e f waiting gives = absurd (false≢true waiting)
  asked_kind (Some request) e f waiting gives =
      ap (λ (s : Setup). Some (job.Control s (sent_bytes live.control.progress))) (sym e)
      ∙ ap (λ (bytes : List ℕ). Some (job.Control request.setup bytes))
      (ap (λ (p : Progress). sent_bytes p) f
      ∙ payload_is (transfer_for up.max0 (request_reply past) (transfer_acts past) request) (ap (λ (p : Progress). is_data (in_answer p)) (sym f) ∙ gives))

  asked_where : (outstanding made : Bool) (kind other : Option JobKind) → kind ≡ other → cond (not outstanding && not made) kind None ≡ cond (true && not outstanding) (cond made None other) None
  asked_where true made kind other e = refl
  asked_where false true kind other e = refl
  asked_where false false kind other e = e

  asked_is : (address : ℕ) (acked : Bool) → is_withheld live.control ≡ true
      → cond (can_ask live) (Some (job.Control live.control.setup (sent_bytes live.control.progress))) None
      ≡ cond (is_nak (answer_in (is_waiting past) (last_transfer up.max0 past) (act.In address 0 acked)) && not (is_outstanding past)) (in_job 0 up past) None
  asked_is address acked held =
      let parts : (waits live.control.forwarding ≡ true) × (is_data (in_answer live.control.progress) ≡ true) = and_parts (waits live.control.forwarding) (is_data (in_answer live.control.progress)) held in
      let waiting : is_waiting past ≡ true = sym waits_is ∙ parts.0 in
      let kind : Option JobKind = Some (job.Control live.control.setup (sent_bytes live.control.progress)) in
      ap (λ (b : Bool). cond (not b && is_due live.control.forwarding) kind None) busy_is
      ∙ (ap (λ (f : Forwarding). cond (not (is_outstanding past) && is_due f) kind None) stands.control.forwarding_is
      ∙ (ap (λ (b : Bool). cond (not (is_outstanding past) && is_due (forwarding_of b (is_job_made past))) kind None) waiting
      ∙ (ap (λ (b : Bool). cond (not (is_outstanding past) && b) kind None) (due_where (is_job_made past))
      ∙ (asked_where (is_outstanding past) (is_job_made past) kind (option_map control_job (last_transfer up.max0 past))
      (asked_kind (last_request past) (sym stands.control.setup_is) stands.control.progress_is waiting parts.1)
      ∙ ap (λ (b : Bool). cond (b && not (is_outstanding past)) (in_job 0 up past) None) (sym (nak_is address acked ∙ held))))))

  -- nothing is completed while the transfer waits
  none_completed : (acked : Bool) → is_withheld live.control ≡ true → None ≡ control_completes acked live.control
  none_completed acked held = sym (ap (λ (b : Bool). cond (acked && not b) (completed_setup live.control.progress) None) (and_parts (waits live.control.forwarding) (is_data (in_answer live.control.progress)) held).0 ∙ neither acked) where
    neither : (b : Bool) → cond (b && false) (completed_setup live.control.progress) None ≡ None
    neither true = refl
    neither false = refl

  zero_in : (held : Bool) (address : ℕ) (acked : Bool) → held ≡ is_withheld live.control
      → LiveStands (cond held (asked_live (moved_in acked live)) (completed_by (control_completes acked live.control) (moved_in acked live))) up
      (entry_of (act.In address 0 acked) (answer_in (is_waiting past) (last_transfer up.max0 past) (act.In address 0 acked)) None
      (cond (is_nak (answer_in (is_waiting past) (last_transfer up.max0 past) (act.In address 0 acked)) && not (is_outstanding past)) (in_job 0 up past) None)
      (completed_in (is_waiting past) (last_transfer up.max0 past) (act.In address 0 acked)) false ∷ past)
  zero_in true address acked e =
      let P : ControlValue → Type 0 = λ (c : ControlValue). LiveStands (asked_live (record live { control = c })) up
      (entry_of (act.In address 0 acked) (answer_in (is_waiting past) (last_transfer up.max0 past) (act.In address 0 acked)) None
      (cond (is_nak (answer_in (is_waiting past) (last_transfer up.max0 past) (act.In address 0 acked)) && not (is_outstanding past)) (in_job 0 up past) None)
      (completed_in (is_waiting past) (last_transfer up.max0 past) (act.In address 0 acked)) false ∷ past) in
      subst P (sym (withheld_same live.control acked (sym e)))
      (moved (asked_live live) _ _
      (entry_eq (act.In address 0 acked) _ _ None None _ _ None _ false false (control_in_is address acked) refl (asked_is address acked (sym e))
      (none_completed acked (sym e) ∙ completes_at address acked) refl)
      (withheld_stands live up past stands (can_ask live) address acked (sym e) refl))
  zero_in false address acked e =
      moved (completed_by (control_completes acked live.control) (moved_in acked live)) _ _
      (entry_eq (act.In address 0 acked) _ _ None None None _ _ _ false false (control_in_is address acked) refl
      (sym (ap (λ (b : Bool). cond (b && not (is_outstanding past)) (in_job 0 up past) None) (nak_is address acked ∙ sym e)))
      (completes_at address acked) refl)
      (given_stands live up past stands (control_completes acked live.control) address acked (sym e))

  -- Each act

  in_zero : (reached : Bool) (address : ℕ) (acked : Bool) → reached ≡ is_reached up.ins address 0 past
      → LiveStands (cond reached (control_in_live acked live) live) up
      (entry_of (act.In address 0 acked) (cond reached (answer_in (is_waiting past) (last_transfer up.max0 past) (act.In address 0 acked)) answer.Silent) None
      (cond (is_nak (cond reached (answer_in (is_waiting past) (last_transfer up.max0 past) (act.In address 0 acked)) answer.Silent) && not (is_outstanding past)) (in_job 0 up past) None)
      (cond reached (completed_in (is_waiting past) (last_transfer up.max0 past) (act.In address 0 acked)) None) false ∷ past)
  in_zero false address acked e = silent_stands live up past stands (act.In address 0 acked) refl
  in_zero true address acked e = zero_in (is_withheld live.control) address acked refl

  in_other : (reached : Bool) (address number : ℕ) (acked : Bool) → (number == 0) ≡ false → reached ≡ is_reached up.ins address number past
      → LiveStands (cond reached (in_live number acked live) live) up
      (entry_of (act.In address number acked) (cond reached (in_answer_at number past) answer.Silent) None
      (cond (is_nak (cond reached (in_answer_at number past) answer.Silent) && not (is_outstanding past)) (in_job number up past) None)
      None false ∷ past)
  in_other false address number acked other e = silent_stands live up past stands (act.In address number acked) refl
  in_other true address number acked other e =
      let within : number < ENDPOINTS = within_set up.ins address number other (sym e) in
      moved (in_live number acked live) _ _
      (entry_eq (act.In address number acked) _ _ None None _ _ None None false false (polled_is number (positive number other) within) refl
      (in_job_is number other (positive number other) within) refl refl)
      (poll_stands live up past stands (wants_packet number live) address number acked (positive number other) within)

  out_zero : (reached : Bool) (address : ℕ) (toggle : Bool) (packet : List ℕ) → reached ≡ is_reached up.outs address 0 past
      → LiveStands (cond reached (control_out_live toggle packet live) live) up
      (entry_of (act.Out address 0 toggle packet) (cond reached (answer_in (is_waiting past) (last_transfer up.max0 past) (act.Out address 0 toggle packet)) answer.Silent) None None None
      (is_ack (cond reached (answer_in (is_waiting past) (last_transfer up.max0 past) (act.Out address 0 toggle packet)) answer.Silent) && reads_request (last_request past)) ∷ past)
  out_zero false address toggle packet e = silent_stands live up past stands (act.Out address 0 toggle packet) refl
  out_zero true address toggle packet e =
      moved (control_out_live toggle packet live) _ _
      (entry_eq (act.Out address 0 toggle packet) _ _ None None None None None None _ _ (control_out_is address toggle packet) refl refl refl
      (commuted (reads live.control.setup) (is_ack (out_answer toggle packet live.control.progress))
      ∙ (ap (λ (a : Answer). is_ack a && reads live.control.setup) (control_out_is address toggle packet)
      ∙ ap (λ (b : Bool). is_ack (answer_in (is_waiting past) (last_transfer up.max0 past) (act.Out address 0 toggle packet)) && b)
      (ap (λ (s : Setup). reads s) stands.control.setup_is ∙ reads_request_is (last_request past)))))
      (control_out_stands live up past stands (reads live.control.setup && is_ack (out_answer toggle packet live.control.progress)) address toggle packet refl)

  out_other : (reached : Bool) (address number : ℕ) (toggle : Bool) (packet : List ℕ) → (number == 0) ≡ false → reached ≡ is_reached up.outs address number past
      → LiveStands (cond reached (out_live number toggle live) live) up
      (entry_of (act.Out address number toggle packet) (cond reached (out_answer_at number toggle past) answer.Silent) None
      (when (not (number == 0) && is_ack (cond reached (out_answer_at number toggle past) answer.Silent) && same_toggle toggle (toggle_after (endpoint.Out number) past)) (job.Out number packet))
      None false ∷ past)
  out_other false address number toggle packet other e =
      moved live _ _
      (entry_eq (act.Out address number toggle packet) _ _ None None None _ None None false false refl refl (never (not (number == 0)) (same_toggle toggle (toggle_after (endpoint.Out number) past))) refl refl)
      (silent_stands live up past stands (act.Out address number toggle packet) refl) where
        never : (a b : Bool) → None ≡ when (a && false && b) (job.Out number packet)
        never true b = refl
        never false b = refl
  out_other true address number toggle packet other e =
      let within : number < ENDPOINTS = within_set up.outs address number other (sym e) in
      moved (out_live number toggle live) _ _
      (entry_eq (act.Out address number toggle packet) _ _ None None _ _ None None false false (replied_is number toggle within) refl
      (out_job_is number toggle packet other within) refl refl)
      (take_stands live up past stands (slice_index_or live.endpoints.out_halts number false) (same_toggle toggle (slice_index_or live.endpoints.out_toggles number false)) (is_some live.outstanding)
      address number toggle packet (positive number other) within refl)

  setup_at : (here : Bool) (address : ℕ) (setup : Setup) → here ≡ (address == address_after past)
      → LiveStands (cond here (begun_live setup live) live) up
      (entry_of (act.Setup address setup) (cond here answer.Ack answer.Silent) (when here (record { setup = setup; supported = is_passable up.value (is_configured_after past) setup })) None None false ∷ past)
  setup_at false address setup e = silent_stands live up past stands (act.Setup address setup) refl
  setup_at true address setup e =
      begun_stands live up past stands address setup (is_passable up.value (is_configured_after past) setup)
      (sym (ap (λ (u : Up). is_passable u.value live.configured setup) stands.up_is ∙ ap (λ (b : Bool). is_passable up.value b setup) stands.configured_is))

  -- where an act is at endpoint 0, and where it isn't
  in_at : (zero : Bool) (address number : ℕ) (acked : Bool) → zero ≡ (number == 0)
      → LiveStands (cond (is_reached up.ins address number past) (cond zero (control_in_live acked live) (in_live number acked live)) live) up (entry_for up past (Acted (act.In address number acked)) ∷ past)
  in_at true address number acked e =
      let P : ℕ → Type 0 = λ (n : ℕ). LiveStands (cond (is_reached up.ins address n past) (control_in_live acked live) live) up (entry_for up past (Acted (act.In address n acked)) ∷ past) in
      subst P (sym (eqb-true number 0 (sym e))) (in_zero (is_reached up.ins address 0 past) address acked refl)
  in_at false address number acked e =
      moved (cond (is_reached up.ins address number past) (in_live number acked live) live) _ _
      (entry_eq (act.In address number acked) _ _ None None _ _ None _ false false (answer_other (is_reached up.ins address number past)) refl
      (ap (λ (a : Answer). cond (is_nak a && not (is_outstanding past)) (in_job number up past) None) (answer_other (is_reached up.ins address number past)))
      (completed_other (is_reached up.ins address number past)) refl)
      (in_other (is_reached up.ins address number past) address number acked (sym e) refl) where
        answer_other : (reached : Bool) → cond reached (in_answer_at number past) answer.Silent
            ≡ cond reached (cond (number == 0) (answer_in (is_waiting past) (last_transfer up.max0 past) (act.In address number acked)) (in_answer_at number past)) answer.Silent
        answer_other reached = ap (λ (b : Bool). cond reached (cond b (answer_in (is_waiting past) (last_transfer up.max0 past) (act.In address number acked)) (in_answer_at number past)) answer.Silent) e

        completed_other : (reached : Bool) → None ≡ cond reached (cond (number == 0) (completed_in (is_waiting past) (last_transfer up.max0 past) (act.In address number acked)) None) None
        completed_other true = ap (λ (b : Bool). cond b (completed_in (is_waiting past) (last_transfer up.max0 past) (act.In address number acked)) None) e
        completed_other false = refl

  out_at : (zero : Bool) (address number : ℕ) (toggle : Bool) (packet : List ℕ) → zero ≡ (number == 0)
      → LiveStands (cond (is_reached up.outs address number past) (cond zero (control_out_live toggle packet live) (out_live number toggle live)) live) up (entry_for up past (Acted (act.Out address number toggle packet)) ∷ past)
  out_at true address number toggle packet e =
      let P : ℕ → Type 0 = λ (n : ℕ). LiveStands (cond (is_reached up.outs address n past) (control_out_live toggle packet live) live) up (entry_for up past (Acted (act.Out address n toggle packet)) ∷ past) in
      subst P (sym (eqb-true number 0 (sym e))) (out_zero (is_reached up.outs address 0 past) address toggle packet refl)
  out_at false address number toggle packet e =
      moved (cond (is_reached up.outs address number past) (out_live number toggle live) live) _ _
      (entry_eq (act.Out address number toggle packet) _ _ None None _ _ None None false _ (answer_other (is_reached up.outs address number past)) refl
      (ap (λ (a : Answer). when (not (number == 0) && is_ack a && same_toggle toggle (toggle_after (endpoint.Out number) past)) (job.Out number packet)) (answer_other (is_reached up.outs address number past)))
      refl
      (ap (λ (b : Bool). b && is_ack (answer_to up past (act.Out address number toggle packet)) && reads_request (last_request past)) e))
      (out_other (is_reached up.outs address number past) address number toggle packet (sym e) refl) where
        answer_other : (reached : Bool) → cond reached (out_answer_at number toggle past) answer.Silent
            ≡ cond reached (cond (number == 0) (answer_in (is_waiting past) (last_transfer up.max0 past) (act.Out address number toggle packet)) (out_answer_at number toggle past)) answer.Silent
        answer_other reached = ap (λ (b : Bool). cond reached (cond b (answer_in (is_waiting past) (last_transfer up.max0 past) (act.Out address number toggle packet)) (out_answer_at number toggle past)) answer.Silent) e

  pub act_stands : (taken : Act) → LiveStands (live_after taken live) up (entry_for up past (Acted taken) ∷ past)
  act_stands act.Reset = reset_stands live up past stands
  act_stands (act.Setup address setup) =
      let P : ℕ → Type 0 = λ (n : ℕ). LiveStands (cond (address == n) (begun_live setup live) live) up (entry_for up past (Acted (act.Setup address setup)) ∷ past) in
      subst P (sym stands.address_is) (setup_at (address == address_after past) address setup refl)
  act_stands (act.Out address number toggle packet) =
      let P : Bool → Type 0 = λ (b : Bool). LiveStands (cond b (cond (number == 0) (control_out_live toggle packet live) (out_live number toggle live)) live) up (entry_for up past (Acted (act.Out address number toggle packet)) ∷ past) in
      subst P (sym (outs_is address number)) (out_at (number == 0) address number toggle packet refl)
  act_stands (act.In address number acked) =
      let P : Bool → Type 0 = λ (b : Bool). LiveStands (cond b (cond (number == 0) (control_in_live acked live) (in_live number acked live)) live) up (entry_for up past (Acted (act.In address number acked)) ∷ past) in
      subst P (sym (ins_is address number)) (in_at (number == 0) address number acked refl)

  -- The answers and the jobs

  in_answered : (reached zero : Bool) (address number : ℕ) (acked : Bool) → reached ≡ is_reached up.ins address number past → zero ≡ (number == 0)
      → cond reached (cond zero (control_in_answer live.control) (polled_answer number live.endpoints)) answer.Silent
      ≡ cond reached (cond zero (answer_in (is_waiting past) (last_transfer up.max0 past) (act.In address number acked)) (in_answer_at number past)) answer.Silent
  in_answered false zero address number acked e f = refl
  in_answered true true address number acked e f =
      let P : ℕ → Type 0 = λ (n : ℕ). control_in_answer live.control ≡ answer_in (is_waiting past) (last_transfer up.max0 past) (act.In address n acked) in
      subst P (sym (eqb-true number 0 (sym f))) (control_in_is address acked)
  in_answered true false address number acked e f = polled_is number (positive number (sym f)) (within_set up.ins address number (sym f) (sym e))

  out_answered : (reached zero : Bool) (address number : ℕ) (toggle : Bool) (packet : List ℕ) → reached ≡ is_reached up.outs address number past → zero ≡ (number == 0)
      → cond reached (cond zero (out_answer toggle packet live.control.progress) (out_reply number toggle (is_some live.outstanding) live.endpoints)) answer.Silent
      ≡ cond reached (cond zero (answer_in (is_waiting past) (last_transfer up.max0 past) (act.Out address number toggle packet)) (out_answer_at number toggle past)) answer.Silent
  out_answered false zero address number toggle packet e f = refl
  out_answered true true address number toggle packet e f =
      let P : ℕ → Type 0 = λ (n : ℕ). out_answer toggle packet live.control.progress ≡ answer_in (is_waiting past) (last_transfer up.max0 past) (act.Out address n toggle packet) in
      subst P (sym (eqb-true number 0 (sym f))) (control_out_is address toggle packet)
  out_answered true false address number toggle packet e f = replied_is number toggle (within_set up.outs address number (sym f) (sym e))

  pub act_answer : (taken : Act) → live_answer taken live ≡ answer_to up past taken
  act_answer act.Reset = refl
  act_answer (act.Setup address setup) = ap (λ (n : ℕ). cond (address == n) answer.Ack answer.Silent) stands.address_is
  act_answer (act.Out address number toggle packet) =
      ap (λ (b : Bool). cond b (cond (number == 0) (out_answer toggle packet live.control.progress) (out_reply number toggle (is_some live.outstanding) live.endpoints)) answer.Silent) (outs_is address number)
      ∙ out_answered (is_reached up.outs address number past) (number == 0) address number toggle packet refl refl
  act_answer (act.In address number acked) =
      ap (λ (b : Bool). cond b (cond (number == 0) (control_in_answer live.control) (polled_answer number live.endpoints)) answer.Silent) (ins_is address number)
      ∙ in_answered (is_reached up.ins address number past) (number == 0) address number acked refl refl

  zero_job : (held : Bool) (address : ℕ) (acked : Bool) → held ≡ is_withheld live.control
      → cond held (ask_job (moved_in acked live)) None
      ≡ cond (is_nak (answer_in (is_waiting past) (last_transfer up.max0 past) (act.In address 0 acked)) && not (is_outstanding past)) (in_job 0 up past) None
  zero_job true address acked e =
      ap (λ (c : ControlValue). ask_job (record live { control = c })) (withheld_same live.control acked (sym e)) ∙ asked_is address acked (sym e)
  zero_job false address acked e = sym (ap (λ (b : Bool). cond (b && not (is_outstanding past)) (in_job 0 up past) None) (nak_is address acked ∙ sym e))

  in_made : (reached zero : Bool) (address number : ℕ) (acked : Bool) → reached ≡ is_reached up.ins address number past → zero ≡ (number == 0)
      → cond reached (cond zero (control_in_job acked live) (in_job_live number live)) None
      ≡ cond (is_nak (cond reached (cond zero (answer_in (is_waiting past) (last_transfer up.max0 past) (act.In address number acked)) (in_answer_at number past)) answer.Silent) && not (is_outstanding past)) (in_job number up past) None
  in_made false zero address number acked e f = refl
  in_made true true address number acked e f =
      let P : ℕ → Type 0 = λ (n : ℕ). control_in_job acked live
      ≡ cond (is_nak (answer_in (is_waiting past) (last_transfer up.max0 past) (act.In address n acked)) && not (is_outstanding past)) (in_job n up past) None in
      subst P (sym (eqb-true number 0 (sym f))) (zero_job (is_withheld live.control) address acked refl)
  in_made true false address number acked e f = in_job_is number (sym f) (positive number (sym f)) (within_set up.ins address number (sym f) (sym e))

  out_made : (reached zero : Bool) (address number : ℕ) (toggle : Bool) (packet : List ℕ) → reached ≡ is_reached up.outs address number past → zero ≡ (number == 0)
      → cond reached (cond zero None (out_job_live number toggle packet live)) None
      ≡ when (not zero && is_ack (cond reached (cond zero (answer_in (is_waiting past) (last_transfer up.max0 past) (act.Out address number toggle packet)) (out_answer_at number toggle past)) answer.Silent)
      && same_toggle toggle (toggle_after (endpoint.Out number) past)) (job.Out number packet)
  out_made false true address number toggle packet e f = refl
  out_made false false address number toggle packet e f = refl
  out_made true true address number toggle packet e f = refl
  out_made true false address number toggle packet e f =
      out_job_is number toggle packet (sym f) (within_set up.outs address number (sym f) (sym e))
      ∙ ap (λ (b : Bool). when (not b && is_ack (out_answer_at number toggle past) && same_toggle toggle (toggle_after (endpoint.Out number) past)) (job.Out number packet)) (sym f)

  pub act_job : (taken : Act) → live_job taken live ≡ job_of_act up past taken
  act_job act.Reset = refl
  act_job (act.Setup address setup) = refl
  act_job (act.Out address number toggle packet) =
      ap (λ (b : Bool). cond b (cond (number == 0) None (out_job_live number toggle packet live)) None) (outs_is address number)
      ∙ out_made (is_reached up.outs address number past) (number == 0) address number toggle packet refl refl
  act_job (act.In address number acked) =
      ap (λ (b : Bool). cond b (cond (number == 0) (control_in_job acked live) (in_job_live number live)) None) (ins_is address number)
      ∙ in_made (is_reached up.ins address number past) (number == 0) address number acked refl refl

  pub act_numbered : (taken : Act) → numbered_job live (live_job taken live)
      ≡ option_map (λ (k : JobKind). record { life = up.life; number = 1 + job_count past; kind = k }) (job_of_act up past taken)
  act_numbered taken =
      ap (λ (o : Option JobKind). numbered_job live o) (act_job taken)
      ∙ (ap (λ (u : Up). option_map (λ (k : JobKind). record { life = u.life; number = 1 + live.jobs; kind = k }) (job_of_act up past taken)) stands.up_is
      ∙ ap (λ (n : ℕ). option_map (λ (k : JobKind). record { life = up.life; number = 1 + n; kind = k }) (job_of_act up past taken)) stands.jobs_is)

-- The same of a bridge, which may be down

pub bridge_acts : (live : Option Live) (past : BridgePast) (taken : Act) → BridgeStands live past → BridgeStands (bridge_after taken live) (after_act taken past)
bridge_acts None IsDown taken stands = tt
bridge_acts (Some live) (IsUp up items) taken stands = act_stands live up (history_of up items) stands taken
bridge_acts None (IsUp up items) taken stands = absurd stands
bridge_acts (Some live) IsDown taken stands = absurd stands

pub bridge_answers : (live : Option Live) (past : BridgePast) (taken : Act) → BridgeStands live past → answer_by taken live ≡ bridge_answer past taken
bridge_answers None IsDown taken stands = refl
bridge_answers (Some live) (IsUp up items) taken stands = act_answer live up (history_of up items) stands taken
bridge_answers None (IsUp up items) taken stands = absurd stands
bridge_answers (Some live) IsDown taken stands = absurd stands

pub bridge_makes : (live : Option Live) (past : BridgePast) (taken : Act) → BridgeStands live past → job_by taken live ≡ bridge_made past taken
bridge_makes None IsDown taken stands = refl
bridge_makes (Some live) (IsUp up items) taken stands = act_numbered live up (history_of up items) stands taken
bridge_makes None (IsUp up items) taken stands = absurd stands
bridge_makes (Some live) IsDown taken stands = absurd stands

heard_where : (here : Bool) (live : Live) (up : Up) (items : List BridgeItem) (number status : ℕ) (bytes : List ℕ) → LiveStands live up (history_of up items)
    → BridgeStands (Some (cond here (settled_live number status bytes live) live)) (cond here (IsUp up (Done number status bytes ∷ items)) (IsUp up items))
heard_where true live up items number status bytes stands = done_stands live up (history_of up items) stands number status bytes
heard_where false live up items number status bytes stands = stands

pub bridge_hears : (live : Option Live) (past : BridgePast) (life number status : ℕ) (bytes : List ℕ) → BridgeStands live past
    → BridgeStands (bridge_heard life number status bytes live) (after_done life number status bytes past)
bridge_hears None IsDown life number status bytes stands = tt
bridge_hears (Some live) (IsUp up items) life number status bytes stands =
    let P : Up → Type 0 = λ (u : Up). BridgeStands (Some (cond (life == u.life) (settled_live number status bytes live) live)) (after_done life number status bytes (IsUp up items)) in
    subst P (sym stands.up_is) (heard_where (life == up.life) live up items number status bytes stands)
bridge_hears None (IsUp up items) life number status bytes stands = absurd stands
bridge_hears (Some live) IsDown life number status bytes stands = absurd stands

pub bridge_taken : (live : Option Live) (past : BridgePast) (life number : ℕ) → BridgeStands live past → hears_by life number live ≡ bridge_takes life number past
bridge_taken None IsDown life number stands = refl
bridge_taken (Some live) (IsUp up items) life number stands =
    ap (λ (u : Up). life == u.life && is_some live.outstanding && number == live.jobs) stands.up_is
    ∙ (ap (λ (b : Bool). life == up.life && b && number == live.jobs) (busy_is live up (history_of up items) stands)
    ∙ (ap (λ (n : ℕ). life == up.life && is_outstanding (history_of up items) && number == n) stands.jobs_is
    ∙ grouped (life == up.life) (is_outstanding (history_of up items)) (number == job_count (history_of up items)))) where
      grouped : (a b c : Bool) → (a && b && c) ≡ (a && (b && c))
      grouped true b c = refl
      grouped false b c = refl
bridge_taken None (IsUp up items) life number stands = absurd stands
bridge_taken (Some live) IsDown life number stands = absurd stands
