-- A bridge that is up goes on to stand for the acts at endpoint 0 and for packets to the token.
use Rattle.std.proofs.Common.{◌≡◌, ℕ, ◌+◌, ◌<◌, Bool, true, false, not, List, ◌∷◌, Option, Some, None, cond, refl, sym, ap, ◌∙◌, arith, slice_index_or}
use Rattle.std.specs.Prelude.{◌&&◌, ◌||◌, ◌==◌, slice_set}
use Rattle.std.proofs.lemmas.Bool.{cond_both, and_parts, false≢true, ne_eqb}
use Rattle.std.proofs.lemmas.List.{length-set}
use Rattle.psd_base.specs.declared.setup.Setup.{Setup}
use Rattle.psd_base.specs.declared.act.Act.TheVariants as act
use Rattle.psd_base.specs.declared.act.Answer.{Answer}
use Rattle.psd_base.specs.declared.act.Answer.TheVariants as answer
use Rattle.psd_base.specs.declared.console.JobKind.{JobKind}
use Rattle.psd_base.specs.declared.console.JobKind.TheVariants as job
use Rattle.control_pipe.specs.Requests.{when}
use Rattle.control_pipe.specs.Transfer.{same_toggle}
use Rattle.control_pipe.specs.Progress.{Progress, DoneOut, in_answer, after_in, out_answer, after_out}
use Rattle.auth_router.specs.declared.up.Up.{Up}
use Rattle.auth_router.specs.declared.endpoints.Endpoints.{Endpoints}
use Rattle.auth_router.specs.declared.endpoints.TheConstants.{ENDPOINTS}
use Rattle.auth_router.specs.declared.control.Forwarding.{Forwarding}
use Rattle.auth_router.specs.declared.control.Forwarding.TheVariants.{Asked}
use Rattle.auth_router.specs.declared.live.Live.{Live}
use Rattle.auth_router.specs.declared.live.Outstanding.{Outstanding}
use Rattle.auth_router.specs.declared.live.Work.TheVariants as work
use Rattle.auth_router.specs.Entries.{Entry}
use Rattle.auth_router.specs.Forwarding.{is_set_configuration}
use Rattle.auth_router.specs.Bridge.{is_data, is_ack, is_taken, taken_act, reads, is_waiting, last_request, request_reply, is_job_made, transfer_acts, is_sent}
use Rattle.auth_router.specs.ControlStep.{ControlValue, waits, is_withheld, control_in_answer, after_control_in, after_control_out, sent_bytes}
use Rattle.auth_router.specs.LiveStep.{with_job, orphaned_control, orphaned_endpoint, is_control_work, completed_live, completed_by, can_ask, moved_in}
use Rattle.auth_router.specs.BridgeStands.{EndpointsStand, setup_after, outstanding_after, is_wanted, LiveStands, ControlStands}
use Rattle.auth_router.proofs.JobSteps.{marked, marked_none, marked_control, marked_endpoint, outstanding_kept}
use Rattle.auth_router.proofs.EndpointSteps.{endpoints_kept, endpoints_sent, endpoints_completed, whole_completed}
use Rattle.auth_router.proofs.ControlSteps.{follows, stands_after, stands_same, follows_in, follows_out, follows_asked, waits-forwarding_of, in_taken, out_taken, in_not_ended, out_ended}
use Rattle.auth_router.proofs.LiveSteps.{entry_of, assemble, still_waits, no_act_of_zero, unwanted}

same_toggle_is : (first second : Bool) → same_toggle first second ≡ true → first ≡ second
same_toggle_is true true e = refl
same_toggle_is true false e = absurd (false≢true e)
same_toggle_is false true e = absurd (false≢true e)
same_toggle_is false false e = refl

wanted_still : (o : Option Outstanding) → is_wanted (orphaned_endpoint o) ≡ is_wanted o
wanted_still None = refl
wanted_still (Some outstanding) = by_control (is_control_work outstanding.work) outstanding.orphaned where
  by_control : (b o : Bool) → (b && not (o || not b)) ≡ (b && not o)
  by_control true true = refl
  by_control true false = refl
  by_control false o = refl

pub commuted : (a b : Bool) → (a && b) ≡ (b && a)
commuted true true = refl
commuted true false = refl
commuted false true = refl
commuted false false = refl

-- no data are due where a transfer has come to its end
not_ended : (progress : Progress) → is_data (in_answer progress) ≡ true → progress ≡ DoneOut → ⊥
not_ended progress gives e = false≢true (ap (λ (p : Progress). is_data (in_answer p)) (sym e) ∙ gives)

module _ (live : Live) (up : Up) (past : List Entry) (stands : LiveStands live up past) where
  -- A packet for the token

  taken_endpoints : (kind : Option JobKind) (address number : ℕ) (toggle : Bool) (packet : List ℕ) (reply : Answer) → ((other : ℕ) → is_sent other kind ≡ false)
      → EndpointsStand live.endpoints (entry_of (act.Out address number toggle packet) reply None kind None false ∷ past)
  taken_endpoints kind address number toggle packet reply unsent =
      endpoints_kept live.endpoints (entry_of (act.Out address number toggle packet) reply None kind None false) past refl stands.endpoints refl refl (λ n p. refl) unsent

  packet_act : (number address : ℕ) (toggle : Bool) (packet : List ℕ) (reply : Answer) → 0 < number → taken_act (act.Out address number toggle packet) reply ≡ None
  packet_act number address toggle packet reply some =
      ap (λ (b : Bool). when (b && is_taken reply) (act.Out address number toggle packet)) (no_act_of_zero live up past stands number some)

  not_taken : (address number : ℕ) (toggle : Bool) (packet : List ℕ) (reply : Answer) → 0 < number
      → LiveStands live up (entry_of (act.Out address number toggle packet) reply None None None false ∷ past)
  not_taken address number toggle packet reply some =
      let entry : Entry = entry_of (act.Out address number toggle packet) reply None None None false in
      assemble live up past stands live entry refl refl refl refl
      (stands_same entry past refl refl live.control up.max0 stands.control refl refl (packet_act number address toggle packet reply some))
      (taken_endpoints None address number toggle packet reply (λ n. refl)) stands.whole stands.jobs_is
      (still_waits live up past stands (act.Out address number toggle packet) reply refl) stands.asks stands.ended

  pub take_stands : (halted same busy : Bool) (address number : ℕ) (toggle : Bool) (packet : List ℕ) → 0 < number → number < ENDPOINTS
      → same ≡ same_toggle toggle (slice_index_or live.endpoints.out_toggles number false)
      → LiveStands (cond (not halted && same && not busy)
      (with_job (work.Out number) (record live { endpoints = cond (not halted && same && not busy) (record live.endpoints { out_toggles = slice_set live.endpoints.out_toggles number (not toggle) }) live.endpoints }))
      (record live { endpoints = cond (not halted && same && not busy) (record live.endpoints { out_toggles = slice_set live.endpoints.out_toggles number (not toggle) }) live.endpoints })) up
      (entry_of (act.Out address number toggle packet) (cond halted answer.Stall (cond (same && busy) answer.Nak answer.Ack)) None (cond (not halted && same && not busy) (Some (job.Out number packet)) None) None false ∷ past)
  take_stands true same busy address number toggle packet some within e = not_taken address number toggle packet answer.Stall some
  take_stands false false busy address number toggle packet some within e = not_taken address number toggle packet answer.Ack some
  take_stands false true true address number toggle packet some within e = not_taken address number toggle packet answer.Nak some
  take_stands false true false address number toggle packet some within e =
      let entry : Entry = entry_of (act.Out address number toggle packet) answer.Ack None (Some (job.Out number packet)) None false in
      let after : Endpoints = record live.endpoints { out_toggles = slice_set live.endpoints.out_toggles number (not toggle) } in
      assemble live up past stands (with_job (work.Out number) (record live { endpoints = after })) entry refl refl refl refl
      (stands_same entry past refl refl live.control up.max0 stands.control refl refl (packet_act number address toggle packet answer.Ack some))
      (endpoints_sent live.endpoints entry past refl stands.endpoints refl refl number toggle within stands.whole
      (same_toggle_is toggle (slice_index_or live.endpoints.out_toggles number false) (sym e)) (λ n. refl) (λ n. refl))
      (record {
        in_halts = stands.whole.in_halts;
        out_halts = stands.whole.out_halts;
        in_toggles = stands.whole.in_toggles;
        out_toggles = length-set live.endpoints.out_toggles number (not toggle) ∙ stands.whole.out_toggles;
        held = stands.whole.held;
      })
      (ap (λ (n : ℕ). 1 + n) stands.jobs_is) refl (λ wanted. absurd (false≢true wanted)) (λ wanted _. false≢true wanted)

  -- An IN at endpoint 0

  undelivered_at_zero : (reply : Answer) (acked : Bool) (n : ℕ) → 0 < n → ((0 == n) && acked && is_data reply) ≡ false
  undelivered_at_zero reply acked n p = ap (λ (b : Bool). b && acked && is_data reply) (ne_eqb 0 n (λ e. omega (arith, e)))

  pub withheld_stands : (asks : Bool) (address : ℕ) (acked : Bool) → is_withheld live.control ≡ true → asks ≡ can_ask live
      → LiveStands (cond asks (with_job work.Control (record live { control = record live.control { forwarding = Asked } })) live) up
      (entry_of (act.In address 0 acked) (control_in_answer live.control) None (cond asks (Some (job.Control live.control.setup (sent_bytes live.control.progress))) None) None false ∷ past)
  withheld_stands asks address acked held is =
      by_asks asks where
        untaken : taken_act (act.In address 0 acked) (control_in_answer live.control) ≡ None
        untaken = ap (λ (b : Bool). when (true && b) (act.In address 0 acked)) (in_taken (waits live.control.forwarding) live.control.progress ∙ ap (λ (b : Bool). not b) held)

        waiting : is_waiting past ≡ true
        waiting = sym (waits-forwarding_of (is_waiting past) (is_job_made past)) ∙ (ap (λ (f : Forwarding). waits f) (sym stands.control.forwarding_is)
            ∙ (and_parts (waits live.control.forwarding) (is_data (in_answer live.control.progress)) held).0)

        by_asks : (asks : Bool) → LiveStands (cond asks (with_job work.Control (record live { control = record live.control { forwarding = Asked } })) live) up
            (entry_of (act.In address 0 acked) (control_in_answer live.control) None (cond asks (Some (job.Control live.control.setup (sent_bytes live.control.progress))) None) None false ∷ past)
        by_asks false =
            let entry : Entry = entry_of (act.In address 0 acked) (control_in_answer live.control) None None None false in
            assemble live up past stands live entry refl refl refl refl
            (stands_same entry past refl refl live.control up.max0 stands.control refl refl untaken)
            (endpoints_kept live.endpoints entry past refl stands.endpoints refl refl (λ n p. undelivered_at_zero (control_in_answer live.control) acked n p) (λ n. refl))
            stands.whole stands.jobs_is (still_waits live up past stands (act.In address 0 acked) (control_in_answer live.control) refl) stands.asks stands.ended
        by_asks true =
            let entry : Entry = entry_of (act.In address 0 acked) (control_in_answer live.control) None (Some (job.Control live.control.setup (sent_bytes live.control.progress))) None false in
            assemble live up past stands (with_job work.Control (record live { control = record live.control { forwarding = Asked } })) entry refl refl refl refl
            (stands_after entry past refl refl (record live.control { forwarding = Asked }) up.max0 (request_reply past) true None refl refl untaken
            (follows_asked live.control up.max0 (last_request past) (request_reply past) (is_job_made past) (transfer_acts past) (follows live.control up.max0 past stands.control) waiting))
            (endpoints_kept live.endpoints entry past refl stands.endpoints refl refl (λ n p. undelivered_at_zero (control_in_answer live.control) acked n p) (λ n. refl))
            stands.whole (ap (λ (n : ℕ). 1 + n) stands.jobs_is) refl (λ _. refl)
            (λ _ e. not_ended live.control.progress (and_parts (waits live.control.forwarding) (is_data (in_answer live.control.progress)) held).1 e)

  given_control : (address : ℕ) (acked : Bool) (completed : Option Setup) → is_withheld live.control ≡ false
      → ControlStands (after_control_in acked live.control) up.max0 (entry_of (act.In address 0 acked) (control_in_answer live.control) None None completed false ∷ past)
  given_control address acked completed free =
      stands_after (entry_of (act.In address 0 acked) (control_in_answer live.control) None None completed false) past refl refl (after_control_in acked live.control) up.max0
      (request_reply past) (is_job_made past) (Some (act.In address 0 acked)) refl refl
      (ap (λ (b : Bool). when (true && b) (act.In address 0 acked)) (in_taken (waits live.control.forwarding) live.control.progress ∙ ap (λ (b : Bool). not b) free))
      (follows_in live.control up.max0 (last_request past) (request_reply past) (is_job_made past) (transfer_acts past) address acked stands.size (follows live.control up.max0 past stands.control) free)

  same_forwarding : (acked : Bool) → (after_control_in acked live.control).forwarding ≡ live.control.forwarding
  same_forwarding acked = cond_both (is_withheld live.control) live.control (record live.control { progress = after_in acked live.control.progress }) (λ (c : ControlValue). c.forwarding ≡ live.control.forwarding) (λ _. refl) (λ _. refl)

  not_ended_after : (acked : Bool) → is_withheld live.control ≡ false → is_wanted live.outstanding ≡ true → (after_control_in acked live.control).progress ≡ DoneOut → ⊥
  not_ended_after acked free wanted e =
      in_not_ended acked live.control.progress
      (sym (ap (λ (b : Bool). b && is_data (in_answer live.control.progress)) (ap (λ (f : Forwarding). waits f) (stands.asks wanted))) ∙ free)
      (sym (ap (λ (b : Bool). (cond b live.control (record live.control { progress = after_in acked live.control.progress })).progress) free) ∙ e)

  pub given_stands : (completed : Option Setup) (address : ℕ) (acked : Bool) → is_withheld live.control ≡ false
      → LiveStands (completed_by completed (moved_in acked live)) up (entry_of (act.In address 0 acked) (control_in_answer live.control) None None completed false ∷ past)
  given_stands None address acked free =
      let entry : Entry = entry_of (act.In address 0 acked) (control_in_answer live.control) None None None false in
      assemble live up past stands (moved_in acked live) entry refl refl refl refl (given_control address acked None free)
      (endpoints_kept live.endpoints entry past refl stands.endpoints refl refl (λ n p. undelivered_at_zero (control_in_answer live.control) acked n p) (λ n. refl))
      stands.whole stands.jobs_is (still_waits live up past stands (act.In address 0 acked) (control_in_answer live.control) refl)
      (λ wanted. same_forwarding acked ∙ stands.asks wanted) (λ wanted e. not_ended_after acked free wanted e)
  given_stands (Some setup) address acked free =
      let entry : Entry = entry_of (act.In address 0 acked) (control_in_answer live.control) None None (Some setup) false in
      assemble live up past stands (completed_live setup (moved_in acked live)) entry refl refl refl refl (given_control address acked (Some setup) free)
      (endpoints_completed live.endpoints entry past setup refl stands.endpoints stands.whole refl refl (λ n p. undelivered_at_zero (control_in_answer live.control) acked n p) (λ n. refl))
      (whole_completed live.endpoints setup stands.whole) stands.jobs_is
      (ap (λ (o : Option Outstanding). cond (is_set_configuration setup) (orphaned_endpoint o) o) stands.outstanding_is
      ∙ (by_configuration (is_set_configuration setup) ∙ sym (outstanding_kept entry past refl refl)))
      (λ wanted. same_forwarding acked ∙ stands.asks (wanted_before (is_set_configuration setup) wanted))
      (λ wanted e. not_ended_after acked free (wanted_before (is_set_configuration setup) wanted) e) where
        by_configuration : (b : Bool) → cond b (orphaned_endpoint (outstanding_after past)) (outstanding_after past) ≡ marked false b (outstanding_after past)
        by_configuration true = sym (marked_endpoint (outstanding_after past))
        by_configuration false = sym (marked_none (outstanding_after past))

        wanted_before : (b : Bool) → is_wanted (cond b (orphaned_endpoint live.outstanding) live.outstanding) ≡ true → is_wanted live.outstanding ≡ true
        wanted_before true wanted = sym (wanted_still live.outstanding) ∙ wanted
        wanted_before false wanted = wanted

  -- An OUT at endpoint 0
  pub control_out_stands : (ends : Bool) (address : ℕ) (toggle : Bool) (packet : List ℕ) → ends ≡ (reads live.control.setup && is_ack (out_answer toggle packet live.control.progress))
      → LiveStands (record live { control = after_control_out toggle packet live.control; outstanding = cond ends (orphaned_control live.outstanding) live.outstanding }) up
      (entry_of (act.Out address 0 toggle packet) (out_answer toggle packet live.control.progress) None None None ends ∷ past)
  control_out_stands ends address toggle packet is =
      let reply : Answer = out_answer toggle packet live.control.progress in
      let entry : Entry = entry_of (act.Out address 0 toggle packet) reply None None None ends in
      assemble live up past stands (record live { control = after_control_out toggle packet live.control; outstanding = cond ends (orphaned_control live.outstanding) live.outstanding }) entry refl refl refl refl
      (stands_after entry past refl refl (after_control_out toggle packet live.control) up.max0 (request_reply past) (is_job_made past) (Some (act.Out address 0 toggle packet)) refl refl
      (ap (λ (b : Bool). when (true && b) (act.Out address 0 toggle packet)) (out_taken toggle packet live.control.progress))
      (follows_out live.control up.max0 (last_request past) (request_reply past) (is_job_made past) (transfer_acts past) address toggle packet (follows live.control up.max0 past stands.control)))
      (endpoints_kept live.endpoints entry past refl stands.endpoints refl refl (λ n p. refl) (λ n. refl))
      stands.whole stands.jobs_is
      (ap (λ (o : Option Outstanding). cond ends (orphaned_control o) o) stands.outstanding_is ∙ (by_ends ends ∙ sym (outstanding_kept entry past refl refl)))
      (λ wanted. stands.asks (wanted_before ends wanted))
      (λ wanted e. contradiction ends is wanted (ended_now e)) where
        by_ends : (b : Bool) → cond b (orphaned_control (outstanding_after past)) (outstanding_after past) ≡ marked b false (outstanding_after past)
        by_ends true = sym (marked_control (outstanding_after past))
        by_ends false = sym (marked_none (outstanding_after past))

        wanted_before : (b : Bool) → is_wanted (cond b (orphaned_control live.outstanding) live.outstanding) ≡ true → is_wanted live.outstanding ≡ true
        wanted_before true wanted = absurd (false≢true (sym (unwanted live.outstanding) ∙ wanted))
        wanted_before false wanted = wanted

        ended_now : after_out toggle packet live.control.progress ≡ DoneOut → (reads live.control.setup && is_ack (out_answer toggle packet live.control.progress)) ≡ true
        ended_now e =
            ap (λ (s : Setup). reads s && is_ack (out_answer toggle packet live.control.progress)) stands.control.setup_is
            ∙ (ap (λ (p : Progress). reads (setup_after past) && is_ack (out_answer toggle packet p)) stands.control.progress_is
            ∙ out_ended toggle packet up.max0 (last_request past) (request_reply past) (transfer_acts past) (sym (ap (λ (p : Progress). after_out toggle packet p) stands.control.progress_is) ∙ e))

        contradiction : (b : Bool) → b ≡ (reads live.control.setup && is_ack (out_answer toggle packet live.control.progress))
            → is_wanted (cond b (orphaned_control live.outstanding) live.outstanding) ≡ true → (reads live.control.setup && is_ack (out_answer toggle packet live.control.progress)) ≡ true → ⊥
        contradiction true f wanted now = false≢true (sym (unwanted live.outstanding) ∙ wanted)
        contradiction false f wanted now = false≢true (f ∙ now)
