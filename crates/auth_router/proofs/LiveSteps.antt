-- A bridge that is up goes on to stand for what happens.
use Rattle.std.proofs.Common.{◌≡◌, ℕ, ◌+◌, ◌<◌, Bool, true, false, not, List, [], ◌∷◌, Option, Some, None, cond, refl, sym, ap, ◌∙◌, arith, subst, slice_index_or}
use Rattle.std.proofs.lemmas.List.{length-set}
use Rattle.std.specs.Prelude.{◌&&◌, ◌||◌, ◌==◌, unwrap_or}
use Rattle.std.proofs.lemmas.Bool.{and_right, false≢true, ne_eqb}
use Rattle.psd_base.specs.History.{or_else, newest}
use Rattle.psd_base.specs.declared.setup.Setup.{Setup}
use Rattle.psd_base.specs.declared.act.Act.{Act}
use Rattle.psd_base.specs.declared.act.Act.TheVariants as act
use Rattle.psd_base.specs.declared.act.Answer.{Answer}
use Rattle.psd_base.specs.declared.act.Answer.TheVariants as answer
use Rattle.psd_base.specs.declared.console.JobKind.{JobKind}
use Rattle.psd_base.specs.declared.console.JobKind.TheVariants as job
use Rattle.control_pipe.specs.Requests.{when}
use Rattle.control_pipe.specs.Progress.{DoneOut}
use Rattle.auth_router.specs.declared.up.Up.{Up}
use Rattle.auth_router.specs.declared.endpoints.TheConstants.{ENDPOINTS}
use Rattle.auth_router.specs.declared.control.Forwarding.TheVariants.{Asked}
use Rattle.auth_router.specs.declared.live.Live.{Live}
use Rattle.auth_router.specs.declared.live.Outstanding.{Outstanding}
use Rattle.auth_router.specs.declared.live.Work.TheVariants as work
use Rattle.auth_router.specs.Entries.{Acted, Request, Entry}
use Rattle.auth_router.specs.Forwarding.{is_set_configuration, address_told, configuration_told, is_passable}
use Rattle.auth_router.specs.Bridge.{with_value, is_reset, is_reset_act, completed_requests, is_taken, taken_act, is_delivered_by, is_sent, job_count, reply_with}
use Rattle.auth_router.specs.EndpointStep.{after_poll_of, after_poll, polled_answer}
use Rattle.auth_router.specs.ControlStep.{begun}
use Rattle.auth_router.specs.LiveStep.{is_control_work, new_control, with_job, reset_live, begun_live, orphaned_control, orphaned_endpoint}
use Rattle.auth_router.specs.BridgeStands.{ControlStands, EndpointsStand, AreWhole, outstanding_after, is_wanted, LiveStands}
use Rattle.auth_router.proofs.Pasts.{told_or, completed_step}
use Rattle.auth_router.proofs.JobSteps.{marked, marked_none, marked_control, marked_all, outstanding_kept}
use Rattle.auth_router.proofs.EndpointSteps.{none_flagged, none_held, endpoints_kept, endpoints_delivered}
use Rattle.auth_router.proofs.ControlSteps.{Follows, stands_by, stands_same, follows_reset, follows_begun}

-- an act with what comes of it
abbrev pub entry_of : Act → Answer → Option Request → Option JobKind → Option Setup → Bool → Entry
entry_of taken reply request kind completed ends = record {
  item = Acted taken;
  answer = reply;
  request = request;
  job = kind;
  completed = completed;
  ends_reading = ends;
  settled = None;
}

-- The registers

abbrev pub address_with : Option Setup → ℕ → ℕ
address_with None address = address
address_with (Some setup) address = unwrap_or (address_told setup) address

abbrev pub configured_with : Option Setup → Bool → Bool
configured_with None configured = configured
configured_with (Some setup) configured = cond (is_set_configuration setup) (not (setup.value == 0)) configured

address_step : (completed : Option Setup) (requests : List Setup)
    → unwrap_or (newest address_told (with_value completed requests)) 0
    ≡ address_with completed (unwrap_or (newest address_told requests) 0)
address_step None requests = refl
address_step (Some setup) requests = told_or (address_told setup) (newest address_told requests) 0

abbrev configured_by : List Setup → Bool
configured_by requests = not (unwrap_or (newest configuration_told requests) 0 == 0)

configured_step : (completed : Option Setup) (requests : List Setup)
    → configured_by (with_value completed requests) ≡ configured_with completed (configured_by requests)
configured_step None requests = refl
configured_step (Some setup) requests = told_where (is_set_configuration setup) where
  told_where : (b : Bool)
      → not (unwrap_or (or_else (when b setup.value) (newest configuration_told requests)) 0 == 0)
      ≡ cond b (not (setup.value == 0)) (configured_by requests)
  told_where true = refl
  told_where false = refl

-- what isn't answered, or answered NAK, is none of a transfer's acts
when_both : {V : Type 0} (b : Bool) (v : V) → when (b && false) v ≡ None
when_both true v = refl
when_both false v = refl

silent_taken : (taken : Act) → taken_act taken answer.Silent ≡ None
silent_taken act.Reset = refl
silent_taken (act.Setup address setup) = refl
silent_taken (act.Out address number toggle packet) = when_both (number == 0) (act.Out address number toggle packet)
silent_taken (act.In address number acked) = when_both (number == 0) (act.In address number acked)

silent_undelivered : (number : ℕ) (taken : Act) → is_delivered_by number taken answer.Silent ≡ false
silent_undelivered number act.Reset = refl
silent_undelivered number (act.Setup address setup) = refl
silent_undelivered number (act.Out address other toggle packet) = refl
silent_undelivered number (act.In address other acked) = and_right (other == number && acked) false refl

-- a job of an endpoint isn't a request's
pub unwanted : (o : Option Outstanding) → is_wanted (orphaned_control o) ≡ false
unwanted None = refl
unwanted (Some outstanding) = by_control (is_control_work outstanding.work) outstanding.orphaned where
  by_control : (b o : Bool) → (b && not (o || b)) ≡ false
  by_control true true = refl
  by_control true false = refl
  by_control false o = refl

module _ (live : Live) (up : Up) (past : List Entry) (stands : LiveStands live up past) where
  pub assemble : (after : Live) (entry : Entry) → is_reset entry ≡ false → after.up ≡ live.up
      → after.address ≡ address_with entry.completed live.address
      → after.configured ≡ configured_with entry.completed live.configured
      → ControlStands after.control up.max0 (entry ∷ past) → EndpointsStand after.endpoints (entry ∷ past) → AreWhole after.endpoints
      → after.jobs ≡ job_count (entry ∷ past) → after.outstanding ≡ outstanding_after (entry ∷ past)
      → (is_wanted after.outstanding ≡ true → after.control.forwarding ≡ Asked)
      → (is_wanted after.outstanding ≡ true → after.control.progress ≡ DoneOut → ⊥)
      → LiveStands after up (entry ∷ past)
  assemble after entry still same address configured control endpoints whole jobs outstanding asks ended = record {
    size = stands.size;
    up_is = same ∙ stands.up_is;
    address_is = address
        ∙ (ap (λ (n : ℕ). address_with entry.completed n) stands.address_is
        ∙ (sym (address_step entry.completed (completed_requests past)) ∙ ap (λ (rs : List Setup). unwrap_or (newest address_told rs) 0) (sym (completed_step entry past still))));
    configured_is = configured
        ∙ (ap (λ (b : Bool). configured_with entry.completed b) stands.configured_is
        ∙ (sym (configured_step entry.completed (completed_requests past)) ∙ ap (λ (rs : List Setup). configured_by rs) (sym (completed_step entry past still))));
    control = control;
    endpoints = endpoints;
    whole = whole;
    jobs_is = jobs;
    outstanding_is = outstanding;
    asks = asks;
    ended = ended;
  }

  -- the outstanding job after an act that orphans nothing
  pub still_waits : (taken : Act) (reply : Answer) → is_reset_act taken ≡ false → live.outstanding ≡ outstanding_after (entry_of taken reply None None None false ∷ past)
  still_waits taken reply still =
      stands.outstanding_is
      ∙ sym (outstanding_kept (entry_of taken reply None None None false) past refl refl
      ∙ (ap (λ (b : Bool). marked (b || false || false) (b || false) (outstanding_after past)) still ∙ marked_none (outstanding_after past)))

  -- an act that changes nothing
  pub silent_stands : (taken : Act) → is_reset_act taken ≡ false → LiveStands live up (entry_of taken answer.Silent None None None false ∷ past)
  silent_stands taken still =
      let entry : Entry = entry_of taken answer.Silent None None None false in
      assemble live entry still refl refl refl
      (stands_same entry past still refl live.control up.max0 stands.control refl refl (silent_taken taken))
      (endpoints_kept live.endpoints entry past still stands.endpoints refl refl (λ n p. silent_undelivered n taken) (λ n. refl))
      stands.whole stands.jobs_is (still_waits taken answer.Silent still) stands.asks stands.ended

  -- a bus reset
  pub reset_stands : LiveStands (reset_live live) up (entry_of act.Reset answer.Silent None None None false ∷ past)
  reset_stands = record {
    size = stands.size;
    up_is = stands.up_is;
    address_is = refl;
    configured_is = refl;
    control = stands_by (new_control live.control.maximum) up.max0 (entry_of act.Reset answer.Silent None None None false ∷ past) None None false [] refl refl refl refl
        (let P : ℕ → Type 0 = λ (m : ℕ). Follows (new_control m) up.max0 None None false [] in subst P (sym stands.control.maximum_is) (follows_reset up.max0));
    endpoints = record {
      in_halts = λ n h. none_flagged n h;
      out_halts = λ n h. none_flagged n h;
      in_toggles = λ n p h. none_flagged n h;
      out_toggles = λ n h. none_flagged n h;
      held = λ n p h. none_held n h;
    };
    whole = record { in_halts = refl; out_halts = refl; in_toggles = refl; out_toggles = refl; held = refl };
    jobs_is = stands.jobs_is;
    outstanding_is =
        ap (λ (o : Option Outstanding). orphaned_control (orphaned_endpoint o)) stands.outstanding_is
        ∙ (sym (marked_all (outstanding_after past)) ∙ sym (outstanding_kept (entry_of act.Reset answer.Silent None None None false) past refl refl));
    asks = λ wanted. absurd (false≢true (sym (unwanted (orphaned_endpoint live.outstanding)) ∙ wanted));
    ended = λ wanted _. false≢true (sym (unwanted (orphaned_endpoint live.outstanding)) ∙ wanted);
  }

  -- a setup at the present address
  pub begun_stands : (address : ℕ) (setup : Setup) (passes : Bool) → passes ≡ is_passable live.up.value live.configured setup
      → LiveStands (begun_live setup live) up (entry_of (act.Setup address setup) answer.Ack (Some (record { setup = setup; supported = passes })) None None false ∷ past)
  begun_stands address setup passes is =
      let entry : Entry = entry_of (act.Setup address setup) answer.Ack (Some (record { setup = setup; supported = passes })) None None false in
      assemble (begun_live setup live) entry refl refl refl refl
      (stands_by (begun_live setup live).control up.max0 (entry ∷ past) (Some (record { setup = setup; supported = passes })) None false [] refl refl refl refl
      (let P : Bool → Type 0 = λ (b : Bool). Follows (begun setup b live.control) up.max0 (Some (record { setup = setup; supported = passes })) None false [] in
      subst P is (follows_begun live.control up.max0 setup passes stands.size stands.control.maximum_is)))
      (endpoints_kept live.endpoints entry past refl stands.endpoints refl refl (λ n p. refl) (λ n. refl))
      stands.whole stands.jobs_is
      (ap (λ (o : Option Outstanding). orphaned_control o) stands.outstanding_is ∙ (sym (marked_control (outstanding_after past)) ∙ sym (outstanding_kept entry past refl refl)))
      (λ wanted. absurd (false≢true (sym (unwanted live.outstanding) ∙ wanted)))
      (λ wanted _. false≢true (sym (unwanted live.outstanding) ∙ wanted))

  -- An IN at another endpoint

  pub no_act_of_zero : (number : ℕ) → 0 < number → (number == 0) ≡ false
  no_act_of_zero number some = ne_eqb number 0 (λ e. omega (arith, e))

  endpoints_polled : (kind : Option JobKind) (address number : ℕ) (acked halted : Bool) (held : Option (List ℕ)) (toggle : Bool) → number < ENDPOINTS
      → ((other : ℕ) → is_sent other kind ≡ false)
      → EndpointsStand (cond halted live.endpoints (after_poll_of held number acked live.endpoints))
      (entry_of (act.In address number acked) (cond halted answer.Stall (reply_with toggle held)) None kind None false ∷ past)
  endpoints_polled kind address number acked true held toggle within unsent =
      endpoints_kept live.endpoints (entry_of (act.In address number acked) answer.Stall None kind None false) past refl stands.endpoints refl refl
      (λ n p. and_right (number == n && acked) false refl) unsent
  endpoints_polled kind address number acked false None toggle within unsent =
      endpoints_kept live.endpoints (entry_of (act.In address number acked) answer.Nak None kind None false) past refl stands.endpoints refl refl
      (λ n p. and_right (number == n && acked) false refl) unsent
  endpoints_polled kind address number false false (Some packet) toggle within unsent =
      endpoints_kept live.endpoints (entry_of (act.In address number false) (answer.Data toggle packet) None kind None false) past refl stands.endpoints refl refl
      (λ n p. three (number == n)) unsent where
        three : (b : Bool) → (b && false && true) ≡ false
        three true = refl
        three false = refl
  endpoints_polled kind address number true false (Some packet) toggle within unsent =
      endpoints_delivered live.endpoints (entry_of (act.In address number true) (answer.Data toggle packet) None kind None false) past refl stands.endpoints refl refl
      number within stands.whole (λ n. three (number == n)) unsent where
        three : (b : Bool) → (b && true && true) ≡ b
        three true = refl
        three false = refl

  whole_polled : (number : ℕ) (acked halted : Bool) (held : Option (List ℕ)) → AreWhole (cond halted live.endpoints (after_poll_of held number acked live.endpoints))
  whole_polled number acked true held = stands.whole
  whole_polled number acked false None = stands.whole
  whole_polled number false false (Some packet) = stands.whole
  whole_polled number true false (Some packet) = record {
    in_halts = stands.whole.in_halts;
    out_halts = stands.whole.out_halts;
    in_toggles = length-set live.endpoints.in_toggles number _ ∙ stands.whole.in_toggles;
    out_toggles = stands.whole.out_toggles;
    held = length-set live.endpoints.held number _ ∙ stands.whole.held;
  }

  poll_act : (number address : ℕ) (acked : Bool) (reply : Answer) → 0 < number → taken_act (act.In address number acked) reply ≡ None
  poll_act number address acked reply some = ap (λ (b : Bool). when (b && is_taken reply) (act.In address number acked)) (no_act_of_zero number some)

  pub poll_stands : (wants : Bool) (address number : ℕ) (acked : Bool) → 0 < number → number < ENDPOINTS
      → LiveStands (cond wants (with_job (work.In number) (record live { endpoints = after_poll number acked live.endpoints })) (record live { endpoints = after_poll number acked live.endpoints })) up
      (entry_of (act.In address number acked) (polled_answer number live.endpoints) None (cond wants (Some (job.In number)) None) None false ∷ past)
  poll_stands false address number acked some within =
      let entry : Entry = entry_of (act.In address number acked) (polled_answer number live.endpoints) None None None false in
      assemble (record live { endpoints = after_poll number acked live.endpoints }) entry refl refl refl refl
      (stands_same entry past refl refl live.control up.max0 stands.control refl refl (poll_act number address acked (polled_answer number live.endpoints) some))
      (endpoints_polled None address number acked (slice_index_or live.endpoints.in_halts number false) (slice_index_or live.endpoints.held number None) (slice_index_or live.endpoints.in_toggles number false) within (λ n. refl))
      (whole_polled number acked (slice_index_or live.endpoints.in_halts number false) (slice_index_or live.endpoints.held number None))
      stands.jobs_is (still_waits (act.In address number acked) (polled_answer number live.endpoints) refl) stands.asks stands.ended
  poll_stands true address number acked some within =
      let entry : Entry = entry_of (act.In address number acked) (polled_answer number live.endpoints) None (Some (job.In number)) None false in
      assemble (with_job (work.In number) (record live { endpoints = after_poll number acked live.endpoints })) entry refl refl refl refl
      (stands_same entry past refl refl live.control up.max0 stands.control refl refl (poll_act number address acked (polled_answer number live.endpoints) some))
      (endpoints_polled (Some (job.In number)) address number acked (slice_index_or live.endpoints.in_halts number false) (slice_index_or live.endpoints.held number None) (slice_index_or live.endpoints.in_toggles number false) within (λ n. refl))
      (whole_polled number acked (slice_index_or live.endpoints.in_halts number false) (slice_index_or live.endpoints.held number None))
      (ap (λ (n : ℕ). 1 + n) stands.jobs_is) refl (λ wanted. absurd (false≢true wanted)) (λ wanted _. false≢true wanted)
