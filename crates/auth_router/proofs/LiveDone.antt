-- A bridge that is up goes on to stand for what the token says.
use Rattle.std.proofs.Common.{◌≡◌, ℕ, Bool, true, false, not, List, ◌∷◌, Option, Some, None, cond, refl, sym, ap, ◌∙◌, subst}
use Rattle.std.specs.Prelude.{◌&&◌, ◌==◌}
use Rattle.std.proofs.lemmas.Bool.{false≢true}
use Rattle.psd_base.specs.declared.setup.Setup.{Setup}
use Rattle.psd_base.specs.declared.console.JobKind.{JobKind}
use Rattle.psd_base.specs.declared.console.JobKind.TheVariants as job
use Rattle.auth_router.specs.declared.up.Up.{Up}
use Rattle.auth_router.specs.declared.control.Forwarding.{Forwarding}
use Rattle.auth_router.specs.declared.live.Live.{Live}
use Rattle.auth_router.specs.declared.live.Outstanding.{Outstanding}
use Rattle.auth_router.specs.declared.live.Work.TheVariants as work
use Rattle.auth_router.specs.Entries.{Entry}
use Rattle.auth_router.specs.Bridge.{job_count, last_job, is_outstanding, is_orphaned, takes, is_waiting, last_request, request_reply, is_job_made, transfer_acts}
use Rattle.auth_router.specs.ControlStep.{settled_control, waits}
use Rattle.auth_router.specs.LiveStep.{settled_work, settled_of, settled_outstanding, settled_live}
use Rattle.auth_router.specs.BridgeStands.{work_of, outstanding_with, outstanding_after, is_wanted, LiveStands}
use Rattle.auth_router.proofs.JobSteps.{marked_none, outstanding_kept, outstanding_ended}
use Rattle.auth_router.proofs.EndpointSteps.{done_of, endpoints_answered_in, whole_answered_in, endpoints_answered_out, whole_answered_out, endpoints_unanswered, endpoints_answered_control}
use Rattle.auth_router.proofs.ControlSteps.{follows, stands_after, stands_same, follows_settled, waits-forwarding_of}
use Rattle.auth_router.proofs.LiveSteps.{assemble}

module _ (live : Live) (up : Up) (past : List Entry) (stands : LiveStands live up past) (number status : ℕ) (bytes : List ℕ) where
  -- a word that isn't taken
  ignored : live.outstanding ≡ outstanding_after (done_of number status bytes None ∷ past) → LiveStands live up (done_of number status bytes None ∷ past)
  ignored outstanding =
      assemble live up past stands live (done_of number status bytes None) refl refl refl refl
      (stands_same (done_of number status bytes None) past refl refl live.control up.max0 stands.control refl refl refl)
      (endpoints_unanswered live.endpoints past number status bytes stands.endpoints) stands.whole stands.jobs_is outstanding stands.asks stands.ended

  kept : (number == job_count past) ≡ false → outstanding_after past ≡ outstanding_after (done_of number status bytes None ∷ past)
  kept other = sym (outstanding_kept (done_of number status bytes None) past refl other ∙ marked_none (outstanding_after past))

  gone : (settled : Option JobKind) → (number == job_count past) ≡ true → None ≡ outstanding_after (done_of number status bytes settled ∷ past)
  gone settled this = sym (outstanding_ended (done_of number status bytes settled) past refl this)

  -- the outstanding job is done
  orphan_done : (number == job_count past) ≡ true → LiveStands (record live { outstanding = None }) up (done_of number status bytes None ∷ past)
  orphan_done this =
      assemble live up past stands (record live { outstanding = None }) (done_of number status bytes None) refl refl refl refl
      (stands_same (done_of number status bytes None) past refl refl live.control up.max0 stands.control refl refl refl)
      (endpoints_unanswered live.endpoints past number status bytes stands.endpoints) stands.whole stands.jobs_is (gone None this)
      (λ wanted. absurd (false≢true wanted)) (λ wanted _. false≢true wanted)

  control_done : (setup : Setup) (sent : List ℕ) → (number == job_count past) ≡ true → is_wanted live.outstanding ≡ true
      → LiveStands (settled_work work.Control status bytes (record live { outstanding = None })) up (done_of number status bytes (Some (job.Control setup sent)) ∷ past)
  control_done setup sent this wanted =
      let waiting : is_waiting past ≡ true =
      sym (waits-forwarding_of (is_waiting past) (is_job_made past)) ∙ (ap (λ (f : Forwarding). waits f) (sym stands.control.forwarding_is) ∙ ap (λ (f : Forwarding). waits f) (stands.asks wanted)) in
      assemble live up past stands (settled_work work.Control status bytes (record live { outstanding = None })) (done_of number status bytes (Some (job.Control setup sent))) refl refl refl refl
      (stands_after (done_of number status bytes (Some (job.Control setup sent))) past refl refl (settled_control status bytes live.control) up.max0
      (Some (record { status = status; bytes = bytes })) (is_job_made past) None refl refl refl
      (follows_settled live.control up.max0 (last_request past) (request_reply past) (is_job_made past) (transfer_acts past) status bytes stands.size
      (follows live.control up.max0 past stands.control) waiting (stands.ended wanted)))
      (endpoints_answered_control live.endpoints past number status bytes setup sent stands.endpoints) stands.whole stands.jobs_is (gone (Some (job.Control setup sent)) this)
      (λ wanted. absurd (false≢true wanted)) (λ wanted _. false≢true wanted)

  in_done : (asked : ℕ) → (number == job_count past) ≡ true
      → LiveStands (settled_work (work.In asked) status bytes (record live { outstanding = None })) up (done_of number status bytes (Some (job.In asked)) ∷ past)
  in_done asked this =
      assemble live up past stands (settled_work (work.In asked) status bytes (record live { outstanding = None })) (done_of number status bytes (Some (job.In asked))) refl refl refl refl
      (stands_same (done_of number status bytes (Some (job.In asked))) past refl refl live.control up.max0 stands.control refl refl refl)
      (endpoints_answered_in live.endpoints past number asked status bytes stands.endpoints stands.whole) (whole_answered_in live.endpoints asked status bytes stands.whole)
      stands.jobs_is (gone (Some (job.In asked)) this) (λ wanted. absurd (false≢true wanted)) (λ wanted _. false≢true wanted)

  out_done : (sent : ℕ) (packet : List ℕ) → (number == job_count past) ≡ true
      → LiveStands (settled_work (work.Out sent) status bytes (record live { outstanding = None })) up (done_of number status bytes (Some (job.Out sent packet)) ∷ past)
  out_done sent packet this =
      assemble live up past stands (settled_work (work.Out sent) status bytes (record live { outstanding = None })) (done_of number status bytes (Some (job.Out sent packet))) refl refl refl refl
      (stands_same (done_of number status bytes (Some (job.Out sent packet))) past refl refl live.control up.max0 stands.control refl refl refl)
      (endpoints_answered_out live.endpoints past number sent status bytes packet stands.endpoints stands.whole) (whole_answered_out live.endpoints sent status stands.whole)
      stands.jobs_is (gone (Some (job.Out sent packet)) this) (λ wanted. absurd (false≢true wanted)) (λ wanted _. false≢true wanted)

  kind_done : (kind : JobKind) → (number == job_count past) ≡ true → live.outstanding ≡ Some (record { work = work_of kind; orphaned = false })
      → LiveStands (settled_work (work_of kind) status bytes (record live { outstanding = None })) up (done_of number status bytes (Some kind) ∷ past)
  kind_done (job.Control setup sent) this is = control_done setup sent this (ap (λ (o : Option Outstanding). is_wanted o) is)
  kind_done (job.In asked) this is = in_done asked this
  kind_done (job.Out sent packet) this is = out_done sent packet this

  -- by whether a job is outstanding, whether it is this one, and whether it is orphaned
  nothing_taken : (this : Bool) → this ≡ (number == job_count past) → live.outstanding ≡ None → LiveStands live up (done_of number status bytes None ∷ past)
  nothing_taken true e none = ignored (none ∙ gone None (sym e))
  nothing_taken false e none = ignored (stands.outstanding_is ∙ kept (sym e))

  one_done : (this orphaned : Bool) (kind : JobKind) → this ≡ (number == job_count past) → live.outstanding ≡ Some (record { work = work_of kind; orphaned = orphaned })
      → LiveStands (cond this (settled_of (record { work = work_of kind; orphaned = orphaned }) status bytes (record live { outstanding = None })) live) up
      (done_of number status bytes (cond (this && not orphaned) (Some kind) None) ∷ past)
  one_done false orphaned kind e is = ignored (stands.outstanding_is ∙ kept (sym e))
  one_done true true kind e is = orphan_done (sym e)
  one_done true false kind e is = kind_done kind (sym e) is

  some_done : (waiting orphaned : Bool) (last : Option JobKind) → live.outstanding ≡ cond waiting (outstanding_with last orphaned) None
      → LiveStands (settled_outstanding (cond waiting (outstanding_with last orphaned) None) number status bytes live) up
      (done_of number status bytes (cond (waiting && (number == job_count past) && not orphaned) last None) ∷ past)
  some_done false orphaned last is = nothing_taken (number == job_count past) refl is
  some_done true orphaned None is =
      let P : Option JobKind → Type 0 = λ (o : Option JobKind). LiveStands live up (done_of number status bytes o ∷ past) in
      subst P (sym (same_none (true && (number == job_count past) && not orphaned))) (nothing_taken (number == job_count past) refl is) where
        same_none : (b : Bool) → (let none : Option JobKind = None in cond b none none ≡ none)
        same_none true = refl
        same_none false = refl
  some_done true orphaned (Some kind) is =
      let P : ℕ → Type 0 = λ (n : ℕ). LiveStands (cond (number == n) (settled_of (record { work = work_of kind; orphaned = orphaned }) status bytes (record live { outstanding = None })) live) up
      (done_of number status bytes (cond ((number == job_count past) && not orphaned) (Some kind) None) ∷ past) in
      subst P (sym stands.jobs_is) (one_done (number == job_count past) orphaned kind refl is)

  pub done_stands : LiveStands (settled_live number status bytes live) up (done_of number status bytes (cond (takes number past && not (is_orphaned past)) (last_job past) None) ∷ past)
  done_stands =
      let P : Option Outstanding → Type 0 = λ (o : Option Outstanding). LiveStands (settled_outstanding o number status bytes live) up
      (done_of number status bytes (cond (takes number past && not (is_orphaned past)) (last_job past) None) ∷ past) in
      subst P (sym stands.outstanding_is) (some_done (is_outstanding past) (is_orphaned past) (last_job past) stands.outstanding_is)
