-- What one entry more makes of what is told by the entries.
use Rattle.std.proofs.Common.{◌≡◌, ℕ, Bool, true, false, not, List, [], ◌∷◌, Option, Some, None, cond, refl, ap, ◌∙◌}
use Rattle.std.specs.Prelude.{◌&&◌, ◌||◌, is_some, unwrap_or}
use Rattle.std.specs.List.{list_any}
use Rattle.psd_base.specs.History.{since, or_else, newest}
use Rattle.auth_router.specs.Endpoint.{Endpoint}
use Rattle.auth_router.specs.Entries.{Request, Entry}
use Rattle.auth_router.specs.Bridge.{with_value, each_of, is_odd_number, is_reset, since_reset, completed_requests, reply_of_item, is_control, last_request, since_request, request_reply, is_job_made, control_act, transfer_acts, makes_job, job_count, last_job, finishes, is_outstanding, is_orphaned_by, is_orphaned, halt_told, is_halted_after, begins_anew, turns, toggle_after, held_told, held_after}

pub told_or : {V : Type 0} (o p : Option V) (d : V) → unwrap_or (or_else o p) d ≡ unwrap_or o (unwrap_or p d)
told_or None p d = refl
told_or (Some v) p d = refl

module _ (entry : Entry) (past : List Entry) where
  module _ (still : is_reset entry ≡ false) where
    pub completed_step : completed_requests (entry ∷ past) ≡ with_value entry.completed (completed_requests past)
    completed_step = rw still refl

    pub halt_step : (place : Endpoint) → is_halted_after place (entry ∷ past) ≡ unwrap_or (halt_told place entry) (is_halted_after place past)
    halt_step place = rw still (told_or (halt_told place entry) (newest (λ (e : Entry). halt_told place e) (since_reset past)) false)

    pub held_step : (number : ℕ) → held_after number (entry ∷ past) ≡ unwrap_or (held_told number entry) (held_after number past)
    held_step number = rw still (told_or (held_told number entry) (newest (λ (e : Entry). held_told number e) (since_reset past)) None)

    pub toggle_step : (place : Endpoint) → toggle_after place (entry ∷ past)
        ≡ cond (begins_anew place entry) false (cond (turns place entry) (not (toggle_after place past)) (toggle_after place past))
    toggle_step place = rw still (at_start (begins_anew place entry)) where
      at_start : (b : Bool) → is_odd_number (λ (e : Entry). turns place e) (cond b [] (entry ∷ since (λ (e : Entry). begins_anew place e) (since_reset past)))
          ≡ cond b false (cond (turns place entry) (not (toggle_after place past)) (toggle_after place past))
      at_start true = refl
      at_start false = refl

    pub request_step : last_request (entry ∷ past) ≡ or_else entry.request (last_request past)
    request_step = rw still refl

    module _ (no_request : entry.request ≡ None) where
      since_request_step : since_request (entry ∷ past) ≡ entry ∷ since_request past
      since_request_step = rw (still, no_request) refl

      pub request_kept : last_request (entry ∷ past) ≡ last_request past
      request_kept = request_step ∙ ap (λ (o : Option Request). or_else o (last_request past)) no_request

      pub reply_step : request_reply (entry ∷ past) ≡ or_else (cond (is_control entry.settled) (reply_of_item entry.item) None) (request_reply past)
      reply_step = ap (λ (es : List Entry). newest (λ (e : Entry). cond (is_control e.settled) (reply_of_item e.item) None) es) since_request_step

      pub made_step : is_job_made (entry ∷ past) ≡ (is_control entry.job || is_job_made past)
      made_step = ap (λ (es : List Entry). list_any (λ (e : Entry). is_control e.job) es) since_request_step

      pub acts_step : transfer_acts (entry ∷ past) ≡ with_value (control_act entry.item entry.answer) (transfer_acts past)
      acts_step = ap (λ (es : List Entry). each_of (λ (e : Entry). control_act e.item e.answer) es) since_request_step

  -- Jobs

  module _ (no_job : entry.job ≡ None) where
    pub count_kept : job_count (entry ∷ past) ≡ job_count past
    count_kept = rw no_job refl

    pub last_kept : last_job (entry ∷ past) ≡ last_job past
    last_kept = rw no_job refl

    pub outstanding_step : is_outstanding (entry ∷ past) ≡ (is_some (last_job past) && not (finishes (job_count past) entry || list_any (λ (e : Entry). finishes (job_count past) e) (since (λ (e : Entry). makes_job e) past)))
    outstanding_step = rw no_job refl

    pub orphaned_step : is_orphaned (entry ∷ past) ≡ is_orphaned_by (last_job past) (entry ∷ since (λ (e : Entry). makes_job e) past)
    orphaned_step = rw no_job refl
