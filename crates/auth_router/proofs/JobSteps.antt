-- The outstanding job, one entry further.
use Rattle.std.proofs.Common.{◌≡◌, ◌+◌, Bool, true, false, not, List, ◌∷◌, Option, Some, None, cond, refl, sym, ap, ◌∙◌}
use Rattle.std.specs.Prelude.{◌&&◌, ◌||◌, is_some}
use Rattle.std.specs.List.{list_any}
use Rattle.psd_base.specs.History.{since}
use Rattle.psd_base.specs.declared.console.JobKind.{JobKind}
use Rattle.psd_base.specs.declared.console.JobKind.TheVariants as job
use Rattle.auth_router.specs.declared.live.Outstanding.{Outstanding}
use Rattle.auth_router.specs.declared.live.Work.{Work}
use Rattle.auth_router.specs.declared.live.Work.TheVariants as work
use Rattle.auth_router.specs.Entries.{Entry}
use Rattle.auth_router.specs.Bridge.{makes_job, job_count, last_job, finishes, is_outstanding, is_reset, ends_configuration, orphans, is_orphaned_by, is_orphaned}
use Rattle.auth_router.specs.LiveStep.{is_control_work, orphaned_where, orphaned_control, orphaned_endpoint}
use Rattle.auth_router.specs.BridgeStands.{work_of, outstanding_with, outstanding_after}
use Rattle.auth_router.proofs.Pasts.{last_kept, outstanding_step, orphaned_step}

-- a job that is orphaned, where it is a control job or another
abbrev pub mark_of : Bool → Bool → Outstanding → Outstanding
mark_of control other outstanding = orphaned_where (cond (is_control_work outstanding.work) control other) outstanding

abbrev pub marked : Bool → Bool → Option Outstanding → Option Outstanding
marked control other None = None
marked control other (Some outstanding) = Some (mark_of control other outstanding)

or_false : (b : Bool) → (b || false) ≡ b
or_false true = refl
or_false false = refl

or_turned : (a b : Bool) → (a || b) ≡ (b || a)
or_turned true true = refl
or_turned true false = refl
or_turned false true = refl
or_turned false false = refl

pub marked_none : (o : Option Outstanding) → marked false false o ≡ o
marked_none None = refl
marked_none (Some outstanding) = of_work outstanding.work outstanding.orphaned where
  of_work : (w : Work) (b : Bool) → marked false false (Some (record { work = w; orphaned = b })) ≡ Some (record { work = w; orphaned = b })
  of_work work.Control b = ap (λ (x : Bool). Some (record { work = work.Control; orphaned = x })) (or_false b)
  of_work (work.In n) b = ap (λ (x : Bool). Some (record { work = work.In n; orphaned = x })) (or_false b)
  of_work (work.Out n) b = ap (λ (x : Bool). Some (record { work = work.Out n; orphaned = x })) (or_false b)

pub marked_control : (o : Option Outstanding) → marked true false o ≡ orphaned_control o
marked_control None = refl
marked_control (Some outstanding) = of_work outstanding.work outstanding.orphaned where
  of_work : (w : Work) (b : Bool) → marked true false (Some (record { work = w; orphaned = b })) ≡ orphaned_control (Some (record { work = w; orphaned = b }))
  of_work work.Control b = refl
  of_work (work.In n) b = refl
  of_work (work.Out n) b = refl

pub marked_endpoint : (o : Option Outstanding) → marked false true o ≡ orphaned_endpoint o
marked_endpoint None = refl
marked_endpoint (Some outstanding) = of_work outstanding.work outstanding.orphaned where
  of_work : (w : Work) (b : Bool) → marked false true (Some (record { work = w; orphaned = b })) ≡ orphaned_endpoint (Some (record { work = w; orphaned = b }))
  of_work work.Control b = refl
  of_work (work.In n) b = refl
  of_work (work.Out n) b = refl

pub marked_all : (o : Option Outstanding) → marked true true o ≡ orphaned_control (orphaned_endpoint o)
marked_all None = refl
marked_all (Some outstanding) = of_work outstanding.work outstanding.orphaned where
  of_work : (w : Work) (b : Bool) → marked true true (Some (record { work = w; orphaned = b })) ≡ orphaned_control (orphaned_endpoint (Some (record { work = w; orphaned = b })))
  of_work work.Control b = ap (λ (x : Bool). Some (record { work = work.Control; orphaned = x })) (ap (λ (x : Bool). x || true) (sym (or_false b)))
  of_work (work.In n) b = ap (λ (x : Bool). Some (record { work = work.In n; orphaned = x })) (sym (or_false (b || true)))
  of_work (work.Out n) b = ap (λ (x : Bool). Some (record { work = work.Out n; orphaned = x })) (sym (or_false (b || true)))

-- what an entry orphans
abbrev pub orphans_control : Entry → Bool
orphans_control entry = is_reset entry || is_some entry.request || entry.ends_reading

abbrev pub orphans_endpoint : Entry → Bool
orphans_endpoint entry = is_reset entry || ends_configuration entry

orphans_is : (kind : JobKind) (entry : Entry) → orphans kind entry ≡ cond (is_control_work (work_of kind)) (orphans_control entry) (orphans_endpoint entry)
orphans_is (job.Control setup bytes) entry = refl
orphans_is (job.In number) entry = refl
orphans_is (job.Out number bytes) entry = refl

still_outstanding : (kind : Option JobKind) (finished : Bool) (entry : Entry) (after : List Entry)
    → cond (is_some kind && not finished) (outstanding_with kind (is_orphaned_by kind (entry ∷ after))) None
    ≡ marked (orphans_control entry) (orphans_endpoint entry) (cond (is_some kind && not finished) (outstanding_with kind (is_orphaned_by kind after)) None)
still_outstanding None finished entry after = refl
still_outstanding (Some kind) true entry after = refl
still_outstanding (Some kind) false entry after =
    ap (λ (b : Bool). Some (record { work = work_of kind; orphaned = b }))
    (or_turned (orphans kind entry) (list_any (λ (e : Entry). orphans kind e) after)
    ∙ ap (λ (b : Bool). list_any (λ (e : Entry). orphans kind e) after || b) (orphans_is kind entry))

no_longer : (some : Bool) (rest : Bool) (o : Option Outstanding) → cond (some && not (true || rest)) o None ≡ None
no_longer true rest o = refl
no_longer false rest o = refl

module _ (entry : Entry) (past : List Entry) (no_job : entry.job ≡ None) where
  -- an entry that makes no job and finishes none
  pub outstanding_kept : finishes (job_count past) entry ≡ false
      → outstanding_after (entry ∷ past) ≡ marked (orphans_control entry) (orphans_endpoint entry) (outstanding_after past)
  outstanding_kept other =
      ap (λ (b : Bool). cond b (outstanding_with (last_job (entry ∷ past)) (is_orphaned (entry ∷ past))) None) (outstanding_step entry past no_job)
      ∙ (ap (λ (b : Bool). cond (is_some (last_job past) && not (b || list_any (λ (e : Entry). finishes (job_count past) e) (since (λ (e : Entry). makes_job e) past)))
      (outstanding_with (last_job (entry ∷ past)) (is_orphaned (entry ∷ past))) None) other
      ∙ (ap (λ (o : Option JobKind). cond (is_outstanding past) (outstanding_with o (is_orphaned (entry ∷ past))) None) (last_kept entry past no_job)
      ∙ (ap (λ (b : Bool). cond (is_outstanding past) (outstanding_with (last_job past) b) None) (orphaned_step entry past no_job)
      ∙ still_outstanding (last_job past) (list_any (λ (e : Entry). finishes (job_count past) e) (since (λ (e : Entry). makes_job e) past)) entry (since (λ (e : Entry). makes_job e) past))))

  -- the outstanding job is done
  pub outstanding_ended : finishes (job_count past) entry ≡ true → outstanding_after (entry ∷ past) ≡ None
  outstanding_ended this =
      ap (λ (b : Bool). cond b (outstanding_with (last_job (entry ∷ past)) (is_orphaned (entry ∷ past))) None) (outstanding_step entry past no_job)
      ∙ (ap (λ (b : Bool). cond (is_some (last_job past) && not (b || list_any (λ (e : Entry). finishes (job_count past) e) (since (λ (e : Entry). makes_job e) past)))
      (outstanding_with (last_job (entry ∷ past)) (is_orphaned (entry ∷ past))) None) this
      ∙ no_longer (is_some (last_job past)) (list_any (λ (e : Entry). finishes (job_count past) e) (since (λ (e : Entry). makes_job e) past)) (outstanding_with (last_job (entry ∷ past)) (is_orphaned (entry ∷ past))))

-- an entry that makes a job
pub outstanding_made : (entry : Entry) (past : List Entry) (kind : JobKind) → entry.job ≡ Some kind
    → outstanding_after (entry ∷ past) ≡ Some (record { work = work_of kind; orphaned = false })
outstanding_made entry past kind made = rw made refl

pub count_made : (entry : Entry) (past : List Entry) (kind : JobKind) → entry.job ≡ Some kind → job_count (entry ∷ past) ≡ 1 + job_count past
count_made entry past kind made = rw made refl

-- whether a job is outstanding
some_with : (kind : Option JobKind) (finished orphaned : Bool) → is_some (cond (is_some kind && not finished) (outstanding_with kind orphaned) None) ≡ (is_some kind && not finished)
some_with None finished orphaned = refl
some_with (Some kind) true orphaned = refl
some_with (Some kind) false orphaned = refl

pub some_outstanding : (past : List Entry) → is_some (outstanding_after past) ≡ is_outstanding past
some_outstanding past =
    some_with (last_job past) (list_any (λ (e : Entry). finishes (job_count past) e) (since (λ (e : Entry). makes_job e) past)) (is_orphaned past)
