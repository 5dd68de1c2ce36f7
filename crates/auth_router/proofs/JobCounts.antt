-- How many jobs an act, or the token's word, makes.
use Rattle.std.proofs.Common.{◌≡◌, ℕ, ◌+◌, ◌≤◌, Bool, true, false, not, ◌&&◌, List, Option, Some, None, refl, cond, arith, if◌then◌else◌}
use Rattle.std.specs.Prelude.{◌==◌, is_some}
use Rattle.psd_base.specs.declared.setup.Setup.{Setup}
use Rattle.psd_base.specs.declared.act.Act.{Act}
use Rattle.psd_base.specs.declared.act.Act.TheVariants as act
use Rattle.auth_router.specs.declared.live.Live.{Live}
use Rattle.auth_router.specs.declared.live.Outstanding.{Outstanding}
use Rattle.auth_router.specs.declared.live.Work.{Work}
use Rattle.auth_router.specs.declared.live.Work.TheVariants as work
use Rattle.auth_router.specs.ControlStep.{is_withheld, control_completes}
use Rattle.auth_router.specs.LiveStep.{is_reached_live, begun_live, completed_by, can_ask, asked_live, moved_in, control_in_live, control_out_live, wants_packet, in_live, sends_live, out_live, settled_work, settled_of, settled_outstanding, live_after, bridge_after, bridge_heard, heard_live}
use Rattle.auth_router.specs.BridgeStands.{jobs_of}

either : (b : Bool) (jobs : ℕ) (first second : Live) → first.jobs ≤ jobs → second.jobs ≤ jobs → (if b then first else second).jobs ≤ jobs
either true jobs first second low other = low
either false jobs first second low other = other

completed-jobs : (setup : Option Setup) (live : Live) → (completed_by setup live).jobs ≡ live.jobs
completed-jobs None live = refl
completed-jobs (Some setup) live = refl

pub jobs_after : (taken : Act) (live : Live) → (live_after taken live).jobs ≤ live.jobs + 1
jobs_after act.Reset live = omega arith
jobs_after (act.Setup address setup) live =
    either (address == live.address) (live.jobs + 1) (begun_live setup live) live (omega arith) (omega arith)
jobs_after (act.Out address number toggle packet) live =
    either (is_reached_live live.up.outs address number live) (live.jobs + 1) _ live
    (either (number == 0) (live.jobs + 1) (control_out_live toggle packet live) (out_live number toggle live) (omega arith)
    (either (sends_live number toggle live) (live.jobs + 1) _ _ (omega arith) (omega arith)))
    (omega arith)
jobs_after (act.In address number acked) live =
    either (is_reached_live live.up.ins address number live) (live.jobs + 1) _ live
    (either (number == 0) (live.jobs + 1) (control_in_live acked live) (in_live number acked live)
    (either (is_withheld live.control) (live.jobs + 1) (asked_live (moved_in acked live)) (completed_by (control_completes acked live.control) (moved_in acked live))
    (either (can_ask (moved_in acked live)) (live.jobs + 1) _ _ (omega arith) (omega arith))
    (let same = completed-jobs (control_completes acked live.control) (moved_in acked live) in omega arith))
    (either (wants_packet number live) (live.jobs + 1) _ _ (omega arith) (omega arith)))
    (omega arith)

settled-jobs : (work : Work) (status : ℕ) (bytes : List ℕ) (live : Live) → (settled_work work status bytes live).jobs ≡ live.jobs
settled-jobs work.Control status bytes live = refl
settled-jobs (work.In number) status bytes live = refl
settled-jobs (work.Out number) status bytes live = refl

same-jobs : (b : Bool) (first second live : Live) → first.jobs ≡ live.jobs → second.jobs ≡ live.jobs → (if b then first else second).jobs ≡ live.jobs
same-jobs true first second live one other = one
same-jobs false first second live one other = other

outstanding-jobs : (outstanding : Option Outstanding) (number status : ℕ) (bytes : List ℕ) (live : Live)
    → (settled_outstanding outstanding number status bytes live).jobs ≡ live.jobs
outstanding-jobs None number status bytes live = refl
outstanding-jobs (Some outstanding) number status bytes live =
    same-jobs (number == live.jobs) _ live live
    (same-jobs outstanding.orphaned (record live { outstanding = None }) _ live refl (settled-jobs outstanding.work status bytes (record live { outstanding = None })))
    refl

pub jobs_heard : (life number status : ℕ) (bytes : List ℕ) (live : Live) → (heard_live life number status bytes live).jobs ≡ live.jobs
jobs_heard life number status bytes live =
    same-jobs (life == live.up.life) _ live live (outstanding-jobs live.outstanding number status bytes live) refl
