-- What a reply to the outstanding order comes to, whatever that order is.
use Rattle.std.proofs.Common.{◌≡◌, ℕ, ◌+◌, ◌≤◌, List, [], ◌∷◌, length, Option, None, refl, ap, sym, subst, ◌∙◌, arith}
use Rattle.std.specs.Prelude.{nat_lt}
use Rattle.psd_base.specs.History.{or_else}
use Rattle.psd_base.specs.declared.console.RuleName.{RuleName}
use Rattle.usb_descriptor.specs.declared.device.DeviceDesc.{DeviceDesc}
use Rattle.usb_descriptor.specs.Device.{device_of}
use Rattle.peripheral_filter.specs.declared.rule.RuleSet.{RuleSet}
use Rattle.peripheral_filter.specs.declared.rule.Verdict.{Verdict}
use Rattle.peripheral_filter.specs.Verdicts.{first_that_holds}
use Rattle.console_host.specs.declared.attachment.Attachment.{Attachment}
use Rattle.console_host.specs.declared.fit.TheConstants.{INTERFACES_MAX}
use Rattle.console_host.specs.declared.status.TheConstants.{STALL}
use Rattle.console_host.specs.declared.step.Step.{Step}
use Rattle.console_host.specs.declared.step.Step.TheVariants as step
use Rattle.console_host.specs.Replies.{Reply}
use Rattle.console_host.specs.Judging.{device_step, head_step, configuration_step, silence_rules, least_from}
use Rattle.console_host.specs.Plan.{refusal, rule_of, rules_at, refused_in, accepted_in}
use Rattle.console_host.specs.Machine.{number_of, outcome_of, judged, judged_notes, status_verdict, configuration_verdict}
use Rattle.console_host.specs.Stands.{StepStands}
use Rattle.console_host.proofs.Asking.{rules-late}
use Rattle.console_host.proofs.Comes.{Turns, device-turns, address-turns, head-turns, configuration-turns}
use Rattle.console_host.proofs.Turning.{configured-turns, report-turns}

-- the refusal is that of the newest reply, where none came before
newly : (attachment : Attachment) (rules : RuleSet) (earlier : List Reply) (reply : Reply) (asked : Step) (verdict : Verdict)
    → refusal attachment.plug rules attachment.known earlier ≡ None → verdict ≡ first_that_holds (rules_at attachment.plug rules attachment.known earlier reply)
    → Turns attachment.plug earlier reply attachment (judged asked rules reply attachment) (rule_of verdict) (outcome_of asked rules reply attachment) (judged_notes asked rules reply attachment)
    → Turns attachment.plug earlier reply attachment (judged asked rules reply attachment) (refusal attachment.plug rules attachment.known (reply ∷ earlier)) (outcome_of asked rules reply attachment) (judged_notes asked rules reply attachment)
newly attachment rules earlier reply asked verdict none is turns =
    let same : rule_of verdict ≡ refusal attachment.plug rules attachment.known (reply ∷ earlier) =
    ap rule_of is ∙ ap (λ (first : Option RuleName). or_else first (rule_of (first_that_holds (rules_at attachment.plug rules attachment.known earlier reply)))) (sym none) in
    subst (λ (refused : Option RuleName). Turns attachment.plug earlier reply attachment (judged asked rules reply attachment) refused (outcome_of asked rules reply attachment) (judged_notes asked rules reply attachment)) same turns

-- by the step, and the replies that it stands for
pub judged-turns : (attachment : Attachment) (rules : RuleSet) (reply : Reply) (asked : Step) (earlier : List Reply)
    → refusal attachment.plug rules attachment.known earlier ≡ None
    → number_of asked ≡ length earlier + 1
    → attachment.least ≡ least_from None (refused_in attachment.plug earlier)
    → attachment.accepted.items ≡ accepted_in attachment.plug earlier
    → length attachment.fits.items ≤ INTERFACES_MAX
    → StepStands attachment.plug attachment asked earlier
    → Turns attachment.plug earlier reply attachment (judged asked rules reply attachment) (refusal attachment.plug rules attachment.known (reply ∷ earlier)) (outcome_of asked rules reply attachment) (judged_notes asked rules reply attachment)
judged-turns attachment rules reply step.Device [] none order least accepted few stands =
    newly attachment rules [] reply step.Device (first_that_holds (device_step attachment.known reply)) none refl
    (device-turns attachment reply (first_that_holds (device_step attachment.known reply)) least accepted)
judged-turns attachment rules reply (step.Address device) (first ∷ []) none order least accepted few stands =
    newly attachment rules (first ∷ []) reply (step.Address device) (status_verdict reply.status) none refl
    (address-turns attachment first reply device (status_verdict reply.status) least accepted stands)
judged-turns attachment rules reply (step.Head device) (second ∷ first ∷ []) none order least accepted few stands =
    newly attachment rules (second ∷ first ∷ []) reply (step.Head device) (first_that_holds (head_step reply)) none refl
    (head-turns attachment second first reply device (first_that_holds (head_step reply)) least accepted stands)
judged-turns attachment rules reply (step.Configuration device total) (third ∷ second ∷ first ∷ []) none order least accepted few stands =
    newly attachment rules (third ∷ second ∷ first ∷ []) reply (step.Configuration device total) (configuration_verdict rules device total reply attachment) none
    (ap (λ (d : DeviceDesc). first_that_holds (configuration_step attachment.plug rules d total attachment.known reply)) stands.0.read
    ∙ ap (λ (t : ℕ). first_that_holds (configuration_step attachment.plug rules (device_of first.bytes) t attachment.known reply)) stands.1)
    (configuration-turns attachment third second first reply device (configuration_verdict rules device total reply attachment) least accepted stands.0)
judged-turns attachment rules reply (step.Configure value) (fourth ∷ third ∷ second ∷ first ∷ []) none order least accepted few stands =
    newly attachment rules (fourth ∷ third ∷ second ∷ first ∷ []) reply (step.Configure value) (status_verdict reply.status) none refl
    (configured-turns attachment (fourth ∷ third ∷ second ∷ first ∷ []) reply (status_verdict reply.status) refl least accepted few stands)
judged-turns attachment rules reply (step.Report ask) earlier none order least accepted few stands =
    newly attachment rules earlier reply (step.Report ask) (first_that_holds (silence_rules reply.status)) none
    (sym (ap first_that_holds (rules-late attachment.plug rules attachment.known earlier reply (length earlier + 1) refl (omega arith))))
    (report-turns attachment earlier reply ask (nat_lt STALL reply.status) refl stands.1 order stands.3 least accepted few stands.0 stands.2)
judged-turns attachment rules reply asked earlier none order least accepted few stands = absurd stands
