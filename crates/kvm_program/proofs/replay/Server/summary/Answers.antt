-- The counts are the sizes of the transcripts.
use Rattle.std.proofs.Common.{◌≡◌, ℕ, ◌+◌, ◌-◌, ◌<◌, List, [], length, slice_index, refl, ap, subst, sym, ◌∙◌, arith}
use Rattle.psd_base.specs.Event.{Seen}
use Rattle.psd_base.specs.Port.{IsPort}
use Rattle.psd_base.specs.History.{onto}
use Rattle.peripheral_filter.specs.declared.rule.RuleSet.{RuleSet}
use Rattle.kvm_program.specs.Log.{is_leave, is_refusal, noted}
use Rattle.kvm_program.specs.Report.{summary_of, transcript_sizes}
use Rattle.kvm_program.specs.Transcript.{transcript_of}
use Rattle.kvm_program.proofs.Sizes.{map-numbers_from}
use Rattle.kvm_program.proofs.replay.Server.summary.Goals as goal

summary_is : (rules : RuleSet) (ports served refused left : ℕ) (bytes : List ℕ) (events : List Seen) → served ≡ length events
    → refused ≡ noted rules is_refusal (onto events []) → left ≡ noted rules is_leave (onto events []) → bytes ≡ transcript_sizes rules events
    → record { events = served; ports = ports; refused = refused; left = left; bytes = bytes } ≡ summary_of rules ports events
summary_is rules ports served refused left bytes events total refusals leaves sizes = rw (total, refusals, leaves, sizes) refl

pub returns-clause-counts : goal.returns-clause-counts
unfolding transcript_sizes
returns-clause-counts c = λ rules events served counted.
    let size_of = λ (port : ℕ). length (transcript_of rules port events) in
    let at : (place : ℕ) → place < 8 → slice_index c.bytes.result place ≡ size_of (1 + place) = λ place within.
    let is : IsPort (1 + place) = (omega arith, omega arith) in
    let back : 1 + place - 1 ≡ place = omega arith in
    subst (λ (bytes : List ℕ). slice_index bytes place ≡ size_of (1 + place)) (sym c.bytes.ensures)
    (subst (λ (n : ℕ). slice_index c.args.self.now.tally.bytes n ≡ size_of (1 + place)) back (counted.bytes (1 + place) is)) in
    let long : length c.bytes.result ≡ 8 = omega (arith, ap length c.bytes.ensures) in
    summary_is rules _ _ _ _ _ events (c.served.ensures ∙ served) (c.refused.ensures ∙ counted.refused) (c.left.ensures ∙ counted.left) (map-numbers_from c.bytes.result size_of 1 8 long at)
