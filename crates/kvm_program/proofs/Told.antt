-- What a desk tells of its inputs.
use Rattle.std.proofs.Common.{◌≡◌, ℕ, List, Option, Some, None, IfSome, Result, Ok, refl, ap, ◌∙◌, sym}
use Rattle.std.proofs.lemmas.Option.{same_Some}
use Rattle.psd_base.specs.Desk.{Told}
use Rattle.psd_base.specs.declared.event.TheConstants.{EVENTS_MAX}
use Rattle.psd_base.specs.declared.outlet.Input.TheVariants as input
use Rattle.psd_base.specs.declared.stop.RulesFault.{RulesFault}
use Rattle.peripheral_filter.specs.declared.rule.RuleSet.{RuleSet}
use Rattle.admin_rules.specs.RuleFile.{Lists, lists_of, rules_of}
use Rattle.capture_reader.specs.Merge.{both, schedule, schedule_told, port_count}
use Rattle.kvm_program.specs.Run.{Run, rules_by, run_by, run_of, run_told, run_under}

both_told : (rules : RuleSet) (capture script : Option (List ℕ)) (run : Run) → both (run_of rules) capture script ≡ Some run
    → (both (schedule EVENTS_MAX) capture script ≡ Some run.schedule) × (run.rules ≡ rules)
both_told rules None script run told = absurd (cc)
both_told rules (Some capture) None run told = absurd (cc)
both_told rules (Some capture) (Some script) run told =
    (ap (λ (r : Run). Some r.schedule) (same_Some _ _ told), sym (ap (λ (r : Run). r.rules) (same_Some _ _ told)))

-- the schedule, and the rules, of a run under these rules
pub schedule_of_run : (rules : RuleSet) (told : Told) (run : Run) → run_under rules told ≡ Some run
    → (schedule_told EVENTS_MAX told ≡ Some run.schedule) × (run.rules ≡ rules)
schedule_of_run rules told run is = both_told rules (told.left input.Capture) (told.left input.Script) run is

-- the number of ports of the run that is told
pub ports_of_run : (rules : RuleSet) (capture script : Option (List ℕ)) (run : Run) (ports : ℕ) → both (run_of rules) capture script ≡ Some run
    → IfSome capture (λ bytes. port_count bytes ≡ ports) → ports ≡ run.ports
ports_of_run rules None script run ports told is = absurd (cc)
ports_of_run rules (Some capture) None run ports told is = absurd (cc)
ports_of_run rules (Some capture) (Some script) run ports told is = sym is ∙ ap (λ (r : Run). r.ports) (same_Some _ _ told)

-- the schedule of the run that is told
pub schedule_of_told : (told : Told) (run : Run) → run_told told ≡ Some run → schedule_told EVENTS_MAX told ≡ Some run.schedule
schedule_of_told told run is = by_left (told.left input.Rules) is where
  by_left : (left : Option (List ℕ)) → run_by left told ≡ Some run → schedule_told EVENTS_MAX told ≡ Some run.schedule
  by_left None is = absurd (cc)
  by_left (Some bytes) is = (schedule_of_run (rules_by (rules_of bytes)) told run is).0

-- the run that was told before the rules were taken is the one under them
pub run_of_taken : (rules : RuleSet) (before mid : Told) (run : Run) → IfSome (before.left input.Rules) (λ bytes. rules_of bytes ≡ Ok (lists_of rules))
    → mid.left input.Capture ≡ before.left input.Capture → mid.left input.Script ≡ before.left input.Script
    → run_told before ≡ Some run → run_under rules mid ≡ Some run
run_of_taken rules before mid run taken capture script told = by_left (before.left input.Rules) taken told where
  same : run_under rules mid ≡ run_under rules before
  same = rw (capture, script) refl

  by_left : (left : Option (List ℕ)) → IfSome left (λ bytes. rules_of bytes ≡ Ok (lists_of rules)) → run_by left before ≡ Some run → run_under rules mid ≡ Some run
  by_left None taken told = absurd (cc)
  by_left (Some bytes) taken told = same ∙ (sym (ap (λ (judged : Result Lists RulesFault). run_under (rules_by judged) before) taken) ∙ told)
