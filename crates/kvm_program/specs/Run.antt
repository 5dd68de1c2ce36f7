-- What a replay has to serve, by the bytes of its inputs.
use Rattle.std.specs.Prelude.{ℕ, List, [], Option, Some, None, Result, Ok, Err}
use Rattle.psd_base.specs.declared.event.TheConstants.{EVENTS_MAX}
use Rattle.psd_base.specs.declared.outlet.Input.TheVariants as input
use Rattle.psd_base.specs.declared.stop.RulesFault.{RulesFault}
use Rattle.psd_base.specs.Desk.{Told}
use Rattle.peripheral_filter.specs.declared.rule.RuleSet.{RuleSet}
use Rattle.admin_rules.specs.RuleFile.{Lists, rules_of}
use Rattle.capture_reader.specs.Merge.{both, schedule, port_count}
use Rattle.capture_reader.specs.Schedule.{Schedule}

-- the rules of the administrator, the number of ports, and the events with how they end
pub record Run : Type 0 where
  pub rules : RuleSet
  pub ports : ℕ
  pub schedule : Schedule

-- The rules by which a run serves. Where the rules are refused nothing is served, so that there it doesn't matter which rules
-- stand here: none.
abbrev pub rules_by : Result Lists RulesFault → RuleSet
rules_by (Ok lists) = record { allow = record { items = lists.allow }; deny = record { items = lists.deny } }
rules_by (Err why) = record { allow = record { items = [] }; deny = record { items = [] } }

abbrev pub run_of : RuleSet → List ℕ → List ℕ → Run
run_of rules capture script = record { rules = rules; ports = port_count capture; schedule = schedule EVENTS_MAX capture script }

-- the run under these rules, where a desk tells what is left of capture and script
abbrev pub run_under : RuleSet → Told → Option Run
run_under rules told = both (run_of rules) (told.left input.Capture) (told.left input.Script)

-- the run, by what is left of the rules
abbrev pub run_by : Option (List ℕ) → Told → Option Run
run_by None told = None
run_by (Some bytes) told = run_under (rules_by (rules_of bytes)) told

-- the run, where a desk tells what is left of all three inputs
abbrev pub run_told : Told → Option Run
run_told told = run_by (told.left input.Rules) told
