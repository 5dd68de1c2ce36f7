-- What a check of the rules answers and reports.
use Rattle.std.specs.Prelude.{◌≡◌, ℕ, List, ◌++◌, codes, length, replicate, Option, Some, IfErr, IsOk, Result, Ok, Err}
use Rattle.std.specs.Fmt.{decimal}
use Rattle.psd_base.specs.declared.outlet.Input.TheVariants as input
use Rattle.psd_base.specs.declared.outlet.Outlet.TheVariants as outlet
use Rattle.psd_base.specs.declared.port.TheConstants.{MAX_PORTS}
use Rattle.psd_base.specs.declared.stop.RulesFault.{RulesFault}
use Rattle.psd_base.specs.declared.stop.Stop.{Stop}
use Rattle.psd_base.specs.declared.stop.Stop.TheVariants.{Rules, ReadFault, WriteFault, OutOfMemory}
use Rattle.psd_base.specs.declared.summary.Summary.{Summary}
use Rattle.psd_base.specs.Desk.{IsAppendedPart, ReadFailed, Told, Touches, WriteFailed}
use Rattle.admin_rules.specs.RuleFile.{Lists, rules_of}
use Rattle.kvm_program.specs.Outlets.{AndFaults, Grew}
use Rattle.kvm_program.specs.Replay.{EndsUnlessNoMemory, NothingFailed}
use Rattle.kvm_program.specs.Rules.{FewRulesTaken, RulesAreFaulty}

-- the summary of a command that serves no event
abbrev pub no_summary : Summary
no_summary = record { events = 0; ports = 0; refused = 0; left = 0; bytes = replicate MAX_PORTS 0 }

-- how many entries each list has
unfoldable pub check_text : Lists → List ℕ
check_text lists =
    (codes "allow " ++ decimal (length lists.allow) ++ codes "\n")
    ++ (codes "deny " ++ decimal (length lists.deny) ++ codes "\n")

-- What the report got, where the rules say this: with Ok the lists, and nothing where the rules were refused or not read.
abbrev pub CheckEnds : Result Summary Stop → Result Lists RulesFault → Option (List ℕ) → Option (List ℕ) → Type 0
CheckEnds (Ok summary) judged before after = (summary ≡ no_summary) × ((lists : Lists) × (judged ≡ Ok lists) × Grew before after (check_text lists))
CheckEnds (Err (Rules why)) judged before after = (judged ≡ Err why) × (after ≡ before)
CheckEnds (Err (WriteFault to)) judged before after = (lists : Lists) × (judged ≡ Ok lists) × IsAppendedPart before after (check_text lists)
CheckEnds (Err (ReadFault which)) judged before after = after ≡ before
CheckEnds (Err OutOfMemory) judged before after = after ≡ before
CheckEnds (Err stop) judged before after = ⊥

-- why a check stops
abbrev pub CheckStops : Told → Told → Stop → Type 0
CheckStops before after (Rules why) = RulesAreFaulty before why
CheckStops before after (ReadFault which) = (which ≡ input.Rules) × ReadFailed input.Rules before after
CheckStops before after (WriteFault to) = (to ≡ outlet.Report) × WriteFailed outlet.Report before after
CheckStops before after OutOfMemory = Unit {0}
CheckStops before after stop = ⊥

-- it reads the rules alone, and writes to the report and, for a stop, to the faults
abbrev pub OnlyChecks : Told → Told → Type 0
OnlyChecks = Touches (λ which. which ≡ input.Rules) (AndFaults (λ to. to ≡ outlet.Report))

-- what `check` promises
pub record Checks (result : Result Summary Stop) (before after : Told) : Type 0 where
  -- it tells how many entries the lists of the rules have, or why the rules are refused
  pub ends : (bytes : List ℕ) → before.left input.Rules ≡ Some bytes → CheckEnds result (rules_of bytes) (before.sent outlet.Report) (after.sent outlet.Report)
  pub stop : IfErr result (CheckStops before after)
  pub complete : (bytes : List ℕ) → before.left input.Rules ≡ Some bytes → IsOk (rules_of bytes) → NothingFailed before after → EndsUnlessNoMemory result
  -- it takes no more of the rules than shows that they are too big
  pub few : FewRulesTaken before after
  pub only : OnlyChecks before after
