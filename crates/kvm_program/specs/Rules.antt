-- What taking the rules answers.
use Rattle.std.specs.Prelude.{◌≡◌, ℕ, ◌≤◌, List, ◌++◌, length, Option, option_map, IfSome, Result, Err, take}
use Rattle.psd_base.specs.declared.outlet.Input.TheVariants as input
use Rattle.psd_base.specs.declared.stop.RulesFault.{RulesFault}
use Rattle.psd_base.specs.declared.stop.Stop.{Stop}
use Rattle.psd_base.specs.declared.stop.Stop.TheVariants.{Rules, ReadFault, OutOfMemory}
use Rattle.psd_base.specs.Desk.{ReadFailed, Told}
use Rattle.kvm_program.specs.declared.rules.TheConstants.{RULES_READ}
use Rattle.admin_rules.specs.RuleFile.{Lists, rules_of}

-- the bytes of the rules that are read
unfoldable pub front_of : List ℕ → List ℕ
front_of bytes = take RULES_READ bytes

-- at most so many bytes were taken, from the front
pub record TakesAtMost (limit : ℕ) (before after : Option (List ℕ)) : Type 0 where
  pub taken : List ℕ
  pub few : length taken ≤ limit
  pub moved : before ≡ option_map (λ rest. taken ++ rest) after

-- at most one byte more is taken of the rules than they may have
abbrev pub FewRulesTaken : Told → Told → Type 0
FewRulesTaken before after = TakesAtMost RULES_READ (before.left input.Rules) (after.left input.Rules)

-- the rules have this fault, where the desk tells them
abbrev pub RulesAreFaulty : Told → RulesFault → Type 0
RulesAreFaulty told why = IfSome (told.left input.Rules) (λ bytes. rules_of bytes ≡ Err why)

-- why the bytes of the rules weren't taken: a read failed and its count rose, or there was no memory
abbrev pub FileStops : Told → Told → Stop → Type 0
FileStops before after (ReadFault input.Rules) = ReadFailed input.Rules before after
FileStops before after OutOfMemory = Unit {0}
FileStops before after stop = ⊥

-- why bytes gave no rules: they have this fault, or there was no memory
abbrev pub JudgeStops : Result Lists RulesFault → Stop → Type 0
JudgeStops judged (Rules why) = judged ≡ Err why
JudgeStops judged OutOfMemory = Unit {0}
JudgeStops judged stop = ⊥

-- why there are no rules: they have this fault, a read failed and its count rose, or there was no memory
abbrev pub RulesStop : Told → Told → Stop → Type 0
RulesStop before after (Rules why) = RulesAreFaulty before why
RulesStop before after (ReadFault input.Rules) = ReadFailed input.Rules before after
RulesStop before after OutOfMemory = Unit {0}
RulesStop before after stop = ⊥
