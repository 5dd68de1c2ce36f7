-- A verdict by the rules of a step: it names the first that holds.
use Rattle.std.specs.Prelude.{◌≡◌, Bool, true, false, List, [], ◌∷◌, ◌++◌, if◌then◌else◌}
use Rattle.std.specs.List.{list_any}
use Rattle.psd_base.specs.declared.console.RuleName.{RuleName}
use Rattle.peripheral_filter.specs.declared.rule.Verdict.{Verdict}
use Rattle.peripheral_filter.specs.declared.rule.Verdict.TheVariants.{Accepted, Refused}

-- the verdict by rules of which each is given with whether it holds
abbrev pub first_that_holds : List (RuleName × Bool) → Verdict
first_that_holds [] = Accepted
first_that_holds (rule ∷ rules) = if rule.1 then Refused rule.0 else first_that_holds rules

-- some of the rules hold
abbrev pub some_holds : List (RuleName × Bool) → Bool
some_holds rules = list_any (λ (rule : RuleName × Bool). rule.1) rules

-- the rule of this name holds, and none before it does
pub record IsFirst (name : RuleName) (rules : List (RuleName × Bool)) : Type 0 where
  pub earlier : List (RuleName × Bool)
  pub later : List (RuleName × Bool)
  pub place : rules ≡ earlier ++ (name, true) ∷ later
  pub none : some_holds earlier ≡ false

-- no rule holds of what is accepted; else the first one that holds is named
abbrev pub NamesFirst : List (RuleName × Bool) → Verdict → Type 0
NamesFirst rules Accepted = some_holds rules ≡ false
NamesFirst rules (Refused name) = IsFirst name rules
