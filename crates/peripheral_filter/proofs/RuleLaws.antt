-- The entries of the deny list, and the first that matches.
use Rattle.std.proofs.Common.{◌≡◌, ℕ, ◌+◌, Bool, true, false, cond, List, [], ◌∷◌, ◌++◌, Option, Some, None, refl}
use Rattle.std.specs.List.{position_from}
use Rattle.psd_base.specs.declared.console.RuleName.{RuleName}
use Rattle.psd_base.specs.declared.console.RuleName.TheVariants.{Deny}
use Rattle.peripheral_filter.specs.declared.rule.Rule.{Rule}
use Rattle.peripheral_filter.specs.declared.rule.Verdict.{Verdict}
use Rattle.peripheral_filter.specs.declared.rule.Verdict.TheVariants.{Refused}
use Rattle.peripheral_filter.specs.Rules.{deny_rules}
use Rattle.peripheral_filter.specs.Verdicts.{first_that_holds}

-- the verdict by the place of the first entry that matches, from 0, and by what the rules after them say
abbrev pub by_place : Option ℕ → Verdict → Verdict
by_place None other = other
by_place (Some place) other = Refused (Deny (place + 1))

deny-from : (test : Rule → Bool) (place : ℕ) (rules : List Rule) (later : List (RuleName × Bool))
    → first_that_holds (deny_rules test (place + 1) rules ++ later) ≡ by_place (position_from test place rules) (first_that_holds later)
deny-from test place [] later = refl
deny-from test place (rule ∷ rules) later =
    elim (test rule) as (λ holds. cond holds (Refused (Deny (place + 1))) (first_that_holds (deny_rules test (place + 1 + 1) rules ++ later))
    ≡ by_place (cond holds (Some place) (position_from test (place + 1) rules)) (first_that_holds later)) [
      | true ↦ refl
      | false ↦ deny-from test (place + 1) rules later
    ]

pub deny_first : (test : Rule → Bool) (rules : List Rule) (later : List (RuleName × Bool))
    → first_that_holds (deny_rules test 1 rules ++ later) ≡ by_place (position_from test 0 rules) (first_that_holds later)
deny_first test rules later = deny-from test 0 rules later
