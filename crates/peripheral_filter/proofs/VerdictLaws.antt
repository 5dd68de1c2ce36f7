-- The verdict by a list of rules names the first that holds.
use Rattle.std.proofs.Common.{◌≡◌, Bool, true, false, List, [], ◌∷◌, refl, sym, ap, subst}
use Rattle.psd_base.specs.declared.console.RuleName.{RuleName}
use Rattle.peripheral_filter.specs.declared.rule.Verdict.{Verdict}
use Rattle.peripheral_filter.specs.declared.rule.Verdict.TheVariants.{Accepted, Refused}
use Rattle.peripheral_filter.specs.Verdicts.{first_that_holds, NamesFirst}

-- a rule that doesn't hold goes before
names-behind : (name : RuleName) (rules : List (RuleName × Bool)) (verdict : Verdict) → NamesFirst rules verdict
    → NamesFirst ((name, false) ∷ rules) verdict
names-behind name rules Accepted none = none
names-behind name rules (Refused other) h = record {
  earlier = (name, false) ∷ h.earlier;
  later = h.later;
  place = ap (λ rest. (name, false) ∷ rest) h.place;
  none = h.none;
}

names-one : (name : RuleName) (holds : Bool) (rules : List (RuleName × Bool)) → NamesFirst rules (first_that_holds rules)
    → NamesFirst ((name, holds) ∷ rules) (first_that_holds ((name, holds) ∷ rules))
names-one name true rules h = record { earlier = []; later = rules; place = refl; none = refl }
names-one name false rules h = names-behind name rules (first_that_holds rules) h

names-first : (rules : List (RuleName × Bool)) → NamesFirst rules (first_that_holds rules)
names-first [] = refl
names-first (rule ∷ rules) = names-one rule.0 rule.1 rules (names-first rules)

pub named : (rules : List (RuleName × Bool)) (verdict : Verdict) → verdict ≡ first_that_holds rules → NamesFirst rules verdict
named rules verdict is = subst (NamesFirst rules) (sym is) (names-first rules)
