-- No document is refused for its size.
use Rattle.std.proofs.Common.{◌≡◌, ℕ, Bool, true, false, if◌then◌else◌, List, Option, Some, None, Err, option_map, inl, inr, arith, sym, ap, ◌∙◌}
use Rattle.std.proofs.lemmas.Bool.{cases_Bool}
use Rattle.std.specs.List.{position_from}
use Rattle.std.specs.Option.{option_or}
use Rattle.psd_base.specs.declared.stop.RuleList.{RuleList}
use Rattle.psd_base.specs.declared.stop.RuleList.TheVariants.{Allow, Deny}
use Rattle.psd_base.specs.declared.stop.RulesFault.{RulesFault}
use Rattle.psd_base.specs.declared.stop.RulesFault.TheVariants.{TooBig, Shape, TooMany}
use Rattle.toml.specs.Data.{Data, Members}
use Rattle.toml.specs.View.{table_view}
use Rattle.admin_rules.specs.Entry.{is_faulty}
use Rattle.admin_rules.specs.Keys.{all_keys}
use Rattle.admin_rules.specs.RuleFile.{Lists, given, shape_fault, count_fault, refusal, unless, rules_at, rules_in, is_list_key}
use Rattle.admin_rules.proofs.read.read_rules.Goals as goal

-- no fault of a document is its size

shape-other : (list : RuleList) (number : Option ℕ) → option_map (Shape list) number ≡ Some TooBig → ⊥
shape-other list None h = cc
shape-other list (Some number) h = cc

count-other : (list : RuleList) (long : Bool) → (if long then Some (TooMany list) else None) ≡ Some TooBig → ⊥
count-other list true h = cc
count-other list false h = cc

or-other : (first second : Option RulesFault) → (first ≡ Some TooBig → ⊥) → (second ≡ Some TooBig → ⊥) → option_or first second ≡ Some TooBig → ⊥
or-other None second not_first not_second h = not_second h
or-other (Some fault) second not_first not_second h = not_first h

refusal-other : (allow deny : List Data) → refusal allow deny ≡ Some TooBig → ⊥
refusal-other allow deny =
    or-other (shape_fault Allow allow) (option_or (shape_fault Deny deny) (option_or (count_fault Allow allow) (count_fault Deny deny)))
    (shape-other Allow (position_from is_faulty 1 allow))
    (or-other (shape_fault Deny deny) (option_or (count_fault Allow allow) (count_fault Deny deny))
    (shape-other Deny (position_from is_faulty 1 deny))
    (or-other (count_fault Allow allow) (count_fault Deny deny) (count-other Allow _) (count-other Deny _)))

unless-other : (fault : Option RulesFault) (lists : Lists) → (fault ≡ Some TooBig → ⊥) → unless fault lists ≡ Err TooBig → ⊥
unless-other None lists other h = cc
unless-other (Some fault) lists other h = other cc

rules_at-other : (allow deny : Option (List Data)) → rules_at allow deny ≡ Err TooBig → ⊥
rules_at-other None deny h = cc
rules_at-other (Some allow) None h = cc
rules_at-other (Some allow) (Some deny) h = unless-other (refusal allow deny) _ (refusal-other allow deny) h

rules_in-other : (root : Members) → rules_in root ≡ Err TooBig → ⊥
unfolding rules_in
rules_in-other root h =
    elim (cases_Bool (all_keys is_list_key root)) [
      | inl known ↦ rules_at-other _ _ (rw known at h)
      | inr unknown ↦ let other = rw unknown at h in cc
    ]

pub returns-in-Ok-Some-clause-too_big : goal.returns-in-Ok-Some-clause-too_big
returns-in-Ok-Some-clause-too_big c = (
  λ same.
      let refused : c.rules_in.result ≡ Err TooBig = cc in
      absurd (rules_in-other (table_view c.in-Ok-Some.root) (sym c.rules_in.ensures ∙ ap given refused)),
  λ big. absurd (omega arith),
)
