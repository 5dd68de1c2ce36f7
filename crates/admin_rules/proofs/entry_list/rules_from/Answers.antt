-- One entry more gives its rule.
use Rattle.std.proofs.Common.{◌≡◌, ℕ, ◌+◌, ◌<◌, List, [], ◌∷◌, ◌++◌, length, get_or, take, map, filter_map, Option, Some, None, refl, arith, ◌∙◌}
use Rattle.std.proofs.lemmas.List.{take_more}
use Rattle.std.proofs.lemmas.List.Elements.{filter_map-append}
use Rattle.std.specs.List.{cons_option}
use Rattle.std.specs.Option.{option_to_list}
use Rattle.toml.specs.View.{view}
use Rattle.toml.specs.declared.value.Value.{Value}
use Rattle.admin_rules.specs.Entry.{rule_of}
use Rattle.admin_rules.proofs.entry_list.rules_from.Goals as goal

map-append : {X Y : Type 0} (f : X → Y) (xs ys : List X) → map f (xs ++ ys) ≡ map f xs ++ map f ys
map-append f [] ys = refl
map-append f (x ∷ xs) ys = rw (map-append f xs ys)

cons_option-nil : {X : Type 0} (o : Option X) → cons_option o [] ≡ option_to_list o
cons_option-nil None = refl
cons_option-nil (Some x) = refl

-- the rules of one entry more
rules-next : (entries : List Value) (place : ℕ) (d : Value) → place < length entries
    → filter_map rule_of (map view (take (place + 1) entries))
    ≡ filter_map rule_of (map view (take place entries)) ++ option_to_list (rule_of (view (get_or entries place d)))
rules-next entries place d within =
    rw (
      take_more entries place d within,
      map-append view (take place entries) (get_or entries place d ∷ []),
      filter_map-append rule_of (map view (take place entries)) (view (get_or entries place d) ∷ []),
      cons_option-nil (rule_of (view (get_or entries place d))),
    )

pub loop-entry-preserved : goal.loop-entry-preserved
loop-entry-preserved c = record {
  kept =
      let next = rules-next c.args.entries.now c.loop-entry.entry-index c.entry-item.result c.loop-entry-test.true in
      c.keep.ensures.items ∙ rw (next, ← c.entry-item.is, ← c.loop-entry.invariant.kept, c.rule_of.ensures);
  room = omega arith;
}
