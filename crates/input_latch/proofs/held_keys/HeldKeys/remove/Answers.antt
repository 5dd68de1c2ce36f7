-- One key less of its kind is counted.
use Rattle.std.proofs.Common.{◌≡◌, ◌-◌, true, sym, ◌∙◌, arith}
use Rattle.psd_base.specs.KeySet.{has_key, without_key}
use Rattle.input_latch.proofs.KeyCounts.{ordinary_there, modifier_there, remove_ordinary, remove_modifier, number_of_keys-counted}
use Rattle.input_latch.proofs.held_keys.HeldKeys.remove.Goals as goal

pub overflow_sub-self : goal.overflow_sub-self
overflow_sub-self c =
    let down : has_key c.self.inside.keys c.args.usage ≡ true = rw c.self.view_is c.requires in
    omega (arith, ordinary_there c.self.inside.keys c.self.inside.ordinary c.self.inside.modifiers c.args.usage c.self.invariant down (sym c.is_ordinary.ensures ∙ c.if-is_ordinary.true))

pub overflow_sub-self-else-is_ordinary : goal.overflow_sub-self-else-is_ordinary
overflow_sub-self-else-is_ordinary c =
    let down : has_key c.self.inside.keys c.args.usage ≡ true = rw c.self.view_is c.requires in
    omega (arith, modifier_there c.self.inside.keys c.self.inside.ordinary c.self.inside.modifiers c.args.usage c.self.invariant down (sym c.is_ordinary.ensures ∙ c.if-is_ordinary.false))

pub invariant_of-self : goal.invariant_of-self
invariant_of-self c =
    let down : has_key c.self.inside.keys c.args.usage ≡ true = rw c.self.view_is c.requires in
    rw c.remove.ensures
    (remove_ordinary c.self.inside.keys c.self.inside.ordinary c.self.inside.modifiers c.args.usage c.self.invariant down (sym c.is_ordinary.ensures ∙ c.if-is_ordinary.true))

pub invariant_of-self-else-is_ordinary : goal.invariant_of-self-else-is_ordinary
invariant_of-self-else-is_ordinary c =
    let down : has_key c.self.inside.keys c.args.usage ≡ true = rw c.self.view_is c.requires in
    rw c.remove.ensures
    (remove_modifier c.self.inside.keys c.self.inside.ordinary c.self.inside.modifiers c.args.usage c.self.invariant down (sym c.is_ordinary.ensures ∙ c.if-is_ordinary.false))

pub returns-then-is_ordinary-clause-number : goal.returns-then-is_ordinary-clause-number
returns-then-is_ordinary-clause-number c =
    let down : has_key c.self.inside.keys c.args.usage ≡ true = rw c.self.view_is c.requires in
    let before = number_of_keys-counted c.self.inside.keys c.self.inside.ordinary c.self.inside.modifiers c.self.invariant in
    let there = ordinary_there c.self.inside.keys c.self.inside.ordinary c.self.inside.modifiers c.args.usage c.self.invariant down (sym c.is_ordinary.ensures ∙ c.if-is_ordinary.true) in
    let after =
    number_of_keys-counted (without_key c.self.inside.keys c.args.usage) (c.self.inside.ordinary - 1) c.self.inside.modifiers
    (remove_ordinary c.self.inside.keys c.self.inside.ordinary c.self.inside.modifiers c.args.usage c.self.invariant down (sym c.is_ordinary.ensures ∙ c.if-is_ordinary.true)) in
    rw (c.remove.ensures, ← c.self.view_is) (omega (arith, before, there, after))

pub returns-else-is_ordinary-clause-number : goal.returns-else-is_ordinary-clause-number
returns-else-is_ordinary-clause-number c =
    let down : has_key c.self.inside.keys c.args.usage ≡ true = rw c.self.view_is c.requires in
    let before = number_of_keys-counted c.self.inside.keys c.self.inside.ordinary c.self.inside.modifiers c.self.invariant in
    let there = modifier_there c.self.inside.keys c.self.inside.ordinary c.self.inside.modifiers c.args.usage c.self.invariant down (sym c.is_ordinary.ensures ∙ c.if-is_ordinary.false) in
    let after =
    number_of_keys-counted (without_key c.self.inside.keys c.args.usage) c.self.inside.ordinary (c.self.inside.modifiers - 1)
    (remove_modifier c.self.inside.keys c.self.inside.ordinary c.self.inside.modifiers c.args.usage c.self.invariant down (sym c.is_ordinary.ensures ∙ c.if-is_ordinary.false)) in
    rw (c.remove.ensures, ← c.self.view_is) (omega (arith, before, there, after))
