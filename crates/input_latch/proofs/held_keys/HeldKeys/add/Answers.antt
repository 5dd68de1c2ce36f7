-- One key more of its kind is counted.
use Rattle.std.proofs.Common.{◌+◌, sym, ◌∙◌, arith}
use Rattle.psd_base.specs.KeySet.{with_key}
use Rattle.input_latch.proofs.KeyCounts.{add_ordinary, add_modifier, number_in-small, number_of_keys-counted}
use Rattle.input_latch.proofs.held_keys.HeldKeys.add.Goals as goal

pub overflow_add-self : goal.overflow_add-self
overflow_add-self c = omega (arith, (number_in-small c.self.inside.keys).0, c.self.invariant.are_ordinary)

pub overflow_add-self-else-is_ordinary : goal.overflow_add-self-else-is_ordinary
overflow_add-self-else-is_ordinary c = omega (arith, (number_in-small c.self.inside.keys).1, c.self.invariant.are_modifiers)

pub invariant_of-self : goal.invariant_of-self
invariant_of-self c =
    rw c.add.ensures
    (add_ordinary c.self.inside.keys c.self.inside.ordinary c.self.inside.modifiers c.args.usage c.self.invariant
    (sym c.has.ensures.value ∙ c.if-has.false) (sym c.is_ordinary.ensures ∙ c.if-is_ordinary.true))

pub invariant_of-self-else-is_ordinary : goal.invariant_of-self-else-is_ordinary
invariant_of-self-else-is_ordinary c =
    rw c.add.ensures
    (add_modifier c.self.inside.keys c.self.inside.ordinary c.self.inside.modifiers c.args.usage c.self.invariant
    (sym c.has.ensures.value ∙ c.if-has.false) (sym c.is_ordinary.ensures ∙ c.if-is_ordinary.false) c.requires)

pub returns-then-is_ordinary-clause-number : goal.returns-then-is_ordinary-clause-number
returns-then-is_ordinary-clause-number c =
    let before = number_of_keys-counted c.self.inside.keys c.self.inside.ordinary c.self.inside.modifiers c.self.invariant in
    let after =
    number_of_keys-counted (with_key c.self.inside.keys c.args.usage) (c.self.inside.ordinary + 1) c.self.inside.modifiers
    (add_ordinary c.self.inside.keys c.self.inside.ordinary c.self.inside.modifiers c.args.usage c.self.invariant
    (sym c.has.ensures.value ∙ c.if-has.false) (sym c.is_ordinary.ensures ∙ c.if-is_ordinary.true)) in
    rw (c.add.ensures, ← c.self.view_is) (omega (arith, before, after))

pub returns-else-is_ordinary-clause-number : goal.returns-else-is_ordinary-clause-number
returns-else-is_ordinary-clause-number c =
    let before = number_of_keys-counted c.self.inside.keys c.self.inside.ordinary c.self.inside.modifiers c.self.invariant in
    let after =
    number_of_keys-counted (with_key c.self.inside.keys c.args.usage) c.self.inside.ordinary (c.self.inside.modifiers + 1)
    (add_modifier c.self.inside.keys c.self.inside.ordinary c.self.inside.modifiers c.args.usage c.self.invariant
    (sym c.has.ensures.value ∙ c.if-has.false) (sym c.is_ordinary.ensures ∙ c.if-is_ordinary.false) c.requires) in
    rw (c.add.ensures, ← c.self.view_is) (omega (arith, before, after))
