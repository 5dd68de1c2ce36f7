-- One button more is counted.
use Rattle.std.proofs.Common.{◌≡◌, ◌+◌, ◌-◌, true, length, set, arith, ◌∙◌, length-set}
use Rattle.psd_base.specs.KeySet.{keys_from}
use Rattle.input_latch.proofs.KeyCounts.{length-keys_from-le, length-keys_from-with}
use Rattle.input_latch.proofs.buttons.HeldButtons.add.Goals as goal

more : (c : goal.After-self-1) → length (keys_from (set c.self.inside.down (c.args.button - 1) true) 0 5) ≡ length (keys_from c.self.inside.down 0 5) + 1
more c =
    length-keys_from-with c.self.inside.down (c.args.button - 1) 0 5 (omega (arith, c.self.invariant.one_each, c.requires)) c.if-self-button.false (omega arith)
    (omega (arith, c.requires))

pub overflow_add-self : goal.overflow_add-self
overflow_add-self c = omega (arith, c.self.invariant.number, length-keys_from-le c.self.inside.down 0 5)

pub invariant_of-self : goal.invariant_of-self
invariant_of-self c = record {
  one_each = length-set c.self.inside.down (c.args.button - 1) true ∙ c.self.invariant.one_each;
  number = omega (arith, c.self.invariant.number, more c);
}

pub returns-clause-number : goal.returns-clause-number
returns-clause-number c = rw (← c.self.view_is) (omega (arith, more c))
