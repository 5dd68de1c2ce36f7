-- One button less is counted.
use Rattle.std.proofs.Common.{◌≡◌, ℕ, ◌+◌, ◌-◌, ◌≤◌, true, false, List, Bool, length, set, arith, ap, ◌∙◌, length-set}
use Rattle.psd_base.specs.KeySet.{has_key, keys_from}
use Rattle.input_latch.specs.HeldButtons.{AreCounted}
use Rattle.input_latch.proofs.KeyCounts.{length-keys_from-without}
use Rattle.input_latch.proofs.buttons.HeldButtons.remove.Goals as goal

less : (down held : List Bool) (count button : ℕ) → AreCounted down count → down ≡ held → 1 ≤ button → button ≤ 5 → has_key held (button - 1) ≡ true
    → length (keys_from down 0 5) ≡ length (keys_from (set down (button - 1) false) 0 5) + 1
less down held count button are is low high there =
    length-keys_from-without down (button - 1) 0 5 (omega (arith, are.one_each)) (ap (λ (flags : List Bool). has_key flags (button - 1)) is ∙ there) (omega arith) (omega arith)

pub overflow_sub-self-2 : goal.overflow_sub-self-2
overflow_sub-self-2 c =
    omega (arith, c.self.invariant.number, less c.self.inside.down c.args.self.now c.self.inside.count c.args.button c.self.invariant c.self.view_is c.requires.button.0 c.requires.button.1 c.requires.held)

pub invariant_of-self : goal.invariant_of-self
invariant_of-self c = record {
  one_each = length-set c.self.inside.down (c.args.button - 1) false ∙ c.self.invariant.one_each;
  number = omega (arith, c.self.invariant.number, less c.self.inside.down c.args.self.now c.self.inside.count c.args.button c.self.invariant c.self.view_is c.requires.button.0 c.requires.button.1 c.requires.held);
}

pub returns-clause-number : goal.returns-clause-number
returns-clause-number c =
    let one = less c.self.inside.down c.args.self.now c.self.inside.count c.args.button c.self.invariant c.self.view_is c.requires.button.0 c.requires.button.1 c.requires.held in
    rw (← c.self.view_is) (omega (arith, one))
