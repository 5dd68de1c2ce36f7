-- The panel goes on with the move, and with the pair that it leaves.
use Rattle.std.proofs.Common.{sym, subst, ◌∙◌, rules}
use Rattle.selector.specs.SelectorStands.{SelectorValue, SelectorStands}
use Rattle.selector.proofs.Stands.{stands-moved}
use Rattle.selector.proofs.selector.Selector.panel.Goals as goal

pub returns : goal.returns
returns c = λ past stands.
    let before = subst (λ (v : SelectorValue). SelectorStands v past) (sym c.self.view_is) stands in
    stands-moved _ past c.args.tick c.args.panel.now c.take.new.guard c.take.new.buttons c.hold.new.pair c.hold.new.held_since before
    (search rules) (c.take.ensures.guard c.args.tick past before.guard) (c.take.ensures.buttons c.args.tick past before.buttons)
    (c.hold.ensures.pair ∙ c.pair_of-pair.ensures) (search rules)
