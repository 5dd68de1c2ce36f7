-- The flag says it of the buttons that are kept.
use Rattle.std.proofs.Common.{sym, subst, ◌∙◌}
use Rattle.selector.specs.SelectorStands.{SelectorValue, SelectorStands}
use Rattle.selector.proofs.Stands.{are_buttons_up-is}
use Rattle.selector.proofs.selector.Selector.buttons_up.Goals as goal

pub returns : goal.returns
returns c = λ past stands.
    let now = subst (λ (v : SelectorValue). SelectorStands v past) (sym c.self.view_is) stands in
    c.self.invariant.up ∙ are_buttons_up-is _ past c.self.invariant.one_each now
