-- The choice goes on with what the clock event asks for.
use Rattle.std.proofs.Common.{◌≡◌, ℕ, Option, sym, subst, ◌∙◌, ap}
use Rattle.std.specs.Prelude.{◌↔◌}
use Rattle.selector.specs.declared.choice.Choice.{Choice}
use Rattle.selector.specs.declared.selector.Move.{Move}
use Rattle.selector.specs.declared.selector.Move.TheVariants.{Stay}
use Rattle.selector.specs.Choice.{selected_in}
use Rattle.selector.specs.ChoiceStep.{after_ask, after_look}
use Rattle.selector.specs.SelectorStands.{SelectorValue, SelectorStands}
use Rattle.selector.proofs.Choices.{IsStayExactly, stay-look}
use Rattle.selector.proofs.Stands.{stands-ticked, move-ticked}
use Rattle.selector.proofs.selector.Selector.clock.Goals as goal

pub returns-clause-stands : goal.returns-clause-stands
returns-clause-stands c = λ past stands.
    let before = subst (λ (v : SelectorValue). SelectorStands v past) (sym c.self.view_is) stands in
    stands-ticked _ past c.args.tick c.args.all_up _ before (c.take_look.ensures.choice ∙ ap (λ (ask : Option ℕ). after_look c.args.all_up (after_ask ask c.self.inside.choice)) c.ask_of-ask.ensures)

pub returns-clause-answer : goal.returns-clause-answer
returns-clause-answer c = λ past stands.
    let before = subst (λ (v : SelectorValue). SelectorStands v past) (sym c.self.view_is) stands in
    move-ticked _ past c.args.tick c.args.all_up _ _ before (c.take_look.ensures.choice ∙ ap (λ (ask : Option ℕ). after_look c.args.all_up (after_ask ask c.self.inside.choice)) c.ask_of-ask.ensures) c.take_look.ensures.change

pub returns-clause-stay : goal.returns-clause-stay
returns-clause-stay c =
    let before : Choice = c.self.inside.choice in
    let after : Choice = c.take_look.new.choice in
    let exact = subst (IsStayExactly before) (sym c.take_look.ensures.choice) (stay-look c.ask_of-ask.result c.args.all_up before) in
    subst (λ (choice : Choice). (c.take_look.result ≡ Stay) ↔ (selected_in after ≡ selected_in choice)) (ap (λ (value : SelectorValue). value.choice) c.self.view_is)
    (subst (λ (move : Move). (move ≡ Stay) ↔ (selected_in after ≡ selected_in before)) (sym c.take_look.ensures.change) exact)
