-- The union of sets of the five buttons is one.
use Rattle.std.proofs.Common.{◌≡◌, ℕ, ◌<◌, [], drop, sym, subst, arith}
use Rattle.std.proofs.lemmas.List.{drop_all}
use Rattle.console_plug.specs.Shown.{all_buttons}
use Rattle.console_plug.proofs.Snapshots.{all_buttons-small}
use Rattle.console_plug.proofs.shown_buttons.all_buttons.Goals as goal

pub returns-clause-small : goal.returns-clause-small
returns-clause-small c =
    let done : drop c.loop-set.set-index c.args.sets.now ≡ [] = drop_all c.loop-set.set-index c.args.sets.now c.loop-set-test.false in
    let is : c.loop-set.buttons ≡ all_buttons 0 c.args.sets.now = rw done at c.loop-set.invariant in
    λ small. subst (λ (buttons : ℕ). buttons < 32) (sym is) (all_buttons-small 0 c.args.sets.now (omega arith) small)
