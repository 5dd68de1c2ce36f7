-- The span begins with nothing shown.
use Rattle.std.proofs.Common.{subst, sym, ap, ◌∙◌}
use Rattle.emulated_keyboard.specs.KeyboardStands.{KeyboardValue, KeyboardStands}
use Rattle.emulated_keyboard.proofs.KeyboardLaws.{stands_entered}
use Rattle.emulated_keyboard.proofs.keyboard.Keyboard.enter.Goals as goal

pub returns-clause-stands : goal.returns-clause-stands
returns-clause-stands c = λ past stands.
    stands_entered _ past (subst (λ (v : KeyboardValue). KeyboardStands v past) (sym c.self.view_is) stands) c.args.tick
    (ap (λ (v : KeyboardValue). v.entered) c.self.view_is ∙ c.requires)
