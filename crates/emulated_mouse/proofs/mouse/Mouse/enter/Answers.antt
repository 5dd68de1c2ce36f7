-- The span begins with nothing begun.
use Rattle.std.proofs.Common.{subst, sym, ap, ◌∙◌}
use Rattle.emulated_mouse.specs.MouseStands.{MouseValue, MouseStands}
use Rattle.emulated_mouse.proofs.MouseLaws.{stands_entered}
use Rattle.emulated_mouse.proofs.mouse.Mouse.enter.Goals as goal

pub returns-clause-stands : goal.returns-clause-stands
returns-clause-stands c = λ past stands.
    stands_entered _ past (subst (λ (v : MouseValue). MouseStands v past) (sym c.self.view_is) stands)
    (ap (λ (v : MouseValue). v.entered) c.self.view_is ∙ c.requires)
