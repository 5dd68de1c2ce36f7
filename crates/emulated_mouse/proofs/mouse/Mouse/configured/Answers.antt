-- Nothing is made, open, left or due.
use Rattle.std.proofs.Common.{subst, sym}
use Rattle.emulated_mouse.specs.MouseStands.{MouseValue, MouseStands}
use Rattle.emulated_mouse.proofs.MouseLaws.{stands_configured}
use Rattle.emulated_mouse.proofs.mouse.Mouse.configured.Goals as goal

pub returns-clause-stands : goal.returns-clause-stands
returns-clause-stands c = λ past stands.
    rw c.released-self-inside.ensures
    (stands_configured _ past (subst (λ (v : MouseValue). MouseStands v past) (sym c.self.view_is) stands))
