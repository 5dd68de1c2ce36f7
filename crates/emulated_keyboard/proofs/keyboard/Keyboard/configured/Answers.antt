-- Nothing is made, open or due.
use Rattle.std.proofs.Common.{subst, sym}
use Rattle.emulated_keyboard.specs.KeyboardStands.{KeyboardValue, KeyboardStands}
use Rattle.emulated_keyboard.proofs.KeyboardLaws.{stands_configured}
use Rattle.emulated_keyboard.proofs.keyboard.Keyboard.configured.Goals as goal

pub returns-clause-stands : goal.returns-clause-stands
returns-clause-stands c = λ past stands.
    rw c.new-self-inside.ensures
    (stands_configured _ past (subst (λ (v : KeyboardValue). KeyboardStands v past) (sym c.self.view_is) stands))
