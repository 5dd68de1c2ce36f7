-- A front at which nothing happened.
use Rattle.std.proofs.Common.{[], refl, sym, subst}
use Rattle.switch_core.specs.PeripheralsStand.{PeripheralsStand}
use Rattle.switch_core.specs.declared.peripherals.Peripherals.{Peripherals}
use Rattle.auth_router.specs.Bridge.{IsDown}
use Rattle.token_plug.specs.TokenStands.{TokenStands}
use Rattle.token_plug.specs.declared.plug.TokenPlug.{TokenPlug}
use Rattle.switch_core.proofs.front.Front.new.Goals as goal

pub returns-clause-stands : goal.returns-clause-stands
returns-clause-stands c = record {
  rules_are = refl;
  health = c.new-5.ensures.health;
  selector = c.new-6.ensures;
  peripherals = subst (λ (p : Peripherals). PeripheralsStand c.args.rules p [] []) (sym c.in_ok-peripherals.ensures.ok) (c.new.ensures.stands c.args.rules);
  token = subst (λ (t : TokenPlug). TokenStands c.args.rules t [] IsDown) (sym c.in_ok-token.ensures.ok) (c.new-3.ensures.stands c.args.rules);
}
