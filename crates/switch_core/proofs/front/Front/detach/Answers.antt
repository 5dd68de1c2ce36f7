-- A peripheral is taken off.
use Rattle.std.proofs.Common.{List, ◌++◌, ap, sym, subst, ◌∙◌}
use Rattle.psd_base.specs.declared.console.Order.{Order}
use Rattle.psd_base.specs.declared.console.Plug.TheVariants.{Keyboard, Mouse}
use Rattle.token_plug.specs.TokenStands.{TokenStands}
use Rattle.token_plug.specs.declared.plug.TokenPlug.{TokenPlug}
use Rattle.port_model.specs.FrontEvents.{front_event}
use Rattle.port_model.specs.Peripherals.{peripheral_orders, plug_history}
use Rattle.switch_core.specs.PeripheralsStand.{PeripheralsStand}
use Rattle.port_model.specs.Token.{token_history, token_orders}
use Rattle.switch_core.specs.declared.peripherals.Peripherals.{Peripherals}
use Rattle.psd_base.specs.Event.{Detaches}
use Rattle.switch_core.proofs.front.Front.detach.Goals as goal

pub returns-clause-stands : goal.returns-clause-stands
returns-clause-stands c = λ rules past bridge g.
    let inside = subst (λ (p : Peripherals). PeripheralsStand rules p (plug_history Keyboard past) (plug_history Mouse past)) (sym c.deref_mut.ensures.value) g.peripherals in
    let token = subst (λ (t : TokenPlug). TokenStands rules t (token_history rules past) bridge) (sym c.deref_mut-2.ensures.value) g.token in
    record {
      rules_are = g.rules_are;
      health = g.health;
      selector = g.selector;
      peripherals = c.detach-shown.ensures.stands rules _ _ inside;
      token = c.detach_token.ensures.stands rules _ _ token;
    }

pub returns-clause-orders : goal.returns-clause-orders
unfolding peripheral_orders token_orders
returns-clause-orders c = λ rules past bridge g.
    let inside = subst (λ (p : Peripherals). PeripheralsStand rules p (plug_history Keyboard past) (plug_history Mouse past)) (sym c.deref_mut.ensures.value) g.peripherals in
    let token = subst (λ (t : TokenPlug). TokenStands rules t (token_history rules past) bridge) (sym c.deref_mut-2.ensures.value) g.token in
    c.detach_token.ensures.orders rules _ _ token
    ∙ ap (λ (orders : List Order). orders ++ token_orders rules (front_event c.args.tick (Detaches c.args.plug)) past) (c.detach-shown.ensures.orders rules _ _ inside)
