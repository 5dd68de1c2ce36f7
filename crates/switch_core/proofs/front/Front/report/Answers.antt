-- A report changes nothing but what is shown.
use Rattle.std.proofs.Common.{sym, subst}
use Rattle.psd_base.specs.declared.console.Plug.TheVariants.{Keyboard, Mouse}
use Rattle.port_model.specs.Peripherals.{plug_history}
use Rattle.switch_core.specs.PeripheralsStand.{PeripheralsStand}
use Rattle.switch_core.specs.declared.peripherals.Peripherals.{Peripherals}
use Rattle.switch_core.proofs.front.Front.report.Goals as goal

pub returns-clause-stands : goal.returns-clause-stands
returns-clause-stands c = λ rules tick past bridge g.
    let inside = subst (λ (p : Peripherals). PeripheralsStand rules p (plug_history Keyboard past) (plug_history Mouse past)) (sym c.deref_mut.ensures.value) g.peripherals in
    record {
      rules_are = g.rules_are;
      health = g.health;
      selector = g.selector;
      peripherals = c.report.ensures.stands rules _ _ inside;
      token = g.token;
    }
