-- The end of a job is told to the token's bridge alone.
use Rattle.std.proofs.Common.{sym, subst}
use Rattle.token_plug.specs.TokenStands.{TokenStands}
use Rattle.token_plug.specs.declared.plug.TokenPlug.{TokenPlug}
use Rattle.port_model.specs.Token.{token_history}
use Rattle.switch_core.proofs.front.Front.done.Goals as goal

pub returns-clause-stands : goal.returns-clause-stands
returns-clause-stands c = λ rules tick past bridge g.
    let token = subst (λ (t : TokenPlug). TokenStands rules t (token_history rules past) bridge) (sym c.deref_mut.ensures.value) g.token in
    record {
      rules_are = g.rules_are;
      health = g.health;
      selector = g.selector;
      peripherals = g.peripherals;
      token = c.done.ensures.stands rules _ _ token;
    }
