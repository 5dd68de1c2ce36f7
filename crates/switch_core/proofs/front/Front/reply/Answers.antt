-- A reply is judged by the rules that the front keeps.
use Rattle.std.proofs.Common.{◌≡◌, List, ◌++◌, ap, sym, subst, ◌∙◌}
use Rattle.std.proofs.lemmas.List.{append-nil}
use Rattle.psd_base.specs.declared.console.Note.{Note}
use Rattle.psd_base.specs.declared.console.Order.{Order}
use Rattle.psd_base.specs.declared.console.Plug.TheVariants.{Keyboard, Mouse}
use Rattle.peripheral_filter.specs.declared.rule.RuleSet.{RuleSet}
use Rattle.console_host.specs.Replies.{reply_of}
use Rattle.console_plug.specs.Moments.{Replied}
use Rattle.token_plug.specs.Moments as token
use Rattle.token_plug.specs.TokenGives as gives
use Rattle.token_plug.specs.TokenStands.{TokenStands}
use Rattle.token_plug.specs.declared.plug.TokenPlug.{TokenPlug}
use Rattle.switch_core.specs.Bridges.{bridge_over}
use Rattle.port_model.specs.Token.{early_token_notes, given_over, if_token, late_token_notes, token_history, token_orders}
use Rattle.port_model.specs.Peripherals.{if_same_plug, peripheral_notes, peripheral_orders, plug_history, plug_notes, plug_orders, with_moment}
use Rattle.switch_core.specs.PeripheralsStand.{PeripheralsStand}
use Rattle.switch_core.specs.declared.peripherals.Peripherals.{Peripherals}
use Rattle.switch_core.proofs.front.Front.reply.Goals as goal

pub returns-clause-stands : goal.returns-clause-stands
returns-clause-stands c = λ rules past bridge g.
    let moment = Replied c.args.life c.args.number c.args.tick (reply_of c.args.status c.args.bytes.now) in
    let moments = if_token c.args.plug (token.Replied c.args.life c.args.number c.args.tick (reply_of c.args.status c.args.bytes.now)) in
    let inside = subst (λ (p : Peripherals). PeripheralsStand rules p (plug_history Keyboard past) (plug_history Mouse past)) (sym c.deref_mut.ensures.value) g.peripherals in
    let before = subst (λ (r : RuleSet). PeripheralsStand r c.deref_mut.result.now (plug_history Keyboard past) (plug_history Mouse past)) (sym g.rules_are) inside in
    let at_token = subst (λ (t : TokenPlug). TokenStands rules t (token_history rules past) bridge) (sym c.deref_mut-2.ensures.value) g.token in
    let token_before = subst (λ (r : RuleSet). TokenStands r c.deref_mut-2.result.now (token_history rules past) bridge) (sym g.rules_are) at_token in
    record {
      rules_are = g.rules_are;
      health = g.health;
      selector = g.selector;
      peripherals = subst (λ (r : RuleSet). PeripheralsStand r c.reply.new.self (with_moment (if_same_plug Keyboard c.args.plug moment) (plug_history Keyboard past)) (with_moment (if_same_plug Mouse c.args.plug moment) (plug_history Mouse past)))
          g.rules_are (c.reply.ensures.stands _ _ before);
      token = subst (λ (r : RuleSet). TokenStands r c.reply_token.new.token (moments ++ token_history rules past) (bridge_over r moments (token_history rules past) bridge))
          g.rules_are (c.reply_token.ensures.stands _ _ token_before);
    }

pub returns-clause-orders : goal.returns-clause-orders
unfolding peripheral_orders token_orders
returns-clause-orders c = λ rules past bridge g.
    let moment = Replied c.args.life c.args.number c.args.tick (reply_of c.args.status c.args.bytes.now) in
    let moments = if_token c.args.plug (token.Replied c.args.life c.args.number c.args.tick (reply_of c.args.status c.args.bytes.now)) in
    let inside = subst (λ (p : Peripherals). PeripheralsStand rules p (plug_history Keyboard past) (plug_history Mouse past)) (sym c.deref_mut.ensures.value) g.peripherals in
    let before = subst (λ (r : RuleSet). PeripheralsStand r c.deref_mut.result.now (plug_history Keyboard past) (plug_history Mouse past)) (sym g.rules_are) inside in
    let at_token = subst (λ (t : TokenPlug). TokenStands rules t (token_history rules past) bridge) (sym c.deref_mut-2.ensures.value) g.token in
    let token_before = subst (λ (r : RuleSet). TokenStands r c.deref_mut-2.result.now (token_history rules past) bridge) (sym g.rules_are) at_token in
    subst (λ (r : RuleSet). c.reply_token.new.orders.items ≡ (plug_orders Keyboard r (if_same_plug Keyboard c.args.plug moment) (plug_history Keyboard past) ++ plug_orders Mouse r (if_same_plug Mouse c.args.plug moment) (plug_history Mouse past))
    ++ given_over (gives.orders_at r) moments (token_history rules past))
    g.rules_are
    (c.reply_token.ensures.orders _ _ token_before
    ∙ ap (λ (orders : List Order). orders ++ given_over (gives.orders_at c.args.self.now.rules) moments (token_history rules past)) (c.reply.ensures.orders _ _ before))

pub returns-clause-notes : goal.returns-clause-notes
unfolding peripheral_notes early_token_notes late_token_notes
returns-clause-notes c = λ rules past bridge g.
    let moment = Replied c.args.life c.args.number c.args.tick (reply_of c.args.status c.args.bytes.now) in
    let moments = if_token c.args.plug (token.Replied c.args.life c.args.number c.args.tick (reply_of c.args.status c.args.bytes.now)) in
    let inside = subst (λ (p : Peripherals). PeripheralsStand rules p (plug_history Keyboard past) (plug_history Mouse past)) (sym c.deref_mut.ensures.value) g.peripherals in
    let before = subst (λ (r : RuleSet). PeripheralsStand r c.deref_mut.result.now (plug_history Keyboard past) (plug_history Mouse past)) (sym g.rules_are) inside in
    let at_token = subst (λ (t : TokenPlug). TokenStands rules t (token_history rules past) bridge) (sym c.deref_mut-2.ensures.value) g.token in
    let token_before = subst (λ (r : RuleSet). TokenStands r c.deref_mut-2.result.now (token_history rules past) bridge) (sym g.rules_are) at_token in
    let notes = subst (λ (r : RuleSet). c.reply_token.new.notes.items ≡ (plug_notes Keyboard r (if_same_plug Keyboard c.args.plug moment) (plug_history Keyboard past) ++ plug_notes Mouse r (if_same_plug Mouse c.args.plug moment) (plug_history Mouse past))
    ++ given_over (gives.notes_at r) moments (token_history rules past))
    g.rules_are
    (c.reply_token.ensures.notes _ _ token_before
    ∙ ap (λ (notes : List Note). notes ++ given_over (gives.notes_at c.args.self.now.rules) moments (token_history rules past)) (c.reply.ensures.notes _ _ before)) in
    notes ∙ sym (append-nil _)
