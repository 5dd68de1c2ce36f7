-- A move at the panel is told to both parts.
use Rattle.std.proofs.Common.{◌≡◌, Bool, List, ◌++◌, ap, sym, subst, ◌∙◌}
use Rattle.std.proofs.lemmas.List.{append-nil}
use Rattle.psd_base.specs.declared.console.Order.{Order}
use Rattle.peripheral_filter.specs.declared.rule.RuleSet.{RuleSet}
use Rattle.auth_router.specs.Bridge.{BridgePast}
use Rattle.token_plug.specs.TokenGives as gives
use Rattle.token_plug.specs.TokenStands.{TokenStands}
use Rattle.token_plug.specs.declared.plug.TokenPlug.{TokenPlug}
use Rattle.switch_core.specs.Bridges.{bridge_over}
use Rattle.port_model.specs.FrontEvents.{FrontEvent}
use Rattle.switch_core.specs.FrontStands.{FrontStands}
use Rattle.port_model.specs.Token.{change_moments, early_token_notes, given_over, late_token_notes, token_history, token_orders}
use Rattle.fail_secure.specs.declared.health.Health.{Health}
use Rattle.fail_secure.specs.Health.{health_after}
use Rattle.fail_secure.specs.HealthChange.{change_of}
use Rattle.port_model.specs.FrontHealth.{reports_in, with_report}
use Rattle.port_model.specs.Chosen.{moments_in}
use Rattle.switch_core.proofs.Fronts.{are_buttons_up-moves}
use Rattle.psd_base.specs.declared.console.Plug.TheVariants.{Keyboard, Mouse}
use Rattle.fail_secure.specs.declared.health_change.HealthChange.{HealthChange}
use Rattle.switch_core.specs.Notes.{change_notes}
use Rattle.port_model.specs.Peripherals.{change_moment, peripheral_notes, peripheral_orders, plug_history, plug_orders, with_moment}
use Rattle.switch_core.specs.PeripheralsStand.{PeripheralsStand}
use Rattle.switch_core.specs.declared.peripherals.Peripherals.{Peripherals}
use Rattle.switch_core.proofs.Plugs.{change_notes-none, token_change_notes-none}
use Rattle.switch_core.proofs.front.Front.moved.Goals as goal

pub returns-clause-change : goal.returns-clause-change
returns-clause-change c = λ rules past bridge stands.
    let up = c.buttons_up.ensures (moments_in rules past) stands.selector ∙ are_buttons_up-moves rules past in
    let after = c.health_moved-after.ensures.health (reports_in past) stands.health
    ∙ ap (λ (b : Bool). health_after (with_report c.args.panel.now b (reports_in past))) up in
    c.change_between-change.ensures ∙ ap (λ (before : Health). change_of before c.health_moved-after.result) stands.health
    ∙ ap (change_of (health_after (reports_in past))) after

at_token : (c : goal.After-note_change) → (rules : RuleSet) (past : List FrontEvent) (bridge : BridgePast) → FrontStands rules c.args.self.now past bridge
    → TokenStands rules c.deref_mut-2.result.now (token_history rules past) bridge
at_token c = λ rules past bridge stands. subst (λ (t : TokenPlug). TokenStands rules t (token_history rules past) bridge) (sym c.deref_mut-2.ensures.value) stands.token

pub returns-clause-stands : goal.returns-clause-stands
returns-clause-stands c = λ rules past bridge stands.
    let up = c.buttons_up.ensures (moments_in rules past) stands.selector ∙ are_buttons_up-moves rules past in
    let inside = subst (λ (p : Peripherals). PeripheralsStand rules p (plug_history Keyboard past) (plug_history Mouse past)) (sym c.deref_mut.ensures.value) stands.peripherals in
    record {
      rules_are = stands.rules_are;
      health = c.health_moved-after.ensures.health (reports_in past) stands.health
          ∙ ap (λ (b : Bool). health_after (with_report c.args.panel.now b (reports_in past))) up;
      selector = c.panel.ensures (moments_in rules past) stands.selector;
      peripherals = subst (λ (to : HealthChange). PeripheralsStand rules c.change.new.self (with_moment (change_moment c.args.tick to) (plug_history Keyboard past)) (with_moment (change_moment c.args.tick to) (plug_history Mouse past)))
          (returns-clause-change c rules past bridge stands) (c.change.ensures.stands rules _ _ inside);
      token = subst (λ (to : HealthChange). TokenStands rules c.change_token.new.token (change_moments c.args.tick to ++ token_history rules past) (bridge_over rules (change_moments c.args.tick to) (token_history rules past) bridge))
          (returns-clause-change c rules past bridge stands) (c.change_token.ensures.stands rules _ _ (at_token c rules past bridge stands));
    }

pub returns-clause-orders : goal.returns-clause-orders
unfolding peripheral_orders token_orders
returns-clause-orders c = λ rules past bridge stands.
    let inside = subst (λ (p : Peripherals). PeripheralsStand rules p (plug_history Keyboard past) (plug_history Mouse past)) (sym c.deref_mut.ensures.value) stands.peripherals in
    subst (λ (to : HealthChange). c.change_token.new.orders.items ≡ (plug_orders Keyboard rules (change_moment c.args.tick to) (plug_history Keyboard past) ++ plug_orders Mouse rules (change_moment c.args.tick to) (plug_history Mouse past))
    ++ given_over (gives.orders_at rules) (change_moments c.args.tick to) (token_history rules past))
    (returns-clause-change c rules past bridge stands)
    (c.change_token.ensures.orders rules _ _ (at_token c rules past bridge stands)
    ∙ ap (λ (orders : List Order). orders ++ given_over (gives.orders_at rules) (change_moments c.args.tick c.change_between-change.result) (token_history rules past)) (c.change.ensures.orders rules _ _ inside))

pub returns-clause-notes : goal.returns-clause-notes
unfolding peripheral_notes early_token_notes late_token_notes
returns-clause-notes c = λ rules past bridge stands.
    rw (change_notes-none, change_notes-none, token_change_notes-none)
    (c.note_change.ensures ∙ ap (change_notes c.args.panel.now) (returns-clause-change c rules past bridge stands) ∙ sym (append-nil _))
