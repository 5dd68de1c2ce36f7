-- The ports wake, or go dark, where the health changes so.
use Rattle.std.proofs.Common.{◌≡◌, ◌∷◌, ℕ, Option, false, ◌∙◌, subst, sym}
use Rattle.psd_base.specs.Event.{AtFront, PanelMoves}
use Rattle.fail_secure.specs.declared.health_change.HealthChange.{HealthChange}
use Rattle.port_model.specs.Concerns.{Darkens, Wakes, is_live}
use Rattle.switch_core.specs.Bridges.{bridge_after}
use Rattle.port_model.specs.Chosen.{selected_at}
use Rattle.port_model.specs.FrontEvents.{front_event, front_of}
use Rattle.switch_core.specs.PortsStand.{PortsStand}
use Rattle.port_model.specs.View.{view, news_at, stamped, change_concerns}
use Rattle.switch_core.specs.Views.{to_all}
use Rattle.switch_core.specs.SlotStands.{views_of}
use Rattle.switch_core.proofs.Hearing.{PortsStand-heard}
use Rattle.switch_core.proofs.Selecting.{selected_before-Wakes, selected-Darkens, selected-Stays, selected-Wakes}
use Rattle.switch_core.proofs.Views.{is_live-view, wakes_from}
use Rattle.switch_core.proofs.switch.serve_move.Goals as goal

pub returns-in-Wakes-clause-ports : goal.returns-in-Wakes-clause-ports
returns-in-Wakes-clause-ports c = λ rules past parts.
    let tick = c.args.tick in
    let move = c.args.panel in
    let wakes = c.in-Wakes.ensures.change rules (front_of past) (bridge_after rules past) parts.front_stands in
    let dark : (number : ℕ) → is_live (view rules number past) ≡ false = λ number. is_live-view rules number past ∙ wakes_from _ _ wakes in
    let nobody = subst (λ (chosen : Option ℕ). PortsStand c.args.ports.now chosen (views_of rules past)) (selected_before-Wakes rules tick move (front_of past) wakes) parts.ports_stand in
    let awake = c.wake.ensures.stands (views_of rules past) tick dark nobody in
    PortsStand-heard c.wake.new.self tick (λ number. news_at rules number tick (AtFront (PanelMoves move)) (front_of past)) _ _
    (subst (λ (to : HealthChange). PortsStand c.wake.new.self (selected_at rules (front_event tick (PanelMoves move) ∷ front_of past)) (λ number. stamped tick (change_concerns to) (view rules number past))) wakes
    (subst (λ (chosen : Option ℕ). PortsStand c.wake.new.self chosen (to_all tick Wakes (views_of rules past))) (sym (selected-Wakes rules tick move (front_of past) wakes)) awake))

pub returns-in-Darkens-clause-ports : goal.returns-in-Darkens-clause-ports
returns-in-Darkens-clause-ports c = λ rules past parts.
    let tick = c.args.tick in
    let move = c.args.panel in
    let darkens = c.in-Darkens.ensures.change rules (front_of past) (bridge_after rules past) parts.front_stands in
    let dark = c.darken.ensures.stands (selected_at rules (front_of past)) (views_of rules past) tick parts.ports_stand in
    PortsStand-heard c.darken.new.self tick (λ number. news_at rules number tick (AtFront (PanelMoves move)) (front_of past)) _ _
    (subst (λ (to : HealthChange). PortsStand c.darken.new.self (selected_at rules (front_event tick (PanelMoves move) ∷ front_of past)) (λ number. stamped tick (change_concerns to) (view rules number past))) darkens
    (subst (λ (chosen : Option ℕ). PortsStand c.darken.new.self chosen (to_all tick Darkens (views_of rules past))) (sym (selected-Darkens rules tick move (front_of past) darkens)) dark))

pub returns-in-Stays-clause-ports : goal.returns-in-Stays-clause-ports
returns-in-Stays-clause-ports c = λ rules past parts.
    let tick = c.args.tick in
    let move = c.args.panel in
    let stays = c.in-Stays.ensures.change rules (front_of past) (bridge_after rules past) parts.front_stands in
    PortsStand-heard c.args.ports.now tick (λ number. news_at rules number tick (AtFront (PanelMoves move)) (front_of past)) _ _
    (subst (λ (to : HealthChange). PortsStand c.args.ports.now (selected_at rules (front_event tick (PanelMoves move) ∷ front_of past)) (λ number. stamped tick (change_concerns to) (view rules number past))) stays
    (subst (λ (chosen : Option ℕ). PortsStand c.args.ports.now chosen (views_of rules past)) (sym (selected-Stays rules tick move (front_of past) stays)) parts.ports_stand))
