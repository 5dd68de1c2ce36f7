-- An act reaches its port, and the bridge where it is at the token connector of the port to which the token is routed.
use Rattle.std.proofs.Common.{subst, ◌∙◌}
use Rattle.auth_router.specs.Bridge.{BridgePast}
use Rattle.port_model.specs.Chosen.{selected_at}
use Rattle.port_model.specs.FrontEvents.{front_of}
use Rattle.port_model.specs.Token.{token_life, token_port}
use Rattle.switch_core.specs.Bridges.{bridge_after, bridges_of}
use Rattle.switch_core.specs.FrontStands.{FrontStands}
use Rattle.switch_core.specs.SlotStands.{views_of}
use Rattle.switch_core.proofs.Bridging.{answer-acted, jobs-acted}
use Rattle.switch_core.proofs.Handing.{PortsStand-token}
use Rattle.switch_core.proofs.TokenSelection.{token_answer}
use Rattle.switch_core.proofs.TokenViews.{bridge_after-act, bridge_after-km, others_are_down}
use Rattle.switch_core.proofs.switch.serve_act.Goals as goal

-- At the keyboard and mouse

pub returns-in-Km-clause-front : goal.returns-in-Km-clause-front
returns-in-Km-clause-front c = λ rules past parts.
    rw c.in-Km.is
    (subst (λ (b : BridgePast). FrontStands rules c.args.front.now (front_of past) b) (bridge_after-km rules c.args.tick c.args.port c.args.act.now past) parts.front_stands)

-- At the token connector

pub returns-in-Ua-clause-ports : goal.returns-in-Ua-clause-ports
returns-in-Ua-clause-ports c = λ rules past parts.
    rw c.in-Ua.is
    (PortsStand-token c.args.ports.now c.args.tick c.args.port c.args.act.now (selected_at rules (front_of past)) (views_of rules past) parts.ports_stand)

pub returns-in-Ua-clause-front : goal.returns-in-Ua-clause-front
returns-in-Ua-clause-front c = λ rules past parts.
    rw c.in-Ua.is
    (subst (λ (b : BridgePast). FrontStands rules c.answer-in-Ua.new.self (front_of past) b) (bridge_after-act rules c.args.tick c.args.port c.args.act.now past)
    (c.answer-in-Ua.ensures.stands rules (front_of past) (bridge_after rules past) parts.front_stands))

pub returns-in-Ua-clause-answer : goal.returns-in-Ua-clause-answer
returns-in-Ua-clause-answer c = λ rules past parts.
    let port = c.args.port in
    let act = c.args.act.now in
    rw c.in-Ua.is
    (c.answer-in-Ua.ensures.answer rules (front_of past) (bridge_after rules past) parts.front_stands
    ∙ answer-acted (token_port rules (front_of past)) (token_life rules (front_of past)) port act (bridges_of rules past) (others_are_down rules past)
    ∙ token_answer rules past port c.args.tick act)

pub returns-in-Ua-clause-orders : goal.returns-in-Ua-clause-orders
returns-in-Ua-clause-orders c = λ rules past parts.
    rw c.in-Ua.is
    (c.answer-in-Ua.ensures.orders rules (front_of past) (bridge_after rules past) parts.front_stands
    ∙ jobs-acted (token_port rules (front_of past)) (token_life rules (front_of past)) c.args.port c.args.act.now (bridges_of rules past) (others_are_down rules past))
