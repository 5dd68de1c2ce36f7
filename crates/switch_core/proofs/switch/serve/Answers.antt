-- What happens at the front reaches the ports that it concerns, and the bridge of the one to which the token is routed.
use Rattle.std.proofs.Common.{◌∷◌, ℕ, Option, Some, refl, sym, subst, ap, ◌∙◌}
use Rattle.psd_base.specs.declared.act.Answer.{Answer}
use Rattle.psd_base.specs.declared.line.Line.{Line}
use Rattle.psd_base.specs.Event.{AtFront, TimePasses, PanelMoves, Attaches, Detaches, Replies, Reports, Finishes}
use Rattle.auth_router.specs.Bridge.{BridgePast}
use Rattle.switch_core.specs.Bridges.{bridge_after}
use Rattle.port_model.specs.Chosen.{given_after, selected_at}
use Rattle.port_model.specs.FrontEvents.{front_event, front_of}
use Rattle.switch_core.specs.FrontStands.{FrontStands}
use Rattle.switch_core.specs.PortsStand.{PortsStand, port_count}
use Rattle.switch_core.specs.SeatStands.{CanHave, give_count}
use Rattle.switch_core.specs.SlotStands.{views_of}
use Rattle.port_model.specs.View.{news_at}
use Rattle.switch_core.specs.Views.{selected_to}
use Rattle.switch_core.proofs.Hearing.{PortsStand-heard}
use Rattle.switch_core.proofs.Plugs.{attach_notes-none, detach_notes-none, done_notes-none, done_orders-none, report_notes-none, report_orders-none}
use Rattle.switch_core.proofs.Selecting.{can_have, selections-move}
use Rattle.switch_core.proofs.TokenViews.{bridge_after-done, bridge_after-front, others_are_down}
use Rattle.switch_core.proofs.switch.serve.Goals as goal

-- An act

pub returns-in-Port-clause-ports : goal.returns-in-Port-clause-ports
returns-in-Port-clause-ports c = λ rules past parts. rw c.in-Port.is (c.serve_act.ensures.ports rules past parts)

pub returns-in-Port-clause-front : goal.returns-in-Port-clause-front
returns-in-Port-clause-front c = λ rules past parts. rw c.in-Port.is (c.serve_act.ensures.front rules past parts)

pub returns-in-Port-clause-line : goal.returns-in-Port-clause-line
returns-in-Port-clause-line c = λ rules past parts.
    rw c.in-Port.is (ap (λ (answer : Answer).
    let line : Line = record { tick = c.args.event.now.tick; side = c.in-Port.side; act = c.in-Port.act.now; answer = answer } in Some (c.in-Port.port, line))
    (c.serve_act.ensures.answer rules past parts))

pub returns-in-Port-clause-orders : goal.returns-in-Port-clause-orders
returns-in-Port-clause-orders c = λ rules past parts. rw c.in-Port.is (c.serve_act.ensures.orders rules past parts)

-- A clock event

pub returns-in-Clock-clause-ports : goal.returns-in-Clock-clause-ports
returns-in-Clock-clause-ports c = λ rules past parts.
    let tick = c.args.event.now.tick in
    let before = front_of past in
    let chosen = c.selected.ensures rules (front_event tick TimePasses ∷ before) _ (c.clock.ensures.stands rules before (bridge_after rules past) parts.front_stands) in
    let can = can_have rules (port_count c.args.ports.now) tick past parts.within in
    rw c.in-Clock.is
    (PortsStand-heard c.select.new.self tick (λ number. news_at rules number tick (AtFront TimePasses) before) _ _
    (subst (λ (at : Option ℕ). PortsStand c.select.new.self at (selected_to tick (selected_at rules before) at (views_of rules past))) chosen
    (c.select.ensures.stands (selected_at rules before) (views_of rules past)
    (subst (λ (at : Option ℕ). CanHave (port_count c.args.ports.now) (views_of rules past) at) (sym chosen) can) parts.ports_stand)))

pub returns-in-Clock-clause-gives : goal.returns-in-Clock-clause-gives
returns-in-Clock-clause-gives c = λ rules past parts.
    let tick = c.args.event.now.tick in
    let before = front_of past in
    let chosen = c.selected.ensures rules (front_event tick TimePasses ∷ before) _ (c.clock.ensures.stands rules before (bridge_after rules past) parts.front_stands) in
    let can = can_have rules (port_count c.args.ports.now) tick past parts.within in
    let given = c.select.ensures.gives (selected_at rules before) (views_of rules past)
    (subst (λ (at : Option ℕ). CanHave (port_count c.args.ports.now) (views_of rules past) at) (sym chosen) can) parts.ports_stand in
    rw c.in-Clock.is
    (given ∙ ap (λ (at : Option ℕ). given_after (selected_at rules before) at (give_count c.args.ports.now.seat)) chosen
    ∙ ap (given_after (selected_at rules before) (selected_at rules (front_event tick TimePasses ∷ before))) parts.gives)

pub returns-in-Clock-clause-front : goal.returns-in-Clock-clause-front
returns-in-Clock-clause-front c = λ rules past parts.
    let tick = c.args.event.now.tick in
    rw c.in-Clock.is
    (subst (λ (b : BridgePast). FrontStands rules c.clock.new.self (front_event tick TimePasses ∷ front_of past) b) (bridge_after-front rules tick TimePasses past refl (others_are_down rules past))
    (c.clock.ensures.stands rules (front_of past) (bridge_after rules past) parts.front_stands))

pub returns-in-Clock-clause-orders : goal.returns-in-Clock-clause-orders
returns-in-Clock-clause-orders c = λ rules past parts.
    rw c.in-Clock.is (c.clock.ensures.orders rules (front_of past) (bridge_after rules past) parts.front_stands)

pub returns-in-Clock-clause-notes : goal.returns-in-Clock-clause-notes
returns-in-Clock-clause-notes c = λ rules past parts.
    rw c.in-Clock.is (c.clock.ensures.notes rules (front_of past) (bridge_after rules past) parts.front_stands)

-- A move at the panel

pub returns-in-Panel-clause-ports : goal.returns-in-Panel-clause-ports
returns-in-Panel-clause-ports c = λ rules past parts. rw c.in-Panel.is (c.serve_move.ensures.ports rules past parts)

pub returns-in-Panel-clause-gives : goal.returns-in-Panel-clause-gives
returns-in-Panel-clause-gives c = λ rules past parts.
    rw c.in-Panel.is (c.serve_move.ensures.few ∙ parts.gives ∙ sym (selections-move rules c.args.event.now.tick c.in-Panel.panel (front_of past)))

pub returns-in-Panel-clause-front : goal.returns-in-Panel-clause-front
returns-in-Panel-clause-front c = λ rules past parts.
    let tick = c.args.event.now.tick in
    let move = c.in-Panel.panel in
    rw c.in-Panel.is
    (subst (λ (b : BridgePast). FrontStands rules c.serve_move.new.front (front_event tick (PanelMoves move) ∷ front_of past) b) (bridge_after-front rules tick (PanelMoves move) past refl (others_are_down rules past))
    (c.serve_move.ensures.front rules (front_of past) (bridge_after rules past) parts.front_stands))

pub returns-in-Panel-clause-orders : goal.returns-in-Panel-clause-orders
returns-in-Panel-clause-orders c = λ rules past parts.
    rw c.in-Panel.is (c.serve_move.ensures.orders rules (front_of past) (bridge_after rules past) parts.front_stands)

pub returns-in-Panel-clause-notes : goal.returns-in-Panel-clause-notes
returns-in-Panel-clause-notes c = λ rules past parts.
    rw c.in-Panel.is (c.serve_move.ensures.notes rules (front_of past) (bridge_after rules past) parts.front_stands)

-- What happens at a plug

pub returns-in-Attach-clause-ports : goal.returns-in-Attach-clause-ports
returns-in-Attach-clause-ports c = λ rules past parts.
    let tick = c.args.event.now.tick in
    rw c.in-Attach.is (PortsStand-heard c.args.ports.now tick (λ number. news_at rules number tick (AtFront (Attaches c.in-Attach.plug)) (front_of past)) _ _ parts.ports_stand)

pub returns-in-Attach-clause-front : goal.returns-in-Attach-clause-front
returns-in-Attach-clause-front c = λ rules past parts.
    let tick = c.args.event.now.tick in
    let plug = c.in-Attach.plug in
    rw c.in-Attach.is
    (subst (λ (b : BridgePast). FrontStands rules c.attach.new.self (front_event tick (Attaches plug) ∷ front_of past) b) (bridge_after-front rules tick (Attaches plug) past refl (others_are_down rules past))
    (c.attach.ensures.stands rules (front_of past) (bridge_after rules past) parts.front_stands))

pub returns-in-Attach-clause-orders : goal.returns-in-Attach-clause-orders
returns-in-Attach-clause-orders c = λ rules past parts.
    rw c.in-Attach.is (c.attach.ensures.orders rules (front_of past) (bridge_after rules past) parts.front_stands)

pub returns-in-Attach-clause-notes : goal.returns-in-Attach-clause-notes
returns-in-Attach-clause-notes c = λ rules past parts.
    rw c.in-Attach.is (c.begin-in-Attach.ensures.notes ∙ sym (attach_notes-none rules c.args.event.now.tick c.in-Attach.plug (front_of past)))

pub returns-in-Detach-clause-ports : goal.returns-in-Detach-clause-ports
returns-in-Detach-clause-ports c = λ rules past parts. rw c.in-Detach.is (c.serve_detach.ensures.ports rules past parts)

pub returns-in-Detach-clause-front : goal.returns-in-Detach-clause-front
returns-in-Detach-clause-front c = λ rules past parts.
    let tick = c.args.event.now.tick in
    let plug = c.in-Detach.plug in
    rw c.in-Detach.is
    (subst (λ (b : BridgePast). FrontStands rules c.serve_detach.new.front (front_event tick (Detaches plug) ∷ front_of past) b) (bridge_after-front rules tick (Detaches plug) past refl (others_are_down rules past))
    (c.serve_detach.ensures.front rules (front_of past) (bridge_after rules past) parts.front_stands))

pub returns-in-Detach-clause-orders : goal.returns-in-Detach-clause-orders
returns-in-Detach-clause-orders c = λ rules past parts.
    rw c.in-Detach.is (c.serve_detach.ensures.orders rules (front_of past) (bridge_after rules past) parts.front_stands)

pub returns-in-Detach-clause-notes : goal.returns-in-Detach-clause-notes
returns-in-Detach-clause-notes c = λ rules past parts.
    rw c.in-Detach.is (c.begin-in-Detach.ensures.notes ∙ sym (detach_notes-none rules c.args.event.now.tick c.in-Detach.plug (front_of past)))

pub returns-in-Reply-clause-ports : goal.returns-in-Reply-clause-ports
returns-in-Reply-clause-ports c = λ rules past parts.
    let tick = c.args.event.now.tick in
    let replies = Replies c.in-Reply.plug c.in-Reply.life c.in-Reply.number c.in-Reply.status c.in-Reply.bytes.now in
    rw c.in-Reply.is (PortsStand-heard c.args.ports.now tick (λ number. news_at rules number tick (AtFront replies) (front_of past)) _ _ parts.ports_stand)

pub returns-in-Reply-clause-front : goal.returns-in-Reply-clause-front
returns-in-Reply-clause-front c = λ rules past parts.
    let tick = c.args.event.now.tick in
    let replies = Replies c.in-Reply.plug c.in-Reply.life c.in-Reply.number c.in-Reply.status c.in-Reply.bytes.now in
    rw c.in-Reply.is
    (subst (λ (b : BridgePast). FrontStands rules c.reply.new.self (front_event tick replies ∷ front_of past) b) (bridge_after-front rules tick replies past refl (others_are_down rules past))
    (c.reply.ensures.stands rules (front_of past) (bridge_after rules past) parts.front_stands))

pub returns-in-Reply-clause-orders : goal.returns-in-Reply-clause-orders
returns-in-Reply-clause-orders c = λ rules past parts.
    rw c.in-Reply.is (c.reply.ensures.orders rules (front_of past) (bridge_after rules past) parts.front_stands)

pub returns-in-Reply-clause-notes : goal.returns-in-Reply-clause-notes
returns-in-Reply-clause-notes c = λ rules past parts.
    rw c.in-Reply.is (c.reply.ensures.notes rules (front_of past) (bridge_after rules past) parts.front_stands)

pub returns-in-Report-clause-ports : goal.returns-in-Report-clause-ports
returns-in-Report-clause-ports c = λ rules past parts. rw c.in-Report.is (c.serve_report.ensures.ports rules c.args.event.now.tick past parts)

pub returns-in-Report-clause-front : goal.returns-in-Report-clause-front
returns-in-Report-clause-front c = λ rules past parts.
    let tick = c.args.event.now.tick in
    let reports = Reports c.in-Report.plug c.in-Report.interface c.in-Report.bytes.now in
    rw c.in-Report.is
    (subst (λ (b : BridgePast). FrontStands rules c.serve_report.new.front (front_event tick reports ∷ front_of past) b) (bridge_after-front rules tick reports past refl (others_are_down rules past))
    (c.serve_report.ensures.front rules tick (front_of past) (bridge_after rules past) parts.front_stands))

pub returns-in-Report-clause-orders : goal.returns-in-Report-clause-orders
returns-in-Report-clause-orders c = λ rules past parts.
    rw c.in-Report.is (c.begin-in-Report.ensures.orders ∙ sym (report_orders-none rules c.args.event.now.tick c.in-Report.interface c.in-Report.bytes.now c.in-Report.plug (front_of past)))

pub returns-in-Report-clause-notes : goal.returns-in-Report-clause-notes
returns-in-Report-clause-notes c = λ rules past parts.
    rw c.in-Report.is (c.begin-in-Report.ensures.notes ∙ sym (report_notes-none rules c.args.event.now.tick c.in-Report.interface c.in-Report.bytes.now c.in-Report.plug (front_of past)))

-- A job is done

pub returns-in-JobDone-clause-ports : goal.returns-in-JobDone-clause-ports
returns-in-JobDone-clause-ports c = λ rules past parts.
    let tick = c.args.event.now.tick in
    let finishes = Finishes c.in-JobDone.life c.in-JobDone.number c.in-JobDone.status c.in-JobDone.bytes.now in
    rw c.in-JobDone.is (PortsStand-heard c.args.ports.now tick (λ number. news_at rules number tick (AtFront finishes) (front_of past)) _ _ parts.ports_stand)

pub returns-in-JobDone-clause-front : goal.returns-in-JobDone-clause-front
returns-in-JobDone-clause-front c = λ rules past parts.
    let tick = c.args.event.now.tick in
    let finishes = Finishes c.in-JobDone.life c.in-JobDone.number c.in-JobDone.status c.in-JobDone.bytes.now in
    rw c.in-JobDone.is
    (subst (λ (b : BridgePast). FrontStands rules c.done.new.self (front_event tick finishes ∷ front_of past) b)
    (bridge_after-done rules tick c.in-JobDone.life c.in-JobDone.number c.in-JobDone.status c.in-JobDone.bytes.now past)
    (c.done.ensures.stands rules tick (front_of past) (bridge_after rules past) parts.front_stands))

pub returns-in-JobDone-clause-orders : goal.returns-in-JobDone-clause-orders
returns-in-JobDone-clause-orders c = λ rules past parts.
    rw c.in-JobDone.is (c.begin-in-JobDone.ensures.orders ∙ sym (done_orders-none rules c.args.event.now.tick c.in-JobDone.life c.in-JobDone.number c.in-JobDone.status c.in-JobDone.bytes.now (front_of past)))

pub returns-in-JobDone-clause-notes : goal.returns-in-JobDone-clause-notes
returns-in-JobDone-clause-notes c = λ rules past parts.
    rw c.in-JobDone.is (c.begin-in-JobDone.ensures.notes ∙ sym (done_notes-none rules c.args.event.now.tick c.in-JobDone.life c.in-JobDone.number c.in-JobDone.status c.in-JobDone.bytes.now (front_of past)))
