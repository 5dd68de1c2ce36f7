-- What the console shows then reaches the selected port.
use Rattle.std.proofs.Common.{List, subst}
use Rattle.psd_base.specs.Event.{AtFront, Reports}
use Rattle.port_model.specs.Concerns.{Concern}
use Rattle.switch_core.specs.Bridges.{bridge_after}
use Rattle.port_model.specs.Chosen.{selected_at}
use Rattle.port_model.specs.FrontEvents.{front_of}
use Rattle.switch_core.specs.PortsStand.{PortsStand}
use Rattle.switch_core.specs.SlotStands.{views_of}
use Rattle.port_model.specs.View.{news_at}
use Rattle.switch_core.specs.Views.{shown_to}
use Rattle.switch_core.proofs.Hearing.{PortsStand-heard}
use Rattle.switch_core.proofs.switch.serve_report.Goals as goal

pub returns-clause-ports : goal.returns-clause-ports
returns-clause-ports c = λ rules tick past parts.
    let chosen = selected_at rules (front_of past) in
    PortsStand-heard c.show.new.self tick (λ number. news_at rules number tick (AtFront (Reports c.args.plug c.args.interface c.args.bytes.now)) (front_of past)) _ _
    (subst (λ (concerns : List Concern). PortsStand c.show.new.self chosen (shown_to tick chosen concerns (views_of rules past)))
    (c.report-shown.ensures.shown rules tick (front_of past) (bridge_after rules past) parts.front_stands)
    (c.show.ensures.stands tick chosen (views_of rules past) parts.ports_stand))
