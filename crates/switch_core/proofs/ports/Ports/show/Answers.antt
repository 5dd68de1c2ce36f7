-- What is shown reaches the latches of the selected port.
use Rattle.switch_core.proofs.Wiring.{AllStand-shown, IsWired-same}
use Rattle.switch_core.proofs.ports.Ports.show.Goals as goal

pub invariant_of-self : goal.invariant_of-self
invariant_of-self c = record { wired = IsWired-same _ c.args.self.now.seat _ c.show_at.ensures.owner c.show_at.ensures.seated c.args.self.now.wired }

pub returns-clause-stands : goal.returns-clause-stands
returns-clause-stands c = λ tick chosen views stands. record {
  slots = AllStand-shown _ tick chosen c.args.shown.now views stands.slots;
  seat = c.show_at.ensures.stands tick chosen views stands.seat;
}
