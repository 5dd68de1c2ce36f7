-- The console that is given stands for the view of its port.
use Rattle.std.proofs.Common.{Some, ap, List, ℕ, subst, sym}
use Rattle.port_model.specs.Concerns.{Item}
use Rattle.km_port.specs.ConsoleStands.{OwnedStands}
use Rattle.switch_core.specs.Views.{given_to}
use Rattle.switch_core.proofs.Handing.{given_to-own}
use Rattle.switch_core.proofs.Wiring.{apart}
use Rattle.switch_core.proofs.ports.given_at.Goals as goal

pub returns-in-Live-clause-seat : goal.returns-in-Live-clause-seat
returns-in-Live-clause-seat c = λ views live stands vacant.
    let told = apart c.args.slot.now (views c.args.port) live c.requires.slot.told stands in
    record {
      owner = ap Some (sym c.give-console.ensures.port);
      stands = subst (λ (port : ℕ). OwnedStands c.give-console.result.0 (given_to c.args.tick (Some c.args.port) views port)) (sym c.give-console.ensures.port)
          (subst (λ (past : List Item). OwnedStands c.give-console.result.0 past) (sym (given_to-own c.args.tick c.args.port views)) (c.give-console.ensures.stands (views c.args.port) vacant told));
    }
