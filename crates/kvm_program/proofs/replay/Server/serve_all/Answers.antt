-- The end of the events, or the stop of one of them.
use Rattle.std.proofs.Common.{Some, Ok, ap, ◌∙◌}
use Rattle.std.proofs.lemmas.Result.{err_from_is_err_and}
use Rattle.kvm_program.proofs.Parts.{Touches-then}
use Rattle.kvm_program.proofs.Serving.{PortsAboveStay-then, ServingStops-earlier, Finished-over}
use Rattle.kvm_program.proofs.replay.Server.serve_all.Goals as goal

pub returns-in_err-serve_next-clause-stop : goal.returns-in_err-serve_next-clause-stop
returns-in_err-serve_next-clause-stop g c =
    let p = err_from_is_err_and c.from_residual.result c.from_residual.ensures.1 in
    let only = c.events.invariant.only in
    rw (p.1, p.2) (λ rules coming sent so_far.
    ServingStops-earlier _ coming (g.D.Desk.told c.args.desk.now) (g.D.Desk.told c.events.desk) (g.D.Desk.told c.serve_next.new.desk) only.read_counts only.write_counts
    (c.in_err-serve_next.ensures.stop rules coming sent (c.events.invariant.going rules coming sent so_far)))

pub returns-clause-finished : goal.returns-clause-finished
returns-clause-finished g c = λ rules schedule sent so_far.
    let ended = ap Ok c.if-branch.false in
    let idle = c.in_ok-serve_next.ensures.idle ended in
    Finished-over rules schedule sent _ (g.D.Desk.told c.events.desk) (g.D.Desk.told c.serve_next.new.desk) _ _ _ _
    (c.events.invariant.going rules (Some schedule) sent so_far) (c.in_ok-serve_next.ensures.ended ended) idle.0 idle.1 idle.2
    (c.in_ok-serve_next.ensures.drained ended (c.events.invariant.going rules (Some schedule) sent so_far).ends)

pub events-preserved : goal.events-preserved
events-preserved g c =
    let next = c.in_ok-serve_next.ensures in
    let on = ap Ok c.if-branch.true in
    record {
      ready = next.ready on;
      going = λ rules coming sent so_far. next.going on rules coming sent (c.events.invariant.going rules coming sent so_far);
      ports = next.same.1 ∙ c.events.invariant.ports;
      above = λ rules coming sent so_far. PortsAboveStay-then _ _ (g.D.Desk.told c.args.desk.now) (g.D.Desk.told c.events.desk) (g.D.Desk.told c.serve_next.new.desk) c.events.invariant.ports
          (c.events.invariant.above rules coming sent so_far) (next.above rules coming sent (c.events.invariant.going rules coming sent so_far));
      only = Touches-then _ _ (g.D.Desk.told c.args.desk.now) (g.D.Desk.told c.events.desk) (g.D.Desk.told c.serve_next.new.desk) c.events.invariant.only next.only;
    }

pub returns-clause-above : goal.returns-clause-above
returns-clause-above g c = λ rules coming sent so_far.
    PortsAboveStay-then _ _ (g.D.Desk.told c.args.desk.now) (g.D.Desk.told c.events.desk) (g.D.Desk.told c.serve_next.new.desk) c.events.invariant.ports
    (c.events.invariant.above rules coming sent so_far) (c.serve_next.ensures.above rules coming sent (c.events.invariant.going rules coming sent so_far))

pub returns-in_err-serve_next-clause-above : goal.returns-in_err-serve_next-clause-above
returns-in_err-serve_next-clause-above g c = λ rules coming sent so_far.
    PortsAboveStay-then _ _ (g.D.Desk.told c.args.desk.now) (g.D.Desk.told c.events.desk) (g.D.Desk.told c.serve_next.new.desk) c.events.invariant.ports
    (c.events.invariant.above rules coming sent so_far) (c.serve_next.ensures.above rules coming sent (c.events.invariant.going rules coming sent so_far))
