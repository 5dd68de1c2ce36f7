-- However far the replay came, it came there from the start.
use Rattle.std.proofs.Common.{◌≡◌, ◌-◌, Option}
use Rattle.psd_base.specs.Desk.{Told}
use Rattle.peripheral_filter.specs.declared.rule.RuleSet.{RuleSet}
use Rattle.capture_reader.specs.Schedule.{Schedule}
use Rattle.kvm_program.specs.Outlets.{OnlyServes}
use Rattle.kvm_program.specs.Progress.{Progress, IsReady, PortsAboveStay}
use Rattle.kvm_program.proofs.replay.Server.serve_all.Given as goal

abbrev pub invariant-events : goal.invariant-events
invariant-events g l = record {
  ready : IsReady l.reader l.self.switch l.self.tally;
  going : (rules : RuleSet) (coming : Option Schedule) (start : Told) →
      Progress rules coming start l.fn.reader (g.D.Desk.told l.fn.desk) l.fn.self.switch l.fn.self.tally →
      Progress rules coming start l.reader (g.D.Desk.told l.desk) l.self.switch l.self.tally;
  ports : l.reader.ports ≡ l.fn.reader.ports;
  above : (rules : RuleSet) (coming : Option Schedule) (start : Told) →
      Progress rules coming start l.fn.reader (g.D.Desk.told l.fn.desk) l.fn.self.switch l.fn.self.tally →
      PortsAboveStay l.fn.reader.ports (g.D.Desk.told l.fn.desk) (g.D.Desk.told l.desk);
  only : OnlyServes (g.D.Desk.told l.fn.desk) (g.D.Desk.told l.desk);
}

abbrev pub decreases-events : goal.decreases-events
decreases-events g l = l.reader.limit - l.reader.served
