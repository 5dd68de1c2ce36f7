-- A fault line moves nothing of what the commands promise.
use Rattle.psd_base.specs.declared.outlet.Outlet.TheVariants as outlet
use Rattle.kvm_program.proofs.Commands.{Checks-told, FaultWritten-told, Replays-told}
use Rattle.kvm_program.proofs.run.kvm.Goals as goal

pub returns-in-Err-clause-replay : goal.returns-in-Err-clause-replay
returns-in-Err-clause-replay g c = λ words.
    Replays-told _ (g.D.Desk.told c.args.desk.now) (g.D.Desk.told c.obey.new.desk) (g.D.Desk.told c.write_fault.new.desk) (c.in-Err.ensures.replay words) c.write_fault.ensures.only

pub returns-in-Err-clause-check : goal.returns-in-Err-clause-check
returns-in-Err-clause-check g c = λ words.
    Checks-told _ (g.D.Desk.told c.args.desk.now) (g.D.Desk.told c.obey.new.desk) (g.D.Desk.told c.write_fault.new.desk) (c.in-Err.ensures.check words) c.write_fault.ensures.only

pub returns-in-Err-clause-faults : goal.returns-in-Err-clause-faults
returns-in-Err-clause-faults g c =
    FaultWritten-told _ (g.D.Desk.told c.args.desk.now) (g.D.Desk.told c.obey.new.desk) (g.D.Desk.told c.write_fault.new.desk) c.obey.ensures.faults
    (c.obey.ensures.counts outlet.Faults) c.write_fault.ensures.wrote
