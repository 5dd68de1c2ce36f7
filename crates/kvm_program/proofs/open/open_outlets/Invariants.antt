-- Nothing grew so far.
use Rattle.kvm_program.specs.Outlets.{Untouched}
use Rattle.kvm_program.proofs.open.open_outlets.Given as goal

abbrev pub invariant-loop-number : goal.invariant-loop-number
invariant-loop-number g l = Untouched (g.D.Desk.told l.fn.desk) (g.D.Desk.told l.desk)
