-- Words that were not read as a command are none.
use Rattle.std.proofs.lemmas.Bool.{false≢true}
use Rattle.kvm_program.specs.declared.command.Command.TheVariants.{Replay, Check}
use Rattle.kvm_program.proofs.run.obey.Goals as goal

pub returns-in-None-clause-replay : goal.returns-in-None-clause-replay
returns-in-None-clause-replay g c = λ is. absurd (false≢true (c.in-None.ensures.found Replay is))

pub returns-in-None-clause-check : goal.returns-in-None-clause-check
returns-in-None-clause-check g c = λ is. absurd (false≢true (c.in-None.ensures.found Check is))
