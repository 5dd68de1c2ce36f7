-- The law over whole histories.
use Rattle.switch_core.proofs.Owning.{jobs_are_the_owners}
use Rattle.switch_core.proofs.laws.jobs_are_the_owners.Goals as goal

pub returns : goal.returns
returns c = jobs_are_the_owners
