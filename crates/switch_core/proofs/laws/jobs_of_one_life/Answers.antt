-- The law over whole histories.
use Rattle.switch_core.proofs.Owning.{jobs_of_one_life}
use Rattle.switch_core.proofs.laws.jobs_of_one_life.Goals as goal

pub returns : goal.returns
returns c = jobs_of_one_life
