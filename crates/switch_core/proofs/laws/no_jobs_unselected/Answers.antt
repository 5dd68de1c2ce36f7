-- The law over whole histories.
use Rattle.switch_core.proofs.Owning.{no_jobs_unselected}
use Rattle.switch_core.proofs.laws.no_jobs_unselected.Goals as goal

pub returns : goal.returns
returns c = no_jobs_unselected
