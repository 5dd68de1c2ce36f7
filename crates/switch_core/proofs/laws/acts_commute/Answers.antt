-- The law over whole schedules.
use Rattle.switch_core.proofs.Commuting.{acts_commute}
use Rattle.switch_core.proofs.laws.acts_commute.Goals as goal

pub returns : goal.returns
returns c = acts_commute
