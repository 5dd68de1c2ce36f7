-- The law over whole histories.
use Rattle.switch_core.proofs.Stamping.{lives_are_apart}
use Rattle.switch_core.proofs.laws.lives_are_apart.Goals as goal

pub returns : goal.returns
returns c = lives_are_apart
