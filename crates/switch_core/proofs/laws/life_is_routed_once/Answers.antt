-- The law over whole histories.
use Rattle.switch_core.proofs.Owning.{life_is_routed_once}
use Rattle.switch_core.proofs.laws.life_is_routed_once.Goals as goal

pub returns : goal.returns
returns c = life_is_routed_once
