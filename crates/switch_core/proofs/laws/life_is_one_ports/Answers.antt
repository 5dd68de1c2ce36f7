-- The law over whole histories.
use Rattle.switch_core.proofs.Stamping.{life_is_one_ports}
use Rattle.switch_core.proofs.laws.life_is_one_ports.Goals as goal

pub returns : goal.returns
returns c = life_is_one_ports
