-- The law, moment by moment.
use Rattle.emulated_mouse.proofs.MadeLaws.{makes_accepted-all}
use Rattle.emulated_mouse.proofs.delivery.makes_accepted.Goals as goal

pub returns : goal.returns
returns c = makes_accepted-all
