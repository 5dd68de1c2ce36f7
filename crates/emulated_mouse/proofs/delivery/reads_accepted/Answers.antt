-- The law, moment by moment.
use Rattle.emulated_mouse.proofs.ReadLaws.{reads_accepted-all}
use Rattle.emulated_mouse.proofs.delivery.reads_accepted.Goals as goal

pub returns : goal.returns
returns c = reads_accepted-all
