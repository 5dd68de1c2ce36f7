-- The law, moment by moment.
use Rattle.emulated_mouse.proofs.ReadLaws.{reads_all-all}
use Rattle.emulated_mouse.proofs.delivery.reads_all.Goals as goal

pub returns : goal.returns
returns c = reads_all-all
