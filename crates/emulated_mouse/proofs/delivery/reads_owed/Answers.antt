-- The law, moment by moment.
use Rattle.emulated_mouse.proofs.ReadLaws.{reads_owed-all}
use Rattle.emulated_mouse.proofs.delivery.reads_owed.Goals as goal

pub returns : goal.returns
returns c = reads_owed-all
