-- The law, moment by moment.
use Rattle.emulated_keyboard.proofs.ApartLaws.{reads_owed-all}
use Rattle.emulated_keyboard.proofs.delivery.reads_owed.Goals as goal

pub returns : goal.returns
returns c = reads_owed-all
