-- The law, moment by moment.
use Rattle.emulated_keyboard.proofs.ReadingLaws.{reads_accepted-all}
use Rattle.emulated_keyboard.proofs.delivery.reads_accepted.Goals as goal

pub returns : goal.returns
returns c = reads_accepted-all
