-- The law, moment by moment.
use Rattle.emulated_keyboard.proofs.ReadingLaws.{read_all-all}
use Rattle.emulated_keyboard.proofs.delivery.reads_all.Goals as goal

pub returns : goal.returns
returns c = read_all-all
