-- The law, moment by moment.
use Rattle.emulated_keyboard.proofs.ApartLaws.{release_read-all}
use Rattle.emulated_keyboard.proofs.delivery.reads_release.Goals as goal

pub returns : goal.returns
returns c = release_read-all
