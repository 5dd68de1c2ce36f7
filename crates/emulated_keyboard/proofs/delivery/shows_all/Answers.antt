-- The law, moment by moment.
use Rattle.emulated_keyboard.proofs.DeliveryLaws.{all_shown-all}
use Rattle.emulated_keyboard.proofs.delivery.shows_all.Goals as goal

pub returns : goal.returns
returns c = all_shown-all
