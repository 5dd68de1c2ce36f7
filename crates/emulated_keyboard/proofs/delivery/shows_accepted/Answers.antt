-- The law, moment by moment.
use Rattle.emulated_keyboard.proofs.DeliveryLaws.{shows_accepted-all}
use Rattle.emulated_keyboard.proofs.delivery.shows_accepted.Goals as goal

pub returns : goal.returns
returns c = shows_accepted-all
