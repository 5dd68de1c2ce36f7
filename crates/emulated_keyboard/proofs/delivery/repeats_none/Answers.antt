-- The law, moment by moment.
use Rattle.emulated_keyboard.proofs.RepeatLaws.{all_by_change-all}
use Rattle.emulated_keyboard.proofs.delivery.repeats_none.Goals as goal

pub returns : goal.returns
returns c = all_by_change-all
