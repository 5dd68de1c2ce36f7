-- The law over whole schedules.
use Rattle.switch_core.proofs.Commuting.{same_words_same_switch}
use Rattle.switch_core.proofs.laws.same_words_same_switch.Goals as goal

pub returns : goal.returns
returns c = same_words_same_switch
