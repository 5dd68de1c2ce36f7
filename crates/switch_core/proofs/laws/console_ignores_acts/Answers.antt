-- The law over whole histories.
use Rattle.switch_core.proofs.Independence.{console_ignores_acts}
use Rattle.switch_core.proofs.laws.console_ignores_acts.Goals as goal

pub returns : goal.returns
returns c = console_ignores_acts
