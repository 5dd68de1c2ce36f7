-- The law over whole histories.
use Rattle.switch_core.proofs.Owning.{heard_by_owner_alone}
use Rattle.switch_core.proofs.laws.heard_by_owner_alone.Goals as goal

pub returns : goal.returns
returns c = heard_by_owner_alone
