-- The law over all moments.
use Rattle.token_plug.proofs.Barring.{barred_until_detached}
use Rattle.token_plug.proofs.laws.barred_until_detached.Goals as goal

pub returns : goal.returns
returns c = barred_until_detached
