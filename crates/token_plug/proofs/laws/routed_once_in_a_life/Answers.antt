-- The law over all moments.
use Rattle.token_plug.proofs.Ownership.{routed_once_in_a_life}
use Rattle.token_plug.proofs.laws.routed_once_in_a_life.Goals as goal

pub returns : goal.returns
returns c = routed_once_in_a_life
