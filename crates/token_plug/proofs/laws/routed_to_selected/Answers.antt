-- The law over all moments.
use Rattle.token_plug.proofs.Ownership.{routed_to_selected}
use Rattle.token_plug.proofs.laws.routed_to_selected.Goals as goal

pub returns : goal.returns
returns c = routed_to_selected
