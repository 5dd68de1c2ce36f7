-- The law over all moments.
use Rattle.token_plug.proofs.Naming.{refusals_are_named}
use Rattle.token_plug.proofs.laws.refusals_are_named.Goals as goal

pub returns : goal.returns
returns c = refusals_are_named
