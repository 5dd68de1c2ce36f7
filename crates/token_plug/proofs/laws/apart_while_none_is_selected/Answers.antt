-- The law over all moments.
use Rattle.token_plug.proofs.Ownership.{apart_while_none_is_selected}
use Rattle.token_plug.proofs.laws.apart_while_none_is_selected.Goals as goal

pub returns : goal.returns
returns c = apart_while_none_is_selected
