-- The law over all moments.
use Rattle.token_plug.proofs.Ownership.{two_ports_two_lives}
use Rattle.token_plug.proofs.laws.two_ports_two_lives.Goals as goal

pub returns : goal.returns
returns c = two_ports_two_lives
