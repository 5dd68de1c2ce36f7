-- All buttons are up, and no port is selected.
use Rattle.selector.proofs.Stands.{stands-new}
use Rattle.selector.proofs.selector.Selector.new.Goals as goal

pub returns : goal.returns
returns c = stands-new
