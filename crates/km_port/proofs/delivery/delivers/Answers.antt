-- The law, by what the reader of each endpoint sees.
use Rattle.km_port.proofs.DeliveryLaw.{delivery-all}
use Rattle.km_port.proofs.delivery.delivers.Goals as goal

pub returns : goal.returns
returns c = delivery-all
