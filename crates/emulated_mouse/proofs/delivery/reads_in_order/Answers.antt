-- The law, from what is read of the accepted changes.
use Rattle.emulated_mouse.proofs.OrderLaws.{reads_in_order-all}
use Rattle.emulated_mouse.proofs.delivery.reads_in_order.Goals as goal

pub returns : goal.returns
returns c = reads_in_order-all
