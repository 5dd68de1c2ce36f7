-- Delivery after every view of a port.
use Rattle.std.proofs.Common.{List}
use Rattle.port_model.specs.Concerns.{Item}
use Rattle.km_port.specs.Delivery.{Delivery}
use Rattle.km_port.proofs.KeyDelivery.{keys_read-all, keys_owed-all, keys_up-all}
use Rattle.km_port.proofs.PointerDelivery.{pointer_read-all, pointer_owed-all, buttons_up-all}

pub delivery-all : (past : List Item) → Delivery past
delivery-all past = record {
  keys = keys_read-all past;
  pointer = pointer_read-all past;
  apart = λ out. record {
    keys = keys_owed-all past out;
    pointer = pointer_owed-all past out;
    keys_up = keys_up-all past out;
    buttons_up = buttons_up-all past out;
  };
}
