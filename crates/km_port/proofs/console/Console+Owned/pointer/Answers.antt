-- What the mouse says is offered to the pointer latch.
use Rattle.std.proofs.Common.{true}
use Rattle.emulated_mouse.specs.Delivery as moved
use Rattle.port_model.specs.OnePort.{parts_of}
use Rattle.km_port.proofs.Showing.{moved-at}
use Rattle.km_port.proofs.console.Console+Owned.pointer.Goals as goal

pub returns-clause-stands : goal.returns-clause-stands
returns-clause-stands c = λ tick past stands.
    let after = moved-at (moved.Showed c.args.sample.now) (parts_of past).pointer true stands.selected.mouse in
    record {
      selected = record { keyboard = stands.selected.keyboard; mouse = rw after stands.selected.mouse };
      keys = stands.keys;
      pointer = rw after (c.sample.ensures.stands _ stands.pointer);
    }
