-- What the keyboard shows is offered to the key latch.
use Rattle.std.proofs.Common.{true}
use Rattle.emulated_keyboard.specs.Delivery as typed
use Rattle.port_model.specs.OnePort.{parts_of}
use Rattle.km_port.proofs.Showing.{typed-at}
use Rattle.km_port.proofs.console.Console+Owned.keys.Goals as goal

pub returns-clause-stands : goal.returns-clause-stands
returns-clause-stands c = λ tick past stands.
    let after = typed-at (typed.Showed c.args.keys.now) (parts_of past).keys true stands.selected.keyboard in
    record {
      selected = record { keyboard = rw after stands.selected.keyboard; mouse = stands.selected.mouse };
      keys = rw after (c.snapshot.ensures.stands _ stands.keys);
      pointer = stands.pointer;
    }
