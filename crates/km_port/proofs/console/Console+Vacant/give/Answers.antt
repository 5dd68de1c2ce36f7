-- The latches of a port that wasn't selected are as new.
use Rattle.std.proofs.Common.{false, refl}
use Rattle.emulated_keyboard.specs.Delivery as typed
use Rattle.emulated_mouse.specs.Delivery as moved
use Rattle.port_model.specs.OnePort.{parts_of}
use Rattle.km_port.proofs.Apart.{keys_apart, pointer_apart}
use Rattle.km_port.proofs.Showing.{typed-at, moved-at}
use Rattle.km_port.proofs.console.Console+Vacant.give.Goals as goal

pub returns-clause-stands : goal.returns-clause-stands
returns-clause-stands c = λ past vacant apart.
    let keys = typed-at (typed.Selected c.args.tick) (parts_of past).keys false apart.keyboard in
    let pointer = moved-at moved.Selected (parts_of past).pointer false apart.mouse in
    record {
      selected = record { keyboard = rw keys refl; mouse = rw pointer refl };
      keys = rw keys (keys_apart _ (parts_of past).keys apart.keyboard vacant.keys);
      pointer = rw pointer (pointer_apart _ (parts_of past).pointer apart.mouse vacant.pointer);
    }
