-- Nothing was told yet.
use Rattle.std.proofs.Common.{refl}
use Rattle.emulated_keyboard.specs.Delivery as typed
use Rattle.emulated_mouse.specs.Delivery as moved
use Rattle.km_port.proofs.port.Port+Dark.wake.Goals as goal

pub returns-clause-stands : goal.returns-clause-stands
unfolding typed.sides_of moved.sides_of
returns-clause-stands c = λ tick past. record {
  live = refl;
  parts = record {
    control = c.new-2.ensures.stands;
    keyboard = rw c.new-2.ensures.function c.new.ensures.keyboard;
    mouse = rw c.new-2.ensures.function c.new.ensures.mouse;
  };
}
