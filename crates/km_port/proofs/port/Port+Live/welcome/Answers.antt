-- The keyboard and the mouse enter.
use Rattle.std.proofs.Common.{◌∙◌, false, sym}
use Rattle.emulated_keyboard.specs.Delivery as typed
use Rattle.emulated_mouse.specs.Delivery as moved
use Rattle.port_model.specs.OnePort.{parts_of}
use Rattle.km_port.proofs.Showing.{typed-at, moved-at}
use Rattle.km_port.proofs.port.Port+Live.welcome.Goals as goal

pub returns-clause-stands : goal.returns-clause-stands
returns-clause-stands c = λ past stands.
    let keys = typed-at (typed.Selected c.args.welcome.tick) (parts_of past).keys false (sym stands.parts.keyboard.entered ∙ c.requires.entered.keyboard) in
    let pointer = moved-at moved.Selected (parts_of past).pointer false (sym stands.parts.mouse.entered ∙ c.requires.entered.mouse) in
    record {
      live = stands.live;
      parts = record {
        control = stands.parts.control;
        keyboard = rw keys (c.enter.ensures.keyboard (typed.sides_of (parts_of past).keys).keyboard (rw c.function_mut.ensures.value stands.parts.keyboard));
        mouse = rw pointer (c.enter.ensures.mouse (moved.sides_of (parts_of past).pointer).mouse (rw c.function_mut.ensures.value stands.parts.mouse));
      };
    }
