-- The keyboard, or the mouse, is polled.
use Rattle.std.proofs.Common.{◌∙◌, false, sym}
use Rattle.emulated_keyboard.specs.Delivery as typed
use Rattle.emulated_mouse.specs.Delivery as moved
use Rattle.km_port.proofs.Showing.{typed-at, moved-at}
use Rattle.km_port.proofs.port.poll_apart.Goals as goal

pub returns-in-Keyboard-clause-stands : goal.returns-in-Keyboard-clause-stands
returns-in-Keyboard-clause-stands c = λ parts stands.
    let after = typed-at (typed.Read c.args.tick c.in-Keyboard.acked) parts.keys false (sym stands.keyboard.entered ∙ c.requires.keyboard) in
    rw (sym (c.in-Keyboard.ensures parts.control stands.control)) (record {
      control = stands.control;
      keyboard = rw after (c.poll_apart_into.ensures.stands (typed.sides_of parts.keys).keyboard (rw c.function_mut.ensures.value stands.keyboard));
      mouse = rw c.function_mut.ensures.value stands.mouse;
    })

pub returns-in-Mouse-clause-stands : goal.returns-in-Mouse-clause-stands
returns-in-Mouse-clause-stands c = λ parts stands.
    let after = moved-at (moved.Read c.in-Mouse.acked) parts.pointer false (sym stands.mouse.entered ∙ c.requires.mouse) in
    rw (sym (c.in-Mouse.ensures parts.control stands.control)) (record {
      control = stands.control;
      keyboard = rw c.function_mut-in-Mouse.ensures.value stands.keyboard;
      mouse = rw after (c.poll_apart_into-in-Mouse.ensures.stands (moved.sides_of parts.pointer).mouse (rw c.function_mut-in-Mouse.ensures.value stands.mouse));
    })
