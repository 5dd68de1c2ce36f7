-- The keyboard, or the mouse, is polled, and may take from its latch.
use Rattle.std.proofs.Common.{true, sym}
use Rattle.emulated_keyboard.specs.Delivery as typed
use Rattle.emulated_mouse.specs.Delivery as moved
use Rattle.km_port.proofs.Showing.{typed-at, moved-at}
use Rattle.km_port.proofs.port.poll_owned.Goals as goal

pub returns-in-Keyboard-clause-stands : goal.returns-in-Keyboard-clause-stands
returns-in-Keyboard-clause-stands c = λ parts stands latches.
    let after = typed-at (typed.Read c.args.tick c.in-Keyboard.acked) parts.keys true latches.selected.keyboard in
    rw (sym (c.in-Keyboard.ensures parts.control stands.control)) (record {
      control = stands.control;
      keyboard = rw after (c.poll_into.ensures.stands (typed.sides_of parts.keys).keyboard (typed.sides_of parts.keys).latch (rw c.function_mut.ensures.value stands.keyboard) latches.keys);
      mouse = rw c.function_mut.ensures.value stands.mouse;
    })

pub returns-in-Keyboard-clause-console : goal.returns-in-Keyboard-clause-console
returns-in-Keyboard-clause-console c = λ parts stands latches.
    let after = typed-at (typed.Read c.args.tick c.in-Keyboard.acked) parts.keys true latches.selected.keyboard in
    rw (sym (c.in-Keyboard.ensures parts.control stands.control)) (record {
      selected = record { keyboard = rw after latches.selected.keyboard; mouse = latches.selected.mouse };
      keys = rw after (c.poll_into.ensures.latch (typed.sides_of parts.keys).keyboard (typed.sides_of parts.keys).latch (rw c.function_mut.ensures.value stands.keyboard) latches.keys);
      pointer = latches.pointer;
    })

pub returns-in-Mouse-clause-stands : goal.returns-in-Mouse-clause-stands
returns-in-Mouse-clause-stands c = λ parts stands latches.
    let after = moved-at (moved.Read c.in-Mouse.acked) parts.pointer true latches.selected.mouse in
    rw (sym (c.in-Mouse.ensures parts.control stands.control)) (record {
      control = stands.control;
      keyboard = rw c.function_mut-in-Mouse.ensures.value stands.keyboard;
      mouse = rw after (c.poll_into-in-Mouse.ensures.stands (moved.sides_of parts.pointer).mouse (moved.sides_of parts.pointer).latch (rw c.function_mut-in-Mouse.ensures.value stands.mouse) latches.pointer);
    })

pub returns-in-Mouse-clause-console : goal.returns-in-Mouse-clause-console
returns-in-Mouse-clause-console c = λ parts stands latches.
    let after = moved-at (moved.Read c.in-Mouse.acked) parts.pointer true latches.selected.mouse in
    rw (sym (c.in-Mouse.ensures parts.control stands.control)) (record {
      selected = record { keyboard = latches.selected.keyboard; mouse = rw after latches.selected.mouse };
      keys = latches.keys;
      pointer = rw after (c.poll_into-in-Mouse.ensures.latch (moved.sides_of parts.pointer).mouse (moved.sides_of parts.pointer).latch (rw c.function_mut-in-Mouse.ensures.value stands.mouse) latches.pointer);
    })
