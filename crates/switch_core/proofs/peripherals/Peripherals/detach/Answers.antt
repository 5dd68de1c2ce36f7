-- What is taken off shows nothing.
use Rattle.psd_base.specs.declared.console.Plug.TheVariants.{Keyboard, Mouse}
use Rattle.switch_core.proofs.peripherals.Peripherals.detach.Goals as goal

pub returns-in-Keyboard-clause-stands : goal.returns-in-Keyboard-clause-stands
returns-in-Keyboard-clause-stands c = λ rules keyboard mouse g. rw c.in-Keyboard.is (record {
  keyboard_is = c.detach.ensures.stands Keyboard rules keyboard g.keyboard_is;
  mouse_is = g.mouse_is;
  keys = c.clear.ensures.detached rules keyboard;
  buttons = g.buttons;
})

pub returns-in-Mouse-clause-stands : goal.returns-in-Mouse-clause-stands
returns-in-Mouse-clause-stands c = λ rules keyboard mouse g. rw c.in-Mouse.is (record {
  keyboard_is = g.keyboard_is;
  mouse_is = c.detach-in-Mouse.ensures.stands Mouse rules mouse g.mouse_is;
  keys = g.keys;
  buttons = c.clear-in-Mouse.ensures.detached rules mouse;
})
