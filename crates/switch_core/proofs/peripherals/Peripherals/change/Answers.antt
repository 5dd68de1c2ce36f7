-- In the dark nothing is shown.
use Rattle.psd_base.specs.declared.console.Plug.TheVariants.{Keyboard, Mouse}
use Rattle.switch_core.proofs.peripherals.Peripherals.change.Goals as goal

pub returns-in-Darkens-clause-stands : goal.returns-in-Darkens-clause-stands
returns-in-Darkens-clause-stands c = λ rules keyboard mouse g. rw c.in-Darkens.is (record {
  keyboard_is = c.darken.ensures.stands Keyboard rules keyboard g.keyboard_is;
  mouse_is = c.darken-in-Darkens.ensures.stands Mouse rules mouse g.mouse_is;
  keys = c.clear.ensures.darkened rules keyboard;
  buttons = c.clear-in-Darkens.ensures.darkened rules mouse;
})
