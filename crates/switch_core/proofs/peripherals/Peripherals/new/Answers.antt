-- Plugs at which nothing happened.
use Rattle.switch_core.proofs.peripherals.Peripherals.new.Goals as goal

pub returns-clause-stands : goal.returns-clause-stands
returns-clause-stands c = λ rules. record {
  keyboard_is = c.new.ensures.stands rules;
  mouse_is = c.new-2.ensures.stands rules;
  keys = c.new-3.ensures rules;
  buttons = c.new-4.ensures rules;
}
