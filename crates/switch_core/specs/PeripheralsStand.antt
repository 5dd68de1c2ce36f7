-- What the plugs of the keyboard and the mouse stand for: the moments at each.
use Rattle.std.specs.Prelude.{ℕ, ◌≤◌, List}
use Rattle.psd_base.specs.declared.console.Plug.TheVariants.{Keyboard, Mouse}
use Rattle.peripheral_filter.specs.declared.rule.RuleSet.{RuleSet}
use Rattle.console_plug.specs.Moments.{Moment}
use Rattle.console_plug.specs.PlugStands.{PlugStands}
use Rattle.console_plug.specs.ShownStands.{KeysStand, ButtonsStand}
use Rattle.switch_core.specs.declared.peripherals.Peripherals.{Peripherals}

pub record PeripheralsStand (rules : RuleSet) (value : Peripherals) (keyboard mouse : List Moment) : Type 0 where
  pub keyboard_is : PlugStands Keyboard rules value.keyboard keyboard
  pub mouse_is : PlugStands Mouse rules value.mouse mouse
  pub keys : KeysStand rules value.keys keyboard
  pub buttons : ButtonsStand rules value.buttons mouse

-- no plug had more lives than this
pub record HasLivesWithin (count : ℕ) (value : Peripherals) : Type 0 where
  pub keyboard : value.keyboard.life ≤ count
  pub mouse : value.mouse.life ≤ count
