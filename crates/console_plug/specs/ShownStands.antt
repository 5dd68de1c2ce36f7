-- What is kept of the snapshots is what they show.
use Rattle.std.specs.Prelude.{◌≡◌, List}
use Rattle.psd_base.specs.KeySet.{no_keys}
use Rattle.peripheral_filter.specs.declared.rule.RuleSet.{RuleSet}
use Rattle.console_plug.specs.declared.shown_keys.ShownKeys.{ShownKeys}
use Rattle.console_plug.specs.declared.shown_buttons.ShownButtons.{ShownButtons}
use Rattle.console_plug.specs.Moments.{Moment}
use Rattle.console_plug.specs.Shown.{last_of_each, key_snapshots, button_snapshots, shown_keys, shown_buttons}

pub record KeysStand (rules : RuleSet) (value : ShownKeys) (past : List Moment) : Type 0 where
  pub each : value.each ≡ last_of_each no_keys (key_snapshots rules past)
  pub all : value.all ≡ shown_keys rules past

pub record ButtonsStand (rules : RuleSet) (value : ShownButtons) (past : List Moment) : Type 0 where
  pub each : value.each ≡ last_of_each 0 (button_snapshots rules past)
  pub all : value.all ≡ shown_buttons rules past
