-- The value of an emulated keyboard, and of which histories it is the result.
use Rattle.std.specs.Prelude.{◌≡◌, ℕ, Bool, true, false, List, []}
use Rattle.psd_base.specs.KeySet.{no_keys, IsKeySet}
use Rattle.control_pipe.specs.declared.hid_settings.HidSettings.{HidSettings}
use Rattle.input_latch.specs.KeyHistory.{held_after}
use Rattle.emulated_keyboard.specs.KeyboardHistory.{KeyboardEntry, shown, last_made, is_unread, was_left, is_due, toggle_of, settings, lamps, idle_since, is_entered}

-- the keys of the report that was made last, whether it is unacknowledged, whether the port was left since, the toggle,
-- what the host set, the tick from which the idle rate counts, and whether the port is selected
pub record KeyboardValue : Type 0 where
  pub last : List Bool
  pub unread : Bool
  pub left : Bool
  pub toggle : Bool
  pub settings : HidSettings
  pub lamps : ℕ
  pub idle_since : ℕ
  pub entered : Bool

pub record KeyboardStands (keyboard : KeyboardValue) (past : List KeyboardEntry) : Type 0 where
  pub last : keyboard.last ≡ last_made past
  pub unread : keyboard.unread ≡ is_unread past
  pub left : keyboard.left ≡ was_left past
  pub toggle : keyboard.toggle ≡ toggle_of past
  pub set : keyboard.settings ≡ settings past
  pub lit : keyboard.lamps ≡ lamps past
  pub since : keyboard.idle_since ≡ idle_since past
  pub entered : keyboard.entered ≡ is_entered past
  pub form : IsKeySet (last_made past)
  -- while the port is selected and no release is due, the last report shows the changes of the span
  pub shows : is_entered past ≡ true → is_due past ≡ false → last_made past ≡ held_after (shown past)
  -- while a release may be due, nothing was shown in the span
  pub fresh : is_entered past ≡ true → was_left past ≡ true → shown past ≡ []
  -- while the port isn't selected, a report with something pressed was made before it was left
  pub apart : is_entered past ≡ false → was_left past ≡ false → last_made past ≡ no_keys
