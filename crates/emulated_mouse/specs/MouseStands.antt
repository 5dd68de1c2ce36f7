-- The value of an emulated mouse, and of which histories it is the result.
use Rattle.std.specs.Prelude.{◌≡◌, Bool, true, false, List, [], length}
use Rattle.control_pipe.specs.declared.hid_settings.HidSettings.{HidSettings}
use Rattle.input_latch.specs.Buttons.{no_buttons}
use Rattle.input_latch.specs.PointerHistory.{held_after}
use Rattle.emulated_mouse.specs.declared.motion.Motion.{Motion}
use Rattle.emulated_mouse.specs.declared.report.Report.{Report}
use Rattle.emulated_mouse.specs.MouseHistory.{MouseEntry, begun, rest, last_made, is_unread, was_left, is_due, toggle_of, settings, is_entered}

-- the report that was made last, what is left of a motion, whether that report is unacknowledged, whether the port was
-- left since, the toggle, what the host set, and whether the port is selected
pub record MouseValue : Type 0 where
  pub last : Report
  pub rest : Motion
  pub unread : Bool
  pub left : Bool
  pub toggle : Bool
  pub settings : HidSettings
  pub entered : Bool

pub record MouseStands (mouse : MouseValue) (past : List MouseEntry) : Type 0 where
  pub last : mouse.last ≡ last_made past
  pub rest : mouse.rest ≡ rest past
  pub unread : mouse.unread ≡ is_unread past
  pub left : mouse.left ≡ was_left past
  pub toggle : mouse.toggle ≡ toggle_of past
  pub set : mouse.settings ≡ settings past
  pub entered : mouse.entered ≡ is_entered past
  pub one_each : length (last_made past).buttons ≡ 5
  -- while the port is selected and no release is due, the last report shows the changes of the span
  pub shows : is_entered past ≡ true → is_due past ≡ false → (last_made past).buttons ≡ held_after (begun past)
  -- while a release may be due, nothing was begun in the span
  pub fresh : is_entered past ≡ true → was_left past ≡ true → begun past ≡ []
  -- while the port isn't selected, a report with a button down was made before it was left
  pub apart : is_entered past ≡ false → was_left past ≡ false → (last_made past).buttons ≡ no_buttons
