-- What a moment gives to the computer that is selected: all that the keyboard, or the mouse, has down after it.
use Rattle.std.specs.Prelude.{ℕ, ◌<◌, Bool, List, ◌∷◌, Option, Some, None, nat_lt, if◌then◌else◌, pos, negsuc, ◌≤ℤ◌}
use Rattle.std.specs.Option.{option_map}
use Rattle.psd_base.specs.declared.console.Plug.TheVariants.{Keyboard, Mouse}
use Rattle.psd_base.specs.declared.sample.Sample.{Sample}
use Rattle.psd_base.specs.KeySet.{no_keys}
use Rattle.hid_report.specs.Keys.{keys_of}
use Rattle.hid_report.specs.Pointer.{pointer_of}
use Rattle.peripheral_filter.specs.declared.rule.RuleSet.{RuleSet}
use Rattle.console_plug.specs.Moments.{Moment, Attached, Detached, Replied, Reported, Ticked, Woke, Darkened}
use Rattle.console_plug.specs.Lives.{is_attached, life_at}
use Rattle.console_plug.specs.Shown.{shown_keys, shown_buttons, snapshot_of}

-- Of the keyboard: its keys where a report says something, and no key where a keyboard is taken off. Any other moment gives
-- nothing, also that at which the switch goes dark.
abbrev pub keys_given : RuleSet → Moment → List Moment → Option (List Bool)
keys_given rules (Reported interface bytes) past =
    option_map (λ said. shown_keys rules (Reported interface bytes ∷ past)) (snapshot_of keys_of Keyboard rules interface bytes (life_at Keyboard rules past))
keys_given rules Detached past = if is_attached past then Some no_keys else None
keys_given rules (Attached tick) past = None
keys_given rules (Replied life number tick reply) past = None
keys_given rules (Ticked tick) past = None
keys_given rules (Woke tick) past = None
keys_given rules Darkened past = None

-- the motion of a sample, with these buttons
abbrev pub with_buttons : ℕ → Sample → Sample
with_buttons buttons sample = record { buttons = buttons; x = sample.x; y = sample.y; wheel = sample.wheel }

-- no button, and no motion
abbrev pub still : Sample
still = record { buttons = 0; x = pos 0; y = pos 0; wheel = pos 0 }

-- Of the mouse: the motion of a report that says something, with the buttons of all interfaces, and nothing pressed and no
-- motion where a mouse is taken off. Any other moment gives nothing.
abbrev pub sample_given : RuleSet → Moment → List Moment → Option Sample
sample_given rules (Reported interface bytes) past =
    option_map (λ said. with_buttons (shown_buttons rules (Reported interface bytes ∷ past)) said.says) (snapshot_of pointer_of Mouse rules interface bytes (life_at Mouse rules past))
sample_given rules Detached past = if is_attached past then Some still else None
sample_given rules (Attached tick) past = None
sample_given rules (Replied life number tick reply) past = None
sample_given rules (Ticked tick) past = None
sample_given rules (Woke tick) past = None
sample_given rules Darkened past = None

-- a set of the buttons 1 to 5, in bits 0 to 4
abbrev pub is_button_set : ℕ → Bool
is_button_set buttons = nat_lt buttons 32

-- the form of a sample that the latch of the mouse takes
pub record IsSample (sample : Sample) : Type 0 where
  pub buttons : sample.buttons < 32
  pub x : negsuc 2147483646 ≤ℤ sample.x
  pub y : negsuc 2147483646 ≤ℤ sample.y
  pub wheel : negsuc 2147483646 ≤ℤ sample.wheel
