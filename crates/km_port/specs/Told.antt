-- What a completed request, or a bus reset, is to the keyboard and to the mouse.
use Rattle.std.specs.Prelude.{ℕ, ◌==◌, List, ◌∷◌, if◌then◌else◌}
use Rattle.control_pipe.specs.declared.reaction.Effect.{Effect}
use Rattle.control_pipe.specs.declared.reaction.Effect.TheVariants as effect
use Rattle.emulated_keyboard.specs.KeyboardHistory.{KeyboardEntry}
use Rattle.emulated_keyboard.specs.KeyboardHistory as typed
use Rattle.emulated_mouse.specs.MouseHistory.{MouseEntry}
use Rattle.emulated_mouse.specs.MouseHistory as moved

abbrev pub keyboard_told : ℕ → Effect → List KeyboardEntry → List KeyboardEntry
keyboard_told tick effect.Nothing past = past
keyboard_told tick effect.Reset past = typed.Reset tick ∷ past
keyboard_told tick effect.Configured past = typed.Configured ∷ past
keyboard_told tick (effect.Restart endpoint) past = if endpoint == 1 then typed.Restarted ∷ past else past

abbrev pub mouse_told : Effect → List MouseEntry → List MouseEntry
mouse_told effect.Nothing past = past
mouse_told effect.Reset past = moved.Reset ∷ past
mouse_told effect.Configured past = moved.Configured ∷ past
mouse_told (effect.Restart endpoint) past = if endpoint == 2 then moved.Restarted ∷ past else past
