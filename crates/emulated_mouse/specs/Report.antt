-- The report of a mouse.
use Rattle.std.specs.Prelude.{ℕ, ◌+◌, ◌-◌, ℤ, pos, negsuc, Bool, List, [], ◌∷◌, if◌then◌else◌}
use Rattle.psd_base.specs.KeySet.{has_key}
use Rattle.input_latch.specs.Buttons.{no_buttons}
use Rattle.emulated_mouse.specs.declared.motion.Piece.{Piece}
use Rattle.emulated_mouse.specs.declared.report.Report.{Report}
use Rattle.emulated_mouse.specs.Motion.{still_piece}

abbrev pub report : List Bool → Piece → Report
report buttons moved = record { buttons = buttons; moved = moved }

-- the report with no button down and no motion
abbrev pub released : Report
released = report no_buttons still_piece

abbrev pub bit_of : List Bool → ℕ → ℕ → ℕ
bit_of buttons place bit = if has_key buttons place then bit else 0

-- a bit for each button, that of button 1 first
abbrev pub button_bits : List Bool → ℕ
button_bits buttons = bit_of buttons 0 1 + bit_of buttons 1 2 + bit_of buttons 2 4 + bit_of buttons 3 8 + bit_of buttons 4 16

-- a count as a byte in two's complement
abbrev pub byte_of : ℤ → ℕ
byte_of (pos n) = n
byte_of (negsuc n) = 255 - n

-- the buttons, X, Y and the wheel
abbrev pub report_bytes : Report → List ℕ
report_bytes shown =
    button_bits shown.buttons ∷ byte_of shown.moved.x ∷ byte_of shown.moved.y ∷ byte_of shown.moved.wheel ∷ []
