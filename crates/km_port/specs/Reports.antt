-- How a computer reads the reports of its keyboard and of its mouse (HID 1.11, appendix B).
use Rattle.std.specs.Prelude.{ℕ, zero, suc, ◌+◌, ◌-◌, ◌/◌, ◌%◌, ◌^◌, ◌==◌, nat_le, ℤ, pos, negsuc, Bool, false, ◌&&◌, ◌||◌, List, [], ◌∷◌, if◌then◌else◌}
use Rattle.psd_base.specs.KeySet.{is_ordinary, is_modifier}
use Rattle.emulated_mouse.specs.Motion.{piece}
use Rattle.emulated_mouse.specs.Report.{report, released}
use Rattle.emulated_mouse.specs.declared.report.Report.{Report}

-- whether this bit of a byte is set
abbrev pub has_bit : ℕ → ℕ → Bool
has_bit byte place = byte / (2 ^ place) % 2 == 1

-- whether one of these places names a usage
abbrev pub is_named : List ℕ → ℕ → Bool
is_named [] usage = false
is_named (place ∷ places) usage = place == usage || is_named places usage

-- a flag for each of so many numbers from a first one on
unfoldable pub flags : (ℕ → Bool) → ℕ → ℕ → List Bool
flags is_set first zero = []
flags is_set first (suc n) = is_set first ∷ flags is_set (first + 1) n

-- Whether a keyboard's report shows a key: the first byte has a bit for each modifier, the second says nothing, and
-- the places behind them name the ordinary keys.
abbrev pub shows_key : List ℕ → ℕ → Bool
shows_key [] usage = false
shows_key (modifiers ∷ []) usage = false
shows_key (modifiers ∷ reserved ∷ places) usage =
    if is_modifier usage then has_bit modifiers (usage - 0xe0) else is_ordinary usage && is_named places usage

-- the keys that a keyboard's report shows
unfoldable pub keys_in : List ℕ → List Bool
keys_in bytes = flags (shows_key bytes) 0 256

-- a count from its byte in two's complement
abbrev pub count_in : ℕ → ℤ
count_in byte = if nat_le byte 127 then pos byte else negsuc (255 - byte)

-- what a mouse's report says: the buttons by their bits, X, Y and the wheel
unfoldable pub report_in : List ℕ → Report
report_in [] = released
report_in (buttons ∷ []) = released
report_in (buttons ∷ x ∷ []) = released
report_in (buttons ∷ x ∷ y ∷ []) = released
report_in (buttons ∷ x ∷ y ∷ wheel ∷ others) =
    report (flags (has_bit buttons) 0 5) (piece (count_in x) (count_in y) (count_in wheel))
