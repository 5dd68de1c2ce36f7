-- Which descriptor of the keyboard's interface a setup asks for (HID 1.11, 7.1.1).
use Rattle.std.specs.Prelude.{ℕ, ◌≤◌, Bool, true, false, ◌&&◌, ◌==◌, List, length, Option, Some, None, IfSome, if◌then◌else◌}
use Rattle.std.proofs.Common.{lit≤}
use Rattle.psd_base.specs.declared.setup.Setup.{Setup}
use Rattle.control_pipe.specs.declared.codes.TheConstants.{FROM_INTERFACE, GET_DESCRIPTOR, HID_DESCRIPTOR, REPORT_DESCRIPTOR}
use Rattle.emulated_keyboard.specs.declared.descriptors.TheConstants.{KEYBOARD_HID, KEYBOARD_REPORT}
use Rattle.emulated_keyboard.specs.declared.keyboard.TheConstants.{INTERFACE}

abbrev pub is_asked_for : Setup → ℕ → Bool
is_asked_for setup value =
    setup.kind == FROM_INTERFACE && setup.request == GET_DESCRIPTOR && setup.value == value && setup.index == INTERFACE

unfoldable pub keyboard_descriptor : Setup → Option (List ℕ)
keyboard_descriptor setup =
    if is_asked_for setup HID_DESCRIPTOR then Some KEYBOARD_HID else
    (if is_asked_for setup REPORT_DESCRIPTOR then Some KEYBOARD_REPORT else
    None)

-- neither has more than 1,024 bytes
if_short : (test : Bool) (first second : Option (List ℕ)) → IfSome first (λ bytes. length bytes ≤ 1024) → IfSome second (λ bytes. length bytes ≤ 1024)
    → IfSome (if test then first else second) (λ bytes. length bytes ≤ 1024)
if_short true first second short_first short_second = short_first
if_short false first second short_first short_second = short_second

pub keyboard_descriptor-short : (setup : Setup) → IfSome (keyboard_descriptor setup) (λ bytes. length bytes ≤ 1024)
unfolding keyboard_descriptor
keyboard_descriptor-short setup =
    if_short (is_asked_for setup HID_DESCRIPTOR) _ _ (lit≤ tt)
    (if_short (is_asked_for setup REPORT_DESCRIPTOR) _ _ (lit≤ tt) tt)
