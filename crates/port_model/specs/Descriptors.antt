-- Which descriptor of the emulated device a setup asks for (USB 2.0, 9.4.3).
use Rattle.std.specs.Prelude.{ℕ, ◌≤◌, Bool, true, false, ◌&&◌, ◌==◌, List, length, Option, Some, None, IfSome, if◌then◌else◌}
use Rattle.std.specs.Option.{option_or}
use Rattle.std.proofs.Common.{lit≤}
use Rattle.psd_base.specs.declared.setup.Setup.{Setup}
use Rattle.control_pipe.specs.declared.codes.TheConstants.{FROM_DEVICE, GET_DESCRIPTOR, DEVICE_DESCRIPTOR, CONFIGURATION_DESCRIPTOR}
use Rattle.emulated_keyboard.specs.Descriptors.{keyboard_descriptor, keyboard_descriptor-short}
use Rattle.emulated_mouse.specs.Descriptors.{mouse_descriptor, mouse_descriptor-short}
use Rattle.port_model.specs.declared.descriptors.TheConstants.{DEVICE, CONFIGURATION}

abbrev pub is_asked_for : Setup → ℕ → Bool
is_asked_for setup value =
    setup.kind == FROM_DEVICE && setup.request == GET_DESCRIPTOR && setup.value == value && setup.index == 0

unfoldable pub device_descriptor : Setup → Option (List ℕ)
device_descriptor setup =
    if is_asked_for setup DEVICE_DESCRIPTOR then Some DEVICE else
    (if is_asked_for setup CONFIGURATION_DESCRIPTOR then Some CONFIGURATION else
    None)

-- the device's own, else the keyboard's, else the mouse's
abbrev pub km_descriptor : Setup → Option (List ℕ)
km_descriptor setup =
    option_or (device_descriptor setup) (option_or (keyboard_descriptor setup) (mouse_descriptor setup))

-- no descriptor has more than 1,024 bytes
abbrev IsShort : Option (List ℕ) → Type 0
IsShort descriptor = IfSome descriptor (λ bytes. length bytes ≤ 1024)

if_short : (test : Bool) (first second : Option (List ℕ)) → IsShort first → IsShort second
    → IsShort (if test then first else second)
if_short true first second short_first short_second = short_first
if_short false first second short_first short_second = short_second

or_short : (first second : Option (List ℕ)) → IsShort first → IsShort second
    → IsShort (option_or first second)
or_short (Some bytes) second short_first short_second = short_first
or_short None second short_first short_second = short_second

device_descriptor-short : (setup : Setup) → IsShort (device_descriptor setup)
unfolding device_descriptor
device_descriptor-short setup =
    if_short (is_asked_for setup DEVICE_DESCRIPTOR) _ _ (lit≤ tt)
    (if_short (is_asked_for setup CONFIGURATION_DESCRIPTOR) _ _ (lit≤ tt) tt)

pub km_descriptor-short : (setup : Setup) → IfSome (km_descriptor setup) (λ bytes. length bytes ≤ 1024)
km_descriptor-short setup =
    or_short (device_descriptor setup) _ (device_descriptor-short setup)
    (or_short (keyboard_descriptor setup) _ (keyboard_descriptor-short setup) (mouse_descriptor-short setup))
