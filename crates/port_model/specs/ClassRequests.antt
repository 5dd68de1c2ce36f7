-- Which class requests of a connector its keyboard and its mouse take, and what they answer after the calls on each.
use Rattle.std.specs.Prelude.{ℕ, Bool, ◌||◌, List, Option, Some, None}
use Rattle.std.specs.Option.{option_or}
use Rattle.psd_base.specs.declared.setup.Setup.{Setup}
use Rattle.control_pipe.specs.declared.hid_request.HidRequest.{HidRequest}
use Rattle.control_pipe.specs.HidRequests.{hid_request}
use Rattle.emulated_keyboard.specs.KeyboardHistory.{KeyboardEntry}
use Rattle.emulated_keyboard.specs.ClassRequests as keyboard
use Rattle.emulated_mouse.specs.MouseHistory.{MouseEntry, read_answer}
use Rattle.emulated_mouse.specs.ClassRequests as mouse
use Rattle.emulated_mouse.specs.declared.mouse.TheConstants.{INTERFACE as MOUSE_INTERFACE}

-- whether the keyboard or the mouse has a class request that writes
abbrev pub takes_class_request : Setup → Bool
takes_class_request setup = keyboard.takes_class_request setup || mouse.takes_class_request setup

-- what a setup is answered by the mouse after the calls on it
abbrev pub mouse_read_for : Option HidRequest → List MouseEntry → Option (List ℕ)
mouse_read_for None pointer = None
mouse_read_for (Some request) pointer = read_answer request pointer

abbrev pub mouse_answer_after : List MouseEntry → Setup → Option (List ℕ)
mouse_answer_after pointer setup = mouse_read_for (hid_request MOUSE_INTERFACE setup) pointer

-- what a setup is answered after the calls on both
abbrev pub class_answer_after : List KeyboardEntry → List MouseEntry → Setup → Option (List ℕ)
class_answer_after keys pointer setup =
    option_or (keyboard.class_answer_after keys setup) (mouse_answer_after pointer setup)
