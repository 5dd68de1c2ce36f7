-- What the keyboard and the mouse of a connector make of a class request: by their values, and by the calls
-- on each.
use Rattle.std.specs.Prelude.{◌≡◌, ℕ, ◌≤◌, Bool, true, false, ◌||◌, List, ◌∷◌, Option, Some, None, IsTrue, refl}
use Rattle.std.specs.Option.{option_or}
use Rattle.psd_base.specs.declared.packet.TheConstants.{PACKET_SIZE}
use Rattle.psd_base.specs.declared.setup.Setup.{Setup}
use Rattle.control_pipe.specs.declared.hid_request.HidRequest.{HidRequest}
use Rattle.control_pipe.specs.HidRequests.{hid_request}
use Rattle.control_pipe.specs.Requests.{request_of, function_for}
use Rattle.control_pipe.specs.Transfer.{Transfer, received}
use Rattle.emulated_keyboard.specs.KeyboardHistory.{KeyboardEntry}
use Rattle.emulated_keyboard.specs.ClassRequests as keyboard
use Rattle.emulated_mouse.specs.MouseHistory.{MouseEntry, Requested}
use Rattle.emulated_mouse.specs.ClassRequests as mouse
use Rattle.emulated_mouse.specs.declared.mouse.TheConstants.{INTERFACE as MOUSE_INTERFACE}
use Rattle.port_model.specs.ClassRequests.{takes_class_request}
use Rattle.km_port.specs.declared.km_function.KmFunction.{KmFunction}

-- what a class request that reads is answered: by the keyboard, else by the mouse
abbrev pub class_answer : KmFunction → Setup → Option (List ℕ)
class_answer value setup =
    option_or (keyboard.class_answer value.keyboard setup) (mouse.class_answer value.mouse setup)

-- what a completed one that writes makes of both; a request of the other interface changes nothing
abbrev pub after_class_request : KmFunction → ℕ → Setup → List ℕ → KmFunction
after_class_request value tick setup bytes = record {
  keyboard = keyboard.after_class_request value.keyboard tick setup bytes;
  mouse = mouse.after_class_request value.mouse setup;
}

-- The same by the calls

-- what the calls on the mouse and a completed request come to
abbrev pub with_mouse_request : Option HidRequest → List MouseEntry → List MouseEntry
with_mouse_request None pointer = pointer
with_mouse_request (Some request) pointer = Requested request ∷ pointer

abbrev pub with_mouse_class_request : Setup → List MouseEntry → List MouseEntry
with_mouse_class_request setup pointer = with_mouse_request (hid_request MOUSE_INTERFACE setup) pointer

-- The calls on each with what a completed transfer adds: a class request that writes is one more, on the
-- one whose interface it is of

abbrev pub keyboard_with_completed : ℕ → Option Transfer → List KeyboardEntry → List KeyboardEntry
keyboard_with_completed tick None keys = keys
keyboard_with_completed tick (Some transfer) keys =
    function_for (request_of transfer.setup)
    (keyboard.with_class_request tick transfer.setup (received transfer.acts) keys) keys

abbrev pub mouse_with_completed : Option Transfer → List MouseEntry → List MouseEntry
mouse_with_completed None pointer = pointer
mouse_with_completed (Some transfer) pointer =
    function_for (request_of transfer.setup) (with_mouse_class_request transfer.setup pointer) pointer

-- a request that is taken has a packet's bytes at most
either : (first second : Bool) (P : Type 0) → (IsTrue first → P) → (IsTrue second → P)
    → IsTrue (first || second) → P
either true second P by_first by_second taken = by_first taken
either false second P by_first by_second taken = by_second taken

pub taken-short : (setup : Setup) → IsTrue (takes_class_request setup) → setup.length ≤ PACKET_SIZE
taken-short setup taken =
    either (keyboard.takes_class_request setup) (mouse.takes_class_request setup)
    (setup.length ≤ PACKET_SIZE) (keyboard.taken-short setup) (mouse.taken-short setup) taken

-- what isn't taken changes nothing
neither : (first second : Bool) (P : Type 0) → (first ≡ false → second ≡ false → P)
    → (first || second) ≡ false → P
neither true second P by_both refused = absurd (cc)
neither false second P by_both refused = by_both refl refused

pub not_taken : (value : KmFunction) (tick : ℕ) (setup : Setup) (bytes : List ℕ)
    → takes_class_request setup ≡ false → after_class_request value tick setup bytes ≡ value
not_taken value tick setup bytes refused =
    neither (keyboard.takes_class_request setup) (mouse.takes_class_request setup)
    (after_class_request value tick setup bytes ≡ value)
    (λ no_key no_pointer.
    rw (
      keyboard.not_taken value.keyboard tick setup bytes no_key,
      mouse.not_taken value.mouse setup no_pointer,
    ) refl)
    refused
