-- The class requests of the keyboard's interface: what a setup is answered, and what it makes of the keyboard.
use Rattle.std.specs.Prelude.{◌≡◌, ℕ, ◌≤◌, Bool, false, List, ◌∷◌, Option, Some, None, IsTrue, refl}
use Rattle.std.proofs.Common.{sym}
use Rattle.std.proofs.lemmas.Bool.{false≢true}
use Rattle.psd_base.specs.declared.packet.TheConstants.{PACKET_SIZE}
use Rattle.psd_base.specs.declared.setup.Setup.{Setup}
use Rattle.control_pipe.specs.declared.hid_request.HidRequest.{HidRequest}
use Rattle.control_pipe.specs.declared.hid_request.HidRequest.TheVariants.{GetInput, GetOutput, GetIdle, GetProtocol, SetOutput, SetIdle, SetProtocol}
use Rattle.control_pipe.specs.HidRequests.{hid_request, is_setting}
use Rattle.control_pipe.proofs.HidLaws.{hid_request-short}
use Rattle.emulated_keyboard.specs.declared.keyboard.TheConstants.{INTERFACE}
use Rattle.emulated_keyboard.specs.KeyboardHistory.{KeyboardEntry, Requested, read_answer}
use Rattle.emulated_keyboard.specs.KeyboardStands.{KeyboardValue}
use Rattle.emulated_keyboard.specs.KeyboardSteps.{requested_step, value_answer}

-- what a setup is answered, whether it is taken, and what it makes of the keyboard, by the keyboard's value
abbrev pub answer_for : Option HidRequest → KeyboardValue → Option (List ℕ)
answer_for None keyboard = None
answer_for (Some request) keyboard = value_answer request keyboard

abbrev pub class_answer : KeyboardValue → Setup → Option (List ℕ)
class_answer keyboard setup = answer_for (hid_request INTERFACE setup) keyboard

abbrev pub takes_request : Option HidRequest → Bool
takes_request None = false
takes_request (Some request) = is_setting request

abbrev pub takes_class_request : Setup → Bool
takes_class_request setup = takes_request (hid_request INTERFACE setup)

abbrev pub after_request : Option HidRequest → ℕ → List ℕ → KeyboardValue → KeyboardValue
after_request None tick bytes keyboard = keyboard
after_request (Some request) tick bytes keyboard = requested_step tick request bytes keyboard

abbrev pub after_class_request : KeyboardValue → ℕ → Setup → List ℕ → KeyboardValue
after_class_request keyboard tick setup bytes = after_request (hid_request INTERFACE setup) tick bytes keyboard

-- the same by the calls of the keyboard: what they and a completed request come to, and what a setup is answered after them
abbrev pub with_request : Option HidRequest → ℕ → List ℕ → List KeyboardEntry → List KeyboardEntry
with_request None tick bytes past = past
with_request (Some request) tick bytes past = Requested tick request bytes ∷ past

abbrev pub with_class_request : ℕ → Setup → List ℕ → List KeyboardEntry → List KeyboardEntry
with_class_request tick setup bytes past = with_request (hid_request INTERFACE setup) tick bytes past

abbrev pub read_for : Option HidRequest → List KeyboardEntry → Option (List ℕ)
read_for None past = None
read_for (Some request) past = read_answer request past

abbrev pub class_answer_after : List KeyboardEntry → Setup → Option (List ℕ)
class_answer_after past setup = read_for (hid_request INTERFACE setup) past

-- a request that is taken has a packet's bytes at most
pub taken-short : (setup : Setup) → IsTrue (takes_class_request setup) → setup.length ≤ PACKET_SIZE
taken-short setup taken = by (hid_request INTERFACE setup) refl taken where
  by : (found : Option HidRequest) → hid_request INTERFACE setup ≡ found → IsTrue (takes_request found) → setup.length ≤ PACKET_SIZE
  by None is taken = absurd (false≢true taken)
  by (Some request) is taken = hid_request-short INTERFACE setup request is taken

-- what isn't taken changes nothing
kept : (request : HidRequest) (tick : ℕ) (bytes : List ℕ) (keyboard : KeyboardValue) → is_setting request ≡ false → requested_step tick request bytes keyboard ≡ keyboard
kept GetInput tick bytes keyboard not_set = refl
kept GetOutput tick bytes keyboard not_set = refl
kept GetIdle tick bytes keyboard not_set = refl
kept GetProtocol tick bytes keyboard not_set = refl
kept SetOutput tick bytes keyboard not_set = absurd (false≢true (sym not_set))
kept (SetIdle rate) tick bytes keyboard not_set = absurd (false≢true (sym not_set))
kept (SetProtocol protocol) tick bytes keyboard not_set = absurd (false≢true (sym not_set))

pub not_taken : (keyboard : KeyboardValue) (tick : ℕ) (setup : Setup) (bytes : List ℕ) → takes_class_request setup ≡ false → after_class_request keyboard tick setup bytes ≡ keyboard
not_taken keyboard tick setup bytes refused = by (hid_request INTERFACE setup) refused where
  by : (found : Option HidRequest) → takes_request found ≡ false → after_request found tick bytes keyboard ≡ keyboard
  by None refused = refl
  by (Some request) refused = kept request tick bytes keyboard refused
