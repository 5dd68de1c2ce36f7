-- The class requests of the mouse's interface: what a setup is answered, and what it makes of the mouse.
use Rattle.std.specs.Prelude.{◌≡◌, ℕ, ◌≤◌, Bool, true, false, List, Option, Some, None, IsTrue, refl}
use Rattle.std.proofs.Common.{sym}
use Rattle.std.proofs.lemmas.Bool.{false≢true}
use Rattle.psd_base.specs.declared.packet.TheConstants.{PACKET_SIZE}
use Rattle.psd_base.specs.declared.setup.Setup.{Setup}
use Rattle.control_pipe.specs.declared.hid_request.HidRequest.{HidRequest}
use Rattle.control_pipe.specs.declared.hid_request.HidRequest.TheVariants.{GetInput, GetOutput, GetIdle, GetProtocol, SetOutput, SetIdle, SetProtocol}
use Rattle.control_pipe.specs.HidRequests.{hid_request, is_setting}
use Rattle.control_pipe.proofs.HidLaws.{hid_request-short}
use Rattle.emulated_mouse.specs.declared.mouse.TheConstants.{INTERFACE}
use Rattle.emulated_mouse.specs.MouseStands.{MouseValue}
use Rattle.emulated_mouse.specs.MouseSteps.{requested_step, value_answer}

abbrev pub answer_for : Option HidRequest → MouseValue → Option (List ℕ)
answer_for None mouse = None
answer_for (Some request) mouse = value_answer request mouse

abbrev pub class_answer : MouseValue → Setup → Option (List ℕ)
class_answer mouse setup = answer_for (hid_request INTERFACE setup) mouse

-- what sets something of the mouse, which has no output report
abbrev pub is_taken : HidRequest → Bool
is_taken (SetIdle rate) = true
is_taken (SetProtocol protocol) = true
is_taken _ = false

abbrev pub takes_request : Option HidRequest → Bool
takes_request None = false
takes_request (Some request) = is_taken request

abbrev pub takes_class_request : Setup → Bool
takes_class_request setup = takes_request (hid_request INTERFACE setup)

abbrev pub after_request : Option HidRequest → MouseValue → MouseValue
after_request None mouse = mouse
after_request (Some request) mouse = requested_step request mouse

abbrev pub after_class_request : MouseValue → Setup → MouseValue
after_class_request mouse setup = after_request (hid_request INTERFACE setup) mouse

-- a request that is taken has a packet's bytes at most
taken_sets : (request : HidRequest) → is_taken request ≡ true → is_setting request ≡ true
taken_sets GetInput taken = absurd (false≢true taken)
taken_sets GetOutput taken = absurd (false≢true taken)
taken_sets GetIdle taken = absurd (false≢true taken)
taken_sets GetProtocol taken = absurd (false≢true taken)
taken_sets SetOutput taken = absurd (false≢true taken)
taken_sets (SetIdle rate) taken = refl
taken_sets (SetProtocol protocol) taken = refl

pub taken-short : (setup : Setup) → IsTrue (takes_class_request setup) → setup.length ≤ PACKET_SIZE
taken-short setup taken = by (hid_request INTERFACE setup) refl taken where
  by : (found : Option HidRequest) → hid_request INTERFACE setup ≡ found → IsTrue (takes_request found) → setup.length ≤ PACKET_SIZE
  by None is taken = absurd (false≢true taken)
  by (Some request) is taken = hid_request-short INTERFACE setup request is (taken_sets request taken)

-- what isn't taken changes nothing
kept : (request : HidRequest) (mouse : MouseValue) → is_taken request ≡ false → requested_step request mouse ≡ mouse
kept GetInput mouse not_taken = refl
kept GetOutput mouse not_taken = refl
kept GetIdle mouse not_taken = refl
kept GetProtocol mouse not_taken = refl
kept SetOutput mouse not_taken = refl
kept (SetIdle rate) mouse not_taken = absurd (false≢true (sym not_taken))
kept (SetProtocol protocol) mouse not_taken = absurd (false≢true (sym not_taken))

pub not_taken : (mouse : MouseValue) (setup : Setup) → takes_class_request setup ≡ false → after_class_request mouse setup ≡ mouse
not_taken mouse setup refused = by (hid_request INTERFACE setup) refused where
  by : (found : Option HidRequest) → takes_request found ≡ false → after_request found mouse ≡ mouse
  by None refused = refl
  by (Some request) refused = kept request mouse refused
