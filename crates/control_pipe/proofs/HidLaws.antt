-- How many bytes the host sends for a class request that sets something.
use Rattle.std.proofs.Common.{◌≡◌, ℕ, ◌≤◌, ◌/◌, ◌%◌, Bool, true, false, ◌&&◌, ◌==◌, Option, Some, None, refl, ap, ◌∙◌, arith, if◌then◌else◌}
use Rattle.std.proofs.lemmas.Bool.{and_parts, eqb-true, false≢true}
use Rattle.psd_base.specs.declared.packet.TheConstants.{PACKET_SIZE}
use Rattle.psd_base.specs.declared.setup.Setup.{Setup}
use Rattle.control_pipe.specs.declared.codes.TheConstants.{CLASS_TO_INTERFACE, CLASS_FROM_INTERFACE, GET_REPORT, GET_IDLE, GET_PROTOCOL, SET_REPORT, SET_IDLE, SET_PROTOCOL, INPUT_REPORT, OUTPUT_REPORT}
use Rattle.control_pipe.specs.declared.hid_request.Protocol.TheVariants.{Boot, Report}
use Rattle.control_pipe.specs.declared.hid_request.HidRequest.{HidRequest}
use Rattle.control_pipe.specs.declared.hid_request.HidRequest.TheVariants.{GetInput, GetOutput, GetIdle, GetProtocol, SetOutput, SetIdle, SetProtocol}
use Rattle.control_pipe.specs.HidRequests.{reading_request, writing_request, hid_request, is_setting, bytes_sent}

-- a request that is found by a list of tests
record Sends (length : ℕ) (found : Option HidRequest) : Type 0 where
  exactly : (request : HidRequest) → found ≡ Some request → is_setting request ≡ true → length ≡ bytes_sent request

none_sends : (length : ℕ) → Sends length None
none_sends length = record { exactly = λ request is sets. absurd (cc) }

one_sends : (length : ℕ) (request : HidRequest) → (is_setting request ≡ true → length ≡ bytes_sent request) → Sends length (Some request)
one_sends length request sends = record {
  exactly = λ other is sets.
      let same : request ≡ other = cc in
      sends (ap (λ (r : HidRequest). is_setting r) same ∙ sets) ∙ ap (λ (r : HidRequest). bytes_sent r) same;
}

if_sends : (length : ℕ) (test : Bool) (first second : Option HidRequest) → (test ≡ true → Sends length first) → Sends length second → Sends length (if test then first else second)
if_sends length true first second one other = one refl
if_sends length false first second one other = other

reading_sends : (setup : Setup) → Sends setup.length (reading_request setup)
reading_sends setup =
    if_sends setup.length (setup.request == GET_REPORT && setup.value == INPUT_REPORT) _ _ (λ _. one_sends setup.length GetInput (λ no. absurd (false≢true no)))
    (if_sends setup.length (setup.request == GET_REPORT && setup.value == OUTPUT_REPORT) _ _ (λ _. one_sends setup.length GetOutput (λ no. absurd (false≢true no)))
    (if_sends setup.length (setup.request == GET_IDLE && setup.value == 0) _ _ (λ _. one_sends setup.length GetIdle (λ no. absurd (false≢true no)))
    (if_sends setup.length (setup.request == GET_PROTOCOL && setup.value == 0) _ _ (λ _. one_sends setup.length GetProtocol (λ no. absurd (false≢true no)))
    (none_sends setup.length))))

writing_sends : (setup : Setup) → Sends setup.length (writing_request setup)
writing_sends setup =
    if_sends setup.length (setup.request == SET_REPORT && setup.length == 1) _ _
    (λ test. if_sends setup.length (setup.value == OUTPUT_REPORT) _ _ (λ _. one_sends setup.length SetOutput (λ _. eqb-true setup.length 1 (and_parts (setup.request == SET_REPORT) (setup.length == 1) test).1)) (none_sends setup.length))
    (if_sends setup.length (setup.request == SET_IDLE && setup.length == 0) _ _
    (λ test. if_sends setup.length (setup.value % 256 == 0) _ _ (λ _. one_sends setup.length (SetIdle (setup.value / 256)) (λ _. eqb-true setup.length 0 (and_parts (setup.request == SET_IDLE) (setup.length == 0) test).1)) (none_sends setup.length))
    (if_sends setup.length (setup.request == SET_PROTOCOL && setup.length == 0) _ _
    (λ test. if_sends setup.length (setup.value == 0) _ _ (λ _. one_sends setup.length (SetProtocol Boot) (λ _. eqb-true setup.length 0 (and_parts (setup.request == SET_PROTOCOL) (setup.length == 0) test).1))
    (if_sends setup.length (setup.value == 1) _ _ (λ _. one_sends setup.length (SetProtocol Report) (λ _. eqb-true setup.length 0 (and_parts (setup.request == SET_PROTOCOL) (setup.length == 0) test).1)) (none_sends setup.length)))
    (none_sends setup.length)))

hid_sends : (interface : ℕ) (setup : Setup) → Sends setup.length (hid_request interface setup)
hid_sends interface setup =
    if_sends setup.length (setup.index == interface) _ _
    (λ _. if_sends setup.length (setup.kind == CLASS_FROM_INTERFACE) _ _ (λ _. reading_sends setup)
    (if_sends setup.length (setup.kind == CLASS_TO_INTERFACE) _ _ (λ _. writing_sends setup) (none_sends setup.length)))
    (none_sends setup.length)

-- a request that sets something has as many bytes as it sends, which is at most one
pub hid_request-length : (interface : ℕ) (setup : Setup) (request : HidRequest) → hid_request interface setup ≡ Some request → is_setting request ≡ true → setup.length ≡ bytes_sent request
hid_request-length interface setup request is sets = (hid_sends interface setup).exactly request is sets

pub bytes_sent-few : (request : HidRequest) → bytes_sent request ≤ 1
bytes_sent-few GetInput = omega arith
bytes_sent-few GetOutput = omega arith
bytes_sent-few GetIdle = omega arith
bytes_sent-few GetProtocol = omega arith
bytes_sent-few SetOutput = omega arith
bytes_sent-few (SetIdle rate) = omega arith
bytes_sent-few (SetProtocol protocol) = omega arith

-- so it has a packet's bytes at most
pub hid_request-short : (interface : ℕ) (setup : Setup) (request : HidRequest) → hid_request interface setup ≡ Some request → is_setting request ≡ true → setup.length ≤ PACKET_SIZE
hid_request-short interface setup request is sets = omega (arith, hid_request-length interface setup request is sets, bytes_sent-few request)
