-- Which setup is which class request, by its eight bytes.
use Rattle.std.specs.Prelude.{◌≡◌, ℕ, List, [], ◌∷◌, Option, Some, None, refl}
use Rattle.psd_base.specs.Setup.{setup_of}
use Rattle.control_pipe.specs.declared.hid_request.Protocol.TheVariants.{Boot}
use Rattle.control_pipe.specs.declared.hid_request.HidRequest.{HidRequest}
use Rattle.control_pipe.specs.declared.hid_request.HidRequest.TheVariants.{GetInput, GetOutput, GetIdle, GetProtocol, SetOutput, SetIdle, SetProtocol}
use Rattle.control_pipe.specs.HidRequests.{hid_request}
use Rattle.control_pipe.specs.HidSettings.{reset_settings, settings_after, settings_answer}

-- the request of interface 0
abbrev asked : List ℕ → Option HidRequest
asked bytes = hid_request 0 (setup_of bytes)

get_input : asked (0xa1 ∷ 1 ∷ 0 ∷ 1 ∷ 0 ∷ 0 ∷ 8 ∷ 0 ∷ []) ≡ Some GetInput
get_input = refl

get_output : asked (0xa1 ∷ 1 ∷ 0 ∷ 2 ∷ 0 ∷ 0 ∷ 1 ∷ 0 ∷ []) ≡ Some GetOutput
get_output = refl

-- there is no feature report, and no report with an identifier
no_feature_report : asked (0xa1 ∷ 1 ∷ 0 ∷ 3 ∷ 0 ∷ 0 ∷ 1 ∷ 0 ∷ []) ≡ None
no_feature_report = refl

no_identifier : asked (0xa1 ∷ 1 ∷ 1 ∷ 1 ∷ 0 ∷ 0 ∷ 8 ∷ 0 ∷ []) ≡ None
no_identifier = refl

get_idle : asked (0xa1 ∷ 2 ∷ 0 ∷ 0 ∷ 0 ∷ 0 ∷ 1 ∷ 0 ∷ []) ≡ Some GetIdle
get_idle = refl

get_protocol : asked (0xa1 ∷ 3 ∷ 0 ∷ 0 ∷ 0 ∷ 0 ∷ 1 ∷ 0 ∷ []) ≡ Some GetProtocol
get_protocol = refl

-- the output report has one byte
set_output : asked (0x21 ∷ 9 ∷ 0 ∷ 2 ∷ 0 ∷ 0 ∷ 1 ∷ 0 ∷ []) ≡ Some SetOutput
set_output = refl

two_bytes : asked (0x21 ∷ 9 ∷ 0 ∷ 2 ∷ 0 ∷ 0 ∷ 2 ∷ 0 ∷ []) ≡ None
two_bytes = refl

set_idle : asked (0x21 ∷ 10 ∷ 0 ∷ 125 ∷ 0 ∷ 0 ∷ 0 ∷ 0 ∷ []) ≡ Some (SetIdle 125)
set_idle = refl

-- the rate of one report alone can't be set
idle_of_one_report : asked (0x21 ∷ 10 ∷ 1 ∷ 125 ∷ 0 ∷ 0 ∷ 0 ∷ 0 ∷ []) ≡ None
idle_of_one_report = refl

set_boot_protocol : asked (0x21 ∷ 11 ∷ 0 ∷ 0 ∷ 0 ∷ 0 ∷ 0 ∷ 0 ∷ []) ≡ Some (SetProtocol Boot)
set_boot_protocol = refl

no_third_protocol : asked (0x21 ∷ 11 ∷ 2 ∷ 0 ∷ 0 ∷ 0 ∷ 0 ∷ 0 ∷ []) ≡ None
no_third_protocol = refl

-- a request of the other interface, and one of the device
other_interface : asked (0x21 ∷ 10 ∷ 0 ∷ 125 ∷ 1 ∷ 0 ∷ 0 ∷ 0 ∷ []) ≡ None
other_interface = refl

of_the_device : asked (0x20 ∷ 10 ∷ 0 ∷ 125 ∷ 0 ∷ 0 ∷ 0 ∷ 0 ∷ []) ≡ None
of_the_device = refl

-- what was set is read, and what wasn't is as after the reset
idle_is_read : settings_answer GetIdle (settings_after (SetIdle 9) (reset_settings 125)) ≡ Some (9 ∷ [])
idle_is_read = refl

protocol_is_read : settings_answer GetProtocol (settings_after (SetIdle 9) (reset_settings 125)) ≡ Some (1 ∷ [])
protocol_is_read = refl

boot_is_read : settings_answer GetProtocol (settings_after (SetProtocol Boot) (reset_settings 125)) ≡ Some (0 ∷ [])
boot_is_read = refl
