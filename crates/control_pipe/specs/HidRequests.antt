-- The class requests of a HID interface: which setup is which (HID 1.11, 7.2).
use Rattle.std.specs.Prelude.{ℕ, Bool, true, false, ◌/◌, ◌%◌, ◌&&◌, ◌==◌, Option, Some, None, if◌then◌else◌}
use Rattle.psd_base.specs.declared.setup.Setup.{Setup}
use Rattle.control_pipe.specs.declared.codes.TheConstants.{CLASS_TO_INTERFACE, CLASS_FROM_INTERFACE, GET_REPORT, GET_IDLE, GET_PROTOCOL, SET_REPORT, SET_IDLE, SET_PROTOCOL, INPUT_REPORT, OUTPUT_REPORT}
use Rattle.control_pipe.specs.declared.hid_request.Protocol.{Protocol}
use Rattle.control_pipe.specs.declared.hid_request.Protocol.TheVariants.{Boot, Report}
use Rattle.control_pipe.specs.declared.hid_request.HidRequest.{HidRequest}
use Rattle.control_pipe.specs.declared.hid_request.HidRequest.TheVariants.{GetInput, GetOutput, GetIdle, GetProtocol, SetOutput, SetIdle, SetProtocol}
use Rattle.control_pipe.specs.Requests.{when}

-- the protocol's number in requests
abbrev pub protocol_code : Protocol → ℕ
protocol_code Boot = 0
protocol_code Report = 1

-- the requests that read
abbrev pub reading_request : Setup → Option HidRequest
reading_request setup =
    if setup.request == GET_REPORT && setup.value == INPUT_REPORT then Some GetInput else
    (if setup.request == GET_REPORT && setup.value == OUTPUT_REPORT then Some GetOutput else
    (if setup.request == GET_IDLE && setup.value == 0 then Some GetIdle else
    when (setup.request == GET_PROTOCOL && setup.value == 0) GetProtocol))

-- the idle rate is the value's high byte, and its low byte is 0, for all reports
abbrev pub idle_to_set : ℕ → Option HidRequest
idle_to_set value = when (value % 256 == 0) (SetIdle (value / 256))

abbrev pub protocol_to_set : ℕ → Option HidRequest
protocol_to_set value =
    if value == 0 then Some (SetProtocol Boot) else
    when (value == 1) (SetProtocol Report)

-- and those that write
abbrev pub writing_request : Setup → Option HidRequest
writing_request setup =
    if setup.request == SET_REPORT && setup.length == 1 then when (setup.value == OUTPUT_REPORT) SetOutput else
    (if setup.request == SET_IDLE && setup.length == 0 then idle_to_set setup.value else
    (if setup.request == SET_PROTOCOL && setup.length == 0 then protocol_to_set setup.value else
    None))

-- the request of the interface with this number that a setup is
abbrev pub hid_request : ℕ → Setup → Option HidRequest
hid_request interface setup =
    if setup.index == interface then
    (if setup.kind == CLASS_FROM_INTERFACE then reading_request setup else
    (if setup.kind == CLASS_TO_INTERFACE then writing_request setup else
    None))
    else None

-- whether a request sets something
abbrev pub is_setting : HidRequest → Bool
is_setting SetOutput = true
is_setting (SetIdle rate) = true
is_setting (SetProtocol protocol) = true
is_setting _ = false

-- how many bytes the host sends for it
abbrev pub bytes_sent : HidRequest → ℕ
bytes_sent SetOutput = 1
bytes_sent _ = 0
