-- The idle rate and the protocol of a HID interface, by the requests that were completed (HID 1.11, 7.2.3 to 7.2.6).
use Rattle.std.specs.Prelude.{ℕ, List, [], ◌∷◌, Option, Some, None}
use Rattle.control_pipe.specs.declared.hid_request.Protocol.TheVariants.{Report}
use Rattle.control_pipe.specs.declared.hid_request.HidRequest.{HidRequest}
use Rattle.control_pipe.specs.declared.hid_request.HidRequest.TheVariants.{GetIdle, GetProtocol, SetIdle, SetProtocol}
use Rattle.control_pipe.specs.declared.hid_settings.HidSettings.{HidSettings}
use Rattle.control_pipe.specs.HidRequests.{protocol_code}

-- after a bus reset
abbrev pub reset_settings : ℕ → HidSettings
reset_settings idle_rate = record { idle_rate = idle_rate; protocol = Report }

-- what a completed request makes of them
abbrev pub settings_after : HidRequest → HidSettings → HidSettings
settings_after (SetIdle rate) settings = record settings { idle_rate = rate }
settings_after (SetProtocol protocol) settings = record settings { protocol = protocol }
settings_after _ settings = settings

-- what a request that reads one of them is answered
abbrev pub settings_answer : HidRequest → HidSettings → Option (List ℕ)
settings_answer GetIdle settings = Some (settings.idle_rate ∷ [])
settings_answer GetProtocol settings = Some (protocol_code settings.protocol ∷ [])
settings_answer _ settings = None
