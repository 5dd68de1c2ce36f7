-- The requests of an emulated keyboard and mouse: which setup is which (USB 2.0, table 9-3; HID 1.11, 7.2), what is due for
-- each, and what the completed ones set (USB 2.0, 9.4).
use Rattle.std.specs.Prelude.{ℕ, Bool, true, false, not, ◌&&◌, ◌||◌, ◌==◌, nat_lt, List, [], ◌∷◌, Option, Some, None, option_map, if◌then◌else◌}
use Rattle.psd_base.specs.declared.setup.Setup.{Setup}
use Rattle.control_pipe.specs.declared.reaction.Effect.{Effect}
use Rattle.control_pipe.specs.declared.reaction.Effect.TheVariants as effect
use Rattle.control_pipe.specs.declared.registers.Registers.{Registers}
use Rattle.control_pipe.specs.declared.request.Endpoint.{Endpoint}
use Rattle.control_pipe.specs.declared.request.Endpoint.TheVariants as endpoint
use Rattle.control_pipe.specs.declared.request.Request.{Request}
use Rattle.control_pipe.specs.declared.request.Request.TheVariants as request
use Rattle.control_pipe.specs.declared.request.Standard.{Standard}
use Rattle.control_pipe.specs.declared.request.Standard.TheVariants as standard
use Rattle.control_pipe.specs.declared.codes.TheConstants.{TO_HOST, TO_DEVICE, TO_INTERFACE, TO_ENDPOINT, FROM_DEVICE, FROM_INTERFACE, FROM_ENDPOINT, CLASS_TO_INTERFACE, CLASS_FROM_INTERFACE, GET_STATUS, CLEAR_FEATURE, SET_FEATURE, SET_ADDRESS, GET_DESCRIPTOR, GET_CONFIGURATION, SET_CONFIGURATION, GET_INTERFACE, SET_INTERFACE, ENDPOINT_HALT}
use Rattle.control_pipe.specs.declared.request.TheConstants.{ADDRESSES, CONFIGURATIONS}

-- what the device's function has for a setup
pub record Offer : Type 0 where
  pub descriptor : Option (List ℕ)
  pub class_input : Option (List ℕ)
  pub class_taken : Bool

abbrev pub no_offer : Offer
no_offer = record { descriptor = None; class_input = None; class_taken = false }

-- a value, if a condition holds
abbrev pub when : {V : Type 0} → Bool → V → Option V
when holds value = if holds then Some value else None

-- Which request a setup is, by all its fields

-- whether a setup is of this kind and request
abbrev pub is_request : ℕ → ℕ → Setup → Bool
is_request kind number setup = setup.kind == kind && setup.request == number

-- the interrupt endpoint that has this address
abbrev pub interrupt_endpoint : ℕ → Option Endpoint
interrupt_endpoint index =
    if index == 0x81 then Some endpoint.First else
    when (index == 0x82) endpoint.Second

-- the interrupt endpoint of the interface that has this number
abbrev pub interface_endpoint : ℕ → Option Endpoint
interface_endpoint index =
    if index == 0 then Some endpoint.First else
    when (index == 1) endpoint.Second

-- a request that reads something of the device, or of an interface
abbrev pub of_device : Standard → Setup → Option Standard
of_device read setup = when (setup.value == 0 && setup.index == 0) read

abbrev pub of_interface : Standard → Setup → Option Standard
of_interface read setup =
    if setup.value == 0 then option_map (λ _. read) (interface_endpoint setup.index) else None

-- GET_STATUS of endpoint 0, in either direction, or of an interrupt endpoint
abbrev pub endpoint_status : Setup → Option Standard
endpoint_status setup =
    if setup.value == 0 then
    (if setup.index == 0x00 || setup.index == 0x80 then Some standard.GetControlStatus else
    option_map standard.GetEndpointStatus (interrupt_endpoint setup.index))
    else None

-- the interrupt endpoint whose halt CLEAR_FEATURE or SET_FEATURE is of
abbrev pub halt_of : Setup → Option Endpoint
halt_of setup = if setup.value == ENDPOINT_HALT then interrupt_endpoint setup.index else None

abbrev pub address_to_set : Setup → Option Standard
address_to_set setup =
    when (nat_lt setup.value ADDRESSES && setup.index == 0) (standard.SetAddress setup.value)

abbrev pub configuration_to_set : Setup → Option Standard
configuration_to_set setup =
    when (nat_lt setup.value CONFIGURATIONS && setup.index == 0) (standard.SetConfiguration setup.value)

abbrev pub interface_to_set : Setup → Option Standard
interface_to_set setup =
    if setup.value == 0 then option_map standard.SetInterface (interface_endpoint setup.index) else None

-- the standard requests whose data go to the host
abbrev pub read_request : Setup → Option Standard
read_request setup =
    if is_request FROM_DEVICE GET_STATUS setup then of_device standard.GetDeviceStatus setup else
    (if is_request FROM_INTERFACE GET_STATUS setup then of_interface standard.GetInterfaceStatus setup else
    (if is_request FROM_ENDPOINT GET_STATUS setup then endpoint_status setup else
    (if is_request FROM_DEVICE GET_CONFIGURATION setup then of_device standard.GetConfiguration setup else
    (if is_request FROM_INTERFACE GET_INTERFACE setup then of_interface standard.GetInterface setup else
    None))))

-- and those that have no data
abbrev pub write_request : Setup → Option Standard
write_request setup =
    if is_request TO_ENDPOINT CLEAR_FEATURE setup then option_map standard.ClearHalt (halt_of setup) else
    (if is_request TO_ENDPOINT SET_FEATURE setup then option_map standard.SetHalt (halt_of setup) else
    (if is_request TO_DEVICE SET_ADDRESS setup then address_to_set setup else
    (if is_request TO_DEVICE SET_CONFIGURATION setup then configuration_to_set setup else
    (if is_request TO_INTERFACE SET_INTERFACE setup then interface_to_set setup else
    None))))

abbrev pub standard_of : Setup → Option Standard
standard_of setup =
    if nat_lt setup.kind TO_HOST then (if setup.length == 0 then write_request setup else None) else
    read_request setup

abbrev pub request_of : Setup → Option Request
request_of setup =
    if setup.kind == CLASS_FROM_INTERFACE then Some request.ClassIn else
    (if setup.kind == CLASS_TO_INTERFACE then Some request.ClassOut else
    (if is_request FROM_DEVICE GET_DESCRIPTOR setup then Some request.GetDescriptor else
    (if is_request FROM_INTERFACE GET_DESCRIPTOR setup then Some request.GetDescriptor else
    option_map request.Standard (standard_of setup))))

-- What is due for a request

abbrev pub is_configured : Registers → Bool
is_configured registers = registers.configuration == 1

abbrev pub halt_at : Registers → Endpoint → Bool
halt_at registers endpoint.First = registers.first_halted
halt_at registers endpoint.Second = registers.second_halted

-- what isn't halted has the status 0, and a halted endpoint has 1
abbrev pub status : Bool → List ℕ
status true = 1 ∷ 0 ∷ []
status false = 0 ∷ 0 ∷ []

-- the data due, where the device is configured as the request asks. A request without data to the host has empty data due.
abbrev pub standard_due : Registers → Standard → Option (List ℕ)
standard_due registers standard.GetDeviceStatus = Some (status false)
standard_due registers standard.GetInterfaceStatus = when (is_configured registers) (status false)
standard_due registers standard.GetControlStatus = Some (status false)
standard_due registers (standard.GetEndpointStatus end) =
    when (is_configured registers) (status (halt_at registers end))
standard_due registers (standard.ClearHalt end) = when (is_configured registers) []
standard_due registers (standard.SetHalt end) = when (is_configured registers) []
standard_due registers (standard.SetAddress address) = when (not (is_configured registers)) []
standard_due registers standard.GetConfiguration = Some (registers.configuration ∷ [])
standard_due registers (standard.SetConfiguration configuration) = Some []
standard_due registers standard.GetInterface = when (is_configured registers) (0 ∷ [])
standard_due registers (standard.SetInterface end) = when (is_configured registers) []

abbrev pub due_of : Registers → Offer → Request → Option (List ℕ)
due_of registers offer (request.Standard named) = standard_due registers named
due_of registers offer request.GetDescriptor = offer.descriptor
due_of registers offer request.ClassIn = if is_configured registers then offer.class_input else None
due_of registers offer request.ClassOut = when (is_configured registers && offer.class_taken) []

-- nothing is due for a setup that is no request: it isn't supported
abbrev pub due_for : Registers → Offer → Option Request → Option (List ℕ)
due_for registers offer None = None
due_for registers offer (Some named) = due_of registers offer named

-- What a completed request sets, if it sets something

abbrev pub address_set : Request → Option ℕ
address_set (request.Standard (standard.SetAddress address)) = Some address
address_set _ = None

abbrev pub configuration_set : Request → Option ℕ
configuration_set (request.Standard (standard.SetConfiguration configuration)) = Some configuration
configuration_set _ = None

abbrev pub is_same_endpoint : Endpoint → Endpoint → Bool
is_same_endpoint endpoint.First endpoint.First = true
is_same_endpoint endpoint.First endpoint.Second = false
is_same_endpoint endpoint.Second endpoint.First = false
is_same_endpoint endpoint.Second endpoint.Second = true

-- an endpoint's halt: SET_FEATURE sets it, CLEAR_FEATURE and SET_CONFIGURATION end it
abbrev pub halt_set : Endpoint → Request → Option Bool
halt_set end (request.Standard (standard.SetHalt other)) = when (is_same_endpoint other end) true
halt_set end (request.Standard (standard.ClearHalt other)) = when (is_same_endpoint other end) false
halt_set end (request.Standard (standard.SetConfiguration configuration)) = Some false
halt_set end _ = None

abbrev pub endpoint_number : Endpoint → ℕ
endpoint_number endpoint.First = 1
endpoint_number endpoint.Second = 2

-- what the device is told: SET_CONFIGURATION, and where a data toggle begins anew after CLEAR_FEATURE or SET_INTERFACE
abbrev pub effect_of : Request → Effect
effect_of (request.Standard (standard.SetConfiguration configuration)) = effect.Configured
effect_of (request.Standard (standard.ClearHalt end)) = effect.Restart (endpoint_number end)
effect_of (request.Standard (standard.SetInterface end)) = effect.Restart (endpoint_number end)
effect_of _ = effect.Nothing

-- a setup that is no request sets nothing, and tells nothing
abbrev pub effect_for : Option Request → Effect
effect_for None = effect.Nothing
effect_for (Some named) = effect_of named

-- the device's function, which a class request that writes makes so
abbrev pub function_of : {D : Type 0} → Request → D → D → D
function_of request.ClassOut written device = written
function_of _ written device = device

abbrev pub function_for : {D : Type 0} → Option Request → D → D → D
function_for None written device = device
function_for (Some named) written device = function_of named written device
