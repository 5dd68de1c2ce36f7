-- Which requests a computer may send to the token, and which of them concern the bridge itself.
use Rattle.std.specs.Prelude.{ℕ, ◌+◌, ◌%◌, Bool, true, not, ◌&&◌, ◌||◌, ◌==◌, nat_le, Option, is_some, if◌then◌else◌}
use Rattle.std.specs.Option.{option_and_then}
use Rattle.psd_base.specs.declared.setup.Setup.{Setup}
use Rattle.psd_base.specs.declared.packet.TheConstants.{BLOCK_SIZE}
use Rattle.control_pipe.specs.declared.codes.TheConstants.{TO_DEVICE, TO_INTERFACE, TO_ENDPOINT, CLEAR_FEATURE, SET_ADDRESS, SET_CONFIGURATION, SET_INTERFACE, ENDPOINT_HALT}
use Rattle.control_pipe.specs.Requests.{when, is_request, request_of, address_set}
use Rattle.auth_router.specs.Endpoint.{Endpoint}
use Rattle.auth_router.specs.Endpoint as endpoint

abbrev pub is_set_address : Setup → Bool
is_set_address setup = is_request TO_DEVICE SET_ADDRESS setup

abbrev pub is_set_configuration : Setup → Bool
is_set_configuration setup = is_request TO_DEVICE SET_CONFIGURATION setup

abbrev pub is_set_interface : Setup → Bool
is_set_interface setup = is_request TO_INTERFACE SET_INTERFACE setup

-- CLEAR_FEATURE of an endpoint's halt
abbrev pub is_clear_halt : Setup → Bool
is_clear_halt setup = is_request TO_ENDPOINT CLEAR_FEATURE setup && setup.value == ENDPOINT_HALT

-- the address that a setup sets, if it sets one
abbrev pub address_told : Setup → Option ℕ
address_told setup = option_and_then address_set (request_of setup)

-- The configuration that a completed setup sets, if it sets one. The token's may have any value, so these aren't the
-- requests of an emulated device, which has the values 0 and 1.
abbrev pub configuration_told : Setup → Option ℕ
configuration_told setup = when (is_set_configuration setup) setup.value

-- Whether the bridge lets a request pass, where the token's configuration has this value. The other requests are answered
-- with a request error.
abbrev pub is_passable : ℕ → Bool → Setup → Bool
is_passable value configured setup =
    nat_le setup.length BLOCK_SIZE &&
    (if is_set_address setup then is_some (address_told setup) && not configured else
    (if is_set_configuration setup then setup.value == 0 || setup.value == value else
    (if is_set_interface setup then setup.value == 0 else
    true)))

-- whether an index names an endpoint: its low byte is the endpoint's address, with bit 7 set for IN
abbrev pub is_named : Endpoint → ℕ → Bool
is_named (endpoint.In number) index = index % 256 == 0x80 + number
is_named (endpoint.Out number) index = index % 256 == number

-- whether a completed request begins an endpoint anew: its toggle is DATA0 and its halt is over
abbrev pub restarts : Endpoint → Setup → Bool
restarts place setup = is_set_configuration setup || is_set_interface setup || (is_clear_halt setup && is_named place setup.index)
