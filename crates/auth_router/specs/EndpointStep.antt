-- The exact steps of what the bridge keeps of the endpoints.
use Rattle.std.specs.Prelude.{ℕ, ◌-◌, ◌%◌, Bool, true, false, not, ◌&&◌, ◌||◌, ◌==◌, nat_lt, nat_le, List, length, replicate, Option, Some, None, slice_set, slice_index_or, if◌then◌else◌}
use Rattle.psd_base.specs.declared.act.Answer.{Answer}
use Rattle.psd_base.specs.declared.act.Answer.TheVariants as answer
use Rattle.psd_base.specs.declared.packet.TheConstants.{PACKET_SIZE}
use Rattle.control_pipe.specs.Transfer.{same_toggle}
use Rattle.auth_router.specs.declared.endpoints.Endpoints.{Endpoints}
use Rattle.auth_router.specs.declared.endpoints.TheConstants.{ENDPOINTS}
use Rattle.auth_router.specs.Bridge.{reply_with}

abbrev pub no_flags : List Bool
no_flags = replicate ENDPOINTS false

abbrev pub no_packets : List (Option (List ℕ))
no_packets = replicate ENDPOINTS None

abbrev pub idle : Endpoints
idle = record { in_halts = no_flags; out_halts = no_flags; in_toggles = no_flags; out_toggles = no_flags; held = no_packets }

abbrev pub restarted : Endpoints → Endpoints
restarted endpoints = record idle { held = endpoints.held }

abbrev pub in_restarted : ℕ → Endpoints → Endpoints
in_restarted number endpoints =
    if nat_lt number ENDPOINTS
    then record endpoints { in_halts = slice_set endpoints.in_halts number false; in_toggles = slice_set endpoints.in_toggles number false }
    else endpoints

abbrev pub out_restarted : ℕ → Endpoints → Endpoints
out_restarted number endpoints =
    if nat_lt number ENDPOINTS
    then record endpoints { out_halts = slice_set endpoints.out_halts number false; out_toggles = slice_set endpoints.out_toggles number false }
    else endpoints

abbrev pub restarted_at : ℕ → Endpoints → Endpoints
restarted_at index endpoints =
    if nat_le 0x80 (index % 256) then in_restarted (index % 256 - 0x80) endpoints else out_restarted (index % 256) endpoints

-- an IN
abbrev pub polled_answer : ℕ → Endpoints → Answer
polled_answer number endpoints =
    if slice_index_or endpoints.in_halts number false then answer.Stall else
    reply_with (slice_index_or endpoints.in_toggles number false) (slice_index_or endpoints.held number None)

abbrev pub delivered : ℕ → Endpoints → Endpoints
delivered number endpoints = record endpoints {
  in_toggles = slice_set endpoints.in_toggles number (not (slice_index_or endpoints.in_toggles number false));
  held = slice_set endpoints.held number None;
}

abbrev pub after_poll_of : Option (List ℕ) → ℕ → Bool → Endpoints → Endpoints
after_poll_of None number acked endpoints = endpoints
after_poll_of (Some packet) number acked endpoints = if acked then delivered number endpoints else endpoints

abbrev pub after_poll : ℕ → Bool → Endpoints → Endpoints
after_poll number acked endpoints =
    if slice_index_or endpoints.in_halts number false then endpoints else
    after_poll_of (slice_index_or endpoints.held number None) number acked endpoints

-- an OUT
abbrev pub out_reply : ℕ → Bool → Bool → Endpoints → Answer
out_reply number toggle busy endpoints =
    if slice_index_or endpoints.out_halts number false then answer.Stall else
    (if same_toggle toggle (slice_index_or endpoints.out_toggles number false) && busy then answer.Nak else answer.Ack)

abbrev pub out_sends : ℕ → Bool → Bool → Endpoints → Bool
out_sends number toggle busy endpoints =
    not (slice_index_or endpoints.out_halts number false) && same_toggle toggle (slice_index_or endpoints.out_toggles number false) && not busy

abbrev pub after_out : ℕ → Bool → Bool → Endpoints → Endpoints
after_out number toggle busy endpoints =
    if out_sends number toggle busy endpoints then record endpoints { out_toggles = slice_set endpoints.out_toggles number (not toggle) } else endpoints

-- the token's answers
abbrev pub after_in_answer : ℕ → ℕ → List ℕ → Endpoints → Endpoints
after_in_answer number status bytes endpoints =
    if nat_le ENDPOINTS number then endpoints else
    (if status == 0 && nat_le (length bytes) PACKET_SIZE then record endpoints { held = slice_set endpoints.held number (Some bytes) } else
    (if status == 3 then endpoints else record endpoints { in_halts = slice_set endpoints.in_halts number true }))

abbrev pub after_out_answer : ℕ → ℕ → Endpoints → Endpoints
after_out_answer number status endpoints =
    if nat_le ENDPOINTS number || status == 0 then endpoints else record endpoints { out_halts = slice_set endpoints.out_halts number true }
