-- What a completed request is to the keyboard and to the mouse.
use Rattle.std.specs.Prelude.{ℕ, List, ◌∷◌, Option, Some, None}
use Rattle.control_pipe.specs.declared.hid_request.HidRequest.{HidRequest}
use Rattle.control_pipe.specs.HidRequests.{hid_request}
use Rattle.control_pipe.specs.Requests.{request_of, function_for}
use Rattle.control_pipe.specs.Transfer.{Transfer, received}
use Rattle.emulated_keyboard.specs.Delivery as typed
use Rattle.emulated_keyboard.specs.declared.keyboard.TheConstants as keyboard
use Rattle.emulated_mouse.specs.Delivery as moved
use Rattle.emulated_mouse.specs.declared.mouse.TheConstants as mouse

-- a class request of the interface, if it is one
abbrev pub keys_with : Option HidRequest → ℕ → List ℕ → List typed.Moment → List typed.Moment
keys_with None tick bytes moments = moments
keys_with (Some request) tick bytes moments = typed.Asked tick request bytes ∷ moments

abbrev pub pointer_with : Option HidRequest → List moved.Moment → List moved.Moment
pointer_with None moments = moments
pointer_with (Some request) moments = moved.Asked request ∷ moments

-- the keyboard and the mouse are told each class request that writes, with what the host sent
abbrev pub keys_asked : ℕ → Option Transfer → List typed.Moment → List typed.Moment
keys_asked tick None moments = moments
keys_asked tick (Some transfer) moments =
    function_for (request_of transfer.setup)
    (keys_with (hid_request keyboard.INTERFACE transfer.setup) tick (received transfer.acts) moments) moments

abbrev pub pointer_asked : Option Transfer → List moved.Moment → List moved.Moment
pointer_asked None moments = moments
pointer_asked (Some transfer) moments =
    function_for (request_of transfer.setup) (pointer_with (hid_request mouse.INTERFACE transfer.setup) moments) moments
