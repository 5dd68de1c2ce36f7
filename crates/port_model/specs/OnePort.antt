-- A switch with one port: what it answers to the port's own acts, found from the port's view alone. A view is newest first,
-- a transcript is oldest first.
use Rattle.std.specs.Prelude.{ℕ, ◌==◌, List, [], ◌∷◌, ◌++◌, if◌then◌else◌}
use Rattle.psd_base.specs.declared.act.Act.{Act}
use Rattle.psd_base.specs.declared.act.Side.{Side}
use Rattle.psd_base.specs.declared.act.Side.TheVariants.{Km, Ua}
use Rattle.psd_base.specs.declared.act.Answer.{Answer}
use Rattle.psd_base.specs.declared.act.Answer.TheVariants as answer
use Rattle.psd_base.specs.declared.line.Line.{Line}
use Rattle.control_pipe.specs.Control.{ControlAct, is_control_act, moment_of, control_answer, control_effect, transfer_completed}
use Rattle.control_pipe.specs.declared.reaction.Effect.{Effect}
use Rattle.control_pipe.specs.declared.reaction.Effect.TheVariants as effect
use Rattle.auth_router.specs.Bridge.{bridge_answer}
use Rattle.emulated_keyboard.specs.Delivery as typed
use Rattle.emulated_mouse.specs.Delivery as moved
use Rattle.port_model.specs.Asked.{keys_asked, pointer_asked}
use Rattle.port_model.specs.Concerns.{Concern, Own, Wakes, Darkens, Selects, Leaves, Keys, Pointer, Token, Item, item, is_live}
use Rattle.port_model.specs.Descriptors.{km_descriptor}
use Rattle.port_model.specs.ClassRequests.{class_answer_after, takes_class_request}
use Rattle.port_model.specs.Polled.{polled_by, key_answer, pointer_answer}
use Rattle.port_model.specs.TokenConnector.{bridge_past}
use Rattle.port_model.specs.declared.polled.Polled.{Polled}
use Rattle.port_model.specs.declared.polled.Polled.TheVariants.{Nothing, Halted, Keyboard, Mouse}

-- What each part of a port was told since the port woke, newest first: the acts at the control endpoint of the keyboard and
-- mouse, and what happened at the keyboard and at the mouse.
pub record Parts : Type 0 where
  pub control : List ControlAct
  pub keys : List typed.Moment
  pub pointer : List moved.Moment

abbrev pub fresh_parts : Parts
fresh_parts = record { control = []; keys = []; pointer = [] }

-- an act at the control endpoint, with what the keyboard and the mouse have for its setup
abbrev pub km_act : Parts → Act → ControlAct
km_act parts act =
    moment_of km_descriptor (class_answer_after (typed.sides_of parts.keys).keyboard (moved.sides_of parts.pointer).mouse) takes_class_request act

-- what a completed request, or a bus reset, is to the keyboard and to the mouse
abbrev pub with_key_effect : ℕ → Effect → List typed.Moment → List typed.Moment
with_key_effect tick effect.Nothing moments = moments
with_key_effect tick effect.Reset moments = typed.BusReset tick ∷ moments
with_key_effect tick effect.Configured moments = typed.SetUp ∷ moments
with_key_effect tick (effect.Restart endpoint) moments = if endpoint == 1 then typed.ToggleRestarted ∷ moments else moments

abbrev pub with_pointer_effect : Effect → List moved.Moment → List moved.Moment
with_pointer_effect effect.Nothing moments = moments
with_pointer_effect effect.Reset moments = moved.BusReset ∷ moments
with_pointer_effect effect.Configured moments = moved.SetUp ∷ moments
with_pointer_effect (effect.Restart endpoint) moments = if endpoint == 2 then moved.ToggleRestarted ∷ moments else moments

-- an act at the control endpoint
abbrev pub with_control_act : ℕ → Act → Parts → Parts
with_control_act tick act parts = record {
  control = km_act parts act ∷ parts.control;
  keys = with_key_effect tick (control_effect parts.control (km_act parts act)) (keys_asked tick (transfer_completed parts.control act) parts.keys);
  pointer = with_pointer_effect (control_effect parts.control (km_act parts act)) (pointer_asked (transfer_completed parts.control act) parts.pointer);
}

-- an act at another endpoint
abbrev pub with_poll : ℕ → Polled → Parts → Parts
with_poll tick Nothing parts = parts
with_poll tick Halted parts = parts
with_poll tick (Keyboard acked) parts = record parts { keys = typed.Read tick acked ∷ parts.keys }
with_poll tick (Mouse acked) parts = record parts { pointer = moved.Read acked ∷ parts.pointer }

abbrev pub with_km_act : ℕ → Act → Parts → Parts
with_km_act tick act parts =
    if is_control_act act then with_control_act tick act parts else with_poll tick (polled_by act parts.control) parts

abbrev pub with_part : ℕ → Concern → Parts → Parts
with_part tick (Own Km act) parts = with_km_act tick act parts
with_part tick (Own Ua act) parts = parts
with_part tick Wakes parts = fresh_parts
with_part tick Darkens parts = fresh_parts
with_part tick Selects parts = record parts { keys = typed.Selected tick ∷ parts.keys; pointer = moved.Selected ∷ parts.pointer }
with_part tick Leaves parts = record parts { keys = typed.Left ∷ parts.keys; pointer = moved.Left ∷ parts.pointer }
with_part tick (Keys keys) parts = record parts { keys = typed.Showed keys ∷ parts.keys }
with_part tick (Pointer sample) parts = record parts { pointer = moved.Showed sample ∷ parts.pointer }
with_part tick (Token news) parts = parts

abbrev pub parts_of : List Item → Parts
parts_of [] = fresh_parts
parts_of (item ∷ past) = with_part item.tick item.concern (parts_of past)

-- what the keyboard, the mouse and the latches of a port were told
abbrev pub key_sides : List Item → typed.Sides
key_sides past = typed.sides_of (parts_of past).keys

abbrev pub pointer_sides : List Item → moved.Sides
pointer_sides past = moved.sides_of (parts_of past).pointer

-- what an act at an interrupt endpoint is answered
abbrev pub poll_answer : ℕ → Polled → Parts → Answer
poll_answer tick Nothing parts = answer.Silent
poll_answer tick Halted parts = answer.Stall
poll_answer tick (Keyboard acked) parts = key_answer tick acked (typed.sides_of parts.keys)
poll_answer tick (Mouse acked) parts = pointer_answer acked (moved.sides_of parts.pointer)

abbrev pub km_answer : ℕ → Act → Parts → Answer
km_answer tick act parts =
    if is_control_act act then control_answer parts.control act else poll_answer tick (polled_by act parts.control) parts

-- what an act at a connector is answered after a view
abbrev pub live_answer : List Item → ℕ → Side → Act → Answer
live_answer past tick Km act = km_answer tick act (parts_of past)
live_answer past tick Ua act = bridge_answer (bridge_past past) act

abbrev pub answer_to : List Item → ℕ → Side → Act → Answer
answer_to past tick side act = if is_live past then live_answer past tick side act else answer.Silent

-- the line of an act at a tick
abbrev pub line_of : List Item → ℕ → Side → Act → Line
line_of past tick side act = record { tick = tick; side = side; act = act; answer = answer_to past tick side act }

-- the transcript of a view
abbrev pub one_port_lines : List Item → List Line
one_port_lines [] = []
one_port_lines (item ∷ past) = with_concern item.tick item.concern past (one_port_lines past) where
  with_concern : ℕ → Concern → List Item → List Line → List Line
  with_concern tick (Own side act) past lines = lines ++ line_of past tick side act ∷ []
  with_concern tick _ past lines = lines
