-- At which interrupt endpoint a computer polls, and what its keyboard or mouse answers (USB 2.0, 5.7.3).
use Rattle.std.specs.Prelude.{ℕ, Bool, ◌&&◌, ◌==◌, List, ◌∷◌, if◌then◌else◌}
use Rattle.psd_base.specs.declared.act.Act.{Act}
use Rattle.psd_base.specs.declared.act.Act.TheVariants as act
use Rattle.psd_base.specs.declared.act.Answer.{Answer}
use Rattle.control_pipe.specs.Control.{ControlAct, address_after, is_configured_after, is_halted_after}
use Rattle.input_latch.specs.KeyHistory as keys
use Rattle.input_latch.specs.PointerHistory as pointer
use Rattle.emulated_keyboard.specs.KeyboardHistory as keyboard
use Rattle.emulated_keyboard.specs.Delivery as typed
use Rattle.emulated_mouse.specs.MouseHistory as mouse
use Rattle.emulated_mouse.specs.Delivery as moved
use Rattle.port_model.specs.declared.polled.Polled.{Polled}
use Rattle.port_model.specs.declared.polled.Polled.TheVariants.{Nothing, Halted, Keyboard, Mouse}

-- the keyboard has endpoint 1 and the mouse endpoint 2
abbrev pub polled_at : ℕ → Bool → List ControlAct → Polled
polled_at endpoint acked acts =
    if endpoint == 1 then (if is_halted_after 1 acts then Halted else Keyboard acked) else
    (if endpoint == 2 then (if is_halted_after 2 acts then Halted else Mouse acked) else
    Nothing)

-- an IN at the device's address, where it is configured
abbrev pub polled_by : Act → List ControlAct → Polled
polled_by (act.In address endpoint acked) acts =
    if address == address_after acts && is_configured_after acts then polled_at endpoint acked acts else Nothing
polled_by _ acts = Nothing

-- what the keyboard answers to a poll, while its port is selected and while it isn't
abbrev pub key_report_selected : ℕ → Bool → typed.Sides → Answer
key_report_selected tick acked sides =
    let given = keyboard.given_at (keys.next_change sides.latch) tick sides.keyboard in
    keyboard.answer_of given (keyboard.toggle_of sides.keyboard) (keyboard.last_made (keyboard.Polled tick given acked ∷ sides.keyboard))

abbrev pub key_report_apart : Bool → typed.Sides → Answer
key_report_apart acked sides =
    let given = keyboard.given_apart sides.keyboard in
    keyboard.answer_of given (keyboard.toggle_of sides.keyboard) (keyboard.last_made (keyboard.PolledApart given acked ∷ sides.keyboard))

abbrev pub key_answer : ℕ → Bool → typed.Sides → Answer
key_answer tick acked sides =
    if keyboard.is_entered sides.keyboard then key_report_selected tick acked sides else key_report_apart acked sides

-- and what the mouse answers
abbrev pub pointer_report_selected : Bool → moved.Sides → Answer
pointer_report_selected acked sides =
    let given = mouse.given_at (pointer.next_change sides.latch) sides.mouse in
    mouse.answer_of given (mouse.toggle_of sides.mouse) (mouse.last_made (mouse.Polled given acked ∷ sides.mouse))

abbrev pub pointer_report_apart : Bool → moved.Sides → Answer
pointer_report_apart acked sides =
    let given = mouse.given_apart sides.mouse in
    mouse.answer_of given (mouse.toggle_of sides.mouse) (mouse.last_made (mouse.PolledApart given acked ∷ sides.mouse))

abbrev pub pointer_answer : Bool → moved.Sides → Answer
pointer_answer acked sides =
    if mouse.is_entered sides.mouse then pointer_report_selected acked sides else pointer_report_apart acked sides
