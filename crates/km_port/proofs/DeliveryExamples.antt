-- What the computer reads in small views, each computed.
use Rattle.std.specs.Prelude.{◌≡◌, ℕ, pos, negsuc, true, false, List, [], ◌∷◌, refl}
use Rattle.psd_base.specs.KeySet.{no_keys, with_key, keys_from}
use Rattle.psd_base.specs.declared.act.Act.{Act}
use Rattle.psd_base.specs.declared.act.Act.TheVariants.{Setup, In}
use Rattle.psd_base.specs.declared.act.Answer.TheVariants.{Nak}
use Rattle.psd_base.specs.declared.act.Side.TheVariants.{Km}
use Rattle.input_latch.specs.Buttons.{no_buttons, only_from}
use Rattle.input_latch.specs.KeyHistory as typed
use Rattle.input_latch.specs.PointerHistory as moved
use Rattle.input_latch.specs.declared.key_latch.KeyChange.TheVariants.{Press}
use Rattle.emulated_keyboard.specs.Delivery as keys
use Rattle.emulated_keyboard.specs.Descriptors.{keyboard_descriptor}
use Rattle.emulated_keyboard.specs.Report.{filled, key_report}
use Rattle.emulated_mouse.specs.Delivery as pointer
use Rattle.emulated_mouse.specs.Descriptors.{mouse_descriptor}
use Rattle.emulated_mouse.specs.Motion.{piece}
use Rattle.emulated_mouse.specs.Report.{report}
use Rattle.port_model.specs.Concerns.{Item, item, Own, Wakes, Selects, Leaves, Keys, Pointer}
use Rattle.km_port.specs.Delivery.{acknowledged_keys, keys_read, pointer_read, never_repeats}
use Rattle.port_model.specs.Descriptors.{device_descriptor}
use Rattle.port_model.specs.OnePort.{answer_to}
use Rattle.km_port.specs.Reports.{flags, keys_in, report_in}

-- the computer configures its device, and its port is selected
abbrev own : ℕ → Act → List Item → List Item
own tick act past = item tick (Own Km act) ∷ past

abbrev selected : List Item
selected =
    item 110 Selects
    ∷ own 101 (In 0 0 true) (own 100 (Setup 0 (record { kind = 0; request = 9; value = 1; index = 0; length = 0 })) (item 1 Wakes ∷ []))

-- key 4 is pressed, polled once and acknowledged, and then there is nothing more
abbrev pressed : List Item
pressed = item 120 (Keys (with_key no_keys 4)) ∷ selected

a_press : keys_read (own 130 (In 0 1 true) pressed) ≡ Press 4 ∷ []
unfolding no_keys keys_from typed.held_from typed.offered_all typed.accepted keys.sides_of filled key_report flags keys_in keyboard_descriptor mouse_descriptor device_descriptor
a_press = refl

then_nothing : answer_to (own 130 (In 0 1 true) pressed) 140 Km (In 0 1 true) ≡ Nak
unfolding no_keys keys_from typed.held_from typed.offered_all typed.accepted keys.sides_of filled key_report flags keys_in keyboard_descriptor mouse_descriptor device_descriptor
then_nothing = refl

-- the same without an acknowledgement, and the port is left: the report again, and then the release
abbrev left : List Item
left = item 150 Leaves ∷ own 130 (In 0 1 false) pressed

both_owed : acknowledged_keys (own 170 (In 0 1 true) (own 160 (In 0 1 true) left)) ≡ with_key no_keys 4 ∷ no_keys ∷ []
unfolding no_keys keys_from typed.held_from typed.offered_all typed.accepted keys.sides_of filled key_report flags keys_in keyboard_descriptor mouse_descriptor device_descriptor
both_owed = refl

-- 200 counts to the right take two reports
abbrev right : List Item
right = item 120 (Pointer (record { buttons = 0; x = pos 200; y = negsuc 4; wheel = pos 0 })) ∷ selected

a_motion : pointer_read (own 140 (In 0 2 true) (own 130 (In 0 2 true) right))
    ≡ report no_buttons (piece (pos 127) (negsuc 4) (pos 0)) ∷ report no_buttons (piece (pos 73) (pos 0) (pos 0)) ∷ []
unfolding no_buttons keys_from only_from moved.held_from moved.last_change moved.before_last moved.offered_all moved.accepted pointer.sides_of flags report_in keyboard_descriptor mouse_descriptor device_descriptor
a_motion = refl

-- what was owed at the next selection isn't fresh, and what comes behind it is
abbrev again : List Item
again = item 230 (Keys (with_key no_keys 5)) ∷ own 220 (In 0 1 true) (own 210 (In 0 1 true) (item 200 Selects ∷ left))

owed_first : acknowledged_keys again ≡ with_key no_keys 4 ∷ no_keys ∷ []
unfolding no_keys keys_from typed.held_from typed.offered_all typed.accepted keys.sides_of filled key_report flags keys_in keyboard_descriptor mouse_descriptor device_descriptor
owed_first = refl

then_fresh : keys_read (own 240 (In 0 1 true) again) ≡ Press 5 ∷ []
unfolding no_keys keys_from typed.held_from typed.offered_all typed.accepted keys.sides_of filled key_report flags keys_in keyboard_descriptor mouse_descriptor device_descriptor
then_fresh = refl

-- the idle rate isn't 0 at first, and SET_IDLE sets it
abbrev quiet : List Item
quiet =
    own 121 (In 0 0 true) (own 120 (Setup 0 (record { kind = 0x21; request = 0x0a; value = 0; index = 0; length = 0 })) selected)

repeats : never_repeats selected ≡ false
unfolding keys.sides_of keyboard_descriptor mouse_descriptor device_descriptor
repeats = refl

repeats_until_set : never_repeats quiet ≡ false
unfolding keys.sides_of keyboard_descriptor mouse_descriptor device_descriptor
repeats_until_set = refl

never_from_the_next_selection : never_repeats (item 140 Selects ∷ item 130 Leaves ∷ quiet) ≡ true
unfolding keys.sides_of keyboard_descriptor mouse_descriptor device_descriptor
never_from_the_next_selection = refl
