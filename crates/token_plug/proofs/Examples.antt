-- What the token is ordered, what the log says, and to which port it is routed, computed on small histories.
use Rattle.std.specs.Prelude.{◌≡◌, ℕ, List, [], ◌∷◌, take, Some, None, refl}
use Rattle.psd_base.specs.Setup.{setup_of}
use Rattle.psd_base.specs.declared.console.Note.TheVariants as note
use Rattle.psd_base.specs.declared.console.Order.{Order}
use Rattle.psd_base.specs.declared.console.Order.TheVariants as order
use Rattle.psd_base.specs.declared.console.Plug.TheVariants.{Token}
use Rattle.psd_base.specs.declared.console.RuleName.TheVariants.{Fixed}
use Rattle.peripheral_filter.specs.declared.rule.RuleSet.{RuleSet}
use Rattle.console_host.specs.Replies.{reply_of}
use Rattle.auth_router.specs.Bridge.{IsUp, IsDown}
use Rattle.token_plug.specs.Moments.{Moment, Attached, Detached, Replied, Ticked, Woke, Darkened, Left, Selected}
use Rattle.token_plug.specs.Routing.{bridge_at, routed_at}
use Rattle.token_plug.specs.TokenGives.{notes_at, orders_at}
use Rattle.usb_descriptor.specs.Descriptor.{cut_after}
use Rattle.usb_descriptor.specs.Endpoint.{bit_set}
use Rattle.usb_descriptor.specs.Fault.{fault_of, first_fault, total_fault, config_fault}
use Rattle.usb_descriptor.specs.Setting.{up_to_interface, settings_of}
use Rattle.usb_descriptor.specs.Tally.{within_after}

abbrev no_rules : RuleSet
no_rules = record { allow = record { items = [] }; deny = record { items = [] } }

-- a smart-card reader with IN endpoint 1 and OUT endpoint 2

abbrev device : ℕ → List ℕ
device product =
    0x12 ∷ 0x01 ∷ 0x00 ∷ 0x02 ∷ 0x00 ∷ 0x00 ∷ 0x00 ∷ 0x08 ∷ 0x34 ∷ 0x12 ∷ product ∷ 0x00 ∷ 0x00 ∷ 0x01
    ∷ 0x00 ∷ 0x00 ∷ 0x00 ∷ 0x01 ∷ []

abbrev configuration : List ℕ
configuration =
    0x09 ∷ 0x02 ∷ 0x20 ∷ 0x00 ∷ 0x01 ∷ 0x01 ∷ 0x00 ∷ 0x80 ∷ 0x32 ∷ 0x09 ∷ 0x04 ∷ 0x00 ∷ 0x00 ∷ 0x02
    ∷ 0x0b ∷ 0x00 ∷ 0x00 ∷ 0x00 ∷ 0x07 ∷ 0x05 ∷ 0x81 ∷ 0x02 ∷ 0x40 ∷ 0x00 ∷ 0x00 ∷ 0x07 ∷ 0x05 ∷ 0x02
    ∷ 0x02 ∷ 0x40 ∷ 0x00 ∷ 0x00 ∷ []

abbrev came : ℕ → ℕ → ℕ → List ℕ → Moment
came life tick number bytes = Replied life number tick (reply_of 0 bytes)

abbrev asks : ℕ → ℕ → List ℕ → Order
asks life number bytes = order.Ask Token life number (setup_of bytes)

abbrev get_device : List ℕ
get_device = 0x80 ∷ 0x06 ∷ 0x00 ∷ 0x01 ∷ 0x00 ∷ 0x00 ∷ 0x12 ∷ 0x00 ∷ []

-- attached at 0, when the switch has become alive; it answers at 1

abbrev attached : List Moment
attached = Attached 0 ∷ Woke 0 ∷ []

on_at_once : orders_at no_rules (Attached 0) (Woke 0 ∷ []) ≡ order.On Token 1 ∷ asks 1 1 get_device ∷ []
on_at_once = refl

on_at_alive : orders_at no_rules (Woke 0) (Attached 0 ∷ []) ≡ order.On Token 1 ∷ asks 1 1 get_device ∷ []
on_at_alive = refl

not_before_alive : orders_at no_rules (Ticked 5000) (Attached 0 ∷ []) ≡ []
not_before_alive = refl

asks_address : orders_at no_rules (came 1 1 1 (device 3)) attached ≡ asks 1 2 (0x00 ∷ 0x05 ∷ 0x01 ∷ 0x00 ∷ 0x00 ∷ 0x00 ∷ 0x00 ∷ 0x00 ∷ []) ∷ []
unfolding bit_set cut_after fault_of first_fault total_fault config_fault up_to_interface settings_of within_after
asks_address = refl

abbrev nearly : ℕ → ℕ → ℕ → List Moment → List Moment
nearly life tick product past =
    came life tick 4 configuration ∷ came life tick 3 (take 9 configuration) ∷ came life tick 2 [] ∷ came life tick 1 (device product) ∷ past

abbrev accepted : List Moment
accepted = came 1 1 5 [] ∷ nearly 1 1 3 attached

asks_nothing_more : orders_at no_rules (came 1 1 5 []) (nearly 1 1 3 attached) ≡ []
unfolding bit_set cut_after fault_of first_fault total_fault config_fault up_to_interface settings_of within_after
asks_nothing_more = refl

says_accepted : notes_at no_rules (came 1 1 5 []) (nearly 1 1 3 attached) ≡ note.Accepted Token ∷ []
unfolding bit_set cut_after fault_of first_fault total_fault config_fault up_to_interface settings_of within_after
says_accepted = refl

not_routed_yet : routed_at no_rules accepted ≡ None
unfolding bit_set cut_after fault_of first_fault total_fault config_fault up_to_interface settings_of within_after
not_routed_yet = refl

-- port 1 is selected: the token is routed to it, and left at 250 it loses its power

says_routed : notes_at no_rules (Selected 1) accepted ≡ note.Routed 1 ∷ []
unfolding bit_set cut_after fault_of first_fault total_fault config_fault up_to_interface settings_of within_after
says_routed = refl

brings_up : bridge_at no_rules (Selected 1) accepted IsDown ≡ IsUp (record { life = 1; value = 1; max0 = 8; ins = 2; outs = 4 }) []
unfolding bit_set cut_after fault_of first_fault total_fault config_fault up_to_interface settings_of within_after
brings_up = refl

abbrev left : List Moment
left = Left 250 ∷ Selected 1 ∷ accepted

off_where_left : orders_at no_rules (Left 250) (Selected 1 ∷ accepted) ≡ order.Off Token 1 ∷ []
unfolding bit_set cut_after fault_of first_fault total_fault config_fault up_to_interface settings_of within_after
off_where_left = refl

brings_down : bridge_at no_rules (Left 250) (Selected 1 ∷ accepted) (IsUp (record { life = 1; value = 1; max0 = 8; ins = 2; outs = 4 }) []) ≡ IsDown
unfolding bit_set cut_after fault_of first_fault total_fault config_fault up_to_interface settings_of within_after
brings_down = refl

-- port 2 is selected: the token rests for 1,000 ticks

too_early : orders_at no_rules (Ticked 1249) (Selected 2 ∷ left) ≡ []
unfolding bit_set cut_after fault_of first_fault total_fault config_fault up_to_interface settings_of within_after
too_early = refl

abbrev second : List Moment
second = Ticked 1250 ∷ Ticked 1249 ∷ Selected 2 ∷ left

on_again : orders_at no_rules (Ticked 1250) (Ticked 1249 ∷ Selected 2 ∷ left) ≡ order.On Token 2 ∷ asks 2 1 get_device ∷ []
unfolding bit_set cut_after fault_of first_fault total_fault config_fault up_to_interface settings_of within_after
on_again = refl

late_reply : orders_at no_rules (came 1 1251 1 (device 3)) second ≡ []
unfolding bit_set cut_after fault_of first_fault total_fault config_fault up_to_interface settings_of within_after
late_reply = refl

accepted_and_routed : notes_at no_rules (came 2 1251 5 []) (nearly 2 1251 3 second) ≡ note.Accepted Token ∷ note.Routed 2 ∷ []
unfolding bit_set cut_after fault_of first_fault total_fault config_fault up_to_interface settings_of within_after
accepted_and_routed = refl

routed_to_the_other : routed_at no_rules (came 2 1251 5 [] ∷ nearly 2 1251 3 second) ≡ Some 2
unfolding bit_set cut_after fault_of first_fault total_fault config_fault up_to_interface settings_of within_after
routed_to_the_other = refl

-- another token answers in the second life

changed_goes_off : orders_at no_rules (came 2 1251 1 (device 4)) second ≡ order.Off Token 2 ∷ []
unfolding bit_set cut_after fault_of first_fault total_fault config_fault up_to_interface settings_of within_after
changed_goes_off = refl

changed_is_named : notes_at no_rules (came 2 1251 1 (device 4)) second ≡ note.Refused Token (Fixed 9) ∷ []
unfolding bit_set cut_after fault_of first_fault total_fault config_fault up_to_interface settings_of within_after
changed_is_named = refl

stays_barred : orders_at no_rules (Ticked 9000) (Left 8000 ∷ came 2 1251 1 (device 4) ∷ second) ≡ []
unfolding bit_set cut_after fault_of first_fault total_fault config_fault up_to_interface settings_of within_after
stays_barred = refl

another_may_come : notes_at no_rules (came 3 9001 5 []) (nearly 3 9001 4 (Ticked 9000 ∷ Attached 8001 ∷ Detached 8000 ∷ came 2 1251 1 (device 4) ∷ second))
    ≡ note.Accepted Token ∷ note.Routed 2 ∷ []
unfolding bit_set cut_after fault_of first_fault total_fault config_fault up_to_interface settings_of within_after
another_may_come = refl

-- taken off at 300 and attached again at 400: the last OFF is that of 250

no_second_off : orders_at no_rules (Detached 300) (Selected 2 ∷ left) ≡ []
unfolding bit_set cut_after fault_of first_fault total_fault config_fault up_to_interface settings_of within_after
no_second_off = refl

not_at_once : orders_at no_rules (Attached 400) (Detached 300 ∷ Selected 2 ∷ left) ≡ []
unfolding bit_set cut_after fault_of first_fault total_fault config_fault up_to_interface settings_of within_after
not_at_once = refl

counts_from_the_off : orders_at no_rules (Ticked 1250) (Attached 400 ∷ Detached 300 ∷ Selected 2 ∷ left) ≡ order.On Token 2 ∷ asks 2 1 get_device ∷ []
unfolding bit_set cut_after fault_of first_fault total_fault config_fault up_to_interface settings_of within_after
counts_from_the_off = refl

-- power comes on at a clock event at which the port is left, and goes off again: it rests from there

off_at_once : orders_at no_rules (Left 1250) second ≡ order.Off Token 2 ∷ []
unfolding bit_set cut_after fault_of first_fault total_fault config_fault up_to_interface settings_of within_after
off_at_once = refl

rests_again : orders_at no_rules (Ticked 2249) (Selected 1 ∷ Left 1250 ∷ second) ≡ []
unfolding bit_set cut_after fault_of first_fault total_fault config_fault up_to_interface settings_of within_after
rests_again = refl

third_life : orders_at no_rules (Ticked 2250) (Selected 1 ∷ Left 1250 ∷ second) ≡ order.On Token 3 ∷ asks 3 1 get_device ∷ []
unfolding bit_set cut_after fault_of first_fault total_fault config_fault up_to_interface settings_of within_after
third_life = refl

-- an order stays unanswered

not_silent_yet : notes_at no_rules (Ticked 1999) attached ≡ []
unfolding bit_set cut_after fault_of first_fault total_fault config_fault up_to_interface settings_of within_after
not_silent_yet = refl

silent_goes_off : orders_at no_rules (Ticked 2000) attached ≡ order.Off Token 1 ∷ []
unfolding bit_set cut_after fault_of first_fault total_fault config_fault up_to_interface settings_of within_after
silent_goes_off = refl

silent_is_named : notes_at no_rules (Ticked 2000) attached ≡ note.Refused Token (Fixed 11) ∷ []
unfolding bit_set cut_after fault_of first_fault total_fault config_fault up_to_interface settings_of within_after
silent_is_named = refl

-- dark

dark_goes_off : orders_at no_rules (Darkened 40) accepted ≡ order.Off Token 1 ∷ []
unfolding bit_set cut_after fault_of first_fault total_fault config_fault up_to_interface settings_of within_after
dark_goes_off = refl

dark_stays_off : orders_at no_rules (Ticked 5000) (Darkened 40 ∷ accepted) ≡ []
unfolding bit_set cut_after fault_of first_fault total_fault config_fault up_to_interface settings_of within_after
dark_stays_off = refl
