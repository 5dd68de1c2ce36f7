-- The definitions at work on small sessions, each computed.
use Rattle.std.specs.Prelude.{◌≡◌, ℕ, Bool, true, false, List, [], ◌∷◌, Some, refl}
use Rattle.psd_base.specs.Setup.{setup_of}
use Rattle.psd_base.specs.declared.act.Act.{Act}
use Rattle.psd_base.specs.declared.act.Act.TheVariants as act
use Rattle.psd_base.specs.declared.act.Answer.TheVariants as answer
use Rattle.control_pipe.specs.Requests.{no_offer}
use Rattle.control_pipe.specs.declared.reaction.Effect.{Effect}
use Rattle.control_pipe.specs.declared.reaction.Effect.TheVariants as effect
use Rattle.control_pipe.specs.Control.{ControlAct, control_answer, control_effect, control_function}

abbrev device : List ℕ
device = 0x12 ∷ 1 ∷ 0 ∷ 2 ∷ 0 ∷ 0 ∷ 0 ∷ 0x40 ∷ 0xfe ∷ 0xff ∷ 1 ∷ 0 ∷ 0 ∷ 1 ∷ 0 ∷ 0 ∷ 0 ∷ 1 ∷ []

abbrev taken : Act → ControlAct
taken act = record { act = act; offer = no_offer }

abbrev asking : List ℕ → ControlAct
asking bytes = record { act = act.Setup 0 (setup_of bytes); offer = record no_offer { descriptor = Some device } }

abbrev get_device : ControlAct
get_device = asking (0x80 ∷ 6 ∷ 0 ∷ 1 ∷ 0 ∷ 0 ∷ 0x40 ∷ 0 ∷ [])

setup_is_acknowledged : control_answer [] get_device.act ≡ answer.Ack
setup_is_acknowledged = refl

device_is_given : control_answer (get_device ∷ []) (act.In 0 0 true) ≡ answer.Data true device
device_is_given = refl

status_is_acknowledged : control_answer (taken (act.In 0 0 true) ∷ get_device ∷ []) (act.Out 0 0 true []) ≡ answer.Ack
status_is_acknowledged = refl

one_packet_more_is_refused : control_answer (taken (act.In 0 0 true) ∷ get_device ∷ []) (act.In 0 0 true) ≡ answer.Stall
one_packet_more_is_refused = refl

-- SET_ADDRESS 5, whose status isn't acknowledged at first
abbrev set_address : ControlAct
set_address = taken (act.Setup 0 (setup_of (0 ∷ 5 ∷ 5 ∷ 0 ∷ 0 ∷ 0 ∷ 0 ∷ 0 ∷ [])))

abbrev not_yet : List ControlAct
not_yet = taken (act.In 0 0 false) ∷ set_address ∷ []

status_is_given : control_answer (set_address ∷ []) (act.In 0 0 false) ≡ answer.Data true []
status_is_given = refl

new_address_is_silent : control_answer not_yet (act.In 5 0 true) ≡ answer.Silent
new_address_is_silent = refl

status_is_given_again : control_answer (taken (act.In 5 0 true) ∷ not_yet) (act.In 0 0 true) ≡ answer.Data true []
status_is_given_again = refl

abbrev addressed : List ControlAct
addressed = taken (act.In 0 0 true) ∷ taken (act.In 5 0 true) ∷ not_yet

old_address_is_silent : control_answer addressed (act.Setup 0 (setup_of (0x80 ∷ 8 ∷ 0 ∷ 0 ∷ 0 ∷ 0 ∷ 1 ∷ 0 ∷ []))) ≡ answer.Silent
old_address_is_silent = refl

abbrev get_configuration : ControlAct
get_configuration = taken (act.Setup 5 (setup_of (0x80 ∷ 8 ∷ 0 ∷ 0 ∷ 0 ∷ 0 ∷ 1 ∷ 0 ∷ [])))

configuration_is_given : control_answer (get_configuration ∷ addressed) (act.In 5 0 true) ≡ answer.Data true (0 ∷ [])
configuration_is_given = refl

-- an unsupported request
abbrev get_qualifier : ControlAct
get_qualifier = taken (act.Setup 0 (setup_of (0x80 ∷ 6 ∷ 0 ∷ 6 ∷ 0 ∷ 0 ∷ 0x0a ∷ 0 ∷ [])))

unsupported_is_stalled : control_answer (get_qualifier ∷ []) (act.In 0 0 true) ≡ answer.Stall
unsupported_is_stalled = refl

unsupported_out_is_stalled : control_answer (get_qualifier ∷ []) (act.Out 0 0 true []) ≡ answer.Stall
unsupported_out_is_stalled = refl

setup_after_stall_is_acknowledged : control_answer (taken (act.Out 0 0 true []) ∷ taken (act.In 0 0 true) ∷ get_qualifier ∷ []) get_device.act ≡ answer.Ack
setup_after_stall_is_acknowledged = refl

-- a class request of three bytes to the device: the first packet, the same again with the other toggle, the rest, and the status
abbrev set_report : ControlAct
set_report = record { act = act.Setup 0 (setup_of (0x21 ∷ 9 ∷ 0 ∷ 2 ∷ 0 ∷ 0 ∷ 3 ∷ 0 ∷ [])); offer = record no_offer { class_taken = true } }

abbrev configured : List ControlAct
configured = taken (act.In 0 0 true) ∷ taken (act.Setup 0 (setup_of (0 ∷ 9 ∷ 1 ∷ 0 ∷ 0 ∷ 0 ∷ 0 ∷ 0 ∷ []))) ∷ []

abbrev written : List ControlAct
written = taken (act.Out 0 0 false (3 ∷ [])) ∷ taken (act.Out 0 0 true (9 ∷ [])) ∷ taken (act.Out 0 0 true (1 ∷ 2 ∷ [])) ∷ set_report ∷ configured

repeated_packet_is_acknowledged : control_answer (taken (act.Out 0 0 true (1 ∷ 2 ∷ [])) ∷ set_report ∷ configured) (act.Out 0 0 true (9 ∷ [])) ≡ answer.Ack
repeated_packet_is_acknowledged = refl

status_of_writing_is_given : control_answer written (act.In 0 0 true) ≡ answer.Data true []
status_of_writing_is_given = refl

one_byte_more_is_refused : control_answer written (act.Out 0 0 true (4 ∷ [])) ≡ answer.Stall
one_byte_more_is_refused = refl

-- what completed requests tell the device
abbrev asked_for : List ℕ → List ControlAct
asked_for bytes = taken (act.Setup 0 (setup_of bytes)) ∷ configured

abbrev told : List ControlAct → Bool → Effect
told past acked = control_effect past (taken (act.In 0 0 acked))

reset_is_told : control_effect written (taken act.Reset) ≡ effect.Reset
reset_is_told = refl

configuration_is_told : told (asked_for (0 ∷ 9 ∷ 1 ∷ 0 ∷ 0 ∷ 0 ∷ 0 ∷ 0 ∷ [])) true ≡ effect.Configured
configuration_is_told = refl

nothing_is_told_before_the_end : told (asked_for (0 ∷ 9 ∷ 1 ∷ 0 ∷ 0 ∷ 0 ∷ 0 ∷ 0 ∷ [])) false ≡ effect.Nothing
nothing_is_told_before_the_end = refl

end_of_a_halt_is_told : told (asked_for (2 ∷ 1 ∷ 0 ∷ 0 ∷ 0x82 ∷ 0 ∷ 0 ∷ 0 ∷ [])) true ≡ effect.Restart 2
end_of_a_halt_is_told = refl

halt_is_not_told : told (asked_for (2 ∷ 3 ∷ 0 ∷ 0 ∷ 0x82 ∷ 0 ∷ 0 ∷ 0 ∷ [])) true ≡ effect.Nothing
halt_is_not_told = refl

alternate_setting_is_told : told (asked_for (1 ∷ 0x0b ∷ 0 ∷ 0 ∷ 1 ∷ 0 ∷ 0 ∷ 0 ∷ [])) true ≡ effect.Restart 2
alternate_setting_is_told = refl

-- a function that keeps the bytes it was sent
class_request_is_carried_out : control_function (λ device tick setup bytes. bytes) written 7 (act.In 0 0 true) [] ≡ 1 ∷ 2 ∷ 3 ∷ []
class_request_is_carried_out = refl

not_carried_out_before_the_end : control_function (λ device tick setup bytes. bytes) written 7 (act.In 0 0 false) [] ≡ []
not_carried_out_before_the_end = refl
