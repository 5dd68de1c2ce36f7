-- What the keyboard and the mouse give, computed on small histories.
use Rattle.std.specs.Prelude.{◌≡◌, ℕ, List, [], ◌∷◌, take, Some, None, pos, negsuc, refl}
use Rattle.psd_base.specs.KeySet.{no_keys}
use Rattle.peripheral_filter.specs.declared.rule.RuleSet.{RuleSet}
use Rattle.console_host.specs.Replies.{reply_of}
use Rattle.console_plug.specs.Moments.{Moment, Attached, Detached, Replied, Reported, Woke, Darkened}
use Rattle.console_plug.specs.Given.{keys_given, sample_given, still}
use Rattle.console_plug.specs.Shown.{shown_buttons}
use Rattle.hid_report.specs.Bits.{is_numbered, report_bits}
use Rattle.hid_report.specs.Elements.{usage_at, last_usage, element_usages, raw_bits, counted, down_usage, down_from}
use Rattle.hid_report.specs.Faults.{fault_of, faults}
use Rattle.hid_report.specs.Fields.{field_of, fields}
use Rattle.hid_report.specs.Globals.{globals_at, open_pushes, open_collections}
use Rattle.hid_report.specs.Items.{datum_of, first_item, places, items}
use Rattle.hid_report.specs.LayoutValue.{reading_of, layout_of}
use Rattle.hid_report.specs.Pointer.{find_element, first_element, value_in, sample_of, pointer_of}
use Rattle.hid_report.specs.Usages.{waiting_minimum, usages}
use Rattle.usb_descriptor.specs.Descriptor.{cut_after}
use Rattle.usb_descriptor.specs.Endpoint.{bit_set}
use Rattle.usb_descriptor.specs.Fault.{fault_of as device_fault_of, first_fault, total_fault, config_fault}
use Rattle.usb_descriptor.specs.Setting.{up_to_interface, settings_of}
use Rattle.usb_descriptor.specs.Tally.{within_after}

abbrev no_rules : RuleSet
no_rules = record { allow = record { items = [] }; deny = record { items = [] } }

-- a keyboard that is taken off gives no key, and where none is, nothing comes of it

keyboard_taken_off : keys_given no_rules Detached (Attached 0 ∷ []) ≡ Some no_keys
keyboard_taken_off = refl

nothing_to_take_off : keys_given no_rules Detached (Detached ∷ Attached 0 ∷ []) ≡ None
nothing_to_take_off = refl

dark_gives_nothing : keys_given no_rules Darkened (Attached 0 ∷ Woke 0 ∷ []) ≡ None
dark_gives_nothing = refl

not_ready : keys_given no_rules (Reported 0 (0 ∷ 0 ∷ 4 ∷ 0 ∷ 0 ∷ 0 ∷ 0 ∷ 0 ∷ [])) (Attached 0 ∷ Woke 0 ∷ []) ≡ None
not_ready = refl

mouse_taken_off : sample_given no_rules Detached (Attached 0 ∷ []) ≡ Some still
mouse_taken_off = refl

-- a mouse of two interfaces, each with five buttons and relative X, Y and wheel

abbrev mouse : List ℕ
mouse =
    0x12 ∷ 0x01 ∷ 0x00 ∷ 0x02 ∷ 0x00 ∷ 0x00 ∷ 0x00 ∷ 0x08 ∷ 0x34 ∷ 0x12 ∷ 0x02 ∷ 0x00 ∷ 0x00 ∷ 0x01
    ∷ 0x00 ∷ 0x00 ∷ 0x00 ∷ 0x01 ∷ []

abbrev two_interfaces : List ℕ
two_interfaces =
    0x09 ∷ 0x02 ∷ 0x3b ∷ 0x00 ∷ 0x02 ∷ 0x01 ∷ 0x00 ∷ 0xa0 ∷ 0x32 ∷ 0x09 ∷ 0x04 ∷ 0x00 ∷ 0x00 ∷ 0x01
    ∷ 0x03 ∷ 0x01 ∷ 0x02 ∷ 0x00 ∷ 0x09 ∷ 0x21 ∷ 0x11 ∷ 0x01 ∷ 0x00 ∷ 0x01 ∷ 0x22 ∷ 0x34 ∷ 0x00 ∷ 0x07
    ∷ 0x05 ∷ 0x81 ∷ 0x03 ∷ 0x04 ∷ 0x00 ∷ 0x0a ∷ 0x09 ∷ 0x04 ∷ 0x01 ∷ 0x00 ∷ 0x01 ∷ 0x03 ∷ 0x01 ∷ 0x02
    ∷ 0x00 ∷ 0x09 ∷ 0x21 ∷ 0x11 ∷ 0x01 ∷ 0x00 ∷ 0x01 ∷ 0x22 ∷ 0x34 ∷ 0x00 ∷ 0x07 ∷ 0x05 ∷ 0x82 ∷ 0x03
    ∷ 0x04 ∷ 0x00 ∷ 0x0a ∷ []

abbrev pointer : List ℕ
pointer =
    0x05 ∷ 0x01 ∷ 0x09 ∷ 0x02 ∷ 0xa1 ∷ 0x01 ∷ 0x09 ∷ 0x01 ∷ 0xa1 ∷ 0x00 ∷ 0x05 ∷ 0x09 ∷ 0x19 ∷ 0x01
    ∷ 0x29 ∷ 0x05 ∷ 0x15 ∷ 0x00 ∷ 0x25 ∷ 0x01 ∷ 0x95 ∷ 0x05 ∷ 0x75 ∷ 0x01 ∷ 0x81 ∷ 0x02 ∷ 0x95 ∷ 0x01
    ∷ 0x75 ∷ 0x03 ∷ 0x81 ∷ 0x01 ∷ 0x05 ∷ 0x01 ∷ 0x09 ∷ 0x30 ∷ 0x09 ∷ 0x31 ∷ 0x09 ∷ 0x38 ∷ 0x15 ∷ 0x81
    ∷ 0x25 ∷ 0x7f ∷ 0x75 ∷ 0x08 ∷ 0x95 ∷ 0x03 ∷ 0x81 ∷ 0x06 ∷ 0xc0 ∷ 0xc0 ∷ []

abbrev came : ℕ → List ℕ → Moment
came number bytes = Replied 1 number 0 (reply_of 0 bytes)

abbrev ready : List Moment
ready =
    came 7 pointer ∷ came 6 pointer ∷ came 5 [] ∷ came 4 two_interfaces ∷ came 3 (take 9 two_interfaces)
    ∷ came 2 [] ∷ came 1 mouse ∷ Attached 0 ∷ Woke 0 ∷ []

-- button 1 is down at one interface, and button 2 goes down at the other: both are given
both_buttons : sample_given no_rules (Reported 1 (2 ∷ 5 ∷ 0xff ∷ 0 ∷ [])) (Reported 0 (1 ∷ 0 ∷ 0 ∷ 0 ∷ []) ∷ ready)
    ≡ Some (record { buttons = 3; x = pos 5; y = negsuc 0; wheel = pos 0 })
unfolding shown_buttons is_numbered report_bits usage_at last_usage element_usages raw_bits counted down_usage down_from fault_of faults field_of fields globals_at open_pushes open_collections datum_of first_item places items reading_of layout_of find_element first_element value_in sample_of pointer_of waiting_minimum usages cut_after bit_set device_fault_of first_fault total_fault config_fault up_to_interface settings_of within_after
both_buttons = refl

-- a report that is too short is none
too_short : sample_given no_rules (Reported 1 (2 ∷ [])) (Reported 0 (1 ∷ 0 ∷ 0 ∷ 0 ∷ []) ∷ ready) ≡ None
unfolding shown_buttons is_numbered report_bits usage_at last_usage element_usages raw_bits counted down_usage down_from fault_of faults field_of fields globals_at open_pushes open_collections datum_of first_item places items reading_of layout_of find_element first_element value_in sample_of pointer_of waiting_minimum usages cut_after bit_set device_fault_of first_fault total_fault config_fault up_to_interface settings_of within_after
too_short = refl
