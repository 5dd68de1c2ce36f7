-- The definitions, computed at worked descriptors and reports.
use Rattle.std.proofs.Common.{◌≡◌, ℕ, Bool, List, [], ◌∷◌, Option, Some, None, Ok, Err, refl, pos, negsuc}
use Rattle.psd_base.specs.KeySet.{no_keys, with_key}
use Rattle.psd_base.specs.declared.sample.Sample.{Sample}
use Rattle.hid_report.specs.declared.fault.LayoutFault.{LayoutFault}
use Rattle.hid_report.specs.declared.fault.LayoutWhy.TheVariants as why
use Rattle.hid_report.specs.Items.{first_item, datum_of, places, items}
use Rattle.hid_report.specs.Globals.{globals_at, open_pushes, open_collections}
use Rattle.hid_report.specs.Usages.{waiting_minimum, usages}
use Rattle.hid_report.specs.Bits.{is_numbered, report_bits}
use Rattle.hid_report.specs.Fields.{field_of, fields}
use Rattle.hid_report.specs.Faults.{fault_of, faults}
use Rattle.hid_report.specs.Elements.{usage_at, last_usage, element_usages, raw_bits, counted, down_usage, down_from}
use Rattle.hid_report.specs.LayoutValue.{reading_of, layout_of}
use Rattle.hid_report.specs.Keys.{press_all, down_usages, keys_of}
use Rattle.hid_report.specs.Pointer.{find_element, first_element, value_in, sample_of, pointer_of}

abbrev fault_in : List ℕ → Option LayoutFault
fault_in bytes = elim (layout_of bytes) [ Ok reading ↦ None | Err fault ↦ Some fault ]

abbrev keys_by : List ℕ → List ℕ → Option (List Bool)
keys_by bytes report = elim (layout_of bytes) [ Ok reading ↦ keys_of reading report | Err fault ↦ None ]

abbrev pointer_by : List ℕ → List ℕ → Option Sample
pointer_by bytes report = elim (layout_of bytes) [ Ok reading ↦ pointer_of reading report | Err fault ↦ None ]

unfoldable on_layouts : Unit {0}
unfolding first_item datum_of places items globals_at open_pushes open_collections waiting_minimum usages is_numbered report_bits field_of fields fault_of faults usage_at last_usage element_usages raw_bits counted down_usage down_from reading_of layout_of press_all down_usages keys_of find_element first_element value_in sample_of pointer_of no_keys
on_layouts = tt

abbrev keyboard : List ℕ
keyboard = 0x05 ∷ 0x01 ∷ 0x09 ∷ 0x06 ∷ 0xa1 ∷ 0x01 ∷ 0x05 ∷ 0x07 ∷ 0x19 ∷ 0xe0 ∷ 0x29 ∷ 0xe7 ∷ 0x15 ∷ 0x00 ∷ 0x25 ∷ 0x01 ∷ 0x75 ∷ 0x01 ∷ 0x95 ∷ 0x08 ∷ 0x81 ∷ 0x02 ∷ 0x95 ∷ 0x01 ∷ 0x75 ∷ 0x08 ∷ 0x81 ∷ 0x01 ∷ 0x95 ∷ 0x05 ∷ 0x75 ∷ 0x01 ∷ 0x05 ∷ 0x08 ∷ 0x19 ∷ 0x01 ∷ 0x29 ∷ 0x05 ∷ 0x91 ∷ 0x02 ∷ 0x95 ∷ 0x01 ∷ 0x75 ∷ 0x03 ∷ 0x91 ∷ 0x01 ∷ 0x95 ∷ 0x06 ∷ 0x75 ∷ 0x08 ∷ 0x15 ∷ 0x00 ∷ 0x26 ∷ 0xa4 ∷ 0x00 ∷ 0x05 ∷ 0x07 ∷ 0x19 ∷ 0x00 ∷ 0x29 ∷ 0xa4 ∷ 0x81 ∷ 0x00 ∷ 0xc0 ∷ []

abbrev mouse : List ℕ
mouse = 0x05 ∷ 0x01 ∷ 0x09 ∷ 0x02 ∷ 0xa1 ∷ 0x01 ∷ 0x09 ∷ 0x01 ∷ 0xa1 ∷ 0x00 ∷ 0x05 ∷ 0x09 ∷ 0x19 ∷ 0x01 ∷ 0x29 ∷ 0x05 ∷ 0x15 ∷ 0x00 ∷ 0x25 ∷ 0x01 ∷ 0x95 ∷ 0x05 ∷ 0x75 ∷ 0x01 ∷ 0x81 ∷ 0x02 ∷ 0x95 ∷ 0x01 ∷ 0x75 ∷ 0x03 ∷ 0x81 ∷ 0x01 ∷ 0x05 ∷ 0x01 ∷ 0x09 ∷ 0x30 ∷ 0x09 ∷ 0x31 ∷ 0x09 ∷ 0x38 ∷ 0x15 ∷ 0x81 ∷ 0x25 ∷ 0x7f ∷ 0x75 ∷ 0x08 ∷ 0x95 ∷ 0x03 ∷ 0x81 ∷ 0x06 ∷ 0xc0 ∷ 0xc0 ∷ []

keyboard-is-read : fault_in keyboard ≡ None
unfolding on_layouts
keyboard-is-read = refl

left_shift_and_a : keys_by keyboard (0x02 ∷ 0x00 ∷ 0x04 ∷ 0x00 ∷ 0x00 ∷ 0x00 ∷ 0x00 ∷ 0x00 ∷ []) ≡ Some (with_key (with_key no_keys 0xe1) 0x04)
unfolding on_layouts
left_shift_and_a = refl

rollover : keys_by keyboard (0x00 ∷ 0x00 ∷ 0x01 ∷ 0x01 ∷ 0x01 ∷ 0x01 ∷ 0x01 ∷ 0x01 ∷ []) ≡ None
unfolding on_layouts
rollover = refl

seven_bytes : keys_by keyboard (0x02 ∷ 0x00 ∷ 0x04 ∷ 0x00 ∷ 0x00 ∷ 0x00 ∷ 0x00 ∷ []) ≡ None
unfolding on_layouts
seven_bytes = refl

motion : pointer_by mouse (0x05 ∷ 0xfb ∷ 0x0a ∷ 0x01 ∷ []) ≡ Some (record { buttons = 5; x = negsuc 4; y = pos 10; wheel = pos 1 })
unfolding on_layouts
motion = refl

out_of_bounds : pointer_by mouse (0x00 ∷ 0x80 ∷ 0x00 ∷ 0x00 ∷ []) ≡ Some (record { buttons = 0; x = pos 0; y = pos 0; wheel = pos 0 })
unfolding on_layouts
out_of_bounds = refl

cut_item : fault_in (0x05 ∷ []) ≡ Some (record { at = 0; why = why.Truncated })
unfolding on_layouts
cut_item = refl

nothing_to_close : fault_in (0xc0 ∷ []) ≡ Some (record { at = 0; why = why.Unbalanced })
unfolding on_layouts
nothing_to_close = refl

open_at_the_end : fault_in (0xa1 ∷ 0x01 ∷ []) ≡ Some (record { at = 2; why = why.Unbalanced })
unfolding on_layouts
open_at_the_end = refl

zero_size : fault_in (0x95 ∷ 0x01 ∷ 0x81 ∷ 0x02 ∷ []) ≡ Some (record { at = 2; why = why.ZeroSize })
unfolding on_layouts
zero_size = refl

zero_id : fault_in (0x85 ∷ 0x00 ∷ []) ≡ Some (record { at = 0; why = why.BadId })
unfolding on_layouts
zero_id = refl

large_id : fault_in (0x86 ∷ 0x00 ∷ 0x01 ∷ []) ≡ Some (record { at = 0; why = why.BadId })
unfolding on_layouts
large_id = refl

wide_field : fault_in (0x75 ∷ 0x21 ∷ 0x95 ∷ 0x01 ∷ 0x81 ∷ 0x02 ∷ []) ≡ Some (record { at = 4; why = why.Wide })
unfolding on_layouts
wide_field = refl

long_report : fault_in (0x75 ∷ 0x20 ∷ 0x95 ∷ 0x11 ∷ 0x81 ∷ 0x02 ∷ []) ≡ Some (record { at = 4; why = why.Long })
unfolding on_layouts
long_report = refl

pop_returns : fault_in (0x75 ∷ 0x08 ∷ 0xa4 ∷ 0x75 ∷ 0x21 ∷ 0xb4 ∷ 0x95 ∷ 0x01 ∷ 0x81 ∷ 0x02 ∷ []) ≡ None
unfolding on_layouts
pop_returns = refl

no_pop : fault_in (0x75 ∷ 0x08 ∷ 0xa4 ∷ 0x75 ∷ 0x21 ∷ 0x95 ∷ 0x01 ∷ 0x81 ∷ 0x02 ∷ []) ≡ Some (record { at = 7; why = why.Wide })
unfolding on_layouts
no_pop = refl

-- a report of 64 bytes and its ID byte is too long; a constant item has its bits too
id_byte_counts : fault_in (0x85 ∷ 0x01 ∷ 0x75 ∷ 0x08 ∷ 0x95 ∷ 0x40 ∷ 0x81 ∷ 0x02 ∷ []) ≡ Some (record { at = 6; why = why.Long })
unfolding on_layouts
id_byte_counts = refl

constant_items_have_bits : fault_in (0x75 ∷ 0x20 ∷ 0x95 ∷ 0x10 ∷ 0x81 ∷ 0x03 ∷ 0x75 ∷ 0x01 ∷ 0x95 ∷ 0x01 ∷ 0x81 ∷ 0x03 ∷ []) ≡ Some (record { at = 10; why = why.Long })
unfolding on_layouts
constant_items_have_bits = refl

wide_comes_before_long : fault_in (0x75 ∷ 0x21 ∷ 0x95 ∷ 0x10 ∷ 0x81 ∷ 0x02 ∷ []) ≡ Some (record { at = 4; why = why.Wide })
unfolding on_layouts
wide_comes_before_long = refl

-- report ID 1: the fields stand behind the ID byte
id_byte_is_skipped : pointer_by (0x85 ∷ 0x01 ∷ 0x05 ∷ 0x01 ∷ 0x09 ∷ 0x30 ∷ 0x15 ∷ 0x81 ∷ 0x25 ∷ 0x7f ∷ 0x75 ∷ 0x08 ∷ 0x95 ∷ 0x01 ∷ 0x81 ∷ 0x06 ∷ []) (0x01 ∷ 0x05 ∷ [])
    ≡ Some (record { buttons = 0; x = pos 5; y = pos 0; wheel = pos 0 })
unfolding on_layouts
id_byte_is_skipped = refl
