-- What a configuration without a fault says, as functions of its bytes.
use Rattle.std.specs.Prelude.{◌≡◌, ℕ, ◌≤◌, List, [], length, find, slice_index, slice_index_or, Option, None}
use Rattle.usb_descriptor.specs.declared.view.InterfaceDesc.{InterfaceDesc}
use Rattle.usb_descriptor.specs.Descriptor.{descriptors_of, is_hid}
use Rattle.usb_descriptor.specs.Setting.{Setting, interfaces_of, number_of}
use Rattle.usb_descriptor.specs.Endpoint.{bit_set, in_numbers, out_numbers}
use Rattle.usb_descriptor.specs.Fault.{config_fault}

-- bConfigurationValue
abbrev pub configuration_value : List ℕ → ℕ
configuration_value bytes = slice_index bytes 5

-- how many interfaces there are
abbrev pub interface_count : List ℕ → ℕ
interface_count bytes = length (interfaces_of (descriptors_of bytes))

-- the fields of an interface descriptor
abbrev pub interface_fields : List ℕ → InterfaceDesc
interface_fields d = record {
  number = number_of d;
  class = slice_index d 5;
  subclass = slice_index d 6;
  protocol = slice_index d 7;
}

-- the interface in place i, with its descriptors; nothing past the last
abbrev pub setting_at : ℕ → List ℕ → Setting
setting_at i bytes = slice_index_or (interfaces_of (descriptors_of bytes)) i (record { interface = []; others = [] })

abbrev pub interface_at : ℕ → List ℕ → InterfaceDesc
interface_at i bytes = interface_fields (setting_at i bytes).interface

-- the first HID descriptor of the interface in place i
abbrev pub hid_of : ℕ → List ℕ → Option (List ℕ)
hid_of i bytes = find is_hid (setting_at i bytes).others

-- the IN and the OUT endpoints, a bit for each number
abbrev pub in_set : List ℕ → ℕ
in_set bytes = bit_set (in_numbers (descriptors_of bytes))

abbrev pub out_set : List ℕ → ℕ
out_set bytes = bit_set (out_numbers (descriptors_of bytes))

-- what a view keeps beside its bytes, which have no fault
pub record Describes (bytes : List ℕ) (count in_bits out_bits : ℕ) : Type 0 where
  pub faultless : config_fault bytes ≡ None
  pub interfaces : count ≡ interface_count bytes
  pub few : count ≤ 8
  pub ins : in_bits ≡ in_set bytes
  pub outs : out_bits ≡ out_set bytes
