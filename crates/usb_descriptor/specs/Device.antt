-- What a device descriptor says (USB 2.0, section 9.6.1), and what is wrong with bytes that are none.
use Rattle.std.specs.Prelude.{ℕ, ◌+◌, ◌*◌, List, length, slice_index, ◌==◌, if◌then◌else◌, not, Result, Ok, Err}
use Rattle.usb_descriptor.specs.declared.fault.DescWhy.TheVariants.{Short, Length, Kind}
use Rattle.usb_descriptor.specs.declared.fault.DescFault.{DescFault}
use Rattle.usb_descriptor.specs.declared.device.DeviceDesc.{DeviceDesc}

-- the number of two bytes from place i on, the low one first
abbrev pub word_at : List ℕ → ℕ → ℕ
word_at bytes i = slice_index bytes i + 256 * slice_index bytes (i + 1)

-- the fields of a device descriptor
abbrev pub device_of : List ℕ → DeviceDesc
device_of bytes = record {
  class = slice_index bytes 4;
  max0 = slice_index bytes 7;
  vendor = word_at bytes 8;
  product = word_at bytes 10;
}

-- the descriptor's fields where there are 18 bytes that begin 12 01, else the first fault
abbrev pub device_verdict : List ℕ → Result DeviceDesc DescFault
device_verdict bytes =
    if not (length bytes == 18) then Err (record { at = 0; why = Short })
    else if not (slice_index bytes 0 == 18) then Err (record { at = 0; why = Length })
    else if not (slice_index bytes 1 == 1) then Err (record { at = 1; why = Kind })
    else Ok (device_of bytes)
