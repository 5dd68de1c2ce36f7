-- The definitions at configurations that are known.
use Rattle.std.specs.Prelude.{ℕ, zero, suc, List, [], ◌∷◌, ◌++◌, Some, None, ◌≡◌, refl, Ok}
use Rattle.usb_descriptor.specs.declared.fault.DescWhy.TheVariants.{Length, Total, TooMany}
use Rattle.usb_descriptor.specs.Device.{device_verdict}
use Rattle.usb_descriptor.specs.Descriptor.{cut_after}
use Rattle.usb_descriptor.specs.Setting.{settings_of, up_to_interface}
use Rattle.usb_descriptor.specs.Fault.{config_fault, total_fault, config_verdict, first_fault, fault_of}

-- a keyboard's configuration
abbrev pub keyboard : List ℕ
keyboard = 9 ∷ 2 ∷ 34 ∷ 0 ∷ 1 ∷ 1 ∷ 0 ∷ 160 ∷ 50 ∷ 9 ∷ 4 ∷ 0 ∷ 0 ∷ 1 ∷ 3 ∷ 1 ∷ 1 ∷ 0 ∷ 9 ∷ 33 ∷ 17 ∷ 1 ∷ 0 ∷ 1 ∷ 34 ∷ 64 ∷ 0 ∷ 7 ∷ 5 ∷ 129 ∷ 3 ∷ 8 ∷ 0 ∷ 10 ∷ []

abbrev pub cut_short : List ℕ
cut_short = 9 ∷ 2 ∷ 34 ∷ 0 ∷ 1 ∷ 1 ∷ 0 ∷ 160 ∷ 50 ∷ 9 ∷ 4 ∷ 0 ∷ 0 ∷ 1 ∷ 3 ∷ 1 ∷ 1 ∷ 0 ∷ 9 ∷ 33 ∷ 17 ∷ 1 ∷ 0 ∷ 1 ∷ 34 ∷ 64 ∷ 0 ∷ 7 ∷ 5 ∷ 129 ∷ 3 ∷ 8 ∷ 0 ∷ []

abbrev pub token : List ℕ
token = 9 ∷ 2 ∷ 32 ∷ 0 ∷ 1 ∷ 1 ∷ 0 ∷ 128 ∷ 50 ∷ 9 ∷ 4 ∷ 0 ∷ 0 ∷ 2 ∷ 11 ∷ 0 ∷ 0 ∷ 0 ∷ 7 ∷ 5 ∷ 129 ∷ 2 ∷ 64 ∷ 0 ∷ 0 ∷ 7 ∷ 5 ∷ 2 ∷ 2 ∷ 64 ∷ 0 ∷ 0 ∷ []

pub keyboard-good : config_verdict keyboard ≡ Ok keyboard
unfolding config_fault total_fault first_fault fault_of cut_after settings_of up_to_interface
keyboard-good = refl

pub token-good : config_verdict token ≡ Ok token
unfolding config_fault total_fault first_fault fault_of cut_after settings_of up_to_interface
token-good = refl

pub total : config_fault cut_short ≡ Some (record { at = 2; why = Total })
unfolding config_fault total_fault first_fault fault_of cut_after settings_of up_to_interface
total = refl

-- a device of class 9 with packets of 64 bytes
pub device-fields : device_verdict (18 ∷ 1 ∷ 0 ∷ 2 ∷ 9 ∷ 1 ∷ 2 ∷ 64 ∷ 52 ∷ 18 ∷ 1 ∷ 0 ∷ 0 ∷ 1 ∷ 0 ∷ 0 ∷ 0 ∷ 1 ∷ [])
    ≡ Ok (record { class = 9; max0 = 64; vendor = 4660; product = 1 })
device-fields = refl

-- a HID descriptor of 8 bytes lacks one
pub short-hid : config_fault (9 ∷ 2 ∷ 26 ∷ 0 ∷ 1 ∷ 1 ∷ 0 ∷ 128 ∷ 50 ∷ 9 ∷ 4 ∷ 0 ∷ 0 ∷ 1 ∷ 3 ∷ 1 ∷ 1 ∷ 0 ∷ 8 ∷ 33 ∷ 17 ∷ 1 ∷ 0 ∷ 1 ∷ 34 ∷ 64 ∷ [])
    ≡ Some (record { at = 18; why = Length })
unfolding config_fault total_fault first_fault fault_of cut_after settings_of up_to_interface
short-hid = refl

-- an interface with so many endpoints, in a configuration of so many bytes
abbrev endpoints : ℕ → List ℕ
endpoints zero = []
endpoints (suc n) = 7 ∷ 5 ∷ 129 ∷ 3 ∷ 8 ∷ 0 ∷ 10 ∷ endpoints n

abbrev with_endpoints : ℕ → ℕ → List ℕ
with_endpoints total n = 9 ∷ 2 ∷ total ∷ 0 ∷ 1 ∷ 1 ∷ 0 ∷ 128 ∷ 50 ∷ 9 ∷ 4 ∷ 0 ∷ 0 ∷ 1 ∷ 3 ∷ 1 ∷ 1 ∷ 0 ∷ endpoints n

pub sixteen-endpoints : config_fault (with_endpoints 130 16) ≡ None
unfolding config_fault total_fault first_fault fault_of cut_after settings_of up_to_interface
sixteen-endpoints = refl

pub seventeen-endpoints : config_fault (with_endpoints 137 17) ≡ Some (record { at = 130; why = TooMany })
unfolding config_fault total_fault first_fault fault_of cut_after settings_of up_to_interface
seventeen-endpoints = refl
