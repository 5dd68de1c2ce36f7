-- The interfaces of a configuration, and the descriptors that belong to each (USB 2.0, sections 9.6.5
-- and 9.6.6).
use Rattle.std.specs.Prelude.{ℕ, List, [], ◌∷◌, map, filter, flat_map, slice_index, Bool, ◌&&◌, ◌==◌, if◌then◌else◌}
use Rattle.usb_descriptor.specs.Descriptor.{is_interface, is_endpoint}

-- an interface descriptor, and the descriptors after it up to the next interface descriptor
pub record Setting : Type 0 where
  pub interface : List ℕ
  pub others : List (List ℕ)

-- the descriptors before the first interface descriptor
unfoldable pub up_to_interface : List (List ℕ) → List (List ℕ)
up_to_interface [] = []
up_to_interface (d ∷ ds) = if is_interface d then [] else d ∷ up_to_interface ds

-- the settings of all interfaces, alternate ones among them
unfoldable pub settings_of : List (List ℕ) → List Setting
settings_of [] = []
settings_of (d ∷ ds) =
    if is_interface d then record { interface = d; others = up_to_interface ds } ∷ settings_of ds
    else settings_of ds

-- bInterfaceNumber and bAlternateSetting of an interface descriptor
abbrev pub number_of : List ℕ → ℕ
number_of d = slice_index d 2

abbrev pub alternate_of : List ℕ → ℕ
alternate_of d = slice_index d 3

-- d is an interface descriptor with alternate setting 0
abbrev pub begins_interface : List ℕ → Bool
begins_interface d = is_interface d && alternate_of d == 0

-- the interfaces: those with alternate setting 0
abbrev pub interfaces_of : List (List ℕ) → List Setting
interfaces_of ds = filter (λ s. alternate_of s.interface == 0) (settings_of ds)

abbrev pub numbers_of : List (List ℕ) → List ℕ
numbers_of ds = map (λ s. number_of s.interface) (interfaces_of ds)

-- the endpoint descriptors of the interfaces
abbrev pub endpoints_of : List (List ℕ) → List (List ℕ)
endpoints_of ds = flat_map (λ s. filter is_endpoint s.others) (interfaces_of ds)
