-- Bytes as a list of descriptors (USB 2.0, section 9.5): each begins with its length and its kind.
use Rattle.std.specs.List.{AllByRecursion}
use Rattle.std.specs.Prelude.{◌≡◌, ℕ, zero, suc, ◌-◌, ◌≤◌, max, IsTrue, List, [], ◌∷◌, ◌++◌, length, take, slice_index, nat_le, Bool, ◌&&◌, ◌||◌, ◌==◌, if◌then◌else◌}
use Rattle.usb_descriptor.specs.declared.descriptor.TheConstants.{CONFIGURATION, INTERFACE, ENDPOINT, HID}

-- A descriptor takes as many bytes as its first byte says, but its length and kind bytes at least,
-- and no more than there are.
abbrev pub front_of : List ℕ → List ℕ
front_of bytes = take (max 2 (slice_index bytes 0)) bytes

-- the descriptors that begin after the first skip bytes
unfoldable pub cut_after : ℕ → List ℕ → List (List ℕ)
cut_after skip [] = []
cut_after zero (b ∷ bs) = front_of (b ∷ bs) ∷ cut_after (max 2 b - 1) bs
cut_after (suc skip) (b ∷ bs) = cut_after skip bs

-- the bytes cut into descriptors
abbrev pub descriptors_of : List ℕ → List (List ℕ)
descriptors_of bytes = cut_after 0 bytes

abbrev pub kind_of : List ℕ → ℕ
kind_of d = slice_index d 1

abbrev pub is_configuration : List ℕ → Bool
is_configuration d = kind_of d == CONFIGURATION

abbrev pub is_interface : List ℕ → Bool
is_interface d = kind_of d == INTERFACE

abbrev pub is_endpoint : List ℕ → Bool
is_endpoint d = kind_of d == ENDPOINT

abbrev pub is_hid : List ℕ → Bool
is_hid d = kind_of d == HID

-- how many bytes a descriptor of this kind has at least
abbrev pub least_length : ℕ → ℕ
least_length kind =
    if kind == CONFIGURATION || kind == INTERFACE || kind == HID then 9
    else if kind == ENDPOINT then 7
    else 2

-- the descriptor is as long as its kind asks for, and all of it is there
abbrev pub is_whole : List ℕ → Bool
is_whole d = nat_le (least_length (kind_of d)) (slice_index d 0) && nat_le (slice_index d 0) (length d)

abbrev pub AllWhole : List (List ℕ) → Type 0
AllWhole ds = AllByRecursion (λ d. IsTrue (is_whole d)) ds

-- d is the first descriptor of the bytes, it is whole, and the rest comes after it
pub record SplitsFirst (bytes d rest : List ℕ) : Type 0 where
  pub first : d ≡ front_of bytes
  pub whole : IsTrue (is_whole d)
  pub joined : bytes ≡ d ++ rest
  pub cut : descriptors_of bytes ≡ d ∷ descriptors_of rest
  pub least : least_length (kind_of d) ≤ length d
