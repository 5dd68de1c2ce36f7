-- The endpoints of a configuration as sets of numbers (USB 2.0, section 9.6.6).
use Rattle.std.specs.Prelude.{ℕ, ◌%◌, ◌^◌, List, [], ◌∷◌, map, filter, slice_index, nat_le, not, Bool, ◌&&◌, bit_or}
use Rattle.usb_descriptor.specs.Setting.{endpoints_of}

-- the low four bits of bEndpointAddress
abbrev pub endpoint_number : List ℕ → ℕ
endpoint_number d = slice_index d 2 % 16

-- bit 7 of bEndpointAddress
abbrev pub is_in : List ℕ → Bool
is_in d = nat_le 128 (slice_index d 2)

-- The two low bits of bmAttributes are 2 for bulk and 3 for interrupt, and the number isn't 0.
abbrev pub is_usable : List ℕ → Bool
is_usable d = nat_le 2 (slice_index d 3 % 4) && nat_le 1 (endpoint_number d)

-- the number with exactly these bits
unfoldable pub bit_set : List ℕ → ℕ
bit_set [] = 0
bit_set (n ∷ ns) = bit_or (2 ^ n) (bit_set ns)

-- the numbers of the bulk and interrupt endpoints among the descriptors, IN and OUT
abbrev pub in_numbers : List (List ℕ) → List ℕ
in_numbers ds = map endpoint_number (filter (λ d. is_usable d && is_in d) (endpoints_of ds))

abbrev pub out_numbers : List (List ℕ) → List ℕ
out_numbers ds = map endpoint_number (filter (λ d. is_usable d && not (is_in d)) (endpoints_of ds))
