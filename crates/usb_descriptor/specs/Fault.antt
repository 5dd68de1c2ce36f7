-- What is wrong with the bytes of a configuration, and where.
use Rattle.usb_descriptor.specs.declared.descriptor.TheConstants.{CONFIGURATION}
use Rattle.std.specs.Prelude.{◌≡◌, ℕ, ◌≤◌, List, [], ◌∷◌, ◌++◌, take, drop, length, nat_lt, Bool, false, not, ◌&&◌, ◌||◌, ◌==◌, if◌then◌else◌, Option, Some, None, Result, Ok, Err}
use Rattle.std.specs.List.{list_any, concat}
use Rattle.usb_descriptor.specs.declared.fault.DescWhy.{DescWhy}
use Rattle.usb_descriptor.specs.declared.fault.DescWhy.TheVariants.{Short, Length, Kind, Total, Order, TooMany}
use Rattle.usb_descriptor.specs.declared.fault.DescFault.{DescFault}
use Rattle.usb_descriptor.specs.Device.{word_at}
use Rattle.usb_descriptor.specs.Descriptor.{descriptors_of, kind_of, is_configuration, is_interface, is_endpoint, is_hid, is_whole}
use Rattle.usb_descriptor.specs.Setting.{begins_interface, interfaces_of, numbers_of, endpoints_of, number_of}

-- d comes first and isn't a configuration descriptor
abbrev pub has_wrong_kind : List (List ℕ) → List ℕ → Bool
has_wrong_kind [] d = not (is_configuration d)
has_wrong_kind (_ ∷ _) d = false

-- d has alternate setting 0 and the number of an interface before it
abbrev pub repeats_number : List (List ℕ) → List ℕ → Bool
repeats_number earlier d = begins_interface d && list_any (λ n. n == number_of d) (numbers_of earlier)

-- d belongs to an interface and none comes before it, or it is a second configuration descriptor, or
-- its interface number comes twice
abbrev pub is_misplaced : List (List ℕ) → List ℕ → Bool
is_misplaced earlier d =
    (is_endpoint d || is_hid d) && not (list_any is_interface earlier)
    || is_configuration d && list_any is_configuration earlier
    || repeats_number earlier d

-- more than 8 interfaces, or more than 16 endpoint descriptors of theirs
abbrev pub are_too_many : List (List ℕ) → Bool
are_too_many ds = nat_lt 8 (length (interfaces_of ds)) || nat_lt 16 (length (endpoints_of ds))

-- What is wrong with the descriptor d after the earlier ones. Of several faults the first counts.
unfoldable pub fault_of : List (List ℕ) → List ℕ → Option DescWhy
fault_of earlier d =
    if has_wrong_kind earlier d then Some Kind
    else if not (is_whole d) then Some Length
    else if is_misplaced earlier d then Some Order
    else if are_too_many (earlier ++ d ∷ []) then Some TooMany
    else None

-- the first descriptor with a fault: where it begins, and what is wrong
unfoldable pub first_fault : List (List ℕ) → List (List ℕ) → Option DescFault
first_fault earlier [] = None
first_fault earlier (d ∷ ds) = elim (fault_of earlier d) [
  | Some why ↦ Some (record { at = length (concat earlier); why = why })
  | None ↦ first_fault (earlier ++ d ∷ []) ds
]

-- wTotalLength isn't the number of bytes
unfoldable pub total_fault : List ℕ → Option DescFault
total_fault bytes = if word_at bytes 2 == length bytes then None else Some (record { at = 2; why = Total })

abbrev pub first_of : Option DescFault → Option DescFault → Option DescFault
first_of None other = other
first_of (Some fault) other = Some fault

-- The first fault of the bytes, if there is one. The total length stands behind the beginning of the
-- first descriptor and before that of the second.
unfoldable pub config_fault : List ℕ → Option DescFault
config_fault bytes =
    let ds = descriptors_of bytes in
    if nat_lt (length bytes) 9 then Some (record { at = 0; why = Short })
    else first_of (first_fault [] (take 1 ds)) (first_of (total_fault bytes) (first_fault (take 1 ds) (drop 1 ds)))

-- the bytes themselves where nothing is wrong with them, else the first fault
abbrev pub config_verdict : List ℕ → Result (List ℕ) DescFault
config_verdict bytes = elim (config_fault bytes) [ None ↦ Ok bytes | Some fault ↦ Err fault ]

-- The bytes begin with a configuration descriptor: what is wrong is their total length or stands in the
-- others.
pub record IsHeadedBy (bytes first others : List ℕ) : Type 0 where
  pub joined : bytes ≡ first ++ others
  pub cut : descriptors_of bytes ≡ first ∷ descriptors_of others
  pub kind : kind_of first ≡ CONFIGURATION
  pub long : 9 ≤ length bytes
  pub same : config_fault bytes ≡ first_of (total_fault bytes) (first_fault (first ∷ []) (descriptors_of others))
