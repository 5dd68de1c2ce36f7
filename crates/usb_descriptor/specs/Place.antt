-- The faults of a configuration, each by itself, at their places: which of them is the first.
use Rattle.std.specs.Prelude.{◌≡◌, ◌≢◌, ℕ, ◌<◌, ◌≤◌, List, [], ◌∷◌, ◌++◌, length, Bool, false, not, ◌⊎◌, IsTrue}
use Rattle.std.specs.List.{concat}
use Rattle.usb_descriptor.specs.declared.fault.DescWhy.{DescWhy}
use Rattle.usb_descriptor.specs.declared.fault.DescWhy.TheVariants.{Short, Length, Kind, Total, Order, TooMany}
use Rattle.usb_descriptor.specs.declared.fault.DescFault.{DescFault}
use Rattle.usb_descriptor.specs.Device.{word_at}
use Rattle.usb_descriptor.specs.Descriptor.{descriptors_of, is_whole}
use Rattle.usb_descriptor.specs.Fault.{has_wrong_kind, is_misplaced, are_too_many}

-- whether the descriptor d after the earlier ones has the fault; two faults are of no descriptor
abbrev pub is_faulty : DescWhy → List (List ℕ) → List ℕ → Bool
is_faulty Short earlier d = false
is_faulty Length earlier d = not (is_whole d)
is_faulty Kind earlier d = has_wrong_kind earlier d
is_faulty Total earlier d = false
is_faulty Order earlier d = is_misplaced earlier d
is_faulty TooMany earlier d = are_too_many (earlier ++ d ∷ [])

-- a descriptor that begins at this place has the fault
pub record IsOfDescriptor (bytes : List ℕ) (why : DescWhy) (at : ℕ) : Type 0 where
  pub earlier : List (List ℕ)
  pub descriptor : List ℕ
  pub later : List (List ℕ)
  pub cut : descriptors_of bytes ≡ earlier ++ descriptor ∷ later
  pub faulty : IsTrue (is_faulty why earlier descriptor)
  pub place : at ≡ length (concat earlier)

-- the bytes have the fault at this place
abbrev pub StandsAt : List ℕ → DescWhy → ℕ → Type 0
StandsAt bytes Short at = (length bytes < 9) × (at ≡ 0)
StandsAt bytes Length at = IsOfDescriptor bytes Length at
StandsAt bytes Kind at = IsOfDescriptor bytes Kind at
StandsAt bytes Total at = (word_at bytes 2 ≢ length bytes) × (at ≡ 2)
StandsAt bytes Order at = IsOfDescriptor bytes Order at
StandsAt bytes TooMany at = IsOfDescriptor bytes TooMany at

-- the order of judging at one place
abbrev pub rank : DescWhy → ℕ
rank Short = 0
rank Kind = 1
rank Length = 2
rank Total = 3
rank Order = 4
rank TooMany = 5

-- the fault f stands before this one, or at its place and is judged no later
abbrev pub ComesFirst : DescFault → DescWhy → ℕ → Type 0
ComesFirst f why at = (f.at < at) ⊎ ((f.at ≡ at) × (rank f.why ≤ rank why))
