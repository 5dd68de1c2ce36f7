-- What a tally stands for: the descriptors that it took.
use Rattle.std.specs.Prelude.{◌≡◌, ℕ, ◌≤◌, List, [], ◌∷◌, ◌++◌, length, true, ◌==◌, if◌then◌else◌, Result, MatchResult, None, Some}
use Rattle.std.specs.List.{list_any}
use Rattle.usb_descriptor.specs.declared.fault.DescWhy.{DescWhy}
use Rattle.usb_descriptor.specs.declared.tally.Within.{Within}
use Rattle.usb_descriptor.specs.declared.tally.Within.TheVariants.{Configuration, Interface, Alternate}
use Rattle.usb_descriptor.specs.declared.tally.Tally.{Tally}
use Rattle.usb_descriptor.specs.Descriptor.{front_of, is_configuration, is_interface, SplitsFirst}
use Rattle.usb_descriptor.specs.Setting.{alternate_of, numbers_of, endpoints_of}
use Rattle.usb_descriptor.specs.Endpoint.{bit_set, in_numbers, out_numbers}
use Rattle.usb_descriptor.specs.Fault.{fault_of}

-- where what follows the descriptor d belongs
abbrev pub within_next : Within → List ℕ → Within
within_next w d = if is_interface d then (if alternate_of d == 0 then Interface else Alternate) else w

-- where what follows the descriptors belongs
unfoldable pub within_after : Within → List (List ℕ) → Within
within_after w [] = w
within_after w (d ∷ ds) = within_after (within_next w d) ds

-- the tally is that of these descriptors
pub record Tallies (ds : List (List ℕ)) (t : Tally) : Type 0 where
  pub configuration : list_any is_configuration ds ≡ true
  pub numbers : t.numbers.items ≡ numbers_of ds
  pub endpoints : t.endpoints ≡ length (endpoints_of ds)
  pub within : t.within ≡ within_after Configuration ds
  pub ins : t.ins ≡ bit_set (in_numbers ds)
  pub outs : t.outs ≡ bit_set (out_numbers ds)
  pub few_interfaces : length (numbers_of ds) ≤ 8
  pub few_endpoints : length (endpoints_of ds) ≤ 16

-- The tally takes d: whatever it stood for, it then stands for that and d, or d has the fault.
abbrev pub Takes : {X : Type 0} → Tally → List ℕ → Result X DescWhy → Tally → Type 0
Takes old d result new =
    (ds : List (List ℕ)) → Tallies ds old → MatchResult result
    (λ _. (fault_of ds d ≡ None) × Tallies (ds ++ d ∷ []) new)
    (λ why. fault_of ds d ≡ Some why)

-- The tally took the first descriptor of the bytes, nothing is wrong with it, and the rest comes after it.
pub record TakesFirst (ds : List (List ℕ)) (bytes rest : List ℕ) (new : Tally) : Type 0 where
  pub split : SplitsFirst bytes (front_of bytes) rest
  pub none : fault_of ds (front_of bytes) ≡ None
  pub tallies : Tallies (ds ++ front_of bytes ∷ []) new
