-- The value of a pointer latch, and of which histories it is the result.
use Rattle.std.specs.Prelude.{◌≡◌, ℕ, ◌+◌, ◌≤◌, Bool, List, length}
use Rattle.input_latch.specs.declared.offered.TheConstants.{PLACES}
use Rattle.input_latch.specs.declared.pointer_latch.PointerChange.{PointerChange}
use Rattle.input_latch.specs.Buttons.{number_of_buttons}
use Rattle.input_latch.specs.PointerHistory.{PointerEntry, last_shown, delivered, accepted, undelivered, held}

-- the undelivered changes, oldest first, the buttons that are held, and the buttons of the last sample
pub record PointerLatchValue : Type 0 where
  pub waiting : List PointerChange
  pub holds : List Bool
  pub last : ℕ

pub record PointerLatchStands (latch : PointerLatchValue) (past : List PointerEntry) : Type 0 where
  pub waiting : latch.waiting ≡ undelivered past
  pub holds : latch.holds ≡ held past
  pub last : latch.last ≡ last_shown past
  pub given : delivered past ≤ length (accepted past)
  -- there is a place for each undelivered change and for the release of each button that is held
  pub places : length (undelivered past) + number_of_buttons (held past) ≤ PLACES
