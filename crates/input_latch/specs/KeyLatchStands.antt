-- The value of a key latch, and of which histories it is the result.
use Rattle.std.specs.Prelude.{◌≡◌, ◌+◌, ◌≤◌, Bool, List, length}
use Rattle.input_latch.specs.declared.key_latch.KeyChange.{KeyChange}
use Rattle.input_latch.specs.declared.offered.TheConstants.{PLACES}
use Rattle.input_latch.specs.KeyClass.{number_of_keys}
use Rattle.input_latch.specs.KeyHistory.{KeyEntry, last_shown, delivered, accepted, undelivered, held}

-- the undelivered changes, oldest first, the keys that are held, and the set that was shown last
pub record KeyLatchValue : Type 0 where
  pub waiting : List KeyChange
  pub holds : List Bool
  pub last : List Bool

pub record KeyLatchStands (latch : KeyLatchValue) (past : List KeyEntry) : Type 0 where
  pub waiting : latch.waiting ≡ undelivered past
  pub holds : latch.holds ≡ held past
  pub last : latch.last ≡ last_shown past
  pub given : delivered past ≤ length (accepted past)
  -- there is a place for each undelivered change and for the release of each key that is held
  pub places : length (undelivered past) + number_of_keys (held past) ≤ PLACES
