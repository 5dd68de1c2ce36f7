-- How a key latch is kept.
use Rattle.std.specs.Prelude.{◌≡◌, ◌+◌, ◌≤◌, length, true}
use Rattle.input_latch.specs.declared.key_latch.KeyLatch.TheInside.{Inside}
use Rattle.input_latch.specs.declared.offered.TheConstants.{PLACES}
use Rattle.input_latch.specs.KeyClass.{number_of_keys}
use Rattle.input_latch.specs.KeyLatchStands.{KeyLatchValue}
use Rattle.input_latch.specs.PassedKeys.{are_passed_on}

abbrev pub key_latch_of : Inside → KeyLatchValue
key_latch_of latch = record { waiting = latch.waiting.items; holds = latch.held; last = latch.last }

pub record IsKeyLatch (latch : Inside) : Type 0 where
  pub size : latch.waiting.capacity ≡ PLACES
  pub passed_on : are_passed_on latch.waiting.items ≡ true
  pub places : length latch.waiting.items + number_of_keys latch.held ≤ PLACES
