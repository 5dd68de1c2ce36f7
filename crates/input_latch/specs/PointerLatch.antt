-- How a pointer latch is kept.
use Rattle.std.specs.Prelude.{◌≡◌, ◌+◌, ◌≤◌, length}
use Rattle.input_latch.specs.declared.offered.TheConstants.{PLACES}
use Rattle.input_latch.specs.declared.pointer_latch.PointerLatch.TheInside.{Inside}
use Rattle.input_latch.specs.Buttons.{number_of_buttons}
use Rattle.input_latch.specs.PointerLatchStands.{PointerLatchValue}

abbrev pub pointer_latch_of : Inside → PointerLatchValue
pointer_latch_of latch = record { waiting = latch.waiting.items; holds = latch.held; last = latch.last }

pub record IsPointerLatch (latch : Inside) : Type 0 where
  pub size : latch.waiting.capacity ≡ PLACES
  pub places : length latch.waiting.items + number_of_buttons latch.held ≤ PLACES
