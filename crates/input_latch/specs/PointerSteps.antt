-- One change, and a list of them, as a pointer latch takes them.
use Rattle.std.specs.Prelude.{Bool, List, [], ◌∷◌, length}
use Rattle.input_latch.specs.declared.motion.Join.TheVariants.{Apart}
use Rattle.input_latch.specs.declared.offered.Offered.{Offered}
use Rattle.input_latch.specs.declared.pointer_latch.PointerChange.{PointerChange}
use Rattle.input_latch.specs.PointerHistory.{Effect, Appended, Added, TurnedAway, PassedOver, held_with, effect_on, effect_of_motion, changed, counted_by}
use Rattle.input_latch.specs.PointerLatchStands.{PointerLatchValue}

-- a latch, and what was counted so far
pub record PointerState : Type 0 where
  pub latch : PointerLatchValue
  pub counts : Offered

abbrev pub pointer_state : PointerLatchValue → Offered → PointerState
pointer_state latch counts = record { latch = latch; counts = counts }

abbrev pub held_by : Effect → PointerChange → List Bool → List Bool
held_by Appended change buttons = held_with buttons change
held_by (Added x y wheel) change buttons = buttons
held_by TurnedAway change buttons = buttons
held_by PassedOver change buttons = buttons

abbrev pub with_effect : Effect → PointerChange → PointerLatchValue → PointerLatchValue
with_effect effect change latch =
    record latch { waiting = changed effect change latch.waiting; holds = held_by effect change latch.holds }

abbrev pub step_of : PointerState → PointerChange → PointerState
step_of state change =
    let effect = effect_on state.latch.waiting state.latch.holds change in
    pointer_state (with_effect effect change state.latch) (counted_by effect state.counts)

-- the step of a motion that isn't added to the change before it
abbrev pub apart_step : PointerState → PointerChange → PointerState
apart_step state change =
    let effect = effect_of_motion Apart (length state.latch.waiting) state.latch.holds in
    pointer_state (with_effect effect change state.latch) (counted_by effect state.counts)

unfoldable pub steps_of : PointerState → List PointerChange → PointerState
steps_of state [] = state
steps_of state (change ∷ changes) = steps_of (step_of state change) changes
