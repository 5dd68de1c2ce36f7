-- One change, and a list of them, as a key latch takes them.
use Rattle.std.specs.Prelude.{Bool, List, [], ◌∷◌, length}
use Rattle.input_latch.specs.declared.key_latch.KeyChange.{KeyChange}
use Rattle.input_latch.specs.declared.offered.Offered.{Offered}
use Rattle.input_latch.specs.KeyHistory.{held_with, verdict_on}
use Rattle.input_latch.specs.KeyLatchStands.{KeyLatchValue}
use Rattle.input_latch.specs.Verdict.{Verdict, Taken, Refused, PassedOver, counted, appended}

-- a latch, and what was counted so far
pub record KeyState : Type 0 where
  pub latch : KeyLatchValue
  pub counts : Offered

abbrev pub key_state : KeyLatchValue → Offered → KeyState
key_state latch counts = record { latch = latch; counts = counts }

abbrev pub held_by : Verdict → KeyChange → List Bool → List Bool
held_by Taken change keys = held_with keys change
held_by Refused change keys = keys
held_by PassedOver change keys = keys

abbrev pub with_verdict : Verdict → KeyChange → KeyLatchValue → KeyLatchValue
with_verdict verdict change latch =
    record latch { waiting = appended verdict change latch.waiting; holds = held_by verdict change latch.holds }

abbrev pub step_of : KeyState → KeyChange → KeyState
step_of state change =
    let verdict = verdict_on (length state.latch.waiting) state.latch.holds change in
    key_state (with_verdict verdict change state.latch) (counted verdict state.counts)

unfoldable pub steps_of : KeyState → List KeyChange → KeyState
steps_of state [] = state
steps_of state (change ∷ changes) = steps_of (step_of state change) changes
