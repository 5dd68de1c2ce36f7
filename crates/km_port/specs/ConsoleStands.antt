-- What the console stands for: nothing while no port has it, and else the view of the port that has it.
use Rattle.std.specs.Prelude.{◌≡◌, true, false, List, [], ◌∷◌}
use Rattle.control_pipe.specs.declared.reaction.Effect.{Effect}
use Rattle.control_pipe.specs.declared.reaction.Effect.TheVariants as effect
use Rattle.input_latch.specs.KeyHistory.{KeyEntry}
use Rattle.input_latch.specs.KeyHistory as keys
use Rattle.input_latch.specs.PointerHistory.{PointerEntry}
use Rattle.input_latch.specs.PointerHistory as pointer
use Rattle.input_latch.specs.KeyLatchStands.{KeyLatchStands}
use Rattle.input_latch.specs.PointerLatchStands.{PointerLatchStands}
use Rattle.emulated_keyboard.specs.KeyboardHistory as keyboard
use Rattle.emulated_mouse.specs.MouseHistory as mouse
use Rattle.emulated_keyboard.specs.Delivery as typed
use Rattle.emulated_mouse.specs.Delivery as moved
use Rattle.port_model.specs.Concerns.{Item}
use Rattle.port_model.specs.OnePort.{Parts, parts_of}
use Rattle.km_port.specs.declared.console.Console.{Console}
use Rattle.km_port.specs.declared.console.Vacant.{Vacant}
use Rattle.km_port.specs.declared.console.Owned.{Owned}

-- both latches are as if nothing had ever been shown
pub record VacantStands (console : Console Vacant) : Type 0 where
  pub keys : KeyLatchStands console.state.keys []
  pub pointer : PointerLatchStands console.state.pointer []

-- what a port was told where it is selected, and where it isn't
pub record IsSelected (parts : Parts) : Type 0 where
  pub keyboard : keyboard.is_entered (typed.sides_of parts.keys).keyboard ≡ true
  pub mouse : mouse.is_entered (moved.sides_of parts.pointer).mouse ≡ true

pub record IsApart (parts : Parts) : Type 0 where
  pub keyboard : keyboard.is_entered (typed.sides_of parts.keys).keyboard ≡ false
  pub mouse : mouse.is_entered (moved.sides_of parts.pointer).mouse ≡ false

-- both latches are as what was shown, polled and flushed leaves them
pub record LatchesStand (console : Console Owned) (parts : Parts) : Type 0 where
  pub selected : IsSelected parts
  pub keys : KeyLatchStands console.state.keys (typed.sides_of parts.keys).latch
  pub pointer : PointerLatchStands console.state.pointer (moved.sides_of parts.pointer).latch

abbrev pub OwnedStands : Console Owned → List Item → Type 0
OwnedStands console past = LatchesStand console (parts_of past)

-- what is flushed at the latches where a request completes, or the bus is reset
abbrev pub keys_flushed : Effect → List KeyEntry → List KeyEntry
keys_flushed effect.Nothing past = past
keys_flushed effect.Reset past = keys.Flushed ∷ past
keys_flushed effect.Configured past = keys.Flushed ∷ past
keys_flushed (effect.Restart endpoint) past = past

abbrev pub pointer_flushed : Effect → List PointerEntry → List PointerEntry
pointer_flushed effect.Nothing past = past
pointer_flushed effect.Reset past = pointer.Flushed ∷ past
pointer_flushed effect.Configured past = pointer.Flushed ∷ past
pointer_flushed (effect.Restart endpoint) past = past
