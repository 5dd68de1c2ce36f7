-- The wiring of a switch: the port of each number lies in its place, and the one that has the console knows it.
use Rattle.std.specs.Prelude.{◌≡◌, ℕ, ◌+◌, ◌==◌, nat_le, Bool, true, false, IsTrue, List, length, Some, slice_get}
use Rattle.switch_core.specs.declared.seat.Seat.{Seat}
use Rattle.switch_core.specs.declared.seat.Seat.TheVariants as seat
use Rattle.switch_core.specs.declared.slot.Slot.{Slot}
use Rattle.switch_core.specs.declared.slot.Slot.TheVariants as slot

abbrev pub slot_number : Slot → ℕ
slot_number (slot.Dark port) = port.id
slot_number (slot.Live port) = port.id

-- whether the port of this number has the console
abbrev pub is_owner : Seat → ℕ → Bool
is_owner (seat.Vacant console) number = false
is_owner (seat.Owned console) number = console.state.port == number
is_owner seat.Between number = false

-- whether the keyboard and the mouse of a port are told that it is selected; those of a dark port never are
abbrev pub is_keyboard_entered : Slot → Bool
is_keyboard_entered (slot.Dark port) = false
is_keyboard_entered (slot.Live port) = port.state.pipe.function.keyboard.entered

abbrev pub is_mouse_entered : Slot → Bool
is_mouse_entered (slot.Dark port) = false
is_mouse_entered (slot.Live port) = port.state.pipe.function.mouse.entered

-- a port with its number, which is told whether it has the console
pub record IsTold (owner : Bool) (port : Slot) : Type 0 where
  pub keyboard : is_keyboard_entered port ≡ owner
  pub mouse : is_mouse_entered port ≡ owner

pub record IsSlot (owner : Bool) (number : ℕ) (port : Slot) : Type 0 where
  pub numbered : slot_number port ≡ number
  pub told : IsTold owner port

-- ports are numbered from 1, in the order in which they lie; `owner` tells which of them has the console
abbrev pub AreWired : List Slot → (ℕ → Bool) → Type 0
AreWired ports owner =
    (place : ℕ) (port : Slot) → slice_get ports place ≡ Some port → IsSlot (owner (place + 1)) (place + 1) port

-- whether the console is with one of so many ports, or with none
abbrev pub is_seated : ℕ → Seat → Bool
is_seated count (seat.Vacant console) = true
is_seated count (seat.Owned console) = nat_le console.state.port count
is_seated count seat.Between = false

pub record IsWired (ports : List Slot) (seat : Seat) : Type 0 where
  pub seated : IsTrue (is_seated (length ports) seat)
  pub wired : AreWired ports (is_owner seat)
