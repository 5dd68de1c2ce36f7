-- The bytes that an outlet in memory was sent, and the room that it has.
use Rattle.std.specs.Prelude.{ℕ, ◌-◌, List, ◌++◌, length}

-- `room` counts the bytes that were sent too
pub record Stored : Type 0 where
  pub bytes : List ℕ
  pub room : ℕ

abbrev pub room_left : Stored → ℕ
room_left store = store.room - length store.bytes

abbrev pub append_to : Stored → List ℕ → Stored
append_to store more = record { bytes = store.bytes ++ more; room = store.room }
