-- What the console of a switch stands for: the selected port, if one is, has it.
use Rattle.std.specs.Prelude.{◌≡◌, ℕ, ◌≤◌, true, List, Option, Some, None}
use Rattle.port_model.specs.Concerns.{Item, is_live}
use Rattle.km_port.specs.ConsoleStands.{VacantStands, OwnedStands}
use Rattle.km_port.specs.declared.console.Console.{Console}
use Rattle.km_port.specs.declared.console.Owned.{Owned}
use Rattle.km_port.specs.declared.console.Vacant.{Vacant}
use Rattle.switch_core.specs.declared.seat.Seat.{Seat}
use Rattle.switch_core.specs.declared.seat.Seat.TheVariants as seat

pub record VacantSeat (console : Console Vacant) (chosen : Option ℕ) : Type 0 where
  pub nobody : chosen ≡ None
  pub stands : VacantStands console

pub record OwnedSeat (console : Console Owned) (chosen : Option ℕ) (views : ℕ → List Item) : Type 0 where
  pub owner : chosen ≡ Some console.state.port
  pub stands : OwnedStands console (views console.state.port)

abbrev pub SeatStands : Seat → Option ℕ → (ℕ → List Item) → Type 0
SeatStands (seat.Vacant console) chosen views = VacantSeat console chosen
SeatStands (seat.Owned console) chosen views = OwnedSeat console chosen views
SeatStands seat.Between chosen views = ⊥

-- whether a port can get the console: it is there, and awake
abbrev pub CanHave : ℕ → (ℕ → List Item) → Option ℕ → Type 0
CanHave count views None = Unit {0}
CanHave count views (Some port) = (port ≤ count) × (is_live (views port) ≡ true)

-- how often the console was given
abbrev pub give_count : Seat → ℕ
give_count (seat.Vacant console) = console.gives
give_count (seat.Owned console) = console.gives
give_count seat.Between = 0
