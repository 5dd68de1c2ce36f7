-- What happened at the front of the switch: at its panel, at the plugs of its console, and as time passed. Health, selection
-- and the peripherals' lives are found from it alone, and no act of a computer is among it.
use Rattle.std.specs.Prelude.{ℕ, List, [], ◌∷◌}
use Rattle.psd_base.specs.Event.{Doing, Happening, PortActs, AtFront, Seen}

pub record FrontEvent : Type 0 where
  pub tick : ℕ
  pub doing : Doing

abbrev pub front_event : ℕ → Doing → FrontEvent
front_event tick doing = record { tick = tick; doing = doing }

-- what of a history of events happened at the front, newest first
abbrev pub front_of : List Seen → List FrontEvent
front_of [] = []
front_of (event ∷ past) = with_happening event.tick event.happening (front_of past) where
  with_happening : ℕ → Happening → List FrontEvent → List FrontEvent
  with_happening tick (PortActs port side act) front = front
  with_happening tick (AtFront doing) front = front_event tick doing ∷ front
