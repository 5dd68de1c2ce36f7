-- What a selection is found from: the panel's moves, and the clock events with what the console shows. No act of a
-- computer is among them.
use Rattle.std.specs.Prelude.{ℕ, Bool}
use Rattle.psd_base.specs.declared.console.Panel.{Panel}

-- a move at the panel at a tick; a clock event at a tick, with whether the console shows nothing pressed. Lists of
-- them are newest first.
pub data Moment : Type 0 where
  Moved : ℕ → Panel → Moment
  Ticked : ℕ → Bool → Moment
