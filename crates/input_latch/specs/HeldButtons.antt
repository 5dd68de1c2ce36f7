-- How the held buttons are kept: a flag for each, and how many are set.
use Rattle.std.specs.Prelude.{◌≡◌, ℕ, Bool, List, length}
use Rattle.input_latch.specs.Buttons.{number_of_buttons}

pub record AreCounted (buttons : List Bool) (count : ℕ) : Type 0 where
  pub one_each : length buttons ≡ 5
  pub number : count ≡ number_of_buttons buttons
