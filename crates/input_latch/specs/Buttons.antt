-- The buttons of a mouse, by their numbers from 1 to 5.
use Rattle.std.specs.Prelude.{ℕ, zero, suc, ◌+◌, ◌-◌, ◌==◌, Bool, false, not, ◌&&◌, List, [], ◌∷◌, length, replicate, if◌then◌else◌}
use Rattle.std.specs.Int.{bit_at}
use Rattle.psd_base.specs.KeySet.{keys_from}

-- whether a button is down, by its bit
abbrev pub is_down : ℕ → ℕ → Bool
is_down buttons button = bit_at buttons (button - 1) == 1

-- the buttons that are down in the first set alone, among these n from a button on, ascending
unfoldable pub only_from : ℕ → ℕ → ℕ → ℕ → List ℕ
only_from buttons others button zero = []
only_from buttons others button (suc n) =
    if is_down buttons button && not (is_down others button)
    then button ∷ only_from buttons others (button + 1) n
    else only_from buttons others (button + 1) n

abbrev pub only_in : ℕ → ℕ → List ℕ
only_in buttons others = only_from buttons others 1 5

-- sets of held buttons as flags, the one of button 1 first
unfoldable pub no_buttons : List Bool
no_buttons = replicate 5 false

abbrev pub number_of_buttons : List Bool → ℕ
number_of_buttons buttons = length (keys_from buttons 0 5)
