-- The buttons as the panel keeps them: a flag for each port, from port 1 on.
use Rattle.std.specs.Prelude.{◌≡◌, ℕ, ◌+◌, ◌-◌, Bool, false, not, ◌&&◌, length, List, [], ◌∷◌, Option, None, slice_index_or, if◌then◌else◌}
use Rattle.psd_base.specs.Port.{IsPort}
use Rattle.psd_base.specs.declared.port.TheConstants.{MAX_PORTS}
use Rattle.selector.specs.Moments.{Moment}
use Rattle.selector.specs.Panel.{is_button_down, is_empty, only_one}

-- each flag is as the last move of its button left it
abbrev pub ButtonsStand : List Bool → List Moment → Type 0
ButtonsStand buttons past =
    (port : ℕ) → IsPort port → slice_index_or buttons (port - 1) false ≡ is_button_down port past

-- the ports whose flags are set, ascending, where the flags are those of the ports from this one on
abbrev pub ports_in : ℕ → List Bool → List ℕ
ports_in start [] = []
ports_in start (down ∷ buttons) =
    if down then start ∷ ports_in (start + 1) buttons else ports_in (start + 1) buttons

-- the port whose pair stands
abbrev pub pair_in : Bool → List Bool → Option ℕ
pair_in guard buttons = if guard then only_one (ports_in 1 buttons) else None

-- a flag for each port, and one that says whether no button is down
pub record IsPanel (guard : Bool) (buttons : List Bool) (buttons_up : Bool) : Type 0 where
  pub one_each : length buttons ≡ MAX_PORTS
  pub up : buttons_up ≡ (not guard && is_empty (ports_in 1 buttons))
