-- Which buttons are down, and which pair of them stands.
use Rattle.std.specs.Prelude.{ℕ, zero, suc, ◌+◌, Bool, true, false, not, ◌&&◌, ◌==◌, List, [], ◌∷◌, Option, Some, None, unwrap_or, filter, if◌then◌else◌}
use Rattle.psd_base.specs.History.{newest}
use Rattle.psd_base.specs.declared.console.Panel.{Panel}
use Rattle.psd_base.specs.declared.console.Panel.TheVariants as panel
use Rattle.psd_base.specs.declared.port.TheConstants.{MAX_PORTS}
use Rattle.selector.specs.Moments.{Moment, Moved, Ticked}

-- what a moment tells of the guard button
abbrev pub guard_told : Moment → Option Bool
guard_told (Ticked tick all_up) = None
guard_told (Moved tick move) = by_panel move where
  by_panel : Panel → Option Bool
  by_panel (panel.Guard down) = Some down
  by_panel (panel.Button port down) = None
  by_panel (panel.Check check passed) = None
  by_panel panel.Tamper = None

-- what a moment tells of a port's button
abbrev pub button_told : ℕ → Moment → Option Bool
button_told port (Ticked tick all_up) = None
button_told port (Moved tick move) = by_panel move where
  by_panel : Panel → Option Bool
  by_panel (panel.Guard down) = None
  by_panel (panel.Button other down) = if other == port then Some down else None
  by_panel (panel.Check check passed) = None
  by_panel panel.Tamper = None

-- a button is as the last move left it, and up before the first
abbrev pub is_guard_down : List Moment → Bool
is_guard_down past = unwrap_or (newest guard_told past) false

abbrev pub is_button_down : ℕ → List Moment → Bool
is_button_down port past = unwrap_or (newest (button_told port) past) false

-- so many numbers from one on
abbrev pub numbers_from : ℕ → ℕ → List ℕ
numbers_from start zero = []
numbers_from start (suc count) = start ∷ numbers_from (start + 1) count

-- the ports whose buttons are down, ascending
unfoldable pub ports_down : List Moment → List ℕ
ports_down past = filter (λ port. is_button_down port past) (numbers_from 1 MAX_PORTS)

abbrev pub is_empty : List ℕ → Bool
is_empty [] = true
is_empty (port ∷ ports) = false

abbrev pub only_one : List ℕ → Option ℕ
only_one [] = None
only_one (port ∷ ports) = if is_empty ports then Some port else None

-- whether no button is down
abbrev pub are_buttons_up : List Moment → Bool
are_buttons_up past = not (is_guard_down past) && is_empty (ports_down past)

-- the port whose pair stands: the guard button and exactly this port's button are down
abbrev pub pair_after : List Moment → Option ℕ
pair_after past = if is_guard_down past then only_one (ports_down past) else None

abbrev pub is_same_pair : Option ℕ → Option ℕ → Bool
is_same_pair None None = true
is_same_pair None (Some second) = false
is_same_pair (Some first) None = false
is_same_pair (Some first) (Some second) = first == second

-- since when the pair stands: the tick of the earliest move of the trailing run of moves that left the same pair
abbrev pub pair_since : List Moment → ℕ
pair_since [] = 0
pair_since (Ticked tick all_up ∷ past) = pair_since past
pair_since (Moved tick move ∷ past) =
    if is_same_pair (pair_after past) (pair_after (Moved tick move ∷ past)) then pair_since past else tick
