-- What the selection's moments tell of the buttons.
use Rattle.std.proofs.Common.{if◌then◌else◌, ◌≡◌, ℕ, Bool, true, false, not, ◌&&◌, List, [], ◌∷◌, Option, None, filter, unwrap_or, refl, ap, ◌∙◌, cond, lit<, ◌<◌}
use Rattle.psd_base.specs.History.{newest, or_else}
use Rattle.psd_base.specs.declared.console.Panel.{Panel}
use Rattle.psd_base.specs.declared.console.Panel.TheVariants as panel
use Rattle.psd_base.specs.declared.port.TheConstants.{MAX_PORTS}
use Rattle.psd_base.specs.Event.{MovesWithin, Doing, TimePasses, PanelMoves, Attaches, Detaches, Replies, Reports, Finishes}
use Rattle.peripheral_filter.specs.declared.rule.RuleSet.{RuleSet}
use Rattle.fail_secure.specs.declared.health.Health.{Health}
use Rattle.fail_secure.specs.declared.health.Health.TheVariants.{Testing, Alive, Dark}
use Rattle.fail_secure.specs.Health.{IsUnfinished}
use Rattle.fail_secure.specs.HealthChange.{is_alive}
use Rattle.fail_secure.specs.declared.health.TheConstants.{ALL_CHECKS}
use Rattle.selector.specs.Moments.{Moment, Moved, Ticked}
use Rattle.selector.specs.Panel.{guard_told, button_told, is_guard_down, is_button_down, ports_down, are_buttons_up, numbers_from, is_empty}
use Rattle.port_model.specs.FrontEvents.{FrontEvent, front_event}
use Rattle.port_model.specs.Peripherals.{shows_nothing}
use Rattle.port_model.specs.FrontHealth.{IsKnownCheck, checks_in, health_at, panel_moves}
use Rattle.port_model.specs.Chosen.{moments_in}

-- what moves alone tell is told by the moments from which the selection is found
newest-moves : (rules : RuleSet) (told : Moment → Option Bool) → ((tick : ℕ) (all_up : Bool) → told (Ticked tick all_up) ≡ None)
    → (past : List FrontEvent) → newest told (moments_in rules past) ≡ newest told (panel_moves past)
newest-moves rules told clocks_tell_nothing [] = refl
newest-moves rules told clocks_tell_nothing (event ∷ past) = by_doing event.tick event.doing (newest-moves rules told clocks_tell_nothing past) where
  by_alive : (tick : ℕ) (all_up alive : Bool) → newest told (moments_in rules past) ≡ newest told (panel_moves past)
      → newest told (if alive then Ticked tick all_up ∷ moments_in rules past else moments_in rules past) ≡ newest told (panel_moves past)
  by_alive tick all_up true later = rw (clocks_tell_nothing tick all_up) later
  by_alive tick all_up false later = later

  by_doing : (tick : ℕ) (doing : Doing) → newest told (moments_in rules past) ≡ newest told (panel_moves past)
      → newest told (moments_in rules (front_event tick doing ∷ past)) ≡ newest told (panel_moves (front_event tick doing ∷ past))
  by_doing tick (PanelMoves move) later = ap (or_else (told (Moved tick move))) later
  by_doing tick TimePasses later = by_alive tick (shows_nothing rules past) (is_alive (health_at past)) later
  by_doing tick (Attaches plug) later = later
  by_doing tick (Detaches plug) later = later
  by_doing tick (Replies plug life number status bytes) later = later
  by_doing tick (Reports plug interface bytes) later = later
  by_doing tick (Finishes life number status bytes) later = later

filter-same : (first second : ℕ → Bool) → ((n : ℕ) → first n ≡ second n) → (ns : List ℕ) → filter first ns ≡ filter second ns
filter-same first second same [] = refl
filter-same first second same (n ∷ ns) = rw (same n) (ap (λ (rest : List ℕ). cond (second n) (n ∷ rest) rest) (filter-same first second same ns))

-- the buttons are as the panel's moves left them
pub are_buttons_up-moves : (rules : RuleSet) (past : List FrontEvent) → are_buttons_up (moments_in rules past) ≡ are_buttons_up (panel_moves past)
unfolding ports_down
are_buttons_up-moves rules past =
    let guard : is_guard_down (moments_in rules past) ≡ is_guard_down (panel_moves past) =
    ap (λ (told : Option Bool). unwrap_or told false) (newest-moves rules guard_told (λ tick all_up. refl) past) in
    let button : (port : ℕ) → is_button_down port (moments_in rules past) ≡ is_button_down port (panel_moves past) =
    λ port. ap (λ (told : Option Bool). unwrap_or told false) (newest-moves rules (button_told port) (λ tick all_up. refl) past) in
    let down = filter-same (λ port. is_button_down port (moments_in rules past)) (λ port. is_button_down port (panel_moves past)) button (numbers_from 1 MAX_PORTS) in
    ap (λ (b : Bool). not b && is_empty (ports_down (moments_in rules past))) guard ∙ ap (λ (ports : List ℕ). not (is_guard_down (panel_moves past)) && is_empty ports) down

pub unfinished : (health : Health) → checks_in health < ALL_CHECKS → IsUnfinished health
unfinished (Testing passed) few = few
unfinished Alive few = tt
unfinished Dark few = tt

pub few_checks : (health : Health) → IsUnfinished health → checks_in health < ALL_CHECKS
few_checks (Testing passed) few = few
few_checks Alive few = lit< tt
few_checks Dark few = lit< tt

pub known_check : (ports : ℕ) (move : Panel) → MovesWithin ports move → IsKnownCheck move
known_check ports (panel.Guard down) within = within
known_check ports (panel.Button port down) within = tt
known_check ports (panel.Check check passed) within = within
known_check ports panel.Tamper within = within
