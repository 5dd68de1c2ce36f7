-- Which port is selected after what happened at the front, newest first.
use Rattle.std.specs.Prelude.{ℕ, ◌+◌, Bool, false, not, ◌==◌, List, [], ◌∷◌, Option, Some, None, if◌then◌else◌}
use Rattle.psd_base.specs.Event.{Doing, TimePasses, PanelMoves}
use Rattle.fail_secure.specs.declared.health.Health.{Health}
use Rattle.fail_secure.specs.HealthChange.{is_alive}
use Rattle.peripheral_filter.specs.declared.rule.RuleSet.{RuleSet}
use Rattle.selector.specs.declared.selector.Move.{Move}
use Rattle.selector.specs.declared.selector.Move.TheVariants as move
use Rattle.selector.specs.Moments.{Moment, Moved, Ticked}
use Rattle.selector.specs.Choice.{choice_after, selected_in, move_of}
use Rattle.port_model.specs.FrontEvents.{FrontEvent, front_event}
use Rattle.port_model.specs.FrontHealth.{health_at}
use Rattle.port_model.specs.Peripherals.{shows_nothing}

-- what the selection is found from: the moves at the panel, and while the switch is alive the clock events, with what the
-- console shows
abbrev pub with_moment : ℕ → Doing → Health → Bool → List Moment → List Moment
with_moment tick (PanelMoves move) health all_up moments = Moved tick move ∷ moments
with_moment tick TimePasses health all_up moments = if is_alive health then Ticked tick all_up ∷ moments else moments
with_moment tick _ health all_up moments = moments

abbrev pub moments_in : RuleSet → List FrontEvent → List Moment
moments_in rules [] = []
moments_in rules (event ∷ past) = with_moment event.tick event.doing (health_at past) (shows_nothing rules past) (moments_in rules past)

-- the port that is selected; outside Alive none is
abbrev pub selected_at : RuleSet → List FrontEvent → Option ℕ
selected_at rules past = if is_alive (health_at past) then selected_in (choice_after (moments_in rules past)) else None

-- what a clock event at this tick changes in the selection
abbrev pub move_at : RuleSet → ℕ → List FrontEvent → Move
move_at rules tick past =
    if is_alive (health_at past)
    then move_of (choice_after (moments_in rules past)) (choice_after (moments_in rules (front_event tick TimePasses ∷ past)))
    else move.Stay

-- whether this port is the one
abbrev pub is_at : ℕ → Option ℕ → Bool
is_at port None = false
is_at port (Some chosen) = chosen == port

-- whether a port is selected that wasn't before
abbrev pub is_given : Option ℕ → Option ℕ → Bool
is_given before None = false
is_given before (Some port) = not (is_at port before)

abbrev pub given_after : Option ℕ → Option ℕ → ℕ → ℕ
given_after before after gives = if is_given before after then gives + 1 else gives

-- how many selections there were
abbrev pub selections : RuleSet → List FrontEvent → ℕ
selections rules [] = 0
selections rules (event ∷ past) = given_after (selected_at rules past) (selected_at rules (event ∷ past)) (selections rules past)
