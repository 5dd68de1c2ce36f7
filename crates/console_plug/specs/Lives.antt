-- When the peripheral at a plug has power, and how its lives are numbered.
use Rattle.std.specs.Prelude.{ℕ, ◌+◌, Bool, true, false, not, ◌&&◌, List, [], ◌∷◌, Option, Some, None, if◌then◌else◌}
use Rattle.psd_base.specs.declared.console.Plug.{Plug}
use Rattle.peripheral_filter.specs.declared.rule.RuleSet.{RuleSet}
use Rattle.console_host.specs.Plan.{Plan, Asks, IsReady, Refuses}
use Rattle.console_host.specs.Lives as host
use Rattle.console_host.specs.Lives.{Call, Life, plan_of, standing}
use Rattle.console_plug.specs.Moments.{Moment, Attached, Detached, Replied, Reported, Ticked, Woke, Darkened}

-- whether a peripheral is there
abbrev pub is_attached : List Moment → Bool
is_attached [] = false
is_attached (Attached tick ∷ past) = true
is_attached (Detached ∷ past) = false
is_attached (Replied life number tick reply ∷ past) = is_attached past
is_attached (Reported interface bytes ∷ past) = is_attached past
is_attached (Ticked tick ∷ past) = is_attached past
is_attached (Woke tick ∷ past) = is_attached past
is_attached (Darkened ∷ past) = is_attached past

-- whether the switch is alive
abbrev pub is_alive : List Moment → Bool
is_alive [] = false
is_alive (Attached tick ∷ past) = is_alive past
is_alive (Detached ∷ past) = is_alive past
is_alive (Replied life number tick reply ∷ past) = is_alive past
is_alive (Reported interface bytes ∷ past) = is_alive past
is_alive (Ticked tick ∷ past) = is_alive past
is_alive (Woke tick ∷ past) = true
is_alive (Darkened ∷ past) = false

-- Power comes on where a peripheral is attached while the switch is alive, and where the switch becomes alive while one is
-- there. What is attached already isn't attached again, and a switch that is alive already doesn't become so.
abbrev pub gets_power : Moment → List Moment → Bool
gets_power (Attached tick) past = is_alive past && not (is_attached past)
gets_power (Woke tick) past = is_attached past && not (is_alive past)
gets_power Detached past = false
gets_power (Replied life number tick reply) past = false
gets_power (Reported interface bytes) past = false
gets_power (Ticked tick) past = false
gets_power Darkened past = false

abbrev pub one_more_if : Bool → ℕ → ℕ
one_more_if more count = if more then count + 1 else count

-- how often power came on: lives are numbered from 1
abbrev pub lives : List Moment → ℕ
lives [] = 0
lives (moment ∷ past) = one_more_if (gets_power moment past) (lives past)

abbrev pub with_life_if : Bool → ℕ → ℕ → List Call → List Call
with_life_if begins life tick calls = if begins then host.Began life tick ∷ calls else calls

-- What is told to the enumeration: that a life begins, each reply, the ticks of the clock, that the switch went dark, and that
-- the peripheral was taken off.
abbrev pub host_calls : List Moment → List Call
host_calls [] = []
host_calls (Attached tick ∷ past) = with_life_if (gets_power (Attached tick) past) (lives past + 1) tick (host_calls past)
host_calls (Woke tick ∷ past) = with_life_if (gets_power (Woke tick) past) (lives past + 1) tick (host_calls past)
host_calls (Detached ∷ past) = host.Detached ∷ host_calls past
host_calls (Replied life number tick reply ∷ past) = host.Replied life number tick reply ∷ host_calls past
host_calls (Reported interface bytes ∷ past) = host_calls past
host_calls (Ticked tick ∷ past) = host.Ticked tick ∷ host_calls past
host_calls (Darkened ∷ past) = host.LifeDropped ∷ host_calls past

-- the present life, as the enumeration has it
abbrev pub life_at : Plug → RuleSet → List Moment → Option Life
life_at plug rules past = (standing plug rules (host_calls past)).life

-- a peripheral that is refused loses its power, by its plan or because it stayed silent
abbrev pub stands_by_plan : Plan → Bool
stands_by_plan (Asks setup) = true
stands_by_plan IsReady = true
stands_by_plan (Refuses rule) = false

abbrev pub has_power : Plug → RuleSet → Life → Bool
has_power plug rules life = not life.is_given_up && stands_by_plan (plan_of plug rules life)

abbrev pub powered : Plug → RuleSet → Option Life → Option ℕ
powered plug rules None = None
powered plug rules (Some life) = if has_power plug rules life then Some life.number else None

-- the number of the life that has power, if one has
abbrev pub power_at : Plug → RuleSet → List Moment → Option ℕ
power_at plug rules past = powered plug rules (life_at plug rules past)
