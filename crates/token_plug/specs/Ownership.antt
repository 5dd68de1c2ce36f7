-- No life of the token is routed to two ports.
use Rattle.std.specs.Prelude.{◌≡◌, ℕ, ◌+◌, ◌≤◌, Bool, true, not, ◌&&◌, List, [], ◌∷◌, ◌++◌, Option, Some, None, is_some, if◌then◌else◌}
use Rattle.psd_base.specs.declared.console.Plug.TheVariants.{Token}
use Rattle.psd_base.specs.declared.console.RuleName.{RuleName}
use Rattle.peripheral_filter.specs.declared.rule.RuleSet.{RuleSet}
use Rattle.console_host.specs.Lives.{is_ready_in}
use Rattle.auth_router.specs.declared.slot.SlotState.TheVariants as state
use Rattle.auth_router.specs.declared.slot.TheConstants.{RESET}
use Rattle.token_plug.specs.Moments.{Moment, Attached, Detached, Replied, Ticked, Woke, Darkened, Left, Selected}
use Rattle.token_plug.specs.Lives.{selected_at, power_at, state_at, life_at}
use Rattle.token_plug.specs.Routing.{routed_at}

abbrev pub tick_of : Moment → Option ℕ
tick_of (Attached tick) = Some tick
tick_of (Detached tick) = Some tick
tick_of (Replied life number tick reply) = Some tick
tick_of (Ticked tick) = Some tick
tick_of (Woke tick) = Some tick
tick_of (Darkened tick) = Some tick
tick_of (Left tick) = Some tick
tick_of (Selected port) = None

-- whether something begins, or ends
abbrev pub begins : Option ℕ → Option ℕ → Bool
begins before after = not (is_some before) && is_some after

-- whether power comes on, or goes off, or the token is routed, at a moment

abbrev pub comes_on_at : RuleSet → Moment → List Moment → Bool
comes_on_at rules moment past = begins (power_at rules past) (power_at rules (moment ∷ past))

abbrev pub goes_off_at : RuleSet → Moment → List Moment → Bool
goes_off_at rules moment past = begins (power_at rules (moment ∷ past)) (power_at rules past)

abbrev pub is_routed_at : RuleSet → Moment → List Moment → Bool
is_routed_at rules moment past = begins (routed_at rules past) (routed_at rules (moment ∷ past))

-- the token has no power after each of these moments
abbrev pub StaysOff : RuleSet → List Moment → List Moment → Type 0
StaysOff rules [] past = Unit {0}
StaysOff rules (moment ∷ moments) past = (power_at rules (moment ∷ moments ++ past) ≡ None) × StaysOff rules moments past

-- Power goes off at one of the moments after the past, and next comes on at a later one, a clock event of which the tick is at
-- least RESET above the tick of the OFF.
pub record PowerCycle (rules : RuleSet) (moments past : List Moment) : Type 0 where
  pub before : List Moment
  pub off : Moment
  pub off_tick : ℕ
  pub without : List Moment
  pub on_tick : ℕ
  pub later : List Moment
  pub moments_are : moments ≡ later ++ (Ticked on_tick ∷ without ++ off ∷ before)
  pub goes_off : goes_off_at rules off (before ++ past) ≡ true
  pub off_at : tick_of off ≡ Some off_tick
  pub stays_off : StaysOff rules without (off ∷ before ++ past)
  pub comes_on : comes_on_at rules (Ticked on_tick) (without ++ (off ∷ before ++ past)) ≡ true
  pub rested : off_tick + RESET ≤ on_tick

-- Where the token is routed to one port, and later to another, there is such an OFF with its ON between.
abbrev pub TwoPortsTwoLives : Type 0
TwoPortsTwoLives = (rules : RuleSet) (port other : ℕ) (moments past : List Moment)
    → routed_at rules past ≡ Some port → routed_at rules (moments ++ past) ≡ Some other → (port ≡ other → ⊥) → PowerCycle rules moments past

-- So there is between two moments at which the token is routed, to whichever ports.
abbrev pub RoutedOnceInALife : Type 0
RoutedOnceInALife = (rules : RuleSet) (first second : Moment) (between past : List Moment)
    → is_routed_at rules first past ≡ true → is_routed_at rules second (between ++ first ∷ past) ≡ true
    → PowerCycle rules between (first ∷ past)

-- The token is routed exactly where it is ready and a port is selected, and to that port.
abbrev pub RoutedToSelected : Type 0
RoutedToSelected = (rules : RuleSet) (past : List Moment)
    → routed_at rules past ≡ (if is_ready_in Token rules (life_at rules past) then selected_at past else None)

-- While nothing is selected the token isn't routed.
abbrev pub ApartWhileNoneIsSelected : Type 0
ApartWhileNoneIsSelected = (rules : RuleSet) (past : List Moment) → selected_at past ≡ None → routed_at rules past ≡ None

-- A token that was refused stays so, without power, until it is taken off.
abbrev pub StaysBarred : RuleSet → RuleName → Moment → List Moment → Type 0
StaysBarred rules rule (Detached tick) past = Unit {0}
StaysBarred rules rule moment past = (state_at rules (moment ∷ past) ≡ state.Barred rule) × (power_at rules (moment ∷ past) ≡ None)

abbrev pub BarredUntilDetached : Type 0
BarredUntilDetached = (rules : RuleSet) (rule : RuleName) (moment : Moment) (past : List Moment)
    → state_at rules past ≡ state.Barred rule → StaysBarred rules rule moment past
