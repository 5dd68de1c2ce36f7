-- The orders of a history with their ticks: jobs of one life of the token are one port's, and jobs of two lives are apart.
use Rattle.std.specs.Prelude.{◌≡◌, ◌≢◌, ℕ, ◌+◌, ◌≤◌, Bool, true, false, List, [], ◌∷◌, ◌++◌, map}
use Rattle.std.specs.List.{filter}
use Rattle.psd_base.specs.declared.console.Job.{Job}
use Rattle.psd_base.specs.declared.console.Order.{Order}
use Rattle.psd_base.specs.declared.console.Order.TheVariants as order
use Rattle.psd_base.specs.declared.console.Plug.{Plug}
use Rattle.psd_base.specs.declared.console.Plug.TheVariants.{Keyboard, Mouse, Token}
use Rattle.psd_base.specs.Event.{Seen}
use Rattle.peripheral_filter.specs.declared.rule.RuleSet.{RuleSet}
use Rattle.auth_router.specs.declared.slot.TheConstants.{RESET}
use Rattle.port_model.specs.Chosen.{selections}
use Rattle.port_model.specs.FrontEvents.{front_of}
use Rattle.switch_core.specs.Orders.{orders_at}
use Rattle.switch_core.specs.Ownership.{MakesJob}

-- an order, with the tick of its event
pub record StampedOrder : Type 0 where
  pub tick : ℕ
  pub ordered : Order

abbrev pub stamp : ℕ → Order → StampedOrder
stamp tick ordered = record { tick = tick; ordered = ordered }

abbrev pub stamps : ℕ → List Order → List StampedOrder
stamps tick orders = map (stamp tick) orders

-- the orders of a history, which is newest first; they are oldest first
abbrev pub stamped_orders : RuleSet → List Seen → List StampedOrder
stamped_orders rules [] = []
stamped_orders rules (event ∷ past) = stamped_orders rules past ++ stamps event.tick (orders_at rules event past)

-- whether an order is an ON or an OFF of the token
abbrev pub is_token : Plug → Bool
is_token Token = true
is_token Keyboard = false
is_token Mouse = false

abbrev pub is_power : Order → Bool
is_power (order.On plug life) = is_token plug
is_power (order.Off plug life) = is_token plug
is_power (order.Ask plug life number setup) = false
is_power (order.Job job) = false

-- the ONs and OFFs of the token
abbrev pub powers_in : List StampedOrder → List StampedOrder
powers_in orders = filter (λ s. is_power s.ordered) orders

-- There is an OFF of the token, and the next of its ONs and OFFs is an ON, RESET ticks later at the earliest.
pub record HasPowerCycle (orders : List StampedOrder) : Type 0 where
  pub off_tick : ℕ
  pub off_life : ℕ
  pub on_tick : ℕ
  pub on_life : ℕ
  pub earlier : List StampedOrder
  pub later : List StampedOrder
  pub cycle : powers_in orders
      ≡ earlier ++ stamp off_tick (order.Off Token off_life) ∷ stamp on_tick (order.On Token on_life) ∷ later
  pub rested : off_tick + RESET ≤ on_tick

-- Between two jobs of two lives, wherever they stand in the orders of a history, there is such an OFF with its ON.
abbrev pub ApartIn : RuleSet → List Seen → Type 0
ApartIn rules past =
    (before between after : List StampedOrder) (tick later : ℕ) (first second : Job)
    → stamped_orders rules past ≡ before ++ stamp tick (order.Job first) ∷ between ++ stamp later (order.Job second) ∷ after
    → first.life ≢ second.life → HasPowerCycle between

abbrev pub LivesAreApart : Type 0
LivesAreApart = (rules : RuleSet) (past : List Seen) → ApartIn rules past

-- two acts at these ticks and of these ports, of which one makes the first job and the other the second
pub record MadeBy (rules : RuleSet) (port other : ℕ) (past : List Seen) (tick later : ℕ) (first second : Job) : Type 0 where
  pub one : Seen
  pub two : Seen
  pub after : List Seen
  pub mid : List Seen
  pub before : List Seen
  pub past_is : past ≡ after ++ two ∷ mid ++ one ∷ before
  pub one_ticked : one.tick ≡ tick
  pub two_ticked : two.tick ≡ later
  pub made : MakesJob rules port first one before
  pub again : MakesJob rules other second two (mid ++ one ∷ before)

-- two such acts of one port, in one selection
pub record MadeByOnePort (rules : RuleSet) (past : List Seen) (tick later : ℕ) (first second : Job) : Type 0 where
  pub port : ℕ
  pub other : ℕ
  pub acts : MadeBy rules port other past tick later first second
  pub same : port ≡ other
  pub once : selections rules (front_of (acts.mid ++ acts.one ∷ acts.before)) ≡ selections rules (front_of acts.before)

-- Two jobs of one life, wherever they stand in the orders of a history, are one port's, made in one selection.
abbrev pub OnePortsIn : RuleSet → List Seen → Type 0
OnePortsIn rules past =
    (before between after : List StampedOrder) (tick later : ℕ) (first second : Job)
    → stamped_orders rules past ≡ before ++ stamp tick (order.Job first) ∷ between ++ stamp later (order.Job second) ∷ after
    → first.life ≡ second.life → MadeByOnePort rules past tick later first second

abbrev pub LifeIsOnePorts : Type 0
LifeIsOnePorts = (rules : RuleSet) (past : List Seen) → OnePortsIn rules past
