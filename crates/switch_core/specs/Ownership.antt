-- Whose the token is: by the jobs that it is ordered to do, and by who hears that they are done.
use Rattle.std.specs.Prelude.{◌≡◌, ◌≢◌, ℕ, false, List, [], ◌∷◌, ◌++◌, Some, ◌⊎◌}
use Rattle.psd_base.specs.declared.act.Act.{Act}
use Rattle.psd_base.specs.declared.act.Side.{Side}
use Rattle.psd_base.specs.declared.console.Job.{Job}
use Rattle.psd_base.specs.declared.console.Order.TheVariants as order
use Rattle.psd_base.specs.Event.{Seen, PortActs, AtFront, Finishes}
use Rattle.fail_secure.specs.HealthChange.{is_alive}
use Rattle.peripheral_filter.specs.declared.rule.RuleSet.{RuleSet}
use Rattle.token_plug.specs.Moments.{Moment}
use Rattle.token_plug.specs.Ownership.{PowerCycle}
use Rattle.port_model.specs.Concerns.{Token, item}
use Rattle.port_model.specs.Concerns as news
use Rattle.port_model.specs.Chosen.{selected_at, selections}
use Rattle.port_model.specs.FrontEvents.{FrontEvent, front_of}
use Rattle.port_model.specs.FrontHealth.{health_at}
use Rattle.switch_core.specs.Orders.{act_orders, orders_at}
use Rattle.port_model.specs.Token.{moments_at, token_history, token_life, token_port}
use Rattle.port_model.specs.View.{view}

-- the token says that a job is done, with its life, its number, the status and the bytes
abbrev pub job_done : ℕ → ℕ → ℕ → ℕ → List ℕ → Seen
job_done tick life number status bytes = record { tick = tick; happening = AtFront (Finishes life number status bytes) }

-- A port hears that a job is done: its view grows by that alone, the token is routed to it, it is the selected port, and the job
-- is one of the token's present life.
pub record HearsAsOwner (rules : RuleSet) (port tick life number status : ℕ) (bytes : List ℕ) (past : List Seen) : Type 0 where
  pub heard : view rules port (job_done tick life number status bytes ∷ past)
      ≡ item tick (Token (news.Finishes number status bytes)) ∷ view rules port past
  pub routed : token_port rules (front_of past) ≡ Some port
  pub selected : selected_at rules (front_of past) ≡ Some port
  pub present : life ≡ token_life rules (front_of past)

-- Wherever in a history the token says that a job is done, that is heard by its owner alone.
abbrev pub HeardIn : RuleSet → List Seen → Type 0
HeardIn rules events = (port tick life number status : ℕ) (bytes : List ℕ) (later past : List Seen)
    → events ≡ later ++ job_done tick life number status bytes ∷ past
    → view rules port (job_done tick life number status bytes ∷ past) ≢ view rules port past
    → HearsAsOwner rules port tick life number status bytes past

abbrev pub HeardByOwnerAlone : Type 0
HeardByOwnerAlone = (rules : RuleSet) (events : List Seen) → HeardIn rules events

-- Where in a history the token is routed twice in one life, it is routed to one port.
abbrev pub RoutedOnceIn : RuleSet → List Seen → Type 0
RoutedOnceIn rules events = (port other : ℕ) (later between past : List Seen) → events ≡ later ++ between ++ past
    → token_port rules (front_of past) ≡ Some port → token_port rules (front_of (between ++ past)) ≡ Some other
    → token_life rules (front_of past) ≡ token_life rules (front_of (between ++ past)) → port ≡ other

abbrev pub LifeIsRoutedOnce : Type 0
LifeIsRoutedOnce = (rules : RuleSet) (events : List Seen) → RoutedOnceIn rules events

-- an event is an act of a port's computer that makes a job
pub record MakesJob (rules : RuleSet) (port : ℕ) (job : Job) (event : Seen) (past : List Seen) : Type 0 where
  pub side : Side
  pub act : Act
  pub happens : event.happening ≡ PortActs port side act
  pub ordered : orders_at rules event past ≡ order.Job job ∷ []

-- An act makes a job only where the token is routed to its port, which is the selected one, and in the token's present life.
abbrev pub JobsAreTheOwners : Type 0
JobsAreTheOwners = (rules : RuleSet) (port : ℕ) (job : Job) (event : Seen) (past : List Seen) → MakesJob rules port job event past
    → (token_port rules (front_of past) ≡ Some port) × (selected_at rules (front_of past) ≡ Some port)
    × (job.life ≡ token_life rules (front_of past))

-- While its port isn't the selected one, as while none is, no act makes a job; nor does any while the switch isn't alive.
abbrev pub NoJobsUnselected : Type 0
NoJobsUnselected = (rules : RuleSet) (port : ℕ) (side : Side) (act : Act) (past : List Seen)
    → (selected_at rules (front_of past) ≢ Some port) ⊎ (is_alive (health_at (front_of past)) ≡ false)
    → act_orders rules port side act past ≡ []

-- Acts whose jobs are of the same life are acts of the same port, in the same selection.
abbrev pub JobsOfOneLife : Type 0
JobsOfOneLife = (rules : RuleSet) (port other : ℕ) (one two : Job) (first second : Seen) (between past : List Seen)
    → MakesJob rules port one first past → MakesJob rules other two second (between ++ first ∷ past) → one.life ≡ two.life
    → (port ≡ other) × (selections rules (front_of (between ++ first ∷ past)) ≡ selections rules (front_of past))

-- what happened at the token's plug in events after the past
abbrev pub moments_over : RuleSet → List FrontEvent → List FrontEvent → List Moment
moments_over rules [] past = []
moments_over rules (event ∷ events) past = moments_at rules event (events ++ past) ++ moments_over rules events past

-- Between two acts whose jobs are of two lives the token's power goes off, and comes on again RESET ticks later at the earliest.
abbrev pub JobsOfTwoLives : Type 0
JobsOfTwoLives = (rules : RuleSet) (port other : ℕ) (one two : Job) (first second : Seen) (between past : List Seen)
    → MakesJob rules port one first past → MakesJob rules other two second (between ++ first ∷ past) → one.life ≢ two.life
    → PowerCycle rules (moments_over rules (front_of between) (front_of past)) (token_history rules (front_of past))

-- Between two acts that make jobs in two selections, or at two ports, it does so too.
abbrev pub JobsOfTwoSelections : Type 0
JobsOfTwoSelections = (rules : RuleSet) (port other : ℕ) (one two : Job) (first second : Seen) (between past : List Seen)
    → MakesJob rules port one first past → MakesJob rules other two second (between ++ first ∷ past)
    → (port ≢ other) ⊎ (selections rules (front_of (between ++ first ∷ past)) ≢ selections rules (front_of past))
    → (one.life ≢ two.life)
    × PowerCycle rules (moments_over rules (front_of between) (front_of past)) (token_history rules (front_of past))
