-- The ONs and OFFs of the token in the orders of events, by what happened at its plug.
use Rattle.std.proofs.Common.{◌≡◌, ◌⊎◌, ℕ, Bool, true, false, List, [], ◌∷◌, ◌++◌, Option, Some, None, refl, sym, ap, subst, ◌∙◌, cond, inl, inr}
use Rattle.std.specs.Prelude.{unwrap_or}
use Rattle.std.proofs.lemmas.List.{append-nil, append_assoc, map-append}
use Rattle.psd_base.specs.declared.console.Order.{Order}
use Rattle.psd_base.specs.declared.console.Order.TheVariants as order
use Rattle.psd_base.specs.declared.console.Plug.{Plug}
use Rattle.psd_base.specs.declared.console.Plug.TheVariants.{Keyboard, Mouse, Token}
use Rattle.psd_base.specs.Event.{Doing, TimePasses, PanelMoves, Attaches, Detaches, Replies, Reports, Finishes, Happening, PortActs, AtFront, Seen}
use Rattle.fail_secure.specs.declared.health_change.HealthChange.{HealthChange}
use Rattle.fail_secure.specs.declared.health_change.HealthChange.TheVariants as change
use Rattle.peripheral_filter.specs.declared.rule.RuleSet.{RuleSet}
use Rattle.console_plug.specs.PlugGives.{power_orders}
use Rattle.token_plug.specs.Lives.{power_at}
use Rattle.token_plug.specs.Moments.{Moment, Attached, Detached, Ticked, Left, Selected}
use Rattle.token_plug.specs.Ownership.{begins, tick_of, PowerCycle, StaysOff}
use Rattle.token_plug.specs.TokenGives as token
use Rattle.token_plug.specs.TokenGives.{first_asks, next_asks, orders_between}
use Rattle.token_plug.proofs.Staying.{selected-orders}
use Rattle.port_model.specs.Chosen.{is_at}
use Rattle.port_model.specs.FrontEvents.{FrontEvent, front_event, front_of}
use Rattle.switch_core.specs.Orders.{act_orders, front_orders, orders_at}
use Rattle.switch_core.specs.Ownership.{moments_over}
use Rattle.port_model.specs.Peripherals.{peripheral_orders}
use Rattle.switch_core.specs.Stamped.{StampedOrder, stamp, stamps, powers_in, HasPowerCycle}
use Rattle.port_model.specs.Token.{change_moments, chosen_moments, early_at, early_moments, given_over, if_token, late_at, late_moments, left_moments, moments_at, token_history, token_orders}
use Rattle.switch_core.proofs.Owning.{front-append, history-over}
use Rattle.switch_core.proofs.OrderKinds.{powers-none, powers-append, next-none, peripheral-power, act-power}

-- the orders of events after the past
abbrev pub stamped_over : RuleSet → List Seen → List Seen → List StampedOrder
stamped_over rules [] past = []
stamped_over rules (event ∷ events) past = stamped_over rules events past ++ stamps event.tick (orders_at rules event (events ++ past))

-- the change of the token's power at a moment
abbrev switched : RuleSet → Moment → List Moment → List StampedOrder
switched rules moment past = stamps (unwrap_or (tick_of moment) 0) (power_orders Token (power_at rules past) (power_at rules (moment ∷ past)))

between-powers : (tick : ℕ) (before after : Option ℕ) → powers_in (stamps tick (orders_between before after)) ≡ stamps tick (power_orders Token before after)
between-powers tick None None = refl
between-powers tick None (Some life) = refl
between-powers tick (Some life) None = refl
between-powers tick (Some before) (Some after) = refl

empty-first : {A : Type 0} (first second : List A) → first ++ second ≡ [] → first ≡ []
empty-first [] second is = refl
empty-first (x ∷ first) second is = absurd (cc)

-- a moment of an event has its tick, or changes no power
abbrev TickedAt : ℕ → Moment → Type 0
TickedAt tick moment = (tick_of moment ≡ Some tick) ⊎ ((port : ℕ) × (moment ≡ Selected port))

moment-powers : (rules : RuleSet) (tick : ℕ) (moment : Moment) (past : List Moment) → TickedAt tick moment
    → powers_in (stamps tick (token.orders_at rules moment past)) ≡ switched rules moment past
moment-powers rules tick moment past at = elim at [
  | inl is ↦
      ap powers_in (map-append (stamp tick) (next_asks rules moment past) (orders_between (power_at rules past) (power_at rules (moment ∷ past))))
      ∙ powers-append (stamps tick (next_asks rules moment past)) (stamps tick (orders_between (power_at rules past) (power_at rules (moment ∷ past))))
      ∙ ap (λ (first : List StampedOrder). first ++ powers_in (stamps tick (orders_between (power_at rules past) (power_at rules (moment ∷ past)))))
      (powers-none tick (next_asks rules moment past) (next-none rules moment past).1)
      ∙ between-powers tick (power_at rules past) (power_at rules (moment ∷ past))
      ∙ ap (λ (t : Option ℕ). stamps (unwrap_or t 0) (power_orders Token (power_at rules past) (power_at rules (moment ∷ past)))) (sym is)
  | inr is ↦ subst (λ (m : Moment). powers_in (stamps tick (token.orders_at rules m past)) ≡ switched rules m past) (sym is.1) (selected is.0)
] where
  selected : (port : ℕ) → powers_in (stamps tick (token.orders_at rules (Selected port) past)) ≡ switched rules (Selected port) past
  selected port =
      let none = selected-orders rules port past in
      ap (λ (orders : List Order). powers_in (stamps tick orders)) none
      ∙ sym (ap (stamps 0) (empty-first (power_orders Token (power_at rules past) (power_at rules (Selected port ∷ past)))
      (first_asks (power_at rules past) (power_at rules (Selected port ∷ past))) none))

abbrev AllTicked : ℕ → List Moment → Type 0
AllTicked tick [] = Unit {0}
AllTicked tick (moment ∷ moments) = TickedAt tick moment × AllTicked tick moments

all-ticked : (tick : ℕ) (first second : List Moment) → AllTicked tick first → AllTicked tick second → AllTicked tick (first ++ second)
all-ticked tick [] second left right = right
all-ticked tick (moment ∷ first) second left right = (left.0, all-ticked tick first second left.1 right)

moments-powers : (rules : RuleSet) (tick : ℕ) (moments past : List Moment) → AllTicked tick moments
    → powers_in (stamps tick (given_over (token.orders_at rules) moments past)) ≡ given_over (switched rules) moments past
moments-powers rules tick [] past at = refl
moments-powers rules tick (moment ∷ moments) past at =
    ap powers_in (map-append (stamp tick) (given_over (token.orders_at rules) moments past) (token.orders_at rules moment (moments ++ past)))
    ∙ powers-append (stamps tick (given_over (token.orders_at rules) moments past)) (stamps tick (token.orders_at rules moment (moments ++ past)))
    ∙ ap (λ (first : List StampedOrder). first ++ powers_in (stamps tick (token.orders_at rules moment (moments ++ past)))) (moments-powers rules tick moments past at.1)
    ∙ ap (λ (last : List StampedOrder). given_over (switched rules) moments past ++ last) (moment-powers rules tick moment (moments ++ past) at.0)

-- the moments of an event have its tick

plug-ticked : (tick : ℕ) (own : Plug) (moment : Moment) → tick_of moment ≡ Some tick → AllTicked tick (if_token own moment)
plug-ticked tick Token moment is = (inl is, tt)
plug-ticked tick Keyboard moment is = tt
plug-ticked tick Mouse moment is = tt

change-ticked : (tick : ℕ) (health : HealthChange) → AllTicked tick (change_moments tick health)
change-ticked tick change.Stays = tt
change-ticked tick change.Wakes = (inl refl, tt)
change-ticked tick change.Darkens = (inl refl, tt)

early-ticked : (tick : ℕ) (doing : Doing) (health : HealthChange) → AllTicked tick (early_moments tick doing health)
early-ticked tick TimePasses health = (inl refl, tt)
early-ticked tick (PanelMoves move) health = change-ticked tick health
early-ticked tick (Attaches own) health = plug-ticked tick own (Attached tick) refl
early-ticked tick (Detaches own) health = plug-ticked tick own (Detached tick) refl
early-ticked tick (Replies own life number status bytes) health = plug-ticked tick own _ refl
early-ticked tick (Reports own interface bytes) health = tt
early-ticked tick (Finishes life number status bytes) health = tt

chosen-ticked : (tick : ℕ) (before after : Option ℕ) → AllTicked tick (chosen_moments before after)
chosen-ticked tick before None = tt
chosen-ticked tick before (Some port) = by (is_at port before) where
  by : (same : Bool) → AllTicked tick (cond same [] (Selected port ∷ []))
  by true = tt
  by false = (inr (port, refl), tt)

left-ticked : (tick : ℕ) (before after : Option ℕ) → AllTicked tick (left_moments tick before after)
left-ticked tick None after = tt
left-ticked tick (Some port) after = by (is_at port after) where
  by : (same : Bool) → AllTicked tick (cond same [] (Left tick ∷ []))
  by true = tt
  by false = (inl refl, tt)

late-ticked : (tick : ℕ) (doing : Doing) (before after : Option ℕ) → AllTicked tick (late_moments tick doing before after)
late-ticked tick TimePasses before after = all-ticked tick (chosen_moments before after) (left_moments tick before after) (chosen-ticked tick before after) (left-ticked tick before after)
late-ticked tick (PanelMoves move) before after = tt
late-ticked tick (Attaches own) before after = tt
late-ticked tick (Detaches own) before after = tt
late-ticked tick (Replies own life number status bytes) before after = tt
late-ticked tick (Reports own interface bytes) before after = tt
late-ticked tick (Finishes life number status bytes) before after = tt

event-ticked : (rules : RuleSet) (event : FrontEvent) (past : List FrontEvent) → AllTicked event.tick (moments_at rules event past)
event-ticked rules event past =
    all-ticked event.tick (late_at rules event past) (early_at event past) (late-ticked event.tick event.doing _ _) (early-ticked event.tick event.doing _)

front-powers : (rules : RuleSet) (event : FrontEvent) (past : List FrontEvent)
    → powers_in (stamps event.tick (front_orders rules event past)) ≡ given_over (switched rules) (moments_at rules event past) (token_history rules past)
unfolding token_orders
front-powers rules event past =
    ap powers_in (map-append (stamp event.tick) (peripheral_orders rules event past) (token_orders rules event past))
    ∙ powers-append (stamps event.tick (peripheral_orders rules event past)) (stamps event.tick (token_orders rules event past))
    ∙ ap (λ (first : List StampedOrder). first ++ powers_in (stamps event.tick (token_orders rules event past)))
    (powers-none event.tick (peripheral_orders rules event past) (peripheral-power rules event past))
    ∙ moments-powers rules event.tick (moments_at rules event past) (token_history rules past) (event-ticked rules event past)

-- The ONs and OFFs of events are those of the moments at the token's plug

given-append : {A : Type 0} (gives : Moment → List Moment → List A) (first second past : List Moment)
    → given_over gives (first ++ second) past ≡ given_over gives second past ++ given_over gives first (second ++ past)
given-append gives [] second past = sym (append-nil (given_over gives second past))
given-append gives (moment ∷ first) second past =
    ap (λ (before : List Moment). given_over gives (first ++ second) past ++ gives moment before) (append_assoc first second past)
    ∙ ap (λ given. given ++ gives moment (first ++ (second ++ past))) (given-append gives first second past)
    ∙ append_assoc (given_over gives second past) (given_over gives first (second ++ past)) (gives moment (first ++ (second ++ past)))

abbrev pub switched_over : RuleSet → List FrontEvent → List FrontEvent → List StampedOrder
switched_over rules events past = given_over (switched rules) (moments_over rules events past) (token_history rules past)

front-switched : (rules : RuleSet) (event : FrontEvent) (events past : List FrontEvent)
    → switched_over rules (event ∷ events) past
    ≡ switched_over rules events past ++ powers_in (stamps event.tick (front_orders rules event (events ++ past)))
front-switched rules event events past =
    given-append (switched rules) (moments_at rules event (events ++ past)) (moments_over rules events past) (token_history rules past)
    ∙ ap (λ (history : List Moment). switched_over rules events past ++ given_over (switched rules) (moments_at rules event (events ++ past)) history)
    (sym (history-over rules events past))
    ∙ ap (λ (orders : List StampedOrder). switched_over rules events past ++ orders) (sym (front-powers rules event (events ++ past)))

pub events-powers : (rules : RuleSet) (events past : List Seen) → powers_in (stamped_over rules events past) ≡ switched_over rules (front_of events) (front_of past)
events-powers rules [] past = refl
events-powers rules (event ∷ events) past =
    powers-append (stamped_over rules events past) (stamps event.tick (orders_at rules event (events ++ past)))
    ∙ by event.tick event.happening (events-powers rules events past) where
      by : (tick : ℕ) (happening : Happening) → powers_in (stamped_over rules events past) ≡ switched_over rules (front_of events) (front_of past)
          → powers_in (stamped_over rules events past) ++ powers_in (stamps tick (orders_at rules (record { tick = tick; happening = happening }) (events ++ past)))
          ≡ switched_over rules (front_of (record { tick = tick; happening = happening } ∷ events)) (front_of past)
      by tick (PortActs port side act) before =
          ap (λ (orders : List StampedOrder). powers_in (stamped_over rules events past) ++ orders)
          (powers-none tick (act_orders rules port side act (events ++ past)) (act-power rules port side act (events ++ past)))
          ∙ append-nil (powers_in (stamped_over rules events past))
          ∙ before
      by tick (AtFront doing) before =
          ap (λ (orders : List StampedOrder). orders ++ powers_in (stamps tick (front_orders rules (front_event tick doing) (front_of (events ++ past)))))
          before
          ∙ ap (λ (front : List FrontEvent). switched_over rules (front_of events) (front_of past) ++ powers_in (stamps tick (front_orders rules (front_event tick doing) front)))
          (front-append events past)
          ∙ sym (front-switched rules (front_event tick doing) (front_of events) (front_of past))

-- The OFF and the ON

off-end : (rules : RuleSet) (moments past : List Moment) → StaysOff rules moments past → power_at rules past ≡ None → power_at rules (moments ++ past) ≡ None
off-end rules [] past stays none = none
off-end rules (moment ∷ moments) past stays none = stays.0

off-switched : (rules : RuleSet) (moments past : List Moment) → StaysOff rules moments past → power_at rules past ≡ None
    → given_over (switched rules) moments past ≡ []
off-switched rules [] past stays none = refl
off-switched rules (moment ∷ moments) past stays none =
    ap (λ (orders : List StampedOrder). orders ++ switched rules moment (moments ++ past)) (off-switched rules moments past stays.1 none)
    ∙ ap (λ (before : Option ℕ). stamps (unwrap_or (tick_of moment) 0) (power_orders Token before (power_at rules (moment ∷ moments ++ past))))
    (off-end rules moments past stays.1 none)
    ∙ ap (λ (after : Option ℕ). stamps (unwrap_or (tick_of moment) 0) (power_orders Token None after)) stays.0

-- one change of power, at a tick
record Switches (before after : Option ℕ) (makes : ℕ → Order) : Type 0 where
  pub life : ℕ
  pub orders : power_orders Token before after ≡ makes life ∷ []

switches-off : (before after : Option ℕ) → begins after before ≡ true → Switches before after (λ life. order.Off Token life)
switches-off None None is = absurd (cc)
switches-off None (Some life) is = absurd (cc)
switches-off (Some life) None is = record { life = life; orders = refl }
switches-off (Some before) (Some after) is = absurd (cc)

switches-on : (before after : Option ℕ) → begins before after ≡ true → Switches before after (λ life. order.On Token life)
switches-on None None is = absurd (cc)
switches-on None (Some life) is = record { life = life; orders = refl }
switches-on (Some life) None is = absurd (cc)
switches-on (Some before) (Some after) is = absurd (cc)

off-none : (before after : Option ℕ) → begins after before ≡ true → after ≡ None
off-none before None is = refl
off-none before (Some life) is = absurd (cc)

in-order : (earlier : List StampedOrder) (x y : StampedOrder) (later : List StampedOrder)
    → (((earlier ++ x ∷ []) ++ []) ++ y ∷ []) ++ later ≡ earlier ++ x ∷ y ∷ later
in-order [] x y later = refl
in-order (first ∷ earlier) x y later = ap (λ (orders : List StampedOrder). first ∷ orders) (in-order earlier x y later)

pub cycle-in : (rules : RuleSet) (moments past : List Moment) (orders : List StampedOrder) → powers_in orders ≡ given_over (switched rules) moments past
    → PowerCycle rules moments past → HasPowerCycle orders
cycle-in rules moments past orders is g = record {
  off_tick = g.off_tick;
  off_life = off.life;
  on_tick = g.on_tick;
  on_life = on.life;
  earlier = earlier;
  later = later;
  cycle = is ∙ all ∙ in-order earlier (stamp g.off_tick (order.Off Token off.life)) (stamp g.on_tick (order.On Token on.life)) later;
  rested = g.rested;
} where
  gives : List Moment → List Moment → List StampedOrder
  gives some before = given_over (switched rules) some before

  off : Switches (power_at rules (g.before ++ past)) (power_at rules (g.off ∷ g.before ++ past)) (λ life. order.Off Token life)
  off = switches-off (power_at rules (g.before ++ past)) (power_at rules (g.off ∷ g.before ++ past)) g.goes_off

  without : List Moment
  without = g.without ++ (g.off ∷ g.before ++ past)

  on : Switches (power_at rules without) (power_at rules (Ticked g.on_tick ∷ without)) (λ life. order.On Token life)
  on = switches-on (power_at rules without) (power_at rules (Ticked g.on_tick ∷ without)) g.comes_on

  earlier : List StampedOrder
  earlier = gives g.before past

  later : List StampedOrder
  later = gives g.later ((Ticked g.on_tick ∷ g.without ++ g.off ∷ g.before) ++ past)

  at-off : switched rules g.off (g.before ++ past) ≡ stamp g.off_tick (order.Off Token off.life) ∷ []
  at-off =
      ap (λ (t : Option ℕ). stamps (unwrap_or t 0) (power_orders Token (power_at rules (g.before ++ past)) (power_at rules (g.off ∷ g.before ++ past)))) g.off_at
      ∙ ap (stamps g.off_tick) off.orders

  to-off : gives (g.without ++ g.off ∷ g.before) past ≡ (earlier ++ stamp g.off_tick (order.Off Token off.life) ∷ []) ++ []
  to-off =
      given-append (switched rules) g.without (g.off ∷ g.before) past
      ∙ ap (λ (rest : List StampedOrder). gives (g.off ∷ g.before) past ++ rest)
      (off-switched rules g.without (g.off ∷ g.before ++ past) g.stays_off (off-none (power_at rules (g.before ++ past)) (power_at rules (g.off ∷ g.before ++ past)) g.goes_off))
      ∙ ap (λ (last : List StampedOrder). (earlier ++ last) ++ []) at-off

  at-on : switched rules (Ticked g.on_tick) ((g.without ++ g.off ∷ g.before) ++ past) ≡ stamp g.on_tick (order.On Token on.life) ∷ []
  at-on =
      ap (λ (before : List Moment). switched rules (Ticked g.on_tick) before) (append_assoc g.without (g.off ∷ g.before) past)
      ∙ ap (stamps g.on_tick) on.orders

  all : gives moments past
      ≡ (((earlier ++ stamp g.off_tick (order.Off Token off.life) ∷ []) ++ []) ++ stamp g.on_tick (order.On Token on.life) ∷ []) ++ later
  all =
      ap (λ (some : List Moment). gives some past) g.moments_are
      ∙ given-append (switched rules) g.later (Ticked g.on_tick ∷ g.without ++ g.off ∷ g.before) past
      ∙ ap (λ (first : List StampedOrder). (first ++ switched rules (Ticked g.on_tick) ((g.without ++ g.off ∷ g.before) ++ past)) ++ later) to-off
      ∙ ap (λ (last : List StampedOrder). (((earlier ++ stamp g.off_tick (order.Off Token off.life) ∷ []) ++ []) ++ last) ++ later) at-on
