-- Which orders are jobs, and which are ONs and OFFs of the token.
use Rattle.std.proofs.Common.{◌≡◌, ℕ, Bool, true, false, List, [], ◌∷◌, ◌++◌, Option, Some, None, option_map, refl}
use Rattle.std.proofs.lemmas.List.Elements.{filter-append}
use Rattle.psd_base.specs.declared.act.Act.{Act}
use Rattle.psd_base.specs.declared.act.Side.{Side}
use Rattle.psd_base.specs.declared.act.Side.TheVariants.{Km, Ua}
use Rattle.psd_base.specs.declared.console.Job.{Job}
use Rattle.psd_base.specs.declared.console.Order.{Order}
use Rattle.psd_base.specs.declared.console.Order.TheVariants as order
use Rattle.psd_base.specs.declared.console.Plug.{Plug}
use Rattle.psd_base.specs.declared.console.Plug.TheVariants.{Keyboard, Mouse, Token}
use Rattle.psd_base.specs.Event.{Seen}
use Rattle.peripheral_filter.specs.declared.rule.RuleSet.{RuleSet}
use Rattle.console_host.specs.Lives.{Life, counts, next_by, next_in, plan_of, with_reply}
use Rattle.console_host.specs.Plan.{Plan, Asks, IsReady, Refuses}
use Rattle.console_host.specs.Replies.{Reply}
use Rattle.console_plug.specs.Lives as plug_lives
use Rattle.console_plug.specs.Moments as plug
use Rattle.console_plug.specs.PlugGives as plug_gives
use Rattle.console_plug.specs.PlugGives.{asked_next, first_ask, power_orders}
use Rattle.token_plug.specs.Acts.{job_orders}
use Rattle.token_plug.specs.Lives.{power_at}
use Rattle.token_plug.specs.Moments.{Moment, Attached, Detached, Replied, Ticked, Woke, Darkened, Left, Selected}
use Rattle.token_plug.specs.TokenGives as token
use Rattle.token_plug.specs.TokenGives.{first_asks, next_asks, orders_between}
use Rattle.port_model.specs.TokenConnector.{job_to}
use Rattle.port_model.specs.FrontEvents.{FrontEvent, front_of}
use Rattle.switch_core.specs.Independence.{is_job}
use Rattle.switch_core.specs.Orders.{act_orders, front_orders, in_life}
use Rattle.port_model.specs.Peripherals.{moment_at, peripheral_orders, plug_history, plug_orders}
use Rattle.switch_core.specs.Stamped.{StampedOrder, stamps, is_power, powers_in}
use Rattle.port_model.specs.Token.{given_over, moments_at, token_history, token_life, token_orders}
use Rattle.port_model.specs.View.{view}

-- no order is a job
abbrev pub NoJobs : List Order → Type 0
NoJobs [] = Unit {0}
NoJobs (ordered ∷ orders) = (is_job ordered ≡ false) × NoJobs orders

no-jobs : (first second : List Order) → NoJobs first → NoJobs second → NoJobs (first ++ second)
no-jobs [] second left right = right
no-jobs (ordered ∷ first) second left right = (left.0, no-jobs first second left.1 right)

-- no order is an ON or an OFF of the token
abbrev pub NoPower : List Order → Type 0
NoPower [] = Unit {0}
NoPower (ordered ∷ orders) = (is_power ordered ≡ false) × NoPower orders

no-power : (first second : List Order) → NoPower first → NoPower second → NoPower (first ++ second)
no-power [] second left right = right
no-power (ordered ∷ first) second left right = (left.0, no-power first second left.1 right)

pub powers-none : (tick : ℕ) (orders : List Order) → NoPower orders → powers_in (stamps tick orders) ≡ []
powers-none tick [] none = refl
powers-none tick (ordered ∷ orders) none = rw none.0 (powers-none tick orders none.1)

pub powers-append : (first second : List StampedOrder) → powers_in (first ++ second) ≡ powers_in first ++ powers_in second
powers-append first second = filter-append (λ (s : StampedOrder). is_power s.ordered) first second

-- What is asked is neither

asked-plan : (own : Plug) (life : Life) (now : Plan) → NoJobs (asked_next (next_by own life now)) × NoPower (asked_next (next_by own life now))
asked-plan own life (Asks setup) = ((refl, tt), (refl, tt))
asked-plan own life IsReady = (tt, tt)
asked-plan own life (Refuses rule) = (tt, tt)

asked-none : (own : Plug) (rules : RuleSet) (life number tick : ℕ) (reply : Reply) (now : Option Life)
    → NoJobs (asked_next (next_in own rules life number tick reply now)) × NoPower (asked_next (next_in own rules life number tick reply now))
asked-none own rules life number tick reply None = (tt, tt)
asked-none own rules life number tick reply (Some present) = by (counts own rules life number present) refl where
  by : (taken : Bool) → counts own rules life number present ≡ taken
      → NoJobs (asked_next (next_in own rules life number tick reply (Some present))) × NoPower (asked_next (next_in own rules life number tick reply (Some present)))
  by true is = rw is (asked-plan own (with_reply tick reply present) (plan_of own rules (with_reply tick reply present)))
  by false is = rw is (tt, tt)

first-none : (own : Plug) (begun : Bool) (life : ℕ) → NoJobs (first_ask own begun life) × NoPower (first_ask own begun life)
first-none own true life = ((refl, tt), (refl, tt))
first-none own false life = (tt, tt)

-- The keyboard and the mouse are told neither

asks-none : (own : Plug) (rules : RuleSet) (moment : plug.Moment) (past : List plug.Moment)
    → NoJobs (plug_gives.asks_at own rules moment past) × NoPower (plug_gives.asks_at own rules moment past)
asks-none own rules (plug.Attached tick) past = first-none own _ _
asks-none own rules (plug.Woke tick) past = first-none own _ _
asks-none own rules (plug.Replied life number tick reply) past = asked-none own rules life number tick reply (plug_lives.life_at own rules past)
asks-none own rules plug.Detached past = (tt, tt)
asks-none own rules (plug.Reported interface bytes) past = (tt, tt)
asks-none own rules (plug.Ticked tick) past = (tt, tt)
asks-none own rules plug.Darkened past = (tt, tt)

power-jobs : (own : Plug) (before after : Option ℕ) → NoJobs (power_orders own before after)
power-jobs own None None = tt
power-jobs own None (Some life) = (refl, tt)
power-jobs own (Some life) None = (refl, tt)
power-jobs own (Some before) (Some after) = tt

-- of another plug than the token's
power-other : (own : Plug) (before after : Option ℕ) → ((life : ℕ) → is_power (order.On own life) ≡ false) → ((life : ℕ) → is_power (order.Off own life) ≡ false)
    → NoPower (power_orders own before after)
power-other own None None on off = tt
power-other own None (Some life) on off = (on life, tt)
power-other own (Some life) None on off = (off life, tt)
power-other own (Some before) (Some after) on off = tt

plug-jobs : (own : Plug) (rules : RuleSet) (moment : Option plug.Moment) (past : List plug.Moment) → NoJobs (plug_orders own rules moment past)
plug-jobs own rules None past = tt
plug-jobs own rules (Some moment) past =
    no-jobs (power_orders own (plug_lives.power_at own rules past) (plug_lives.power_at own rules (moment ∷ past))) (plug_gives.asks_at own rules moment past)
    (power-jobs own _ _) (asks-none own rules moment past).0

plug-power : (own : Plug) (rules : RuleSet) (moment : Option plug.Moment) (past : List plug.Moment)
    → ((life : ℕ) → is_power (order.On own life) ≡ false) → ((life : ℕ) → is_power (order.Off own life) ≡ false) → NoPower (plug_orders own rules moment past)
plug-power own rules None past on off = tt
plug-power own rules (Some moment) past on off =
    no-power (power_orders own (plug_lives.power_at own rules past) (plug_lives.power_at own rules (moment ∷ past))) (plug_gives.asks_at own rules moment past)
    (power-other own _ _ on off) (asks-none own rules moment past).1

peripheral-jobs : (rules : RuleSet) (event : FrontEvent) (past : List FrontEvent) → NoJobs (peripheral_orders rules event past)
unfolding peripheral_orders
peripheral-jobs rules event past =
    no-jobs (plug_orders Keyboard rules (moment_at Keyboard event past) (plug_history Keyboard past)) (plug_orders Mouse rules (moment_at Mouse event past) (plug_history Mouse past))
    (plug-jobs Keyboard rules (moment_at Keyboard event past) (plug_history Keyboard past)) (plug-jobs Mouse rules (moment_at Mouse event past) (plug_history Mouse past))

pub peripheral-power : (rules : RuleSet) (event : FrontEvent) (past : List FrontEvent) → NoPower (peripheral_orders rules event past)
unfolding peripheral_orders
peripheral-power rules event past =
    no-power (plug_orders Keyboard rules (moment_at Keyboard event past) (plug_history Keyboard past)) (plug_orders Mouse rules (moment_at Mouse event past) (plug_history Mouse past))
    (plug-power Keyboard rules (moment_at Keyboard event past) (plug_history Keyboard past) (λ life. refl) (λ life. refl))
    (plug-power Mouse rules (moment_at Mouse event past) (plug_history Mouse past) (λ life. refl) (λ life. refl))

-- What the token is told at a moment: no job, and its power as it changes

pub next-none : (rules : RuleSet) (moment : Moment) (past : List Moment) → NoJobs (next_asks rules moment past) × NoPower (next_asks rules moment past)
next-none rules (Replied life number tick reply) past = asked-none Token rules life number tick reply _
next-none rules (Attached tick) past = (tt, tt)
next-none rules (Detached tick) past = (tt, tt)
next-none rules (Ticked tick) past = (tt, tt)
next-none rules (Woke tick) past = (tt, tt)
next-none rules (Darkened tick) past = (tt, tt)
next-none rules (Left tick) past = (tt, tt)
next-none rules (Selected port) past = (tt, tt)

between-jobs : (before after : Option ℕ) → NoJobs (orders_between before after)
between-jobs None None = tt
between-jobs None (Some life) = (refl, (refl, tt))
between-jobs (Some life) None = (refl, tt)
between-jobs (Some before) (Some after) = tt

moment-jobs : (rules : RuleSet) (moment : Moment) (past : List Moment) → NoJobs (token.orders_at rules moment past)
moment-jobs rules moment past =
    no-jobs (next_asks rules moment past) (orders_between (power_at rules past) (power_at rules (moment ∷ past)))
    (next-none rules moment past).0 (between-jobs (power_at rules past) (power_at rules (moment ∷ past)))

token-jobs : (rules : RuleSet) (moments past : List Moment) → NoJobs (given_over (token.orders_at rules) moments past)
token-jobs rules [] past = tt
token-jobs rules (moment ∷ moments) past =
    no-jobs (given_over (token.orders_at rules) moments past) (token.orders_at rules moment (moments ++ past))
    (token-jobs rules moments past) (moment-jobs rules moment (moments ++ past))

pub front-jobs : (rules : RuleSet) (event : FrontEvent) (past : List FrontEvent) → NoJobs (front_orders rules event past)
unfolding token_orders
front-jobs rules event past =
    no-jobs (peripheral_orders rules event past) (token_orders rules event past)
    (peripheral-jobs rules event past) (token-jobs rules (moments_at rules event past) (token_history rules past))

pub act-power : (rules : RuleSet) (port : ℕ) (side : Side) (act : Act) (past : List Seen) → NoPower (act_orders rules port side act past)
act-power rules port Km act past = tt
act-power rules port Ua act past = by (option_map (in_life (token_life rules (front_of past))) (job_to (view rules port past) act)) where
  by : (made : Option Job) → NoPower (job_orders made)
  by None = tt
  by (Some job) = (refl, tt)
