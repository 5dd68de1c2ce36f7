-- What the moments make of a peripheral's power.
use Rattle.std.proofs.Common.{◌≡◌, ℕ, Bool, true, false, List, [], ◌∷◌, ◌++◌, ◌&&◌, Option, Some, None, refl, sym, ap, subst, cond}
use Rattle.std.proofs.lemmas.List.{append-nil}
use Rattle.std.specs.Option.{option_map}
use Rattle.psd_base.specs.declared.console.Order.{Order}
use Rattle.psd_base.specs.declared.console.Plug.{Plug}
use Rattle.peripheral_filter.specs.declared.rule.RuleSet.{RuleSet}
use Rattle.console_host.specs.declared.next.Next.{Next}
use Rattle.console_host.specs.declared.next.Next.TheVariants as next
use Rattle.console_host.specs.Plan.{Plan, Asks, IsReady, Refuses}
use Rattle.console_host.specs.Replies.{Reply}
use Rattle.console_host.specs.Lives.{Life, Standing, plan_of, is_waiting, counts, with_reply, standing, after_reply, after_tick, is_silent_in, next_in, next_by}
use Rattle.console_plug.specs.Lives.{powered, host_calls, life_at, power_at}
use Rattle.console_plug.specs.Moments.{Moment, Replied}
use Rattle.console_plug.specs.PlugGives.{power_orders, asked_next, orders_at}

-- power that stays needs no order
pub no_power_orders : (plug : Plug) (power : Option ℕ) → power_orders plug power power ≡ []
no_power_orders plug None = refl
no_power_orders plug (Some life) = refl

-- a life that is silent loses its power, and any other keeps it
pub power-ticked : (plug : Plug) (rules : RuleSet) (tick : ℕ) (now : Option Life) (silent : Bool) → silent ≡ is_silent_in plug rules tick now
    → powered plug rules (option_map (after_tick plug rules tick) now) ≡ (cond silent None (powered plug rules now))
power-ticked plug rules tick None true is = refl
power-ticked plug rules tick None false is = refl
power-ticked plug rules tick (Some life) true is = rw (sym is) refl
power-ticked plug rules tick (Some life) false is = rw (sym is) refl

-- what a reply makes of the power, by what comes next
abbrev pub AfterNext : Next → Option ℕ → Option ℕ → Type 0
AfterNext (next.Ask order) before after = after ≡ before
AfterNext next.Ready before after = after ≡ before
AfterNext (next.Refused rule) before after = after ≡ None
AfterNext next.Ignored before after = after ≡ before

-- a reply that counts
counted : (plug : Plug) (rules : RuleSet) (life : Life) (given_up : Bool) (plan : Plan) → life.is_given_up ≡ given_up → plan_of plug rules life ≡ plan
    → is_waiting plug rules life ≡ true → powered plug rules (Some life) ≡ Some life.number
counted plug rules life true plan given_up is waits = absurd (let no : false ≡ true = rw given_up at waits in cc)
counted plug rules life false (Asks setup) given_up is waits = rw (given_up, is) refl
counted plug rules life false IsReady given_up is waits = absurd (let no : false ≡ true = rw (given_up, is) at waits in cc)
counted plug rules life false (Refuses rule) given_up is waits = absurd (let no : false ≡ true = rw (given_up, is) at waits in cc)

and_right : (first second : Bool) → (first && second) ≡ true → second ≡ true
and_right true second both = both
and_right false second both = absurd (cc)

goes_on : (plug : Plug) (rules : RuleSet) (life : Life) → is_waiting plug rules life ≡ true → life.is_given_up ≡ false
goes_on plug rules life waits = by_given_up life.is_given_up refl where
  by_given_up : (given_up : Bool) → life.is_given_up ≡ given_up → life.is_given_up ≡ false
  by_given_up false is = is
  by_given_up true is = absurd (let no : false ≡ true = rw is at waits in cc)

-- a reply leaves the power where it is, but for one after which the peripheral is refused
pub power-replied : (plug : Plug) (rules : RuleSet) (life number tick : ℕ) (reply : Reply) (standing : Standing) (now : Option Life) → standing.life ≡ now
    → AfterNext (next_in plug rules life number tick reply now) (powered plug rules now) (powered plug rules (after_reply plug rules life number tick reply standing now).life)
power-replied plug rules life number tick reply standing None is = ap (powered plug rules) is
power-replied plug rules life number tick reply standing (Some present) is = by_counts (counts plug rules life number present) refl where
  by_plan : (plan : Plan) → plan_of plug rules (with_reply tick reply present) ≡ plan → is_waiting plug rules present ≡ true
      → AfterNext (next_by plug (with_reply tick reply present) (plan_of plug rules (with_reply tick reply present))) (powered plug rules (Some present)) (powered plug rules (Some (with_reply tick reply present)))
  by_plan (Asks setup) plan waits = rw (counted plug rules present present.is_given_up (plan_of plug rules present) refl refl waits, plan, goes_on plug rules present waits) refl
  by_plan IsReady plan waits = rw (counted plug rules present present.is_given_up (plan_of plug rules present) refl refl waits, plan, goes_on plug rules present waits) refl
  by_plan (Refuses rule) plan waits = rw (plan, goes_on plug rules present waits) refl

  by_counts : (count : Bool) → counts plug rules life number present ≡ count
      → AfterNext (next_in plug rules life number tick reply (Some present)) (powered plug rules (Some present)) (powered plug rules (after_reply plug rules life number tick reply standing (Some present)).life)
  by_counts false same = rw same (ap (powered plug rules) is)
  by_counts true counted_now = rw counted_now (by_plan (plan_of plug rules (with_reply tick reply present)) refl (and_right _ _ counted_now))

-- the orders at a reply, by what comes next
abbrev pub orders_by : Plug → Option ℕ → Next → List Order
orders_by plug before (next.Ask order) = order ∷ []
orders_by plug before next.Ready = []
orders_by plug before (next.Refused rule) = power_orders plug before None
orders_by plug before next.Ignored = []

pub orders-replied : (plug : Plug) (before after : Option ℕ) (answer : Next) → AfterNext answer before after
    → power_orders plug before after ++ asked_next answer ≡ orders_by plug before answer
orders-replied plug before after (next.Ask order) same = rw (same, no_power_orders) refl
orders-replied plug before after next.Ready same = rw (same, no_power_orders) refl
orders-replied plug before after (next.Refused rule) off = rw off (append-nil _)
orders-replied plug before after next.Ignored same = rw (same, no_power_orders) refl

-- what a reply at the plug makes of the power, and what is ordered, by what comes next
pub replied : (plug : Plug) (rules : RuleSet) (life number tick : ℕ) (reply : Reply) (past : List Moment) (answer : Next)
    → answer ≡ next_in plug rules life number tick reply (life_at plug rules past)
    → AfterNext answer (power_at plug rules past) (power_at plug rules (Replied life number tick reply ∷ past))
replied plug rules life number tick reply past answer is =
    subst (λ (n : Next). AfterNext n (power_at plug rules past) (power_at plug rules (Replied life number tick reply ∷ past))) (sym is)
    (power-replied plug rules life number tick reply (standing plug rules (host_calls past)) (life_at plug rules past) refl)

pub replied-orders : (plug : Plug) (rules : RuleSet) (life number tick : ℕ) (reply : Reply) (past : List Moment) (answer : Next)
    → answer ≡ next_in plug rules life number tick reply (life_at plug rules past)
    → orders_at plug rules (Replied life number tick reply) past ≡ orders_by plug (power_at plug rules past) answer
replied-orders plug rules life number tick reply past answer is =
    let same = orders-replied plug (power_at plug rules past) (power_at plug rules (Replied life number tick reply ∷ past)) answer (replied plug rules life number tick reply past answer is) in
    subst (λ (n : Next). power_orders plug (power_at plug rules past) (power_at plug rules (Replied life number tick reply ∷ past)) ++ asked_next n ≡ orders_by plug (power_at plug rules past) answer) is same
