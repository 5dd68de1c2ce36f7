-- What a moment gives: the orders to the token, and what the log says of it.
use Rattle.std.specs.Prelude.{ℕ, true, List, [], ◌∷◌, ◌++◌, Option, Some, None}
use Rattle.psd_base.specs.declared.console.Note.{Note}
use Rattle.psd_base.specs.declared.console.Note.TheVariants as note
use Rattle.psd_base.specs.declared.console.Order.{Order}
use Rattle.psd_base.specs.declared.console.Plug.TheVariants.{Token}
use Rattle.peripheral_filter.specs.declared.rule.RuleSet.{RuleSet}
use Rattle.console_host.specs.Lives.{next_in, notes_in, is_silent_in}
use Rattle.console_plug.specs.PlugGives.{power_orders, first_ask, asked_next, silence_notes}
use Rattle.token_plug.specs.Moments.{Moment, Attached, Detached, Replied, Ticked, Woke, Darkened, Left, Selected}
use Rattle.token_plug.specs.Lives.{life_at, power_at}
use Rattle.token_plug.specs.Routing.{routed_at}

-- a life that begins is asked at once
abbrev pub first_asks : Option ℕ → Option ℕ → List Order
first_asks None None = []
first_asks None (Some life) = first_ask Token true life
first_asks (Some before) None = []
first_asks (Some before) (Some life) = []

-- power goes from this life to that one
abbrev pub orders_between : Option ℕ → Option ℕ → List Order
orders_between before after = power_orders Token before after ++ first_asks before after

-- what is asked after a reply
abbrev pub next_asks : RuleSet → Moment → List Moment → List Order
next_asks rules (Replied life number tick reply) past = asked_next (next_in Token rules life number tick reply (life_at rules past))
next_asks rules (Attached tick) past = []
next_asks rules (Detached tick) past = []
next_asks rules (Ticked tick) past = []
next_asks rules (Woke tick) past = []
next_asks rules (Darkened tick) past = []
next_asks rules (Left tick) past = []
next_asks rules (Selected port) past = []

-- The orders: the next one to a token that replied, or power comes on with the first order, or power goes off.
abbrev pub orders_at : RuleSet → Moment → List Moment → List Order
orders_at rules moment past = next_asks rules moment past ++ orders_between (power_at rules past) (power_at rules (moment ∷ past))

-- the token is routed
abbrev pub routing_notes : Option ℕ → Option ℕ → List Note
routing_notes None None = []
routing_notes None (Some port) = note.Routed port ∷ []
routing_notes (Some before) None = []
routing_notes (Some before) (Some port) = []

-- The lines of the log. A token that is accepted is said to be so before it is said to be routed.
abbrev pub notes_at : RuleSet → Moment → List Moment → List Note
notes_at rules (Replied life number tick reply) past =
    notes_in Token rules life number reply (life_at rules past)
    ++ routing_notes (routed_at rules past) (routed_at rules (Replied life number tick reply ∷ past))
notes_at rules (Ticked tick) past = silence_notes Token (is_silent_in Token rules tick (life_at rules past))
notes_at rules (Selected port) past = routing_notes (routed_at rules past) (routed_at rules (Selected port ∷ past))
notes_at rules (Attached tick) past = []
notes_at rules (Detached tick) past = []
notes_at rules (Woke tick) past = []
notes_at rules (Darkened tick) past = []
notes_at rules (Left tick) past = []
