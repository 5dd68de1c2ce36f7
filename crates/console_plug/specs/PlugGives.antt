-- What a moment gives: the orders to the peripheral, and what the log says of it.
use Rattle.std.specs.Prelude.{ℕ, ◌+◌, Bool, List, [], ◌∷◌, ◌++◌, Option, Some, None, if◌then◌else◌}
use Rattle.psd_base.specs.declared.console.Note.{Note}
use Rattle.psd_base.specs.declared.console.Note.TheVariants as note
use Rattle.psd_base.specs.declared.console.Order.{Order}
use Rattle.psd_base.specs.declared.console.Order.TheVariants as order
use Rattle.psd_base.specs.declared.console.Plug.{Plug}
use Rattle.peripheral_filter.specs.declared.rule.RuleSet.{RuleSet}
use Rattle.console_host.specs.declared.next.Next.{Next}
use Rattle.console_host.specs.declared.next.Next.TheVariants as next
use Rattle.console_host.specs.declared.order.TheConstants.{DEVICE, GET_DEVICE}
use Rattle.console_host.specs.declared.rules.TheConstants.{SILENT}
use Rattle.console_host.specs.Lives.{next_in, notes_in, is_silent_in}
use Rattle.console_plug.specs.Moments.{Moment, Attached, Detached, Replied, Reported, Ticked, Woke, Darkened}
use Rattle.console_plug.specs.Lives.{gets_power, lives, life_at, power_at}

-- power goes from this life to that one
abbrev pub power_orders : Plug → Option ℕ → Option ℕ → List Order
power_orders plug None None = []
power_orders plug None (Some life) = order.On plug life ∷ []
power_orders plug (Some life) None = order.Off plug life ∷ []
power_orders plug (Some before) (Some after) = []

-- what is asked first in a life
abbrev pub first_ask : Plug → Bool → ℕ → List Order
first_ask plug begins life = if begins then order.Ask plug life DEVICE GET_DEVICE ∷ [] else []

abbrev pub asked_next : Next → List Order
asked_next (next.Ask asked) = asked ∷ []
asked_next next.Ready = []
asked_next (next.Refused rule) = []
asked_next next.Ignored = []

-- what is asked at a moment
abbrev pub asks_at : Plug → RuleSet → Moment → List Moment → List Order
asks_at plug rules (Attached tick) past = first_ask plug (gets_power (Attached tick) past) (lives past + 1)
asks_at plug rules (Woke tick) past = first_ask plug (gets_power (Woke tick) past) (lives past + 1)
asks_at plug rules (Replied life number tick reply) past = asked_next (next_in plug rules life number tick reply (life_at plug rules past))
asks_at plug rules Detached past = []
asks_at plug rules (Reported interface bytes) past = []
asks_at plug rules (Ticked tick) past = []
asks_at plug rules Darkened past = []

-- the orders: power comes on or goes off, and then what is asked
abbrev pub orders_at : Plug → RuleSet → Moment → List Moment → List Order
orders_at plug rules moment past =
    power_orders plug (power_at plug rules past) (power_at plug rules (moment ∷ past)) ++ asks_at plug rules moment past

-- a peripheral that stayed silent is refused
abbrev pub silence_notes : Plug → Bool → List Note
silence_notes plug silent = if silent then note.Refused plug SILENT ∷ [] else []

-- the lines of the log
abbrev pub notes_at : Plug → RuleSet → Moment → List Moment → List Note
notes_at plug rules (Replied life number tick reply) past = notes_in plug rules life number reply (life_at plug rules past)
notes_at plug rules (Ticked tick) past = silence_notes plug (is_silent_in plug rules tick (life_at plug rules past))
notes_at plug rules (Attached tick) past = []
notes_at plug rules (Woke tick) past = []
notes_at plug rules Detached past = []
notes_at plug rules (Reported interface bytes) past = []
notes_at plug rules Darkened past = []
