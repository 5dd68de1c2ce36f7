-- The lives of a peripheral, by the calls that were made, newest first: which replies count, what is given up, and which
-- descriptors were accepted.
use Rattle.std.specs.Prelude.{ℕ, ◌+◌, ◌==◌, nat_le, Bool, true, false, not, ◌&&◌, List, [], ◌∷◌, length, position, Option, Some, None, if◌then◌else◌}
use Rattle.std.specs.Option.{option_map}
use Rattle.std.specs.List.{find}
use Rattle.psd_base.specs.History.{or_else}
use Rattle.psd_base.specs.declared.console.Plug.{Plug}
use Rattle.psd_base.specs.declared.console.Note.{Note}
use Rattle.psd_base.specs.declared.console.Order.TheVariants as order
use Rattle.hid_report.specs.LayoutValue.{LayoutValue}
use Rattle.peripheral_filter.specs.declared.rule.RuleSet.{RuleSet}
use Rattle.console_host.specs.declared.next.Next.{Next}
use Rattle.console_host.specs.declared.next.Next.TheVariants as next
use Rattle.console_host.specs.declared.next.TheConstants.{SILENCE}
use Rattle.console_host.specs.declared.descriptors.Descriptors.{Descriptors}
use Rattle.console_host.specs.declared.interface.Interface.{Interface}
use Rattle.console_host.specs.declared.descriptors.Shape.{Shape}
use Rattle.console_host.specs.Replies.{Reply}
use Rattle.console_host.specs.Plan.{Plan, Asks, IsReady, Refuses, plan, notes_of, accepted_in, descriptors_in, shape_in}

-- A life begins; a reply comes, with a life, a number and a tick; the clock ticks; the life is dropped; the peripheral is
-- detached.
pub data Call : Type 0 where
  Began : ℕ → ℕ → Call
  Replied : ℕ → ℕ → ℕ → Reply → Call
  Ticked : ℕ → Call
  LifeDropped : Call
  Detached : Call

-- the present life: its number, the descriptors that were accepted in an earlier one, the replies that count, the tick of the
-- last order, and whether that was given up
pub record Life : Type 0 where
  pub number : ℕ
  pub before : Option Descriptors
  pub replies : List Reply
  pub asked : ℕ
  pub is_given_up : Bool

-- the present life, if there is one, and the descriptors of the first life since the attachment that became ready
pub record Standing : Type 0 where
  pub life : Option Life
  pub accepted : Option Descriptors

abbrev pub plan_of : Plug → RuleSet → Life → Plan
plan_of plug rules life = plan plug rules life.before life.replies

abbrev pub asks : Plan → Bool
asks (Asks setup) = true
asks IsReady = false
asks (Refuses rule) = false

abbrev pub is_ready : Plan → Bool
is_ready (Asks setup) = false
is_ready IsReady = true
is_ready (Refuses rule) = false

-- whether an order of the life is outstanding
abbrev pub is_waiting : Plug → RuleSet → Life → Bool
is_waiting plug rules life = not life.is_given_up && asks (plan_of plug rules life)

-- A reply counts where an order is outstanding, its life is the present one, and its number is that of the order.
abbrev pub counts : Plug → RuleSet → ℕ → ℕ → Life → Bool
counts plug rules life number present =
    (present.number == life && length present.replies + 1 == number) && is_waiting plug rules present

abbrev pub with_reply : ℕ → Reply → Life → Life
with_reply tick reply life = record life { replies = reply ∷ life.replies; asked = tick }

-- the descriptors of the life, where it became ready
abbrev pub newly_accepted : Plug → RuleSet → Life → Option Descriptors
newly_accepted plug rules life = if is_ready (plan_of plug rules life) then Some (descriptors_in life.replies) else None

abbrev pub after_counted : Plug → RuleSet → Life → Standing → Standing
after_counted plug rules life standing =
    record { life = Some life; accepted = or_else standing.accepted (newly_accepted plug rules life) }

abbrev pub after_reply : Plug → RuleSet → ℕ → ℕ → ℕ → Reply → Standing → Option Life → Standing
after_reply plug rules life number tick reply standing None = standing
after_reply plug rules life number tick reply standing (Some present) =
    if counts plug rules life number present then after_counted plug rules (with_reply tick reply present) standing else standing

-- whether an order of the life has been outstanding too long at this tick
abbrev pub is_silent : Plug → RuleSet → ℕ → Life → Bool
is_silent plug rules tick life = is_waiting plug rules life && nat_le (life.asked + SILENCE) tick

abbrev pub after_tick : Plug → RuleSet → ℕ → Life → Life
after_tick plug rules tick life = if is_silent plug rules tick life then record life { is_given_up = true } else life

abbrev pub new_life : ℕ → ℕ → Option Descriptors → Life
new_life number tick accepted = record { number = number; before = accepted; replies = []; asked = tick; is_given_up = false }

-- after the calls
abbrev pub standing : Plug → RuleSet → List Call → Standing
standing plug rules [] = record { life = None; accepted = None }
standing plug rules (Began life tick ∷ past) =
    let before = standing plug rules past in record before { life = Some (new_life life tick before.accepted) }
standing plug rules (Replied life number tick reply ∷ past) =
    after_reply plug rules life number tick reply (standing plug rules past) (standing plug rules past).life
standing plug rules (Ticked tick ∷ past) =
    let before = standing plug rules past in record before { life = option_map (after_tick plug rules tick) before.life }
standing plug rules (LifeDropped ∷ past) = record (standing plug rules past) { life = None }
standing plug rules (Detached ∷ past) = record { life = None; accepted = None }

-- what comes next after a reply that counts
abbrev pub next_by : Plug → Life → Plan → Next
next_by plug life (Asks setup) = next.Ask (order.Ask plug life.number (length life.replies + 1) setup)
next_by plug life IsReady = next.Ready
next_by plug life (Refuses rule) = next.Refused rule

-- the answer to a reply
abbrev pub next_in : Plug → RuleSet → ℕ → ℕ → ℕ → Reply → Option Life → Next
next_in plug rules life number tick reply None = next.Ignored
next_in plug rules life number tick reply (Some present) =
    if counts plug rules life number present then next_by plug (with_reply tick reply present) (plan_of plug rules (with_reply tick reply present))
    else next.Ignored

-- the lines that a reply brings; one that doesn't count brings none
abbrev pub notes_in : Plug → RuleSet → ℕ → ℕ → Reply → Option Life → List Note
notes_in plug rules life number reply None = []
notes_in plug rules life number reply (Some present) =
    if counts plug rules life number present then notes_of plug rules present.before present.replies reply else []

-- whether an order has been outstanding too long
abbrev pub is_silent_in : Plug → RuleSet → ℕ → Option Life → Bool
is_silent_in plug rules tick None = false
is_silent_in plug rules tick (Some life) = is_silent plug rules tick life

-- the accepted interfaces of the present life
abbrev pub accepted_of : Plug → Option Life → List Interface
accepted_of plug None = []
accepted_of plug (Some life) = accepted_in plug life.replies

-- the place of the first interface of this number among the accepted ones
abbrev pub place_in : ℕ → List Interface → Option ℕ
place_in number accepted = position (λ interface. interface.number == number) accepted

-- the layout of an accepted interface of this number
abbrev pub layout_in : ℕ → List Interface → Option LayoutValue
layout_in number accepted = elim (find (λ interface. interface.number == number) accepted) [ None ↦ None | Some interface ↦ interface.layout ]

abbrev pub is_ready_in : Plug → RuleSet → Option Life → Bool
is_ready_in plug rules None = false
is_ready_in plug rules (Some life) = is_ready (plan_of plug rules life)

-- the shape of a peripheral that is ready
abbrev pub shape_of_life : Plug → RuleSet → Option Life → Option Shape
shape_of_life plug rules None = None
shape_of_life plug rules (Some life) = if is_ready (plan_of plug rules life) then Some (shape_in life.replies) else None
