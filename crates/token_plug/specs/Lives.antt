-- When the token has power, and what its slot and its enumeration are told.
use Rattle.std.specs.Prelude.{ℕ, Bool, true, false, List, [], ◌∷◌, Option, Some, None, if◌then◌else◌}
use Rattle.psd_base.specs.History.{or_else}
use Rattle.psd_base.specs.declared.console.Plug.TheVariants.{Token}
use Rattle.peripheral_filter.specs.declared.rule.RuleSet.{RuleSet}
use Rattle.console_host.specs.declared.next.Next.{Next}
use Rattle.console_host.specs.declared.next.Next.TheVariants as next
use Rattle.console_host.specs.declared.rules.TheConstants.{SILENT}
use Rattle.console_host.specs.Replies.{Reply}
use Rattle.console_host.specs.Lives as host
use Rattle.console_host.specs.Lives.{Call, Life, standing, is_waiting, next_in, is_silent_in}
use Rattle.console_plug.specs.Lives.{with_life_if}
use Rattle.console_plug.specs.PlugStands.{power_of}
use Rattle.auth_router.specs.SlotCalls.{SlotCall, Attach, Clock, Detach, Leave, Bar, Check, Route}
use Rattle.auth_router.specs.Slot.{comes_on, lives, powers, has_power_after, state_after}
use Rattle.auth_router.specs.declared.slot.SlotState.{SlotState}
use Rattle.auth_router.specs.declared.slot.SlotState.TheVariants as state
use Rattle.token_plug.specs.Moments.{Moment, Attached, Detached, Replied, Ticked, Woke, Darkened, Left, Selected}

-- whether a token is there
abbrev pub is_attached : List Moment → Bool
is_attached [] = false
is_attached (Attached tick ∷ past) = true
is_attached (Detached tick ∷ past) = false
is_attached (Replied life number tick reply ∷ past) = is_attached past
is_attached (Ticked tick ∷ past) = is_attached past
is_attached (Woke tick ∷ past) = is_attached past
is_attached (Darkened tick ∷ past) = is_attached past
is_attached (Left tick ∷ past) = is_attached past
is_attached (Selected port ∷ past) = is_attached past

-- whether the switch is alive
abbrev pub is_alive : List Moment → Bool
is_alive [] = false
is_alive (Attached tick ∷ past) = is_alive past
is_alive (Detached tick ∷ past) = is_alive past
is_alive (Replied life number tick reply ∷ past) = is_alive past
is_alive (Ticked tick ∷ past) = is_alive past
is_alive (Woke tick ∷ past) = true
is_alive (Darkened tick ∷ past) = false
is_alive (Left tick ∷ past) = is_alive past
is_alive (Selected port ∷ past) = is_alive past

-- The selected port. It is so until it is left or the switch goes dark, and no other is selected meanwhile.
abbrev pub selected_at : List Moment → Option ℕ
selected_at [] = None
selected_at (Attached tick ∷ past) = selected_at past
selected_at (Detached tick ∷ past) = selected_at past
selected_at (Replied life number tick reply ∷ past) = selected_at past
selected_at (Ticked tick ∷ past) = selected_at past
selected_at (Woke tick ∷ past) = selected_at past
selected_at (Darkened tick ∷ past) = None
selected_at (Left tick ∷ past) = None
selected_at (Selected port ∷ past) = or_else (selected_at past) (Some port)

-- what the slot and the enumeration were told, newest first
pub record Told : Type 0 where
  pub slot : List SlotCall
  pub host : List Call

abbrev pub life_of : RuleSet → Told → Option Life
life_of rules told = (standing Token rules told.host).life

-- whether an order of a life is outstanding
abbrev pub waits_in : RuleSet → Option Life → Bool
waits_in rules None = false
waits_in rules (Some life) = is_waiting Token rules life

-- a call at which power may come on; where it does, a life begins
abbrev pub powered : ℕ → SlotCall → Told → Told
powered tick call told = record {
  slot = call ∷ told.slot;
  host = with_life_if (comes_on call told.slot) (lives (call ∷ told.slot)) tick told.host;
}

abbrev pub powered_if : Bool → ℕ → SlotCall → Told → Told
powered_if may tick call told = if may then powered tick call told else told

-- power is taken away
abbrev pub left : ℕ → Told → Told
left tick told = record { slot = Leave tick ∷ told.slot; host = host.LifeDropped ∷ told.host }

abbrev pub detached : ℕ → Told → Told
detached tick told = record { slot = Detach tick ∷ told.slot; host = host.Detached ∷ told.host }

abbrev pub routed_to : Option ℕ → List SlotCall → List SlotCall
routed_to None calls = calls
routed_to (Some port) calls = Route port ∷ calls

-- What comes of a reply: a token that is accepted is routed to the selected port, and one that is refused is barred.
abbrev pub judged : ℕ → Option ℕ → Next → List SlotCall → List SlotCall
judged tick selected (next.Ask order) calls = calls
judged tick selected next.Ready calls = routed_to selected (Check ∷ calls)
judged tick selected (next.Refused rule) calls = Bar tick rule ∷ calls
judged tick selected next.Ignored calls = calls

abbrev pub replied : RuleSet → ℕ → ℕ → ℕ → Reply → Option ℕ → Told → Told
replied rules life number tick reply selected told = record {
  slot = judged tick selected (next_in Token rules life number tick reply (life_of rules told)) told.slot;
  host = host.Replied life number tick reply ∷ told.host;
}

-- a token that stayed silent too long is barred
abbrev pub barred_if : Bool → ℕ → List SlotCall → List SlotCall
barred_if silent tick calls = if silent then Bar tick SILENT ∷ calls else calls

abbrev pub waited : RuleSet → ℕ → Told → Told
waited rules tick told = record {
  slot = barred_if (is_silent_in Token rules tick (life_of rules told)) tick told.slot;
  host = host.Ticked tick ∷ told.host;
}

abbrev pub is_checked : SlotState → Bool
is_checked state.Checked = true
is_checked state.Absent = false
is_checked (state.Off since) = false
is_checked state.Asking = false
is_checked (state.Routed port) = false
is_checked (state.Barred rule) = false

-- a token that was accepted before is routed to the port that is selected now
abbrev pub chosen : Option ℕ → ℕ → Told → Told
chosen None port told = record { slot = if is_checked (state_after told.slot) then Route port ∷ told.slot else told.slot; host = told.host }
chosen (Some before) port told = told

-- The slot is told of the token while the switch is alive. At a clock event silence is judged first, and then power may come
-- on.
abbrev pub told_at : RuleSet → List Moment → Told
told_at rules [] = record { slot = []; host = [] }
told_at rules (Attached tick ∷ past) = powered_if (is_alive past) tick Attach (told_at rules past)
told_at rules (Detached tick ∷ past) = detached tick (told_at rules past)
told_at rules (Replied life number tick reply ∷ past) = replied rules life number tick reply (selected_at past) (told_at rules past)
told_at rules (Ticked tick ∷ past) = powered_if (is_alive past) tick (Clock tick) (waited rules tick (told_at rules past))
told_at rules (Woke tick ∷ past) = powered_if (is_attached past) tick Attach (told_at rules past)
told_at rules (Darkened tick ∷ past) = left tick (told_at rules past)
told_at rules (Left tick ∷ past) = left tick (told_at rules past)
told_at rules (Selected port ∷ past) = chosen (selected_at past) port (told_at rules past)

abbrev pub slot_calls : RuleSet → List Moment → List SlotCall
slot_calls rules past = (told_at rules past).slot

abbrev pub host_calls : RuleSet → List Moment → List Call
host_calls rules past = (told_at rules past).host

-- how the token stands, and its present life as the enumeration has it
abbrev pub state_at : RuleSet → List Moment → SlotState
state_at rules past = state_after (slot_calls rules past)

abbrev pub life_at : RuleSet → List Moment → Option Life
life_at rules past = life_of rules (told_at rules past)

-- the number of the life that has power, if one has
abbrev pub power_in : List SlotCall → Option ℕ
power_in calls = power_of (has_power_after (powers calls)) (lives calls)

abbrev pub power_at : RuleSet → List Moment → Option ℕ
power_at rules past = power_in (slot_calls rules past)
