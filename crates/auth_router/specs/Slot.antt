-- The token's power, its lives and its routing, told by what the slot was told.
use Rattle.std.specs.Prelude.{ℕ, ◌+◌, Bool, true, false, not, ◌&&◌, ◌==◌, nat_le, List, [], ◌∷◌, Option, Some, None, is_some, unwrap_or, if◌then◌else◌}
use Rattle.psd_base.specs.History.{since, newest, number_of}
use Rattle.psd_base.specs.declared.console.RuleName.{RuleName}
use Rattle.auth_router.specs.SlotCalls.{SlotCall, Attach, Clock, Detach, Leave, Bar, Check, Route}
use Rattle.auth_router.specs.declared.slot.SlotState.{SlotState}
use Rattle.auth_router.specs.declared.slot.SlotState.TheVariants as state
use Rattle.auth_router.specs.declared.slot.TheConstants.{RESET}

-- what a call tells of the attachment
abbrev pub attachment_told : SlotCall → Option Bool
attachment_told Attach = Some true
attachment_told (Detach tick) = Some false
attachment_told (Clock tick) = None
attachment_told (Leave tick) = None
attachment_told (Bar tick rule) = None
attachment_told Check = None
attachment_told (Route port) = None

abbrev pub is_attached : List SlotCall → Bool
is_attached past = unwrap_or (newest attachment_told past) false

-- the rule by which the token is barred: it was refused since it was last detached
abbrev pub is_detach : SlotCall → Bool
is_detach (Detach tick) = true
is_detach Attach = false
is_detach (Clock tick) = false
is_detach (Leave tick) = false
is_detach (Bar tick rule) = false
is_detach Check = false
is_detach (Route port) = false

abbrev pub bar_told : SlotCall → Option RuleName
bar_told (Bar tick rule) = Some rule
bar_told Attach = None
bar_told (Clock tick) = None
bar_told (Detach tick) = None
bar_told (Leave tick) = None
bar_told Check = None
bar_told (Route port) = None

abbrev pub barred_by : List SlotCall → Option RuleName
barred_by past = newest bar_told (since is_detach past)

-- a change of the token's power: it comes on, or goes off at a tick
pub data Power : Type 0 where
  On : Power
  Off : ℕ → Power

abbrev pub is_on : Power → Bool
is_on On = true
is_on (Off tick) = false

abbrev pub off_tick : Power → Option ℕ
off_tick On = None
off_tick (Off tick) = Some tick

-- whether the last of these changes, newest first, left the token with power
abbrev pub has_power_after : List Power → Bool
has_power_after [] = false
has_power_after (change ∷ changes) = is_on change

-- the tick at which power last went off
abbrev pub last_off : List Power → Option ℕ
last_off changes = newest off_tick changes

-- how often power came on
abbrev pub times_on : List Power → ℕ
times_on changes = number_of is_on changes

-- whether power has been off for long enough at a tick
abbrev pub is_rested : Option ℕ → ℕ → Bool
is_rested None tick = true
is_rested (Some off) tick = nat_le (off + RESET) tick

abbrev pub change_where : Bool → Power → Option Power
change_where holds change = if holds then Some change else None

-- Power comes on at the first attachment, and else at a clock event at which the token is attached without power, is not
-- barred and has rested. It goes off where the token is detached, left or barred.
abbrev pub change_at : SlotCall → Bool → Option RuleName → List Power → Option Power
change_at Attach attached barred changes = change_where (not attached && times_on changes == 0) On
change_at (Clock tick) attached barred changes =
    change_where (attached && not (is_some barred) && not (has_power_after changes) && is_rested (last_off changes) tick) On
change_at (Detach tick) attached barred changes = change_where (has_power_after changes) (Off tick)
change_at (Leave tick) attached barred changes = change_where (has_power_after changes) (Off tick)
change_at (Bar tick rule) attached barred changes = change_where (has_power_after changes) (Off tick)
change_at Check attached barred changes = None
change_at (Route port) attached barred changes = None

abbrev pub with_change : Option Power → List Power → List Power
with_change None changes = changes
with_change (Some change) changes = change ∷ changes

-- the changes of power, newest first
abbrev pub powers : List SlotCall → List Power
powers [] = []
powers (call ∷ past) = with_change (change_at call (is_attached past) (barred_by past) (powers past)) (powers past)

-- what a call changes of the token's power
abbrev pub power_at : SlotCall → List SlotCall → Option Power
power_at call past = change_at call (is_attached past) (barred_by past) (powers past)

abbrev pub is_change_on : Option Power → Bool
is_change_on None = false
is_change_on (Some change) = is_on change

-- whether power comes on, or goes off, at a call
abbrev pub comes_on : SlotCall → List SlotCall → Bool
comes_on call past = is_change_on (power_at call past)

abbrev pub goes_off : SlotCall → List SlotCall → Bool
goes_off call past = is_some (power_at call past) && not (comes_on call past)

-- the number of the last life
abbrev pub lives : List SlotCall → ℕ
lives past = times_on (powers past)

-- the calls since power last came on
abbrev pub this_life : List SlotCall → List SlotCall
this_life [] = []
this_life (call ∷ past) = if comes_on call past then [] else call ∷ this_life past

-- how a token with power stands: it was routed, else it was checked, else it is being asked
abbrev pub step_told : SlotCall → Option SlotState
step_told Check = Some state.Checked
step_told (Route port) = Some (state.Routed port)
step_told Attach = None
step_told (Clock tick) = None
step_told (Detach tick) = None
step_told (Leave tick) = None
step_told (Bar tick rule) = None

abbrev pub step_of : List SlotCall → SlotState
step_of calls = unwrap_or (newest step_told calls) state.Asking

abbrev pub without_power : Option RuleName → Option ℕ → SlotState
without_power None off = state.Off off
without_power (Some rule) off = state.Barred rule

abbrev pub state_of : Bool → Bool → Option RuleName → List SlotCall → Option ℕ → SlotState
state_of attached powered barred calls off =
    if attached then (if powered then step_of calls else without_power barred off) else state.Absent

abbrev pub state_after : List SlotCall → SlotState
state_after past = state_of (is_attached past) (has_power_after (powers past)) (barred_by past) (this_life past) (last_off (powers past))

-- whether a token that stands so has power
abbrev pub has_power : SlotState → Bool
has_power state.Absent = false
has_power (state.Off since) = false
has_power state.Asking = true
has_power state.Checked = true
has_power (state.Routed port) = true
has_power (state.Barred rule) = false
