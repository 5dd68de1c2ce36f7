-- What a slot stands for: the calls that it had, newest first.
use Rattle.std.specs.Prelude.{◌≡◌, ℕ, Bool, true, false, List, Option, Some, None}
use Rattle.psd_base.specs.declared.console.RuleName.{RuleName}
use Rattle.auth_router.specs.SlotCalls.{SlotCall}
use Rattle.auth_router.specs.Slot.{is_attached, barred_by, powers, has_power_after, last_off, lives, state_after, has_power}
use Rattle.auth_router.specs.declared.slot.SlotState.{SlotState}
use Rattle.auth_router.specs.declared.slot.SlotState.TheVariants as state

-- a slot as plain data
pub record SlotValue : Type 0 where
  pub state : SlotState
  pub last_off : Option ℕ
  pub life : ℕ

abbrev pub is_there : SlotState → Bool
is_there state.Absent = false
is_there (state.Off since) = true
is_there state.Asking = true
is_there state.Checked = true
is_there (state.Routed port) = true
is_there (state.Barred rule) = true

abbrev pub bar_of : SlotState → Option RuleName
bar_of state.Absent = None
bar_of (state.Off since) = None
bar_of state.Asking = None
bar_of state.Checked = None
bar_of (state.Routed port) = None
bar_of (state.Barred rule) = Some rule

pub record SlotStands (slot : SlotValue) (past : List SlotCall) : Type 0 where
  pub state_is : slot.state ≡ state_after past
  pub attached : is_there slot.state ≡ is_attached past
  pub powered : has_power slot.state ≡ has_power_after (powers past)
  pub barred : bar_of slot.state ≡ barred_by past
  pub off : slot.last_off ≡ last_off (powers past)
  pub life_is : slot.life ≡ lives past
