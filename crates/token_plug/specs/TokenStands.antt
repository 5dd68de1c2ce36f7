-- What the token's plug stands for: what happened to the token, newest first, and what came to its bridge.
use Rattle.std.specs.Prelude.{◌≡◌, true, List, None}
use Rattle.psd_base.specs.declared.console.Plug.TheVariants.{Token}
use Rattle.peripheral_filter.specs.declared.rule.RuleSet.{RuleSet}
use Rattle.console_host.specs.Stands.{AttachmentStands}
use Rattle.auth_router.specs.SlotStands.{SlotStands}
use Rattle.auth_router.specs.declared.slot.SlotState.TheVariants as state
use Rattle.auth_router.specs.Bridge.{BridgePast, IsDown}
use Rattle.auth_router.specs.BridgeStands.{BridgeStands}
use Rattle.token_plug.specs.declared.plug.TokenPlug.{TokenPlug}
use Rattle.token_plug.specs.Moments.{Moment}
use Rattle.token_plug.specs.Lives.{Told, life_of, waits_in, is_alive, is_attached, selected_at, told_at}
use Rattle.token_plug.specs.Routing.{routed_at}

-- the slot and the enumeration stand for what they were told
pub record PartsStand (rules : RuleSet) (value : TokenPlug) (told : Told) : Type 0 where
  pub slot : SlotStands value.slot told.slot
  pub attachment : AttachmentStands Token rules value.attachment told.host

-- a token of which an order is outstanding is being asked
abbrev pub WaitsAsking : RuleSet → TokenPlug → Told → Type 0
WaitsAsking rules value told = waits_in rules (life_of rules told) ≡ true → value.slot.state ≡ state.Asking

pub record TokenStands (rules : RuleSet) (value : TokenPlug) (past : List Moment) (bridge : BridgePast) : Type 0 where
  pub alive : value.alive ≡ is_alive past
  pub attached : value.attached ≡ is_attached past
  pub selected : value.selected ≡ selected_at past
  pub parts : PartsStand rules value (told_at rules past)
  pub bridge_is : BridgeStands value.bridge bridge
  -- a bridge is up for a token that is routed alone
  pub apart : routed_at rules past ≡ None → bridge ≡ IsDown
