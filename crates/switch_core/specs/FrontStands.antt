-- What the front of the switch stands for: what happened at it, newest first, and what came to the bridge of the port to which
-- the token is routed.
use Rattle.std.specs.Prelude.{◌≡◌, ℕ, ◌≤◌, List}
use Rattle.peripheral_filter.specs.declared.rule.RuleSet.{RuleSet}
use Rattle.selector.specs.SelectorStands.{SelectorStands}
use Rattle.auth_router.specs.Bridge.{BridgePast}
use Rattle.auth_router.specs.BridgeStands.{jobs_of}
use Rattle.token_plug.specs.TokenStands.{TokenStands}
use Rattle.switch_core.specs.declared.front.Front.{Front}
use Rattle.port_model.specs.FrontEvents.{FrontEvent}
use Rattle.port_model.specs.FrontHealth.{health_at}
use Rattle.port_model.specs.Chosen.{moments_in}
use Rattle.port_model.specs.Peripherals.{plug_history}
use Rattle.switch_core.specs.PeripheralsStand.{PeripheralsStand, HasLivesWithin}
use Rattle.port_model.specs.Token.{token_history}
use Rattle.psd_base.specs.declared.console.Plug.TheVariants.{Keyboard, Mouse}

pub record FrontStands (rules : RuleSet) (front : Front) (past : List FrontEvent) (bridge : BridgePast) : Type 0 where
  pub rules_are : front.rules ≡ rules
  pub health : front.health ≡ health_at past
  pub selector : SelectorStands front.selector (moments_in rules past)
  pub peripherals : PeripheralsStand rules front.peripherals.value (plug_history Keyboard past) (plug_history Mouse past)
  pub token : TokenStands rules front.token.value (token_history rules past) bridge

-- no plug had more lives than this, and the token's bridge made no more jobs
pub record FrontWithin (count : ℕ) (front : Front) : Type 0 where
  pub lives : HasLivesWithin count front.peripherals.value
  pub token : front.token.value.slot.life ≤ count
  pub jobs : jobs_of front.token.value.bridge ≤ count
