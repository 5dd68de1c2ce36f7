-- To which port the token is routed, and what the bridge of that port is told.
use Rattle.std.specs.Prelude.{ℕ, List, [], ◌∷◌, Option, Some, None}
use Rattle.psd_base.specs.declared.console.Plug.TheVariants.{Token}
use Rattle.peripheral_filter.specs.declared.rule.RuleSet.{RuleSet}
use Rattle.console_host.specs.declared.descriptors.Shape.{Shape}
use Rattle.console_host.specs.Lives.{shape_of_life}
use Rattle.auth_router.specs.declared.slot.SlotState.{SlotState}
use Rattle.auth_router.specs.declared.slot.SlotState.TheVariants as state
use Rattle.auth_router.specs.declared.up.Up.{Up}
use Rattle.auth_router.specs.Bridge.{BridgePast, IsDown, IsUp}
use Rattle.auth_router.specs.Slot.{lives}
use Rattle.token_plug.specs.Moments.{Moment}
use Rattle.token_plug.specs.Lives.{slot_calls, state_at, life_at}

abbrev pub port_of : SlotState → Option ℕ
port_of (state.Routed port) = Some port
port_of state.Absent = None
port_of (state.Off since) = None
port_of state.Asking = None
port_of state.Checked = None
port_of (state.Barred rule) = None

-- the port to which the present life is routed
abbrev pub routed_at : RuleSet → List Moment → Option ℕ
routed_at rules past = port_of (state_at rules past)

-- what a bridge is told of a life of this number
abbrev pub up_of : ℕ → Option Shape → Option Up
up_of life None = None
up_of life (Some shape) = Some (record { life = life; value = shape.value; max0 = shape.max0; ins = shape.ins; outs = shape.outs })

abbrev pub up_at : RuleSet → List Moment → Option Up
up_at rules past = up_of (lives (slot_calls rules past)) (shape_of_life Token rules (life_at rules past))

abbrev pub brought_up : Option Up → BridgePast
brought_up None = IsDown
brought_up (Some up) = IsUp up []

-- A bridge is brought up where the token is routed, stays so while it is, and is down else.
abbrev pub bridged : Option ℕ → Option ℕ → Option Up → BridgePast → BridgePast
bridged before None up bridge = IsDown
bridged None (Some port) up bridge = brought_up up
bridged (Some before) (Some port) up bridge = bridge

-- what a moment makes of the bridge
abbrev pub bridge_at : RuleSet → Moment → List Moment → BridgePast → BridgePast
bridge_at rules moment past bridge = bridged (routed_at rules past) (routed_at rules (moment ∷ past)) (up_at rules (moment ∷ past)) bridge
