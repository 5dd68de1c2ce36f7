-- What came to the bridge of the port to which the token is routed, by the views of all ports.
use Rattle.std.specs.Prelude.{ℕ, List, [], ◌∷◌, ◌++◌, Option, Some, None}
use Rattle.psd_base.specs.Event.{Seen}
use Rattle.peripheral_filter.specs.declared.rule.RuleSet.{RuleSet}
use Rattle.auth_router.specs.declared.up.Up.{Up}
use Rattle.auth_router.specs.Bridge.{BridgePast, IsDown, IsUp}
use Rattle.token_plug.specs.Moments.{Moment}
use Rattle.token_plug.specs.Routing.{bridge_at}
use Rattle.port_model.specs.TokenConnector.{bridge_past}
use Rattle.port_model.specs.FrontEvents.{FrontEvent, front_of}
use Rattle.switch_core.specs.SlotStands.{views_of}
use Rattle.port_model.specs.Token.{moments_at, token_history, token_life, token_port}

abbrev pub up_in_life : ℕ → Up → Up
up_in_life life up = record { life = life; value = up.value; max0 = up.max0; ins = up.ins; outs = up.outs }

-- a bridge as its port knows it, in the token's life of this number
abbrev pub bridge_in_life : ℕ → BridgePast → BridgePast
bridge_in_life life IsDown = IsDown
bridge_in_life life (IsUp up items) = IsUp (up_in_life life up) items

-- the bridge of the port to which the token is routed, by the bridges of all ports
abbrev pub bridge_among : Option ℕ → ℕ → (ℕ → BridgePast) → BridgePast
bridge_among None life bridges = IsDown
bridge_among (Some port) life bridges = bridge_in_life life (bridges port)

-- the bridges of all ports, by their numbers
abbrev pub bridges_of : RuleSet → List Seen → ℕ → BridgePast
bridges_of rules past number = bridge_past (views_of rules past number)

abbrev pub bridge_after : RuleSet → List Seen → BridgePast
bridge_after rules past = bridge_among (token_port rules (front_of past)) (token_life rules (front_of past)) (bridges_of rules past)

-- what moments at the token's plug make of the bridge, one after another; they are newest first
abbrev pub bridge_over : RuleSet → List Moment → List Moment → BridgePast → BridgePast
bridge_over rules [] past bridge = bridge
bridge_over rules (moment ∷ moments) past bridge = bridge_at rules moment (moments ++ past) (bridge_over rules moments past bridge)

-- what an event at the front makes of it
abbrev pub bridge_front : RuleSet → FrontEvent → List FrontEvent → BridgePast → BridgePast
bridge_front rules event past bridge = bridge_over rules (moments_at rules event past) (token_history rules past) bridge
