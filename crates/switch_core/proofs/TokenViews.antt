-- The bridges of all ports, by what happens.
use Rattle.std.proofs.Common.{◌≡◌, ℕ, Bool, true, false, nat_eq, List, [], ◌∷◌, ◌++◌, Option, refl, sym, ap, ◌∙◌, cond}
use Rattle.psd_base.specs.declared.act.Act.{Act}
use Rattle.psd_base.specs.declared.act.Side.{Side}
use Rattle.psd_base.specs.declared.act.Side.TheVariants.{Km, Ua}
use Rattle.psd_base.specs.Event.{Seen, Doing, TimePasses, PanelMoves, Attaches, Detaches, Replies, Reports, Finishes, Happening, PortActs, AtFront}
use Rattle.peripheral_filter.specs.declared.rule.RuleSet.{RuleSet}
use Rattle.auth_router.specs.Bridge.{BridgePast, after_act, after_done}
use Rattle.token_plug.specs.Acts.{acted_at}
use Rattle.port_model.specs.Concerns.{TokenNews, Own, Item}
use Rattle.port_model.specs.TokenConnector.{bridge_past}
use Rattle.port_model.specs.FrontEvents.{FrontEvent, front_event, front_of}
use Rattle.port_model.specs.Token.{done_news, moments_at, token_history, token_life, token_news, token_port}
use Rattle.switch_core.specs.Bridges.{bridge_after, bridge_front, bridges_of}
use Rattle.port_model.specs.View.{front_concerns, only_if, stamped, view}
use Rattle.switch_core.proofs.Bridging.{OthersDown, among-same, bridge-acted, bridge-done, bridge-over, news_over, others_down-acted, others_down-done, others_down-over, told_to}
use Rattle.switch_core.proofs.Hearing.{bridge_past-heard, told_over, told_over-append}
use Rattle.switch_core.proofs.Views.{by_front}

-- what happens at the front concerns no bridge, but for the token
bridge_past-front : (rules : RuleSet) (port tick : ℕ) (doing : Doing) (front : List FrontEvent) (past : List Item)
    → bridge_past (stamped tick (front_concerns rules port tick doing front) past) ≡ bridge_past past
bridge_past-front rules port tick doing front past =
    by_front (λ v. bridge_past v ≡ bridge_past past)
    (record { wakes = λ at v e. e; darkens = λ at v e. e; selects = λ at v e. e; leaves = λ at v e. e; keys = λ at shown v e. e; pointer = λ at shown v e. e })
    rules port tick doing front past refl

bridge_past-own : (side : Side) (actor port tick : ℕ) (act : Act) (past : List Item)
    → bridge_past (stamped tick (only_if (nat_eq actor port) (Own side act)) past) ≡ (elim side [ Km ↦ bridge_past past | Ua ↦ cond (nat_eq actor port) (after_act act (bridge_past past)) (bridge_past past) ])
bridge_past-own Km actor port tick act past = by (nat_eq actor port) where
  by : (own : Bool) → bridge_past (stamped tick (only_if own (Own Km act)) past) ≡ bridge_past past
  by true = refl
  by false = refl
bridge_past-own Ua actor port tick act past = by (nat_eq actor port) where
  by : (own : Bool) → bridge_past (stamped tick (only_if own (Own Ua act)) past) ≡ cond own (after_act act (bridge_past past)) (bridge_past past)
  by true = refl
  by false = refl

module _ (rules : RuleSet) (tick : ℕ) (doing : Doing) (past : List Seen) where
  abbrev front : List FrontEvent
  front = front_of past

  abbrev event : FrontEvent
  event = front_event tick doing

  abbrev told_bridges : ℕ → BridgePast
  told_bridges = told_to (news_over rules (moments_at rules event front) (token_history rules front)) (bridges_of rules past)

  -- the bridges after it: first the moments at the token's plug, and then the job that is done
  bridges-after : (port : ℕ) → bridges_of rules (record { tick = tick; happening = AtFront doing } ∷ past) port
      ≡ told_to (λ own. done_news own (token_port rules front) (token_life rules front) doing) told_bridges port
  unfolding token_news
  bridges-after port =
      let moments = news_over rules (moments_at rules event front) (token_history rules front) port in
      let done = done_news port (token_port rules front) (token_life rules front) doing in
      bridge_past-heard tick (moments ++ done) (stamped tick (front_concerns rules port tick doing front) (view rules port past))
      ∙ ap (told_over (moments ++ done)) (bridge_past-front rules port tick doing front (view rules port past))
      ∙ told_over-append moments done (bridge_past (view rules port past))

-- where no job is done nothing more comes
abbrev pub is_done : Doing → Bool
is_done TimePasses = false
is_done (PanelMoves move) = false
is_done (Attaches plug) = false
is_done (Detaches plug) = false
is_done (Replies plug life number status bytes) = false
is_done (Reports plug interface bytes) = false
is_done (Finishes life number status bytes) = true

no_done : (port : ℕ) (routed : Option ℕ) (life : ℕ) (doing : Doing) → is_done doing ≡ false → done_news port routed life doing ≡ []
no_done port routed life TimePasses is = refl
no_done port routed life (PanelMoves move) is = refl
no_done port routed life (Attaches plug) is = refl
no_done port routed life (Detaches plug) is = refl
no_done port routed life (Replies plug other number status bytes) is = refl
no_done port routed life (Reports plug interface bytes) is = refl
no_done port routed life (Finishes other number status bytes) is = absurd (cc)

bridges-quiet : (rules : RuleSet) (tick : ℕ) (doing : Doing) (past : List Seen) → is_done doing ≡ false → (port : ℕ)
    → bridges_of rules (record { tick = tick; happening = AtFront doing } ∷ past) port ≡ told_bridges rules tick doing past port
bridges-quiet rules tick doing past is port =
    bridges-after rules tick doing past port
    ∙ ap (λ (news : List TokenNews). told_over news (told_bridges rules tick doing past port)) (no_done port (token_port rules (front_of past)) (token_life rules (front_of past)) doing is)

pub bridge_after-front : (rules : RuleSet) (tick : ℕ) (doing : Doing) (past : List Seen) → is_done doing ≡ false → OthersDown (token_port rules (front_of past)) (bridges_of rules past)
    → bridge_front rules (front_event tick doing) (front_of past) (bridge_after rules past)
    ≡ bridge_after rules (record { tick = tick; happening = AtFront doing } ∷ past)
bridge_after-front rules tick doing past is down =
    bridge-over rules (moments_at rules (front_event tick doing) (front_of past)) (token_history rules (front_of past)) (bridges_of rules past) down
    ∙ among-same _ _ _ _ (λ port. sym (bridges-quiet rules tick doing past is port))

pub bridge_after-done : (rules : RuleSet) (tick life number status : ℕ) (bytes : List ℕ) (past : List Seen)
    → after_done life number status bytes (bridge_after rules past)
    ≡ bridge_after rules (record { tick = tick; happening = AtFront (Finishes life number status bytes) } ∷ past)
bridge_after-done rules tick life number status bytes past =
    bridge-done (token_port rules (front_of past)) (token_life rules (front_of past)) life number status bytes (bridges_of rules past)
    ∙ among-same _ _ _ _ (λ port. sym (bridges-after rules tick (Finishes life number status bytes) past port))

pub bridge_after-act : (rules : RuleSet) (tick port : ℕ) (act : Act) (past : List Seen)
    → acted_at port act (token_port rules (front_of past)) (bridge_after rules past)
    ≡ bridge_after rules (record { tick = tick; happening = PortActs port Ua act } ∷ past)
bridge_after-act rules tick port act past =
    bridge-acted (token_port rules (front_of past)) (token_life rules (front_of past)) port act (bridges_of rules past)
    ∙ among-same _ _ _ _ (λ other. sym (bridge_past-own Ua port other tick act (view rules other past)))

pub bridge_after-km : (rules : RuleSet) (tick port : ℕ) (act : Act) (past : List Seen)
    → bridge_after rules past ≡ bridge_after rules (record { tick = tick; happening = PortActs port Km act } ∷ past)
bridge_after-km rules tick port act past =
    among-same (token_port rules (front_of past)) (token_life rules (front_of past)) _ _ (λ other. sym (bridge_past-own Km port other tick act (view rules other past)))

-- the token connectors of all other ports are down
pub others_are_down : (rules : RuleSet) (past : List Seen) → OthersDown (token_port rules (front_of past)) (bridges_of rules past)
others_are_down rules [] = λ port apart. refl
others_are_down rules (event ∷ past) = by event.tick event.happening (others_are_down rules past) where
  by_doing : (tick : ℕ) (doing : Doing) (done : Bool) → is_done doing ≡ done → OthersDown (token_port rules (front_of past)) (bridges_of rules past)
      → OthersDown (token_port rules (front_event tick doing ∷ front_of past)) (bridges_of rules (record { tick = tick; happening = AtFront doing } ∷ past))
  by_doing tick doing false is down port apart =
      bridges-quiet rules tick doing past is port
      ∙ others_down-over rules (moments_at rules (front_event tick doing) (front_of past)) (token_history rules (front_of past)) (bridges_of rules past) down port apart
  by_doing tick (Finishes life number status bytes) true is down port apart =
      bridges-after rules tick (Finishes life number status bytes) past port
      ∙ others_down-done (token_port rules (front_of past)) (token_life rules (front_of past)) life number status bytes (bridges_of rules past) down port apart
  by_doing tick TimePasses true is down port apart = absurd (cc)
  by_doing tick (PanelMoves move) true is down port apart = absurd (cc)
  by_doing tick (Attaches plug) true is down port apart = absurd (cc)
  by_doing tick (Detaches plug) true is down port apart = absurd (cc)
  by_doing tick (Replies plug life number status bytes) true is down port apart = absurd (cc)
  by_doing tick (Reports plug interface bytes) true is down port apart = absurd (cc)

  by_side : (tick actor : ℕ) (side : Side) (act : Act) → OthersDown (token_port rules (front_of past)) (bridges_of rules past)
      → OthersDown (token_port rules (front_of past)) (bridges_of rules (record { tick = tick; happening = PortActs actor side act } ∷ past))
  by_side tick actor Km act down port apart = bridge_past-own Km actor port tick act (view rules port past) ∙ down port apart
  by_side tick actor Ua act down port apart =
      bridge_past-own Ua actor port tick act (view rules port past)
      ∙ others_down-acted (token_port rules (front_of past)) actor act (bridges_of rules past) down port apart

  by : (tick : ℕ) (happening : Happening) → OthersDown (token_port rules (front_of past)) (bridges_of rules past)
      → OthersDown (token_port rules (front_of (record { tick = tick; happening = happening } ∷ past))) (bridges_of rules (record { tick = tick; happening = happening } ∷ past))
  by tick (PortActs actor side act) down = by_side tick actor side act down
  by tick (AtFront doing) down = by_doing tick doing (is_done doing) refl down
