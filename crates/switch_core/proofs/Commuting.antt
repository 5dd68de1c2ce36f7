-- The switch knows its schedule only by what happened at the front and by the views, so acts of different computers commute.
use Rattle.std.proofs.Common.{◌≡◌, ◌≢◌, ℕ, Bool, true, false, ◌&&◌, nat_eq, List, [], ◌∷◌, ◌++◌, Option, Some, None, refl, sym, subst, ap, ◌∙◌, inl, inr}
use Rattle.std.proofs.lemmas.Bool.Decides.{eqb_tells}
use Rattle.psd_base.specs.Event.{Happening, PortActs, AtFront, Seen}
use Rattle.peripheral_filter.specs.declared.rule.RuleSet.{RuleSet}
use Rattle.auth_router.specs.Bridge.{BridgePast}
use Rattle.port_model.specs.Concerns.{Concern, Own, Item}
use Rattle.port_model.specs.TokenConnector.{bridge_past}
use Rattle.switch_core.specs.declared.front.Front.{Front}
use Rattle.switch_core.specs.declared.ports.Ports.{Ports}
use Rattle.switch_core.specs.Bridges.{bridge_after, bridge_among, bridge_in_life, bridges_of}
use Rattle.port_model.specs.Chosen.{selected_at, selections}
use Rattle.switch_core.specs.Commuting.{ActsCommute, SameWords, StandsForSame}
use Rattle.port_model.specs.Independence.{acts}
use Rattle.port_model.specs.FrontEvents.{FrontEvent, front_event, front_of}
use Rattle.switch_core.specs.FrontStands.{FrontStands}
use Rattle.switch_core.specs.PanelsWithin.{PanelsWithin}
use Rattle.switch_core.specs.PartsStand.{PartsStand}
use Rattle.switch_core.specs.PortsStand.{PortsStand, port_count}
use Rattle.switch_core.specs.SlotStands.{views_of}
use Rattle.port_model.specs.Token.{token_life, token_port}
use Rattle.port_model.specs.View.{only_if, stamped, view}
use Rattle.switch_core.proofs.Handing.{SeatStands-same}
use Rattle.port_model.proofs.Numbers.{other_number}
use Rattle.switch_core.proofs.PortLists.{AllStand-same}

-- The bridge of the port to which the token is routed

bridge_among-same : (routed : Option ℕ) (life : ℕ) (bridges others : ℕ → BridgePast) → ((port : ℕ) → bridges port ≡ others port)
    → bridge_among routed life bridges ≡ bridge_among routed life others
bridge_among-same None life bridges others same = refl
bridge_among-same (Some port) life bridges others same = ap (bridge_in_life life) (same port)

pub bridge_after-same : (rules : RuleSet) (past other : List Seen) → SameWords rules past other → bridge_after rules past ≡ bridge_after rules other
bridge_after-same rules past other same =
    ap (λ (front : List FrontEvent). bridge_among (token_port rules front) (token_life rules front) (bridges_of rules past)) same.front
    ∙ bridge_among-same (token_port rules (front_of other)) (token_life rules (front_of other)) (bridges_of rules past) (bridges_of rules other)
    (λ port. ap bridge_past (same.views port))

-- The parts of the switch

PortsStand-same : (ports : Ports) (chosen : Option ℕ) (views after : ℕ → List Item) → ((number : ℕ) → after number ≡ views number)
    → PortsStand ports chosen views → PortsStand ports chosen after
PortsStand-same ports chosen views after same stands = record {
  slots = AllStand-same ports.slots.items views after stands.slots same;
  seat = SeatStands-same ports.seat chosen views after same stands.seat;
}

parts_stand-same : (rules : RuleSet) (ports : Ports) (front : Front) (past other : List Seen) → SameWords rules past other
    → PartsStand rules ports front past → PartsStand rules ports front other
parts_stand-same rules ports front past other same stands = record {
  ports_stand =
      PortsStand-same ports (selected_at rules (front_of other)) (views_of rules past) (views_of rules other) (λ number. sym (same.views number))
      (subst (λ (events : List FrontEvent). PortsStand ports (selected_at rules events) (views_of rules past)) same.front stands.ports_stand);
  gives = stands.gives ∙ ap (selections rules) same.front;
  front_stands =
      subst (λ (bridge : BridgePast). FrontStands rules front (front_of other) bridge) (bridge_after-same rules past other same)
      (subst (λ (events : List FrontEvent). FrontStands rules front events (bridge_after rules past)) same.front stands.front_stands);
  within = subst (λ (events : List FrontEvent). PanelsWithin (port_count ports) events) same.front stands.within;
}

pub same_words_same_switch : StandsForSame
same_words_same_switch rules switch past other same stands = parts_stand-same rules switch.ports switch.front past other same stands

-- Schedules that say the same

-- they still do when the same happens after them
pub same_words-event : (rules : RuleSet) (event : Seen) (past other : List Seen) → SameWords rules past other → SameWords rules (event ∷ past) (event ∷ other)
same_words-event rules event past other same = record { front = by_happening event.tick event.happening; views = at } where
  by_happening : (tick : ℕ) (happening : Happening)
      → front_of (record { tick = tick; happening = happening } ∷ past) ≡ front_of (record { tick = tick; happening = happening } ∷ other)
  by_happening tick (PortActs port side act) = same.front
  by_happening tick (AtFront doing) = ap (λ (front : List FrontEvent). front_event tick doing ∷ front) same.front

  at : (port : ℕ) → view rules port (event ∷ past) ≡ view rules port (event ∷ other)
  at port = rw (same.front, same.views port) refl

pub same_words-events : (rules : RuleSet) (events past other : List Seen) → SameWords rules past other → SameWords rules (events ++ past) (events ++ other)
same_words-events rules [] past other same = same
same_words-events rules (event ∷ events) past other same =
    same_words-event rules event (events ++ past) (events ++ other) (same_words-events rules events past other same)

-- Acts of different computers

-- no port is both of two that differ
not_both : (first second number : ℕ) → first ≢ second → (nat_eq first number && nat_eq second number) ≡ false
not_both first second number apart = elim (eqb_tells first number) [
  | inl is ↦ rw (is.0, other_number second number (λ same. apart (is.1 ∙ sym same))) refl
  | inr is ↦ rw is.0 refl
]

-- at most one of the two concerns a port
exchanged : (tick at : ℕ) (own others : Bool) (concern told : Concern) (items : List Item) → (own && others) ≡ false
    → stamped tick (only_if own concern) (stamped at (only_if others told) items)
    ≡ stamped at (only_if others told) (stamped tick (only_if own concern) items)
exchanged tick at true true concern told items is = absurd (cc)
exchanged tick at true false concern told items is = refl
exchanged tick at false others concern told items is = refl

pub acts_commute : ActsCommute
acts_commute rules port other tick at side connector act taken further past apart =
    same_words-events rules further (acts tick port side act ∷ acts at other connector taken ∷ past) (acts at other connector taken ∷ acts tick port side act ∷ past)
    (record {
      front = refl;
      views = λ number. exchanged tick at (nat_eq port number) (nat_eq other number) (Own side act) (Own connector taken) (view rules number past)
          (not_both port other number apart);
    })
