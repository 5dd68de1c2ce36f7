-- What a reply of the token comes to.
use Rattle.std.proofs.Common.{◌≡◌, ℕ, Bool, true, false, List, [], ◌∷◌, ◌++◌, Option, Some, None, refl, sym, ap, subst, ◌∙◌}
use Rattle.std.specs.Prelude.{IsTrue}
use Rattle.psd_base.specs.declared.console.Plug.TheVariants.{Token}
use Rattle.psd_base.specs.declared.console.Note.{Note}
use Rattle.psd_base.specs.declared.console.Order.{Order}
use Rattle.peripheral_filter.specs.declared.rule.RuleSet.{RuleSet}
use Rattle.console_host.specs.declared.next.Next.TheVariants as next
use Rattle.console_host.specs.Plan.{Plan, Asks, IsReady, Refuses}
use Rattle.console_host.specs.Replies.{Reply}
use Rattle.console_host.specs.Lives.{Life, Standing, plan_of, counts, with_reply, after_reply, next_in, next_by, notes_in, is_ready_in, shape_of_life, standing}
use Rattle.console_host.specs.Stands.{StandsAt, AttachmentStands}
use Rattle.console_plug.specs.PlugGives.{asked_next}
use Rattle.auth_router.specs.SlotCalls.{SlotCall, Check}
use Rattle.auth_router.specs.Slot.{lives, state_after}
use Rattle.auth_router.specs.SlotStands.{SlotStands}
use Rattle.auth_router.specs.Bridge.{BridgePast, IsDown}
use Rattle.auth_router.specs.BridgeStands.{BridgeStands}
use Rattle.auth_router.specs.declared.up.Up.{Up}
use Rattle.auth_router.specs.declared.slot.SlotState.{SlotState}
use Rattle.auth_router.specs.declared.slot.SlotState.TheVariants as state
use Rattle.token_plug.specs.declared.plug.TokenPlug.{TokenPlug}
use Rattle.token_plug.specs.Moments.{Moment, Replied}
use Rattle.token_plug.specs.Lives.{waits_in, selected_at, routed_to, slot_calls, host_calls, life_at, state_at, power_in, power_at}
use Rattle.token_plug.specs.Routing.{port_of, routed_at, up_of, up_at, bridged, bridge_at}
use Rattle.token_plug.specs.TokenGives.{orders_between, orders_at, next_asks, routing_notes, notes_at}
use Rattle.token_plug.specs.TokenStands.{TokenStands}
use Rattle.token_plug.proofs.SlotSteps.{StandsAs, checks, routes}
use Rattle.token_plug.proofs.Together.{together, is_asking, waits-asking, next-ignored, notes-ignored, standing-ignored}

-- what doesn't change

pub bridge-same : (routed : Option ℕ) (up : Option Up) (bridge : BridgePast) → (routed ≡ None → bridge ≡ IsDown) → bridged routed routed up bridge ≡ bridge
bridge-same None up bridge apart = sym (apart refl)
bridge-same (Some port) up bridge apart = refl

pub orders-same : (power : Option ℕ) → orders_between power power ≡ []
orders-same None = refl
orders-same (Some life) = refl

pub notes-same : (routed : Option ℕ) → routing_notes routed routed ≡ []
notes-same None = refl
notes-same (Some port) = refl

-- a bridge is down where the token isn't routed
pub none-down : (routed : Option ℕ) (before : Option ℕ) (up : Option Up) (bridge : BridgePast) → routed ≡ None → bridged before routed up bridge ≡ IsDown
none-down routed before up bridge none = rw none refl

asks_not : (now : SlotState) → (now ≡ state.Asking → ⊥) → is_asking now ≡ false
asks_not state.Asking other = absurd (other refl)
asks_not state.Absent other = refl
asks_not (state.Off since) other = refl
asks_not state.Checked other = refl
asks_not (state.Routed port) other = refl
asks_not (state.Barred rule) other = refl

-- a token that isn't asked has no outstanding order
pub idle : (rules : RuleSet) (past : List Moment) → (state_at rules past ≡ state.Asking → ⊥) → waits_in rules (life_at rules past) ≡ false
idle rules past other =
    let g = together rules past in
    waits-asking rules g.now (life_at rules past) (selected_at past) g.agree ∙ asks_not g.now (λ is. other (g.stands.state_is ∙ is))

-- and one that has one is asked
pub asked : (rules : RuleSet) (past : List Moment) → waits_in rules (life_at rules past) ≡ true → state_at rules past ≡ state.Asking
asked rules past waits = let g = together rules past in by_state g.now g.stands.state_is (sym (waits-asking rules g.now (life_at rules past) (selected_at past) g.agree) ∙ waits) where
  by_state : (now : SlotState) → state_at rules past ≡ now → is_asking now ≡ true → state_at rules past ≡ state.Asking
  by_state state.Asking is asks = is
  by_state state.Absent is asks = absurd (cc)
  by_state (state.Off since) is asks = absurd (cc)
  by_state state.Checked is asks = absurd (cc)
  by_state (state.Routed port) is asks = absurd (cc)
  by_state (state.Barred rule) is asks = absurd (cc)

module _ (rules : RuleSet) (life number tick : ℕ) (reply : Reply) (past : List Moment) where
  abbrev moment : Moment
  moment = Replied life number tick reply

  -- a reply to no outstanding order

  same-slot : waits_in rules (life_at rules past) ≡ false → slot_calls rules (moment ∷ past) ≡ slot_calls rules past
  same-slot waits = rw (next-ignored rules life number tick reply (life_at rules past) waits) refl

  pub ignored-stands : (value : TokenPlug) (bridge : BridgePast) → waits_in rules (life_at rules past) ≡ false → TokenStands rules value past bridge
      → TokenStands rules value (moment ∷ past) (bridge_at rules moment past bridge)
  ignored-stands value bridge waits g =
      let slot = same-slot waits in
      let routed : routed_at rules (moment ∷ past) ≡ routed_at rules past = ap (λ (calls : List SlotCall). port_of (state_after calls)) slot in
      let same : bridge_at rules moment past bridge ≡ bridge =
      ap (λ (r : Option ℕ). bridged (routed_at rules past) r (up_at rules (moment ∷ past)) bridge) routed ∙ bridge-same (routed_at rules past) (up_at rules (moment ∷ past)) bridge g.apart in
      record {
        alive = g.alive;
        attached = g.attached;
        selected = g.selected;
        parts = record {
          slot = subst (λ (calls : List SlotCall). SlotStands value.slot calls) (sym slot) g.parts.slot;
          attachment = subst (λ (s : Standing). StandsAt Token rules value.attachment s) (sym (standing-ignored rules life number tick reply (standing Token rules (host_calls rules past)) (life_at rules past) waits)) g.parts.attachment;
        };
        bridge_is = subst (λ (b : BridgePast). BridgeStands value.bridge b) (sym same) g.bridge_is;
        apart = λ none. same ∙ g.apart (sym routed ∙ none);
      }

  pub ignored-orders : waits_in rules (life_at rules past) ≡ false → orders_at rules moment past ≡ []
  ignored-orders waits =
      let power : power_at rules (moment ∷ past) ≡ power_at rules past = ap (λ (calls : List SlotCall). power_in calls) (same-slot waits) in
      let asks : next_asks rules moment past ≡ [] = ap asked_next (next-ignored rules life number tick reply (life_at rules past) waits) in
      ap (λ (first : List Order). first ++ orders_between (power_at rules past) (power_at rules (moment ∷ past))) asks
      ∙ ap (λ (p : Option ℕ). orders_between (power_at rules past) p) power ∙ orders-same (power_at rules past)

  pub ignored-notes : waits_in rules (life_at rules past) ≡ false → notes_at rules moment past ≡ []
  ignored-notes waits =
      let routed : routed_at rules (moment ∷ past) ≡ routed_at rules past = ap (λ (calls : List SlotCall). port_of (state_after calls)) (same-slot waits) in
      ap (λ (first : List Note). first ++ routing_notes (routed_at rules past) (routed_at rules (moment ∷ past))) (notes-ignored rules life number reply (life_at rules past) waits)
      ∙ ap (λ (r : Option ℕ). routing_notes (routed_at rules past) r) routed ∙ notes-same (routed_at rules past)

  -- a reply that makes the token ready

  ready_by : (before : Standing) (now : Option Life) → before.life ≡ now → next_in Token rules life number tick reply now ≡ next.Ready
      → is_ready_in Token rules (after_reply Token rules life number tick reply before now).life ≡ true
  ready_by before None is ready = absurd (let never : next.Ignored ≡ next.Ready = ready in cc)
  ready_by before (Some present) is ready = by_counts (counts Token rules life number present) refl where
    by_plan : (plan : Plan) → plan_of Token rules (with_reply tick reply present) ≡ plan → next_by Token (with_reply tick reply present) plan ≡ next.Ready
        → is_ready_in Token rules (Some (with_reply tick reply present)) ≡ true
    by_plan (Asks setup) plan answer = absurd (cc)
    by_plan IsReady plan answer = rw plan refl
    by_plan (Refuses rule) plan answer = absurd (cc)

    by_counts : (count : Bool) → counts Token rules life number present ≡ count
        → is_ready_in Token rules (after_reply Token rules life number tick reply before (Some present)).life ≡ true
    by_counts false uncounted = absurd (let never : next.Ignored ≡ next.Ready = rw uncounted at ready in cc)
    by_counts true counted = rw counted (by_plan (plan_of Token rules (with_reply tick reply present)) refl (rw counted at ready))

  pub ready-after : next_in Token rules life number tick reply (life_at rules past) ≡ next.Ready
      → IsTrue (is_ready_in Token rules (life_at rules (moment ∷ past)))
  ready-after ready = ready_by (standing Token rules (host_calls rules past)) (life_at rules past) refl ready

  ready-slot : next_in Token rules life number tick reply (life_at rules past) ≡ next.Ready
      → slot_calls rules (moment ∷ past) ≡ routed_to (selected_at past) (Check ∷ slot_calls rules past)
  ready-slot ready = rw ready refl

  asking-unrouted : state_at rules past ≡ state.Asking → routed_at rules past ≡ None
  asking-unrouted asks = ap port_of asks

  port-checked : (selected : Option ℕ) (calls : List SlotCall) (now : SlotState) → StandsAs calls now → now ≡ state.Asking
      → port_of (state_after (routed_to selected (Check ∷ calls))) ≡ selected
  port-checked None calls now stands is = ap port_of (checks calls (subst (StandsAs calls) is stands)).state_is
  port-checked (Some port) calls now stands is = ap port_of (routes port (Check ∷ calls) (checks calls (subst (StandsAs calls) is stands))).state_is

  ready-routed : state_at rules past ≡ state.Asking → next_in Token rules life number tick reply (life_at rules past) ≡ next.Ready
      → routed_at rules (moment ∷ past) ≡ selected_at past
  ready-routed asks ready =
      let g = together rules past in
      ap (λ (calls : List SlotCall). port_of (state_after calls)) (ready-slot ready)
      ∙ port-checked (selected_at past) (slot_calls rules past) g.now g.stands (sym g.stands.state_is ∙ asks)

  lives-routed : (selected : Option ℕ) (calls : List SlotCall) → lives (routed_to selected (Check ∷ calls)) ≡ lives calls
  lives-routed None calls = refl
  lives-routed (Some port) calls = refl

  -- what the bridge is told, as the accepted token's plug has it
  abbrev ready_up : Option Up
  ready_up = up_of (lives (slot_calls rules past)) (shape_of_life Token rules (life_at rules (moment ∷ past)))

  ready-bridge : (bridge : BridgePast) → state_at rules past ≡ state.Asking → next_in Token rules life number tick reply (life_at rules past) ≡ next.Ready
      → (routed_at rules past ≡ None → bridge ≡ IsDown)
      → bridge_at rules moment past bridge ≡ bridged None (selected_at past) ready_up IsDown
  ready-bridge bridge asks ready apart =
      let number_is : lives (slot_calls rules (moment ∷ past)) ≡ lives (slot_calls rules past) = ap lives (ready-slot ready) ∙ lives-routed (selected_at past) (slot_calls rules past) in
      let up : up_at rules (moment ∷ past) ≡ ready_up = ap (λ (n : ℕ). up_of n (shape_of_life Token rules (life_at rules (moment ∷ past)))) number_is in
      ap (λ (r : Option ℕ). bridged r (routed_at rules (moment ∷ past)) (up_at rules (moment ∷ past)) bridge) (asking-unrouted asks)
      ∙ ap (λ (r : Option ℕ). bridged None r (up_at rules (moment ∷ past)) bridge) (ready-routed asks ready)
      ∙ ap (λ (u : Option Up). bridged None (selected_at past) u bridge) up
      ∙ ap (λ (b : BridgePast). bridged None (selected_at past) ready_up b) (apart (asking-unrouted asks))

  pub ready-stands : (before after : TokenPlug) (bridge : BridgePast) → TokenStands rules before past bridge → before.slot.state ≡ state.Asking
      → next_in Token rules life number tick reply (life_at rules past) ≡ next.Ready
      → after.alive ≡ before.alive → after.attached ≡ before.attached → after.selected ≡ before.selected
      → AttachmentStands Token rules after.attachment (host_calls rules (moment ∷ past))
      → SlotStands after.slot (routed_to before.selected (Check ∷ slot_calls rules past))
      → (BridgeStands before.bridge IsDown → BridgeStands after.bridge (bridged None before.selected ready_up IsDown))
      → TokenStands rules after (moment ∷ past) (bridge_at rules moment past bridge)
  ready-stands before after bridge g asking ready alive attached selected attachment slot bridge_after =
      let asks : state_at rules past ≡ state.Asking = sym g.parts.slot.state_is ∙ asking in
      let down : BridgeStands before.bridge IsDown = subst (λ (b : BridgePast). BridgeStands before.bridge b) (g.apart (asking-unrouted asks)) g.bridge_is in
      let is : bridge_at rules moment past bridge ≡ bridged None (selected_at past) ready_up IsDown = ready-bridge bridge asks ready g.apart in
      record {
        alive = alive ∙ g.alive;
        attached = attached ∙ g.attached;
        selected = selected ∙ g.selected;
        parts = record {
          slot = subst (λ (calls : List SlotCall). SlotStands after.slot calls) (sym (ready-slot ready))
              (subst (λ (s : Option ℕ). SlotStands after.slot (routed_to s (Check ∷ slot_calls rules past))) g.selected slot);
          attachment = attachment;
        };
        bridge_is = subst (λ (b : BridgePast). BridgeStands after.bridge b) (sym is)
            (subst (λ (s : Option ℕ). BridgeStands after.bridge (bridged None s ready_up IsDown)) g.selected (bridge_after down));
        apart = λ none. none-down (routed_at rules (moment ∷ past)) (routed_at rules past) (up_at rules (moment ∷ past)) bridge none;
      }

  pub ready-notes : (before : TokenPlug) (bridge : BridgePast) → TokenStands rules before past bridge → before.slot.state ≡ state.Asking
      → next_in Token rules life number tick reply (life_at rules past) ≡ next.Ready
      → notes_at rules moment past ≡ notes_in Token rules life number reply (life_at rules past) ++ routing_notes None before.selected
  ready-notes before bridge g asking ready =
      let asks : state_at rules past ≡ state.Asking = sym g.parts.slot.state_is ∙ asking in
      ap (λ (r : Option ℕ). notes_in Token rules life number reply (life_at rules past) ++ routing_notes r (routed_at rules (moment ∷ past))) (asking-unrouted asks)
      ∙ ap (λ (r : Option ℕ). notes_in Token rules life number reply (life_at rules past) ++ routing_notes None r) (ready-routed asks ready ∙ sym g.selected)
