-- What a clock event comes to: first silence is judged, and then power may come on.
use Rattle.std.proofs.Common.{◌≡◌, ℕ, Bool, true, false, not, ◌&&◌, List, ◌∷◌, ◌++◌, Option, None, refl, sym, ap, subst, ◌∙◌, if◌then◌else◌}
use Rattle.std.proofs.lemmas.List.{append-nil}
use Rattle.std.specs.Prelude.{is_some}
use Rattle.psd_base.specs.declared.console.Order.{Order}
use Rattle.psd_base.specs.declared.console.Plug.TheVariants.{Token}
use Rattle.peripheral_filter.specs.declared.rule.RuleSet.{RuleSet}
use Rattle.console_host.specs.declared.rules.TheConstants.{SILENT}
use Rattle.console_host.specs.Lives.{is_silent_in}
use Rattle.console_plug.specs.PlugStands.{power_of}
use Rattle.auth_router.specs.SlotCalls.{SlotCall, Clock, Bar}
use Rattle.auth_router.specs.Slot.{Power, On, is_attached, barred_by, powers, has_power_after, last_off, times_on, is_rested, is_change_on, change_where, with_change, comes_on, state_after}
use Rattle.auth_router.specs.Bridge.{BridgePast}
use Rattle.auth_router.specs.BridgeStands.{BridgeStands}
use Rattle.auth_router.specs.declared.live.Live.{Live}
use Rattle.auth_router.specs.declared.slot.SlotState.{SlotState}
use Rattle.auth_router.specs.declared.slot.SlotState.TheVariants as state
use Rattle.token_plug.specs.declared.plug.TokenPlug.{TokenPlug}
use Rattle.token_plug.specs.Moments.{Moment, Ticked}
use Rattle.token_plug.specs.Lives.{is_alive, selected_at, powered_if, waited, told_at, slot_calls, life_at, state_at, power_in, power_at}
use Rattle.token_plug.specs.Routing.{port_of, routed_at, up_at, bridged, bridge_at}
use Rattle.token_plug.specs.TokenGives.{orders_between}
use Rattle.token_plug.specs.TokenStands.{TokenStands, PartsStand, WaitsAsking}
use Rattle.token_plug.proofs.SlotSteps.{StandsAs, bars, clocked_as, clocks}
use Rattle.token_plug.proofs.Together.{together, silent-waits, judged-silent}
use Rattle.token_plug.proofs.Replying.{asked, bridge-same, orders-same}

pub waits : (rules : RuleSet) (value : TokenPlug) (past : List Moment) (bridge : BridgePast) → TokenStands rules value past bridge
    → WaitsAsking rules value (told_at rules past)
waits rules value past bridge g = λ waiting. g.parts.slot.state_is ∙ asked rules past waiting

-- power that doesn't come on stays as it was
pub no-change : (on : Bool) (changes : List Power) → is_change_on (change_where on On) ≡ false → with_change (change_where on On) changes ≡ changes
no-change true changes off = absurd (cc)
no-change false changes off = refl

abbrev rests_now : ℕ → List SlotCall → Bool
rests_now tick calls = is_attached calls && not (is_some (barred_by calls)) && not (has_power_after (powers calls)) && is_rested (last_off (powers calls)) tick

pub power-kept : (tick : ℕ) (calls : List SlotCall) → comes_on (Clock tick) calls ≡ false → power_in (Clock tick ∷ calls) ≡ power_in calls
power-kept tick calls off =
    ap (λ (changes : List Power). power_of (has_power_after changes) (times_on changes)) (no-change (rests_now tick calls) (powers calls) off)

-- a token that was refused by silence gets no power at the same event
silent-power : (tick : ℕ) (calls : List SlotCall) → StandsAs calls state.Asking
    → power_in (Clock tick ∷ Bar tick SILENT ∷ calls) ≡ power_in (Bar tick SILENT ∷ calls)
silent-power tick calls stands =
    power-kept tick (Bar tick SILENT ∷ calls) (clocks tick (Bar tick SILENT ∷ calls) (state.Barred SILENT) (bars tick SILENT calls stands)).comes

module _ (rules : RuleSet) (tick : ℕ) (past : List Moment) where
  abbrev after_wait : List SlotCall
  after_wait = (waited rules tick (told_at rules past)).slot

  pub asking-now : is_silent_in Token rules tick (life_at rules past) ≡ true → StandsAs (slot_calls rules past) state.Asking
  asking-now silent =
      let g = together rules past in
      subst (StandsAs (slot_calls rules past)) (sym g.stands.state_is ∙ asked rules past (silent-waits rules tick (life_at rules past) silent)) g.stands

  orders_joined : (before after : Option ℕ) → orders_between before after ++ orders_between after after ≡ orders_between before after
  orders_joined before after = ap (λ (more : List Order). orders_between before after ++ more) (orders-same after) ∙ append-nil (orders_between before after)

  pub orders-ticked : orders_between (power_at rules past) (power_in after_wait) ++ orders_between (power_in after_wait) (power_in (Clock tick ∷ after_wait))
      ≡ orders_between (power_at rules past) (power_in (Clock tick ∷ after_wait))
  orders-ticked = by_silent (is_silent_in Token rules tick (life_at rules past)) refl where
    by_silent : (silent : Bool) → is_silent_in Token rules tick (life_at rules past) ≡ silent
        → orders_between (power_at rules past) (power_in after_wait) ++ orders_between (power_in after_wait) (power_in (Clock tick ∷ after_wait))
        ≡ orders_between (power_at rules past) (power_in (Clock tick ∷ after_wait))
    by_silent true silent =
        let kept = silent-power tick (slot_calls rules past) (asking-now silent) in
        rw silent (rw kept (orders_joined (power_at rules past) (power_in (Bar tick SILENT ∷ slot_calls rules past))))
    by_silent false quiet = rw quiet (ap (λ (first : List Order). first ++ orders_between (power_at rules past) (power_in (Clock tick ∷ slot_calls rules past))) (orders-same (power_at rules past)))

  routed-waited : port_of (state_after after_wait) ≡ routed_at rules past
  routed-waited = by_silent (is_silent_in Token rules tick (life_at rules past)) refl where
    by_silent : (silent : Bool) → is_silent_in Token rules tick (life_at rules past) ≡ silent → port_of (state_after after_wait) ≡ routed_at rules past
    by_silent true silent =
        let barred : state_after (Bar tick SILENT ∷ slot_calls rules past) ≡ state.Barred SILENT = (bars tick SILENT (slot_calls rules past) (asking-now silent)).state_is in
        let before : state_at rules past ≡ state.Asking = (asking-now silent).state_is in
        rw silent (ap port_of barred ∙ ap port_of (sym before))
    by_silent false quiet = rw quiet refl

  port-clocked : (now : SlotState) → port_of (clocked_as tick now) ≡ port_of now
  port-clocked state.Absent = refl
  port-clocked (state.Off since) = by_rested (is_rested since tick) where
    by_rested : (rested : Bool) → port_of (if rested then state.Asking else state.Off since) ≡ None
    by_rested true = refl
    by_rested false = refl
  port-clocked state.Asking = refl
  port-clocked state.Checked = refl
  port-clocked (state.Routed port) = refl
  port-clocked (state.Barred rule) = refl

  routed-clocked : (may : Bool) → port_of (state_after (powered_if may tick (Clock tick) (waited rules tick (told_at rules past))).slot) ≡ port_of (state_after after_wait)
  routed-clocked false = refl
  routed-clocked true =
      let g = judged-silent rules tick (told_at rules past) (selected_at past) (together rules past) in
      ap port_of (clocks tick after_wait g.now g.stands).stands.state_is ∙ port-clocked g.now ∙ ap port_of (sym g.stands.state_is)

  pub routed-ticked : routed_at rules (Ticked tick ∷ past) ≡ routed_at rules past
  routed-ticked = routed-clocked (is_alive past) ∙ routed-waited

  pub ticked-stands : (before after : TokenPlug) (bridge : BridgePast) → TokenStands rules before past bridge
      → after.alive ≡ before.alive → after.attached ≡ before.attached → after.selected ≡ before.selected → after.bridge ≡ before.bridge
      → PartsStand rules after (powered_if before.alive tick (Clock tick) (waited rules tick (told_at rules past)))
      → TokenStands rules after (Ticked tick ∷ past) (bridge_at rules (Ticked tick) past bridge)
  ticked-stands before after bridge g alive attached selected bridge_is parts =
      let same : bridge_at rules (Ticked tick) past bridge ≡ bridge =
      ap (λ (r : Option ℕ). bridged (routed_at rules past) r (up_at rules (Ticked tick ∷ past)) bridge) routed-ticked
      ∙ bridge-same (routed_at rules past) (up_at rules (Ticked tick ∷ past)) bridge g.apart in
      record {
        alive = alive ∙ g.alive;
        attached = attached ∙ g.attached;
        selected = selected ∙ g.selected;
        parts = subst (λ (may : Bool). PartsStand rules after (powered_if may tick (Clock tick) (waited rules tick (told_at rules past)))) g.alive parts;
        bridge_is = subst (λ (b : BridgePast). BridgeStands after.bridge b) (sym same)
            (subst (λ (live : Option Live). BridgeStands live bridge) (sym bridge_is) g.bridge_is);
        apart = λ none. same ∙ g.apart (sym routed-ticked ∙ none);
      }
