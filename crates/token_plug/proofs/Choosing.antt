-- What the selection of a port comes to.
use Rattle.std.proofs.Common.{◌≡◌, ℕ, Bool, true, false, List, [], ◌∷◌, Option, Some, None, refl, sym, ap, subst, ◌∙◌, if◌then◌else◌}
use Rattle.std.specs.Prelude.{IsTrue}
use Rattle.psd_base.specs.declared.console.Note.TheVariants as note
use Rattle.psd_base.specs.declared.console.Plug.TheVariants.{Token}
use Rattle.peripheral_filter.specs.declared.rule.RuleSet.{RuleSet}
use Rattle.console_host.specs.declared.attachment.Attachment.{Attachment}
use Rattle.console_host.specs.Lives.{Life, is_ready_in, shape_of_life}
use Rattle.console_host.specs.Stands.{AttachmentStands}
use Rattle.auth_router.specs.SlotCalls.{Route}
use Rattle.auth_router.specs.Slot.{lives, state_after}
use Rattle.auth_router.specs.SlotStands.{SlotStands}
use Rattle.auth_router.specs.Bridge.{BridgePast, IsDown}
use Rattle.auth_router.specs.BridgeStands.{BridgeStands}
use Rattle.auth_router.specs.declared.slot.SlotState.{SlotState}
use Rattle.auth_router.specs.declared.slot.SlotState.TheVariants as state
use Rattle.token_plug.specs.declared.plug.TokenPlug.{TokenPlug}
use Rattle.token_plug.specs.Moments.{Moment, Selected}
use Rattle.token_plug.specs.Lives.{Told, life_of, selected_at, is_checked, chosen, told_at, slot_calls, life_at, state_at}
use Rattle.token_plug.specs.Routing.{port_of, routed_at, up_of, up_at, brought_up, bridged, bridge_at}
use Rattle.token_plug.specs.TokenGives.{routing_notes, notes_at}
use Rattle.token_plug.specs.TokenStands.{TokenStands, PartsStand}
use Rattle.token_plug.proofs.SlotSteps.{StandsAs, routes}
use Rattle.token_plug.proofs.Together.{Agree, together}
use Rattle.token_plug.proofs.Replying.{bridge-same, notes-same, none-down}

-- a checked token is ready
checked_ready : (rules : RuleSet) (now : SlotState) (life : Option Life) (selected : Option ℕ) → Agree rules now life selected → is_checked now ≡ true
    → is_ready_in Token rules life ≡ true
checked_ready rules state.Checked life selected agree checked = agree.0
checked_ready rules state.Absent life selected agree checked = absurd (cc)
checked_ready rules (state.Off since) life selected agree checked = absurd (cc)
checked_ready rules state.Asking life selected agree checked = absurd (cc)
checked_ready rules (state.Routed port) life selected agree checked = absurd (cc)
checked_ready rules (state.Barred rule) life selected agree checked = absurd (cc)

pub checked-ready : (rules : RuleSet) (past : List Moment) → IsTrue (is_checked (state_at rules past)) → IsTrue (is_ready_in Token rules (life_at rules past))
checked-ready rules past checked =
    let g = together rules past in
    checked_ready rules g.now (life_at rules past) (selected_at past) g.agree (ap is_checked (sym g.stands.state_is) ∙ checked)

is_checked_by : (now : SlotState) → is_checked now ≡ true → now ≡ state.Checked
is_checked_by state.Checked checked = refl
is_checked_by state.Absent checked = absurd (cc)
is_checked_by (state.Off since) checked = absurd (cc)
is_checked_by state.Asking checked = absurd (cc)
is_checked_by (state.Routed port) checked = absurd (cc)
is_checked_by (state.Barred rule) checked = absurd (cc)

module _ (rules : RuleSet) (port : ℕ) (past : List Moment) (none : selected_at past ≡ None) where
  told-chosen : told_at rules (Selected port ∷ past) ≡ chosen None port (told_at rules past)
  told-chosen = ap (λ (s : Option ℕ). chosen s port (told_at rules past)) none

  -- the token wasn't checked

  same-routed : is_checked (state_at rules past) ≡ false → routed_at rules (Selected port ∷ past) ≡ routed_at rules past
  same-routed other = ap (λ (t : Told). port_of (state_after t.slot)) told-chosen ∙ rw other refl

  -- it was

  checked-now : is_checked (state_at rules past) ≡ true → StandsAs (slot_calls rules past) state.Checked
  checked-now checked =
      let g = together rules past in
      subst (StandsAs (slot_calls rules past)) (sym g.stands.state_is ∙ is_checked_by (state_at rules past) checked) g.stands

  newly-routed : is_checked (state_at rules past) ≡ true → routed_at rules (Selected port ∷ past) ≡ Some port
  newly-routed checked =
      let is : state_after (Route port ∷ slot_calls rules past) ≡ state.Routed port = (routes port (slot_calls rules past) (checked-now checked)).state_is in
      ap (λ (t : Told). port_of (state_after t.slot)) told-chosen ∙ rw checked (ap port_of is)

  pub was-apart : is_checked (state_at rules past) ≡ true → routed_at rules past ≡ None
  was-apart checked = ap port_of (is_checked_by (state_at rules past) checked)

  up-chosen : is_checked (state_at rules past) ≡ true
      → up_at rules (Selected port ∷ past) ≡ up_of (lives (slot_calls rules past)) (shape_of_life Token rules (life_at rules past))
  up-chosen checked = ap (λ (t : Told). up_of (lives t.slot) (shape_of_life Token rules (life_of rules t))) told-chosen ∙ rw checked refl

  -- the bridge
  abbrev bridge_chosen : BridgePast → BridgePast
  bridge_chosen bridge =
      if is_checked (state_at rules past) then brought_up (up_of (lives (slot_calls rules past)) (shape_of_life Token rules (life_at rules past))) else bridge

  bridge-chosen : (bridge : BridgePast) → (routed_at rules past ≡ None → bridge ≡ IsDown) → bridge_at rules (Selected port) past bridge ≡ bridge_chosen bridge
  bridge-chosen bridge apart = by_checked (is_checked (state_at rules past)) refl where
    by_checked : (checked : Bool) → is_checked (state_at rules past) ≡ checked → bridge_at rules (Selected port) past bridge ≡ bridge_chosen bridge
    by_checked true checked =
        rw checked (ap (λ (r : Option ℕ). bridged r (routed_at rules (Selected port ∷ past)) (up_at rules (Selected port ∷ past)) bridge) (was-apart checked)
        ∙ ap (λ (r : Option ℕ). bridged None r (up_at rules (Selected port ∷ past)) bridge) (newly-routed checked)
        ∙ ap brought_up (up-chosen checked))
    by_checked false other =
        rw other (ap (λ (r : Option ℕ). bridged (routed_at rules past) r (up_at rules (Selected port ∷ past)) bridge) (same-routed other)
        ∙ bridge-same (routed_at rules past) (up_at rules (Selected port ∷ past)) bridge apart)

  pub chosen-stands : (before after : TokenPlug) (bridge : BridgePast) → TokenStands rules before past bridge
      → after.alive ≡ before.alive → after.attached ≡ before.attached → after.selected ≡ Some port → after.attachment ≡ before.attachment
      → SlotStands after.slot (chosen None port (told_at rules past)).slot
      → BridgeStands after.bridge (bridge_chosen bridge)
      → TokenStands rules after (Selected port ∷ past) (bridge_at rules (Selected port) past bridge)
  chosen-stands before after bridge g alive attached selected attachment slot bridge_after = record {
    alive = alive ∙ g.alive;
    attached = attached ∙ g.attached;
    selected = rw none selected;
    parts = subst (λ (t : Told). PartsStand rules after t) (sym told-chosen) (record {
      slot = slot;
      attachment = subst (λ (a : Attachment). AttachmentStands Token rules a (told_at rules past).host) (sym attachment) g.parts.attachment;
    });
    bridge_is = subst (λ (b : BridgePast). BridgeStands after.bridge b) (sym (bridge-chosen bridge g.apart)) bridge_after;
    apart = λ unrouted. none-down (routed_at rules (Selected port ∷ past)) (routed_at rules past) (up_at rules (Selected port ∷ past)) bridge unrouted;
  }

  pub chosen-notes : notes_at rules (Selected port) past ≡ (if is_checked (state_at rules past) then note.Routed port ∷ [] else [])
  chosen-notes = by_checked (is_checked (state_at rules past)) refl where
    by_checked : (checked : Bool) → is_checked (state_at rules past) ≡ checked
        → notes_at rules (Selected port) past ≡ (if is_checked (state_at rules past) then note.Routed port ∷ [] else [])
    by_checked true checked =
        rw checked (ap (λ (r : Option ℕ). routing_notes r (routed_at rules (Selected port ∷ past))) (was-apart checked)
        ∙ ap (λ (r : Option ℕ). routing_notes None r) (newly-routed checked))
    by_checked false other =
        rw other (ap (λ (r : Option ℕ). routing_notes (routed_at rules past) r) (same-routed other) ∙ notes-same (routed_at rules past))
