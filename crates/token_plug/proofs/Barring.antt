-- A token that was refused stays so until it is taken off.
use Rattle.std.proofs.Common.{◌≡◌, ℕ, Bool, true, false, List, ◌∷◌, Option, Some, None, refl, sym, ap, subst, ◌∙◌}
use Rattle.std.specs.Prelude.{◌==◌}
use Rattle.psd_base.specs.declared.console.Plug.TheVariants.{Token}
use Rattle.psd_base.specs.declared.console.RuleName.{RuleName}
use Rattle.peripheral_filter.specs.declared.rule.RuleSet.{RuleSet}
use Rattle.console_host.specs.Lives.{is_silent_in}
use Rattle.auth_router.specs.SlotCalls.{SlotCall, Attach, Clock}
use Rattle.auth_router.specs.Slot.{powers, times_on, lives}
use Rattle.auth_router.specs.declared.slot.SlotState.TheVariants as state
use Rattle.token_plug.specs.Moments.{Moment, Attached, Detached, Replied, Ticked, Woke, Darkened, Left, Selected}
use Rattle.token_plug.specs.Lives.{is_alive, is_attached, selected_at, waits_in, powered_if, waited, chosen, told_at, slot_calls, life_at, state_at, power_at}
use Rattle.token_plug.specs.Ownership.{BarredUntilDetached}
use Rattle.token_plug.proofs.SlotSteps.{StandsAs, attaches, clocks, leaves}
use Rattle.token_plug.proofs.Together.{together, silent-ignored, next-ignored}
use Rattle.token_plug.proofs.Replying.{idle}
use Rattle.token_plug.proofs.Ownership.{power-off}
use Rattle.auth_router.specs.Slot.{has_power_after}

module _ (rules : RuleSet) (rule : RuleName) (past : List Moment) (is : state_at rules past ≡ state.Barred rule) where
  stands : StandsAs (slot_calls rules past) (state.Barred rule)
  stands = let g = together rules past in subst (StandsAs (slot_calls rules past)) (sym g.stands.state_is ∙ is) g.stands

  abbrev Barred : Moment → Type 0
  Barred moment = (state_at rules (moment ∷ past) ≡ state.Barred rule) × (power_at rules (moment ∷ past) ≡ None)

  barred_by : (moment : Moment) → StandsAs (slot_calls rules (moment ∷ past)) (state.Barred rule) → Barred moment
  barred_by moment g = (g.state_is, power-off (has_power_after (powers (slot_calls rules (moment ∷ past)))) (lives (slot_calls rules (moment ∷ past))) g.powered)

  same : (moment : Moment) → slot_calls rules (moment ∷ past) ≡ slot_calls rules past → Barred moment
  same moment calls = barred_by moment (subst (λ (c : List SlotCall). StandsAs c (state.Barred rule)) (sym calls) stands)

  waits : waits_in rules (life_at rules past) ≡ false
  waits = idle rules past (λ asks. let never : state.Barred rule ≡ state.Asking = sym is ∙ asks in cc)

  arrives : (moment : Moment) (may : Bool) (tick : ℕ) → slot_calls rules (moment ∷ past) ≡ (powered_if may tick Attach (told_at rules past)).slot → Barred moment
  arrives moment false tick calls = same moment calls
  arrives moment true tick calls =
      let after = attaches (slot_calls rules past) (state.Barred rule) (times_on (powers (slot_calls rules past)) == 0) refl stands in
      barred_by moment (subst (λ (c : List SlotCall). StandsAs c (state.Barred rule)) (sym calls) after.stands)

  ticks : (tick : ℕ) (alive : Bool) → is_alive past ≡ alive → Barred (Ticked tick)
  ticks tick alive alive_is = by_alive alive alive_is where
    quiet : is_silent_in Token rules tick (life_at rules past) ≡ false
    quiet = silent-ignored rules tick (life_at rules past) waits

    told : (may : Bool) → is_alive past ≡ may → slot_calls rules (Ticked tick ∷ past) ≡ (powered_if may tick (Clock tick) (waited rules tick (told_at rules past))).slot
    told may is = ap (λ (m : Bool). (powered_if m tick (Clock tick) (waited rules tick (told_at rules past))).slot) is

    by_alive : (alive : Bool) → is_alive past ≡ alive → Barred (Ticked tick)
    by_alive false dark = same (Ticked tick) (told false dark ∙ rw quiet refl)
    by_alive true alive =
        let calls : slot_calls rules (Ticked tick ∷ past) ≡ Clock tick ∷ slot_calls rules past = told true alive ∙ rw quiet refl in
        barred_by (Ticked tick) (subst (λ (c : List SlotCall). StandsAs c (state.Barred rule)) (sym calls) (clocks tick (slot_calls rules past) (state.Barred rule) stands).stands)

  selects : (port : ℕ) (before : Option ℕ) → selected_at past ≡ before → Barred (Selected port)
  selects port (Some before) selected = same (Selected port) (ap (λ (s : Option ℕ). (chosen s port (told_at rules past)).slot) selected)
  selects port None selected = same (Selected port) (ap (λ (s : Option ℕ). (chosen s port (told_at rules past)).slot) selected ∙ rw is refl)

pub barred_until_detached : BarredUntilDetached
barred_until_detached rules rule (Detached tick) past is = tt
barred_until_detached rules rule (Attached tick) past is = arrives rules rule past is (Attached tick) (is_alive past) tick refl
barred_until_detached rules rule (Woke tick) past is = arrives rules rule past is (Woke tick) (is_attached past) tick refl
barred_until_detached rules rule (Darkened tick) past is =
    barred_by rules rule past is (Darkened tick) (leaves tick (slot_calls rules past) (state.Barred rule) (stands rules rule past is))
barred_until_detached rules rule (Left tick) past is =
    barred_by rules rule past is (Left tick) (leaves tick (slot_calls rules past) (state.Barred rule) (stands rules rule past is))
barred_until_detached rules rule (Ticked tick) past is = ticks rules rule past is tick (is_alive past) refl
barred_until_detached rules rule (Replied life number tick reply) past is =
    same rules rule past is (Replied life number tick reply) (rw (next-ignored rules life number tick reply (life_at rules past) (waits rules rule past is)) refl)
barred_until_detached rules rule (Selected port) past is = selects rules rule past is port (selected_at past) refl
