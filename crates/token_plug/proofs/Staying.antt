-- A token that is routed stays with its port and in its life, or isn't routed any more.
use Rattle.std.proofs.Common.{◌≡◌, ℕ, Bool, true, false, not, ◌&&◌, List, [], ◌∷◌, Option, Some, None, refl, sym, subst, ap, ◌∙◌, cond}
use Rattle.std.specs.Prelude.{is_some}
use Rattle.psd_base.specs.declared.console.Plug.TheVariants.{Token}
use Rattle.psd_base.specs.declared.console.RuleName.{RuleName}
use Rattle.peripheral_filter.specs.declared.rule.RuleSet.{RuleSet}
use Rattle.console_host.specs.Replies.{Reply}
use Rattle.console_host.specs.Lives.{is_ready_in, is_silent_in, next_in}
use Rattle.console_host.specs.declared.next.Next.{Next}
use Rattle.console_host.specs.declared.next.Next.TheVariants as next
use Rattle.console_host.specs.declared.rules.TheConstants.{SILENT}
use Rattle.auth_router.specs.declared.slot.SlotState.{SlotState}
use Rattle.auth_router.specs.declared.slot.SlotState.TheVariants as state
use Rattle.auth_router.specs.Slot.{Power, On, barred_by, change_where, has_power_after, is_attached, is_rested, last_off, lives, powers, state_after, state_of, this_life, times_on, with_change, without_power}
use Rattle.auth_router.specs.SlotCalls.{SlotCall, Attach, Clock, Detach, Leave, Bar, Check, Route}
use Rattle.token_plug.specs.Lives as plug
use Rattle.token_plug.specs.Lives.{is_checked, judged, life_at, routed_to, selected_at, slot_calls, state_at}
use Rattle.token_plug.specs.Moments.{Moment, Attached, Detached, Replied, Ticked, Woke, Darkened, Left, Selected}
use Rattle.token_plug.specs.Routing.{port_of, routed_at}
use Rattle.token_plug.specs.TokenGives.{orders_at, orders_between}
use Rattle.token_plug.proofs.Ownership.{routed_to_selected}
use Rattle.token_plug.proofs.Replying.{orders-same}

-- a token that is routed is there, and has power
record HasPower (calls : List SlotCall) : Type 0 where
  attached : is_attached calls ≡ true
  powered : has_power_after (powers calls) ≡ true

unrouted_off : (barred : Option RuleName) (off : Option ℕ) (port : ℕ) → port_of (without_power barred off) ≡ Some port → ⊥
unrouted_off None off port is = cc
unrouted_off (Some rule) off port is = cc

has_power-routed : (calls : List SlotCall) (port : ℕ) → port_of (state_after calls) ≡ Some port → HasPower calls
has_power-routed calls port is = by (is_attached calls) (has_power_after (powers calls)) refl refl is where
  by : (attached powered : Bool) → is_attached calls ≡ attached → has_power_after (powers calls) ≡ powered
      → port_of (state_of attached powered (barred_by calls) (this_life calls) (last_off (powers calls))) ≡ Some port → HasPower calls
  by true true attached powered is = record { attached = attached; powered = powered }
  by true false attached powered is = absurd (unrouted_off (barred_by calls) (last_off (powers calls)) port is)
  by false powered attached on is = absurd (cc)

-- no life begins while the token has power

lives-attach : (calls : List SlotCall) → HasPower calls → lives (Attach ∷ calls) ≡ lives calls
lives-attach calls has = rw has.attached refl

no_change : (attached barred powered rested : Bool) → powered ≡ true → change_where (attached && not barred && not powered && rested) On ≡ None
no_change true true true rested is = refl
no_change true false true rested is = refl
no_change false true true rested is = refl
no_change false false true rested is = refl
no_change attached barred false rested is = absurd (cc)

lives-clock : (tick : ℕ) (calls : List SlotCall) → HasPower calls → lives (Clock tick ∷ calls) ≡ lives calls
lives-clock tick calls has =
    ap (λ (change : Option Power). times_on (with_change change (powers calls)))
    (no_change (is_attached calls) (is_some (barred_by calls)) (has_power_after (powers calls)) (is_rested (last_off (powers calls)) tick) has.powered)

lives-bar : (tick : ℕ) (rule : RuleName) (calls : List SlotCall) → HasPower calls → lives (Bar tick rule ∷ calls) ≡ lives calls
lives-bar tick rule calls has = rw has.powered refl

lives-leave : (tick : ℕ) (calls : List SlotCall) → HasPower calls → lives (Leave tick ∷ calls) ≡ lives calls
lives-leave tick calls has = rw has.powered refl

lives-detach : (tick : ℕ) (calls : List SlotCall) → HasPower calls → lives (Detach tick ∷ calls) ≡ lives calls
lives-detach tick calls has = rw has.powered refl

-- a token that was barred gets no power
lives-barred_clock : (tick : ℕ) (rule : RuleName) (calls : List SlotCall) → HasPower calls → lives (Clock tick ∷ Bar tick rule ∷ calls) ≡ lives calls
lives-barred_clock tick rule calls has = rw (has.attached, has.powered) refl

lives-judged : (tick : ℕ) (selected : Option ℕ) (then : Next) (calls : List SlotCall) → HasPower calls → lives (judged tick selected then calls) ≡ lives calls
lives-judged tick selected (next.Ask order) calls has = refl
lives-judged tick None next.Ready calls has = refl
lives-judged tick (Some port) next.Ready calls has = refl
lives-judged tick selected (next.Refused rule) calls has = lives-bar tick rule calls has
lives-judged tick selected next.Ignored calls has = refl

lives_stay-powered : (rules : RuleSet) (moment : Moment) (past : List Moment) → HasPower (slot_calls rules past) → lives (slot_calls rules (moment ∷ past)) ≡ lives (slot_calls rules past)
lives_stay-powered rules (Attached tick) past has = by (plug.is_alive past) where
  by : (alive : Bool) → lives (plug.powered_if alive tick Attach (plug.told_at rules past)).slot ≡ lives (slot_calls rules past)
  by true = lives-attach (slot_calls rules past) has
  by false = refl
lives_stay-powered rules (Woke tick) past has = by (plug.is_attached past) where
  by : (attached : Bool) → lives (plug.powered_if attached tick Attach (plug.told_at rules past)).slot ≡ lives (slot_calls rules past)
  by true = lives-attach (slot_calls rules past) has
  by false = refl
lives_stay-powered rules (Detached tick) past has = lives-detach tick (slot_calls rules past) has
lives_stay-powered rules (Darkened tick) past has = lives-leave tick (slot_calls rules past) has
lives_stay-powered rules (Left tick) past has = lives-leave tick (slot_calls rules past) has
lives_stay-powered rules (Replied life number tick reply) past has =
    lives-judged tick (selected_at past) (next_in Token rules life number tick reply (life_at rules past)) (slot_calls rules past) has
lives_stay-powered rules (Selected port) past has = by (selected_at past) where
  routes : (checked : Bool) → lives (cond checked (Route port ∷ slot_calls rules past) (slot_calls rules past)) ≡ lives (slot_calls rules past)
  routes true = refl
  routes false = refl

  by : (before : Option ℕ) → lives (plug.chosen before port (plug.told_at rules past)).slot ≡ lives (slot_calls rules past)
  by None = routes (is_checked (state_after (slot_calls rules past)))
  by (Some before) = refl
lives_stay-powered rules (Ticked tick) past has = by (is_silent_in Token rules tick (life_at rules past)) (plug.is_alive past) where
  by : (silent alive : Bool) → lives (plug.powered_if alive tick (Clock tick) (record { slot = plug.barred_if silent tick (slot_calls rules past); host = (plug.waited rules tick (plug.told_at rules past)).host })).slot ≡ lives (slot_calls rules past)
  by true true = lives-barred_clock tick SILENT (slot_calls rules past) has
  by true false = lives-bar tick SILENT (slot_calls rules past) has
  by false true = lives-clock tick (slot_calls rules past) has
  by false false = refl

pub lives_stay : (rules : RuleSet) (moment : Moment) (past : List Moment) (port now : ℕ) → routed_at rules past ≡ Some port → routed_at rules (moment ∷ past) ≡ Some now
    → lives (slot_calls rules (moment ∷ past)) ≡ lives (slot_calls rules past)
lives_stay rules moment past port now was is = lives_stay-powered rules moment past (has_power-routed (slot_calls rules past) port was)

-- the port to which the token is routed is the selected one
pub selected-routed : (rules : RuleSet) (past : List Moment) (port : ℕ) → routed_at rules past ≡ Some port → selected_at past ≡ Some port
selected-routed rules past port is = by (is_ready_in Token rules (life_at rules past)) (sym (routed_to_selected rules past) ∙ is) where
  by : (ready : Bool) → cond ready (selected_at past) None ≡ Some port → selected_at past ≡ Some port
  by true is = is
  by false is = absurd (cc)

stays_selected : (moment : Moment) (past : List Moment) (port now : ℕ) → selected_at past ≡ Some port → selected_at (moment ∷ past) ≡ Some now → port ≡ now
stays_selected (Attached tick) past port now was is = let same : Some port ≡ Some now = sym was ∙ is in cc
stays_selected (Detached tick) past port now was is = let same : Some port ≡ Some now = sym was ∙ is in cc
stays_selected (Replied life number tick reply) past port now was is = let same : Some port ≡ Some now = sym was ∙ is in cc
stays_selected (Ticked tick) past port now was is = let same : Some port ≡ Some now = sym was ∙ is in cc
stays_selected (Woke tick) past port now was is = let same : Some port ≡ Some now = sym was ∙ is in cc
stays_selected (Darkened tick) past port now was is = absurd (cc)
stays_selected (Left tick) past port now was is = absurd (cc)
stays_selected (Selected other) past port now was is = let same : Some port ≡ Some now = rw was at is in cc

pub stays_routed : (rules : RuleSet) (moment : Moment) (past : List Moment) (port now : ℕ) → routed_at rules past ≡ Some port → routed_at rules (moment ∷ past) ≡ Some now → port ≡ now
stays_routed rules moment past port now was is =
    stays_selected moment past port now (selected-routed rules past port was) (selected-routed rules (moment ∷ past) now is)

-- a selection changes no power, so it orders nothing
pub selected-orders : (rules : RuleSet) (port : ℕ) (past : List Moment) → orders_at rules (Selected port) past ≡ []
selected-orders rules port past = ap (orders_between (plug.power_at rules past)) (by (selected_at past)) ∙ orders-same (plug.power_at rules past) where
  routes : (checked : Bool) → plug.power_in (cond checked (Route port ∷ slot_calls rules past) (slot_calls rules past)) ≡ plug.power_at rules past
  routes true = refl
  routes false = refl

  by : (before : Option ℕ) → plug.power_in (plug.chosen before port (plug.told_at rules past)).slot ≡ plug.power_at rules past
  by None = routes (is_checked (state_after (slot_calls rules past)))
  by (Some before) = refl
