-- What a moment does to the token's power: nothing, or it comes on, or it goes off.
use Rattle.std.proofs.Common.{◌≡◌, ℕ, ◌+◌, ◌≤◌, Bool, true, false, not, ◌&&◌, List, [], ◌∷◌, Option, Some, None, refl, sym, ap, ◌∙◌, arith}
use Rattle.std.proofs.lemmas.Bool.{leb-true, eqb-true}
use Rattle.std.specs.Prelude.{◌==◌, is_some}
use Rattle.psd_base.specs.declared.console.Plug.TheVariants.{Token}
use Rattle.peripheral_filter.specs.declared.rule.RuleSet.{RuleSet}
use Rattle.console_host.specs.declared.next.Next.{Next}
use Rattle.console_host.specs.declared.next.Next.TheVariants as next
use Rattle.console_host.specs.declared.rules.TheConstants.{SILENT}
use Rattle.console_host.specs.Replies.{Reply}
use Rattle.console_host.specs.Lives.{next_in, is_silent_in}
use Rattle.auth_router.specs.SlotCalls.{SlotCall, Attach, Clock, Detach, Leave, Bar, Check, Route}
use Rattle.auth_router.specs.Slot.{Power, On, Off, is_attached as is_there, barred_by, powers, has_power_after, last_off, times_on, is_rested, change_where, with_change, has_power, state_after}
use Rattle.auth_router.specs.declared.slot.SlotState.{SlotState}
use Rattle.auth_router.specs.declared.slot.SlotState.TheVariants as state
use Rattle.auth_router.specs.declared.slot.TheConstants.{RESET}
use Rattle.token_plug.specs.Moments.{Moment, Attached, Detached, Replied, Ticked, Woke, Darkened, Left, Selected}
use Rattle.token_plug.specs.Lives.{is_alive, is_attached, selected_at, waits_in, is_checked, powered_if, waited, chosen, judged, told_at, slot_calls, life_at, state_at}
use Rattle.token_plug.specs.Routing.{port_of, routed_at}
use Rattle.token_plug.specs.Ownership.{tick_of}
use Rattle.token_plug.proofs.SlotSteps.{StandsAs, bars, attached_as, attaches, clocks}
use Rattle.token_plug.proofs.Together.{together, next-ignored}
use Rattle.token_plug.proofs.Replying.{asked}
use Rattle.token_plug.proofs.Ticking.{asking-now, no-change, routed-ticked}
use Rattle.token_plug.proofs.Choosing.{was-apart}

abbrev pub powers_at : RuleSet → List Moment → List Power
powers_at rules past = powers (slot_calls rules past)

-- where the token is routed it has power

port_power : (now : SlotState) (port : ℕ) → port_of now ≡ Some port → has_power now ≡ true
port_power (state.Routed routed) port is = refl
port_power state.Absent port is = absurd (cc)
port_power (state.Off since) port is = absurd (cc)
port_power state.Asking port is = absurd (cc)
port_power state.Checked port is = absurd (cc)
port_power (state.Barred rule) port is = absurd (cc)

pub routed-power : (rules : RuleSet) (past : List Moment) (port : ℕ) → routed_at rules past ≡ Some port → has_power_after (powers_at rules past) ≡ true
routed-power rules past port routed =
    let g = together rules past in
    g.stands.powered ∙ port_power g.now port (ap port_of (sym g.stands.state_is) ∙ routed)

-- power that never came on didn't go off

not-zero : (count : ℕ) → (1 + count == 0) ≡ true → ⊥
not-zero count is = let zero : 1 + count ≡ 0 = eqb-true (1 + count) 0 is in omega arith

on-off : (on : Bool) (changes : List Power) → ((times_on changes == 0) ≡ true → last_off changes ≡ None)
    → (times_on (with_change (change_where on On) changes) == 0) ≡ true → last_off (with_change (change_where on On) changes) ≡ None
on-off true changes before never = absurd (not-zero (times_on changes) never)
on-off false changes before never = before never

off-off : (tick : ℕ) (changes : List Power) → ((times_on changes == 0) ≡ true → last_off changes ≡ None)
    → (times_on (with_change (change_where (has_power_after changes) (Off tick)) changes) == 0) ≡ true
    → last_off (with_change (change_where (has_power_after changes) (Off tick)) changes) ≡ None
off-off tick [] before never = refl
off-off tick (On ∷ changes) before never = absurd (not-zero (times_on changes) never)
off-off tick (Off earlier ∷ changes) before never = before never

never-off : (calls : List SlotCall) → (times_on (powers calls) == 0) ≡ true → last_off (powers calls) ≡ None
never-off [] never = refl
never-off (Attach ∷ calls) never = on-off (not (is_there calls) && times_on (powers calls) == 0) (powers calls) (never-off calls) never
never-off (Clock tick ∷ calls) never =
    on-off (is_there calls && not (is_some (barred_by calls)) && not (has_power_after (powers calls)) && is_rested (last_off (powers calls)) tick)
    (powers calls) (never-off calls) never
never-off (Detach tick ∷ calls) never = off-off tick (powers calls) (never-off calls) never
never-off (Leave tick ∷ calls) never = off-off tick (powers calls) (never-off calls) never
never-off (Bar tick rule ∷ calls) never = off-off tick (powers calls) (never-off calls) never
never-off (Check ∷ calls) never = never-off calls never
never-off (Route port ∷ calls) never = never-off calls never

-- a reply that counts is one of a token that is asked
pub asking-reply : (rules : RuleSet) (life number tick : ℕ) (reply : Reply) (past : List Moment) (answer : Next)
    → next_in Token rules life number tick reply (life_at rules past) ≡ answer → (answer ≡ next.Ignored → ⊥) → state_at rules past ≡ state.Asking
asking-reply rules life number tick reply past answer is counts = by_waits (waits_in rules (life_at rules past)) refl where
  by_waits : (waits : Bool) → waits_in rules (life_at rules past) ≡ waits → state_at rules past ≡ state.Asking
  by_waits true waits = asked rules past waits
  by_waits false idle = absurd (counts (sym is ∙ next-ignored rules life number tick reply (life_at rules past) idle))

-- the effects

abbrev pub is_refused : Next → Bool
is_refused (next.Refused rule) = true
is_refused (next.Ask order) = false
is_refused next.Ready = false
is_refused next.Ignored = false

-- whether power can go off at a moment
abbrev pub may_lose : RuleSet → Moment → List Moment → Bool
may_lose rules (Detached tick) past = true
may_lose rules (Darkened tick) past = true
may_lose rules (Left tick) past = true
may_lose rules (Replied life number tick reply) past = is_refused (next_in Token rules life number tick reply (life_at rules past))
may_lose rules (Ticked tick) past = is_silent_in Token rules tick (life_at rules past)
may_lose rules (Attached tick) past = false
may_lose rules (Woke tick) past = false
may_lose rules (Selected port) past = false

pub record Keeps (rules : RuleSet) (moment : Moment) (past : List Moment) : Type 0 where
  pub same : powers_at rules (moment ∷ past) ≡ powers_at rules past
  pub routed : (port : ℕ) → routed_at rules past ≡ Some port → routed_at rules (moment ∷ past) ≡ Some port

pub record ComesOn (rules : RuleSet) (moment : Moment) (past : List Moment) : Type 0 where
  pub on : powers_at rules (moment ∷ past) ≡ On ∷ powers_at rules past
  pub without : has_power_after (powers_at rules past) ≡ false
  pub routed : routed_at rules (moment ∷ past) ≡ routed_at rules past
  pub tick : ℕ
  pub rested : (off : ℕ) → last_off (powers_at rules past) ≡ Some off → (moment ≡ Ticked tick) × (off + RESET ≤ tick)

pub record GoesOff (rules : RuleSet) (moment : Moment) (past : List Moment) : Type 0 where
  pub tick : ℕ
  pub off : powers_at rules (moment ∷ past) ≡ Off tick ∷ powers_at rules past
  pub had : has_power_after (powers_at rules past) ≡ true
  pub at : tick_of moment ≡ Some tick
  pub may : may_lose rules moment past ≡ true

pub data Effect (rules : RuleSet) (moment : Moment) (past : List Moment) : Type 0 where
  Kept : Keeps rules moment past → Effect rules moment past
  CameOn : ComesOn rules moment past → Effect rules moment past
  WentOff : GoesOff rules moment past → Effect rules moment past

both : (first second : Bool) → (first && second) ≡ true → (first ≡ true) × (second ≡ true)
both true true is = (refl, refl)
both true false is = absurd (cc)
both false second is = absurd (cc)

not_true : (b : Bool) → not b ≡ true → b ≡ false
not_true false is = refl
not_true true is = absurd (cc)

module _ (rules : RuleSet) where
  -- power is taken away, if there is some
  taken : (moment : Moment) (tick : ℕ) (past : List Moment) (had : Bool) → has_power_after (powers_at rules past) ≡ had
      → powers_at rules (moment ∷ past) ≡ with_change (change_where (has_power_after (powers_at rules past)) (Off tick)) (powers_at rules past)
      → tick_of moment ≡ Some tick → may_lose rules moment past ≡ true → Effect rules moment past
  taken moment tick past true had is at may = WentOff (record { tick = tick; off = rw had at is; had = had; at = at; may = may })
  taken moment tick past false had is at may = Kept (record {
    same = rw had at is;
    routed = λ port routed. absurd (let never : true ≡ false = sym (routed-power rules past port routed) ∙ had in cc);
  })

  -- a token that arrives

  port-attached : (never : Bool) (off : Option ℕ) (now : SlotState) → port_of (attached_as never off now) ≡ port_of now
  port-attached true off state.Absent = refl
  port-attached false off state.Absent = refl
  port-attached never off (state.Off since) = refl
  port-attached never off state.Asking = refl
  port-attached never off state.Checked = refl
  port-attached never off (state.Routed port) = refl
  port-attached never off (state.Barred rule) = refl

  routed-attached : (past : List Moment) → port_of (state_after (Attach ∷ slot_calls rules past)) ≡ routed_at rules past
  routed-attached past =
      let g = together rules past in
      ap port_of (attaches (slot_calls rules past) g.now (times_on (powers_at rules past) == 0) refl g.stands).stands.state_is
      ∙ port-attached (times_on (powers_at rules past) == 0) (last_off (powers_at rules past)) g.now ∙ ap port_of (sym g.stands.state_is)

  no-power : (changes : List Power) → (times_on changes == 0) ≡ true → has_power_after changes ≡ false
  no-power [] never = refl
  no-power (On ∷ changes) never = absurd (not-zero (times_on changes) never)
  no-power (Off tick ∷ changes) never = refl

  arrives : (moment : Moment) (past : List Moment) → slot_calls rules (moment ∷ past) ≡ Attach ∷ slot_calls rules past → Effect rules moment past
  arrives moment past is = by_on (not (is_there (slot_calls rules past)) && times_on (powers_at rules past) == 0) refl where
    routed : routed_at rules (moment ∷ past) ≡ routed_at rules past
    routed = ap (λ (calls : List SlotCall). port_of (state_after calls)) is ∙ routed-attached past

    powers_are : powers_at rules (moment ∷ past) ≡ with_change (change_where (not (is_there (slot_calls rules past)) && times_on (powers_at rules past) == 0) On) (powers_at rules past)
    powers_are = ap powers is

    by_on : (on : Bool) → (not (is_there (slot_calls rules past)) && times_on (powers_at rules past) == 0) ≡ on → Effect rules moment past
    by_on true on =
        let never : (times_on (powers_at rules past) == 0) ≡ true = (both (not (is_there (slot_calls rules past))) (times_on (powers_at rules past) == 0) on).1 in
        CameOn (record {
          on = rw on at powers_are;
          without = no-power (powers_at rules past) never;
          routed = routed;
          tick = 0;
          rested = λ off was. absurd (let none : None ≡ Some off = sym (never-off (slot_calls rules past) never) ∙ was in cc);
        })
    by_on false on = Kept (record { same = rw on at powers_are; routed = λ port before. routed ∙ before })

  unchanged : (moment : Moment) (past : List Moment) → slot_calls rules (moment ∷ past) ≡ slot_calls rules past → Effect rules moment past
  unchanged moment past is = Kept (record {
    same = ap powers is;
    routed = λ port before. ap (λ (calls : List SlotCall). port_of (state_after calls)) is ∙ before;
  })

  arrives-if : (moment : Moment) (past : List Moment) (may : Bool) (tick : ℕ)
      → slot_calls rules (moment ∷ past) ≡ (powered_if may tick Attach (told_at rules past)).slot → Effect rules moment past
  arrives-if moment past true tick is = arrives moment past is
  arrives-if moment past false tick is = unchanged moment past is

  -- a clock event

  abbrev rests : ℕ → List SlotCall → Bool
  rests tick calls = is_there calls && not (is_some (barred_by calls)) && not (has_power_after (powers calls)) && is_rested (last_off (powers calls)) tick

  rested_by : (tick : ℕ) (since : Option ℕ) (off : ℕ) → is_rested since tick ≡ true → since ≡ Some off → off + RESET ≤ tick
  rested_by tick None off rested is = absurd (let none : None ≡ Some off = is in cc)
  rested_by tick (Some since) off rested is = let same : since ≡ off = cc in rw same at (leb-true (since + RESET) tick rested)

  -- what the slot was told, while the switch is dark or alive
  after_tick : (tick : ℕ) (past : List Moment) (alive : Bool) → is_alive past ≡ alive
      → slot_calls rules (Ticked tick ∷ past) ≡ (powered_if alive tick (Clock tick) (waited rules tick (told_at rules past))).slot
  after_tick tick past alive is = ap (λ (may : Bool). (powered_if may tick (Clock tick) (waited rules tick (told_at rules past))).slot) is

  clocked : (tick : ℕ) (past : List Moment) → slot_calls rules (Ticked tick ∷ past) ≡ Clock tick ∷ slot_calls rules past → Effect rules (Ticked tick) past
  clocked tick past is = by_on (rests tick (slot_calls rules past)) refl where
    powers_are : powers_at rules (Ticked tick ∷ past) ≡ with_change (change_where (rests tick (slot_calls rules past)) On) (powers_at rules past)
    powers_are = ap powers is

    by_on : (on : Bool) → rests tick (slot_calls rules past) ≡ on → Effect rules (Ticked tick) past
    by_on true on =
        let parts = both (is_there (slot_calls rules past) && not (is_some (barred_by (slot_calls rules past))) && not (has_power_after (powers_at rules past))) (is_rested (last_off (powers_at rules past)) tick) on in
        let first = both (is_there (slot_calls rules past) && not (is_some (barred_by (slot_calls rules past)))) (not (has_power_after (powers_at rules past))) parts.0 in
        CameOn (record {
          on = rw on at powers_are;
          without = not_true (has_power_after (powers_at rules past)) first.1;
          routed = routed-ticked rules tick past;
          tick = tick;
          rested = λ off was. (refl, rested_by tick (last_off (powers_at rules past)) off parts.1 was);
        })
    by_on false on = Kept (record { same = rw on at powers_are; routed = λ port before. routed-ticked rules tick past ∙ before })

  ticked : (tick : ℕ) (past : List Moment) (silent : Bool) → is_silent_in Token rules tick (life_at rules past) ≡ silent → Effect rules (Ticked tick) past
  ticked tick past false quiet = by_alive (is_alive past) refl where
    by_alive : (alive : Bool) → is_alive past ≡ alive → Effect rules (Ticked tick) past
    by_alive true alive = clocked tick past (after_tick tick past true alive ∙ rw quiet refl)
    by_alive false dark = unchanged (Ticked tick) past (after_tick tick past false dark ∙ rw quiet refl)
  ticked tick past true silent = by_alive (is_alive past) refl where
    stands : StandsAs (slot_calls rules past) state.Asking
    stands = asking-now rules tick past silent

    barred : powers (Bar tick SILENT ∷ slot_calls rules past) ≡ Off tick ∷ powers_at rules past
    barred = rw stands.powered refl

    clock : powers (Clock tick ∷ Bar tick SILENT ∷ slot_calls rules past) ≡ powers (Bar tick SILENT ∷ slot_calls rules past)
    clock =
        let comes = (clocks tick (Bar tick SILENT ∷ slot_calls rules past) (state.Barred SILENT) (bars tick SILENT (slot_calls rules past) stands)).comes in
        no-change (rests tick (Bar tick SILENT ∷ slot_calls rules past)) (powers (Bar tick SILENT ∷ slot_calls rules past)) comes

    by_alive : (alive : Bool) → is_alive past ≡ alive → Effect rules (Ticked tick) past
    by_alive true alive = WentOff (record {
      tick = tick;
      off = ap powers (after_tick tick past true alive) ∙ (rw silent (clock ∙ barred));
      had = stands.powered;
      at = refl;
      may = silent;
    })
    by_alive false dark = WentOff (record {
      tick = tick;
      off = ap powers (after_tick tick past false dark) ∙ (rw silent barred);
      had = stands.powered;
      at = refl;
      may = silent;
    })

  -- a reply

  judged-powers : (tick : ℕ) (selected : Option ℕ) (calls : List SlotCall) → powers (judged tick selected next.Ready calls) ≡ powers calls
  judged-powers tick None calls = refl
  judged-powers tick (Some port) calls = refl

  replied : (life number tick : ℕ) (reply : Reply) (past : List Moment) (answer : Next)
      → next_in Token rules life number tick reply (life_at rules past) ≡ answer → Effect rules (Replied life number tick reply) past
  replied life number tick reply past next.Ignored is = unchanged (Replied life number tick reply) past (rw is refl)
  replied life number tick reply past (next.Ask order) is = unchanged (Replied life number tick reply) past (rw is refl)
  replied life number tick reply past next.Ready is =
      let asks : state_at rules past ≡ state.Asking = asking-reply rules life number tick reply past next.Ready is (λ same. absurd (cc)) in
      Kept (record {
        same = rw is (judged-powers tick (selected_at past) (slot_calls rules past));
        routed = λ port before. absurd (let none : None ≡ Some port = sym (ap port_of asks) ∙ before in cc);
      })
  replied life number tick reply past (next.Refused rule) is =
      let asks : state_at rules past ≡ state.Asking = asking-reply rules life number tick reply past (next.Refused rule) is (λ same. absurd (cc)) in
      let g = together rules past in
      let power : has_power_after (powers_at rules past) ≡ true = g.stands.powered ∙ ap has_power (sym g.stands.state_is ∙ asks) in
      WentOff (record { tick = tick; off = rw (is, power) refl; had = power; at = refl; may = rw is refl })

  -- a selection

  selected : (port : ℕ) (past : List Moment) (before : Option ℕ) → selected_at past ≡ before → (checked : Bool) → is_checked (state_at rules past) ≡ checked
      → Effect rules (Selected port) past
  selected port past (Some before) is checked checked_is = unchanged (Selected port) past (ap (λ (s : Option ℕ). (chosen s port (told_at rules past)).slot) is)
  selected port past None is false other =
      unchanged (Selected port) past (ap (λ (s : Option ℕ). (chosen s port (told_at rules past)).slot) is ∙ rw other refl)
  selected port past None is true checked = Kept (record {
    same = ap (λ (s : Option ℕ). powers (chosen s port (told_at rules past)).slot) is ∙ rw checked refl;
    routed = λ other before. absurd (let none : None ≡ Some other = sym (was-apart rules port past is checked) ∙ before in cc);
  })

pub effect : (rules : RuleSet) (moment : Moment) (past : List Moment) → Effect rules moment past
effect rules (Attached tick) past = arrives-if rules (Attached tick) past (is_alive past) tick refl
effect rules (Woke tick) past = arrives-if rules (Woke tick) past (is_attached past) tick refl
effect rules (Detached tick) past = taken rules (Detached tick) tick past (has_power_after (powers_at rules past)) refl refl refl refl
effect rules (Darkened tick) past = taken rules (Darkened tick) tick past (has_power_after (powers_at rules past)) refl refl refl refl
effect rules (Left tick) past = taken rules (Left tick) tick past (has_power_after (powers_at rules past)) refl refl refl refl
effect rules (Ticked tick) past = ticked rules tick past (is_silent_in Token rules tick (life_at rules past)) refl
effect rules (Replied life number tick reply) past =
    replied rules life number tick reply past (next_in Token rules life number tick reply (life_at rules past)) refl
effect rules (Selected port) past = selected rules port past (selected_at past) refl (is_checked (state_at rules past)) refl
