-- To which port the token is routed, and that no life is routed to two.
use Rattle.std.proofs.Common.{◌≡◌, ℕ, Bool, true, false, List, [], ◌∷◌, ◌++◌, Option, Some, None, refl, sym, ap, subst, ◌∙◌, if◌then◌else◌}
use Rattle.std.proofs.lemmas.List.{append_assoc}
use Rattle.psd_base.specs.declared.console.Plug.TheVariants.{Token}
use Rattle.peripheral_filter.specs.declared.rule.RuleSet.{RuleSet}
use Rattle.console_host.specs.Lives.{Life, is_ready_in}
use Rattle.console_plug.specs.PlugStands.{power_of}
use Rattle.auth_router.specs.Slot.{has_power_after, last_off, lives}
use Rattle.auth_router.specs.declared.slot.SlotState.{SlotState}
use Rattle.auth_router.specs.declared.slot.SlotState.TheVariants as state
use Rattle.token_plug.specs.Moments.{Moment, Ticked}
use Rattle.token_plug.specs.Lives.{selected_at, slot_calls, life_at, power_at}
use Rattle.token_plug.specs.Routing.{port_of, routed_at}
use Rattle.token_plug.specs.Ownership.{tick_of, begins, comes_on_at, goes_off_at, StaysOff, PowerCycle, TwoPortsTwoLives, RoutedOnceInALife, RoutedToSelected, ApartWhileNoneIsSelected}
use Rattle.token_plug.proofs.Together.{Agree, together, waits-ready}
use Rattle.token_plug.proofs.Effects.{powers_at, routed-power, Effect, Kept, CameOn, WentOff, effect}

routed_by : (rules : RuleSet) (now : SlotState) (life : Option Life) (selected : Option ℕ) → Agree rules now life selected
    → port_of now ≡ (if is_ready_in Token rules life then selected else None)
routed_by rules state.Absent life selected agree = rw agree refl
routed_by rules (state.Off since) life selected agree = rw agree refl
routed_by rules state.Asking life selected agree = rw (waits-ready rules life agree) refl
routed_by rules state.Checked life selected agree = rw (agree.0, agree.1) refl
routed_by rules (state.Routed port) life selected agree = rw (agree.0, agree.1) refl
routed_by rules (state.Barred rule) life selected agree = rw agree.1 refl

pub routed_to_selected : RoutedToSelected
routed_to_selected rules past =
    let g = together rules past in
    ap port_of g.stands.state_is ∙ routed_by rules g.now (life_at rules past) (selected_at past) g.agree

pub apart_while_none_is_selected : ApartWhileNoneIsSelected
apart_while_none_is_selected rules past none = routed_to_selected rules past ∙ by_ready (is_ready_in Token rules (life_at rules past)) (selected_at past) none where
  by_ready : (ready : Bool) (selected : Option ℕ) → selected ≡ None → (if ready then selected else None) ≡ None
  by_ready true selected none = none
  by_ready false selected none = refl

-- power as the changes tell it

pub power-on : (had : Bool) (life : ℕ) → had ≡ true → power_of had life ≡ Some life
power-on had life is = rw is refl

pub power-off : (had : Bool) (life : ℕ) → had ≡ false → power_of had life ≡ None
power-off had life is = rw is refl

begins_now : (before after : Option ℕ) (life : ℕ) → before ≡ None → after ≡ Some life → begins before after ≡ true
begins_now before after life none some = rw (none, some) refl

pub at_power : (rules : RuleSet) (past : List Moment) → has_power_after (powers_at rules past) ≡ true → power_at rules past ≡ Some (lives (slot_calls rules past))
at_power rules past had = power-on (has_power_after (powers_at rules past)) (lives (slot_calls rules past)) had

at_none : (rules : RuleSet) (past : List Moment) → has_power_after (powers_at rules past) ≡ false → power_at rules past ≡ None
at_none rules past without = power-off (has_power_after (powers_at rules past)) (lives (slot_calls rules past)) without

-- the token is routed to this port after each of these moments
abbrev pub StaysRouted : RuleSet → ℕ → List Moment → List Moment → Type 0
StaysRouted rules port [] past = Unit {0}
StaysRouted rules port (moment ∷ moments) past = (routed_at rules (moment ∷ moments ++ past) ≡ Some port) × StaysRouted rules port moments past

-- what came of a routing so far: it stands; or power went off, and didn't come on since; or it did
pub record Lost (rules : RuleSet) (moments past : List Moment) : Type 0 where
  pub before : List Moment
  pub off : Moment
  pub off_tick : ℕ
  pub without : List Moment
  pub moments_are : moments ≡ without ++ off ∷ before
  pub goes_off : goes_off_at rules off (before ++ past) ≡ true
  pub off_at : tick_of off ≡ Some off_tick
  pub stays_off : StaysOff rules without (off ∷ before ++ past)
  pub last : last_off (powers_at rules (moments ++ past)) ≡ Some off_tick
  pub unpowered : has_power_after (powers_at rules (moments ++ past)) ≡ false

pub data Since (rules : RuleSet) (port : ℕ) (moments past : List Moment) : Type 0 where
  Stays : routed_at rules (moments ++ past) ≡ Some port → StaysRouted rules port moments past → Since rules port moments past
  IsLost : Lost rules moments past → Since rules port moments past
  IsBack : PowerCycle rules moments past → Since rules port moments past

module _ (rules : RuleSet) (port : ℕ) (past : List Moment) where
  goes : (moment : Moment) (moments : List Moment) → routed_at rules (moments ++ past) ≡ Some port → StaysRouted rules port moments past
      → Effect rules moment (moments ++ past) → Since rules port (moment ∷ moments) past
  goes moment moments routed stays (Kept keeps) = Stays (keeps.routed port routed) (keeps.routed port routed, stays)
  goes moment moments routed stays (CameOn on) =
      absurd (let never : true ≡ false = sym (routed-power rules (moments ++ past) port routed) ∙ on.without in cc)
  goes moment moments routed stays (WentOff off) =
      let after : has_power_after (powers_at rules (moment ∷ moments ++ past)) ≡ false = ap has_power_after off.off in
      IsLost (record {
        before = moments;
        off = moment;
        off_tick = off.tick;
        without = [];
        moments_are = refl;
        goes_off = begins_now _ _ (lives (slot_calls rules (moments ++ past))) (at_none rules (moment ∷ moments ++ past) after) (at_power rules (moments ++ past) off.had);
        off_at = off.at;
        stays_off = tt;
        last = ap last_off off.off;
        unpowered = after;
      })

  -- the moments after the OFF, before the next one
  without-past : (moments without before : List Moment) (off : Moment) → moments ≡ without ++ off ∷ before → without ++ (off ∷ before ++ past) ≡ moments ++ past
  without-past moments without before off is = sym (append_assoc without (off ∷ before) past) ∙ ap (λ (ms : List Moment). ms ++ past) (sym is)

  lost : (moment : Moment) (moments : List Moment) → Lost rules moments past → Effect rules moment (moments ++ past) → Since rules port (moment ∷ moments) past
  lost moment moments g (WentOff off) = absurd (let never : true ≡ false = sym off.had ∙ g.unpowered in cc)
  lost moment moments g (Kept keeps) =
      let after : has_power_after (powers_at rules (moment ∷ moments ++ past)) ≡ false = ap has_power_after keeps.same ∙ g.unpowered in
      let none = at_none rules (moment ∷ moments ++ past) after in
      IsLost (record {
        before = g.before;
        off = g.off;
        off_tick = g.off_tick;
        without = moment ∷ g.without;
        moments_are = ap (λ (ms : List Moment). moment ∷ ms) g.moments_are;
        goes_off = g.goes_off;
        off_at = g.off_at;
        stays_off = (subst (λ (ms : List Moment). power_at rules (moment ∷ ms) ≡ None) (sym (without-past moments g.without g.before g.off g.moments_are)) none, g.stays_off);
        last = ap last_off keeps.same ∙ g.last;
        unpowered = after;
      })
  lost moment moments g (CameOn on) =
      let rested = on.rested g.off_tick g.last in
      let here : g.without ++ (g.off ∷ g.before ++ past) ≡ moments ++ past = without-past moments g.without g.before g.off g.moments_are in
      let after : power_at rules (moment ∷ moments ++ past) ≡ Some (lives (slot_calls rules (moment ∷ moments ++ past))) = at_power rules (moment ∷ moments ++ past) (ap has_power_after on.on) in
      let begun : comes_on_at rules moment (moments ++ past) ≡ true = begins_now _ _ (lives (slot_calls rules (moment ∷ moments ++ past))) (at_none rules (moments ++ past) on.without) after in
      IsBack (record {
        before = g.before;
        off = g.off;
        off_tick = g.off_tick;
        without = g.without;
        on_tick = on.tick;
        later = [];
        moments_are = ap (λ (m : Moment). m ∷ moments) rested.0 ∙ ap (λ (ms : List Moment). Ticked on.tick ∷ ms) g.moments_are;
        goes_off = g.goes_off;
        off_at = g.off_at;
        stays_off = g.stays_off;
        comes_on = subst (λ (ms : List Moment). comes_on_at rules (Ticked on.tick) ms ≡ true) (sym here) (subst (λ (m : Moment). comes_on_at rules m (moments ++ past) ≡ true) rested.0 begun);
        rested = rested.1;
      })

  back : (moment : Moment) (moments : List Moment) → PowerCycle rules moments past → PowerCycle rules (moment ∷ moments) past
  back moment moments g = record {
    before = g.before;
    off = g.off;
    off_tick = g.off_tick;
    without = g.without;
    on_tick = g.on_tick;
    later = moment ∷ g.later;
    moments_are = ap (λ (ms : List Moment). moment ∷ ms) g.moments_are;
    goes_off = g.goes_off;
    off_at = g.off_at;
    stays_off = g.stays_off;
    comes_on = g.comes_on;
    rested = g.rested;
  }

  next : (moment : Moment) (moments : List Moment) → Since rules port moments past → Since rules port (moment ∷ moments) past
  next moment moments (Stays routed stays) = goes moment moments routed stays (effect rules moment (moments ++ past))
  next moment moments (IsLost g) = lost moment moments g (effect rules moment (moments ++ past))
  next moment moments (IsBack g) = IsBack (back moment moments g)

  pub since : (moments : List Moment) → routed_at rules past ≡ Some port → Since rules port moments past
  since [] routed = Stays routed tt
  since (moment ∷ moments) routed = next moment moments (since moments routed)

-- a token without power isn't routed, not even at the moment at which it gets some
not-routed : (rules : RuleSet) (moment : Moment) (past : List Moment) (port : ℕ) → has_power_after (powers_at rules past) ≡ false
    → routed_at rules (moment ∷ past) ≡ Some port → ⊥
not-routed rules moment past port without routed = by_effect (effect rules moment past) where
  has : has_power_after (powers_at rules (moment ∷ past)) ≡ true
  has = routed-power rules (moment ∷ past) port routed

  by_effect : Effect rules moment past → ⊥
  by_effect (Kept keeps) = let never : true ≡ false = sym has ∙ ap has_power_after keeps.same ∙ without in cc
  by_effect (CameOn on) = let never : true ≡ false = sym (routed-power rules past port (sym on.routed ∙ routed)) ∙ without in cc
  by_effect (WentOff off) = let never : true ≡ false = sym off.had ∙ without in cc

pub newly : (before after : Option ℕ) → begins before after ≡ true → before ≡ None
newly None after is = refl
newly (Some port) after is = absurd (cc)

began : (before after : Option ℕ) → begins before after ≡ true → (port : ℕ) × (after ≡ Some port)
began None None is = absurd (cc)
began None (Some port) is = (port, refl)
began (Some before) after is = absurd (cc)

pub two_ports_two_lives : TwoPortsTwoLives
two_ports_two_lives rules port other moments past routed later differ = by_since (since rules port past moments routed) where
  by_since : Since rules port moments past → PowerCycle rules moments past
  by_since (Stays still stays) = absurd (differ (let same : Some port ≡ Some other = sym still ∙ later in cc))
  by_since (IsLost g) = absurd (let never : true ≡ false = sym (routed-power rules (moments ++ past) other later) ∙ g.unpowered in cc)
  by_since (IsBack g) = g

pub routed_once_in_a_life : RoutedOnceInALife
routed_once_in_a_life rules first second between past routed again =
    let at_first = began (routed_at rules past) (routed_at rules (first ∷ past)) routed in
    by_since at_first.0 (since rules at_first.0 (first ∷ past) between at_first.1) where
      apart : routed_at rules (between ++ first ∷ past) ≡ None
      apart = newly (routed_at rules (between ++ first ∷ past)) (routed_at rules (second ∷ between ++ first ∷ past)) again

      by_since : (port : ℕ) → Since rules port between (first ∷ past) → PowerCycle rules between (first ∷ past)
      by_since port (Stays still stays) = absurd (let never : None ≡ Some port = sym apart ∙ still in cc)
      by_since port (IsLost g) =
          let at_second = began (routed_at rules (between ++ first ∷ past)) (routed_at rules (second ∷ between ++ first ∷ past)) again in
          absurd (not-routed rules second (between ++ first ∷ past) at_second.0 g.unpowered at_second.1)
      by_since port (IsBack g) = g
