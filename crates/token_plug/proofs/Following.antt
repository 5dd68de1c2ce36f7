-- Lives are told apart by their numbers: a token that is routed again in the same life was routed all the while, and in
-- another life its power went off and came on in between.
use Rattle.std.proofs.Common.{◌≡◌, ℕ, ◌+◌, ◌≤◌, Bool, true, false, List, [], ◌∷◌, ◌++◌, Option, Some, None, refl, sym, ap, subst, ◌∙◌, arith}
use Rattle.std.proofs.lemmas.List.{append_assoc}
use Rattle.peripheral_filter.specs.declared.rule.RuleSet.{RuleSet}
use Rattle.console_plug.specs.PlugStands.{power_of}
use Rattle.auth_router.specs.Slot.{Power, has_power_after, lives, times_on}
use Rattle.token_plug.specs.Lives.{power_at, slot_calls}
use Rattle.token_plug.specs.Moments.{Moment, Ticked}
use Rattle.token_plug.specs.Ownership.{begins, comes_on_at, PowerCycle}
use Rattle.token_plug.specs.Routing.{routed_at}
use Rattle.token_plug.proofs.Effects.{powers_at, routed-power, Keeps, ComesOn, GoesOff, Effect, Kept, CameOn, WentOff, effect}
use Rattle.token_plug.proofs.Ownership.{at_power, newly, since, Lost, Since, Stays, IsLost, IsBack, StaysRouted}
use Rattle.token_plug.proofs.Staying.{lives_stay}

-- how many lives there were
abbrev pub lives_at : RuleSet → List Moment → ℕ
lives_at rules past = lives (slot_calls rules past)

-- there are never fewer, and one more where power comes on

lives-grow : (rules : RuleSet) (moment : Moment) (past : List Moment) → lives_at rules past ≤ lives_at rules (moment ∷ past)
lives-grow rules moment past = by (effect rules moment past) where
  by : Effect rules moment past → lives_at rules past ≤ lives_at rules (moment ∷ past)
  by (Kept keeps) = let same : lives_at rules (moment ∷ past) ≡ lives_at rules past = ap times_on keeps.same in omega arith
  by (CameOn on) = let more : lives_at rules (moment ∷ past) ≡ 1 + lives_at rules past = ap times_on on.on in omega arith
  by (WentOff off) = let same : lives_at rules (moment ∷ past) ≡ lives_at rules past = ap times_on off.off in omega arith

lives-over : (rules : RuleSet) (moments past : List Moment) → lives_at rules past ≤ lives_at rules (moments ++ past)
lives-over rules [] past = omega arith
lives-over rules (moment ∷ moments) past =
    let before = lives-over rules moments past in
    let now = lives-grow rules moment (moments ++ past) in
    omega arith

begins-not : (power : Option ℕ) → begins power power ≡ true → ⊥
begins-not None is = cc
begins-not (Some life) is = cc

lives-on : (rules : RuleSet) (moment : Moment) (past : List Moment) → comes_on_at rules moment past ≡ true
    → lives_at rules past + 1 ≤ lives_at rules (moment ∷ past)
lives-on rules moment past is = by (effect rules moment past) where
  by : Effect rules moment past → lives_at rules past + 1 ≤ lives_at rules (moment ∷ past)
  by (Kept keeps) =
      let same : power_at rules (moment ∷ past) ≡ power_at rules past = ap (λ (changes : List Power). power_of (has_power_after changes) (times_on changes)) keeps.same in
      absurd (begins-not (power_at rules past) (subst (λ (power : Option ℕ). begins (power_at rules past) power ≡ true) same is))
  by (CameOn on) = let more : lives_at rules (moment ∷ past) ≡ 1 + lives_at rules past = ap times_on on.on in omega arith
  by (WentOff off) =
      let none : power_at rules past ≡ None = newly (power_at rules past) (power_at rules (moment ∷ past)) is in
      let some : None ≡ Some (lives_at rules past) = sym none ∙ at_power rules past off.had in
      absurd (cc)

five : (a b c d e : ℕ) → a ≤ b → b ≤ c → c + 1 ≤ d → d ≤ e → a + 1 ≤ e
five a b c d e ab bc cd de = omega arith

lives-cycle : (rules : RuleSet) (moments past : List Moment) → PowerCycle rules moments past → lives_at rules past + 1 ≤ lives_at rules (moments ++ past)
lives-cycle rules moments past g =
    subst (λ (ms : List Moment). lives_at rules past + 1 ≤ lives_at rules ms) (sym here)
    (five (lives_at rules past) (lives_at rules off) (lives_at rules without) (lives_at rules on) (lives_at rules (g.later ++ on))
    (lives-over rules (g.off ∷ g.before) past) (lives-over rules g.without off) (lives-on rules (Ticked g.on_tick) without g.comes_on) (lives-over rules g.later on)) where
      off : List Moment
      off = g.off ∷ g.before ++ past

      without : List Moment
      without = g.without ++ off

      on : List Moment
      on = Ticked g.on_tick ∷ without

      here : moments ++ past ≡ g.later ++ on
      here =
          ap (λ (ms : List Moment). ms ++ past) g.moments_are
          ∙ append_assoc g.later (Ticked g.on_tick ∷ g.without ++ g.off ∷ g.before) past
          ∙ ap (λ (ms : List Moment). g.later ++ Ticked g.on_tick ∷ ms) (append_assoc g.without (g.off ∷ g.before) past)

-- a token that stays routed stays so to the end, and in its life

pub routed-end : (rules : RuleSet) (port : ℕ) (moments past : List Moment) → routed_at rules past ≡ Some port → StaysRouted rules port moments past
    → routed_at rules (moments ++ past) ≡ Some port
routed-end rules port [] past routed stays = routed
routed-end rules port (moment ∷ moments) past routed stays = stays.0

lives-routed : (rules : RuleSet) (port : ℕ) (moments past : List Moment) → routed_at rules past ≡ Some port → StaysRouted rules port moments past
    → lives_at rules (moments ++ past) ≡ lives_at rules past
lives-routed rules port [] past routed stays = refl
lives-routed rules port (moment ∷ moments) past routed stays =
    lives_stay rules moment (moments ++ past) port port (routed-end rules port moments past routed stays.1) stays.0
    ∙ lives-routed rules port moments past routed stays.1

lost-not : (rules : RuleSet) (moments past : List Moment) (now : ℕ) → Lost rules moments past → routed_at rules (moments ++ past) ≡ Some now → ⊥
lost-not rules moments past now g is = let never : true ≡ false = sym (routed-power rules (moments ++ past) now is) ∙ g.unpowered in cc

pub same-life : (rules : RuleSet) (port now : ℕ) (moments past : List Moment) → routed_at rules past ≡ Some port → routed_at rules (moments ++ past) ≡ Some now
    → lives_at rules past ≡ lives_at rules (moments ++ past) → StaysRouted rules port moments past
same-life rules port now moments past was is same = by (since rules port past moments was) where
  by : Since rules port moments past → StaysRouted rules port moments past
  by (Stays routed stays) = stays
  by (IsLost g) = absurd (lost-not rules moments past now g is)
  by (IsBack g) = let more = lives-cycle rules moments past g in absurd (omega arith)

pub other-life : (rules : RuleSet) (port now : ℕ) (moments past : List Moment) → routed_at rules past ≡ Some port → routed_at rules (moments ++ past) ≡ Some now
    → (lives_at rules past ≡ lives_at rules (moments ++ past) → ⊥) → PowerCycle rules moments past
other-life rules port now moments past was is apart = by (since rules port past moments was) where
  by : Since rules port moments past → PowerCycle rules moments past
  by (Stays routed stays) = absurd (apart (sym (lives-routed rules port moments past was stays)))
  by (IsLost g) = absurd (lost-not rules moments past now g is)
  by (IsBack g) = g
