-- Where a peripheral loses its power, the log says why.
use Rattle.std.proofs.Common.{◌≡◌, ℕ, ◌+◌, Bool, true, false, List, ◌∷◌, Option, Some, None, refl, sym, ◌∙◌, cond}
use Rattle.psd_base.specs.declared.console.Plug.{Plug}
use Rattle.peripheral_filter.specs.declared.rule.RuleSet.{RuleSet}
use Rattle.console_host.specs.Plan.{Plan, Asks, IsReady, Refuses}
use Rattle.console_host.specs.Replies.{Reply}
use Rattle.console_host.specs.Lives as host
use Rattle.console_host.specs.Lives.{Life, Standing, plan_of, counts, with_reply, standing, after_reply, is_silent_in, notes_in, next_in, next_by}
use Rattle.console_plug.specs.Moments.{Moment, Attached, Detached, Replied, Reported, Ticked, Woke, Darkened}
use Rattle.console_plug.specs.Lives.{gets_power, host_calls, life_at, power_at, powered, lives}
use Rattle.console_plug.specs.Naming.{RefusedByPlan, LostBy, RefusalsAreNamed}
use Rattle.console_plug.proofs.Powering.{AfterNext, power-replied, power-ticked}

-- power that stays isn't lost
stays_powered : (before after : Option ℕ) (life : ℕ) → after ≡ before → before ≡ Some life → after ≡ None → ⊥
stays_powered before after life same had lost = let no : Some life ≡ None = sym had ∙ sym same ∙ lost in cc

-- a life that begins has power
begins_powered : (plug : Plug) (rules : RuleSet) (begins : Bool) (life : ℕ) (tick number : ℕ) (past : List Moment)
    → power_at plug rules past ≡ Some life
    → powered plug rules (standing plug rules (cond begins (host.Began number tick ∷ host_calls past) (host_calls past))).life ≡ None → ⊥
begins_powered plug rules true life tick number past had lost = let no : Some number ≡ None = lost in cc
begins_powered plug rules false life tick number past had lost = stays_powered _ _ life refl had lost

by_reply : (plug : Plug) (rules : RuleSet) (life number tick : ℕ) (reply : Reply) (before : Standing) (now : Option Life) (had : ℕ) → before.life ≡ now
    → powered plug rules now ≡ Some had → powered plug rules (after_reply plug rules life number tick reply before now).life ≡ None
    → RefusedByPlan plug rules (after_reply plug rules life number tick reply before now).life (notes_in plug rules life number reply now)
by_reply plug rules life number tick reply before None had is powered_before lost = absurd (let no : None ≡ Some had = powered_before in cc)
by_reply plug rules life number tick reply before (Some present) had is powered_before lost =
    by_counts (counts plug rules life number present) refl (power-replied plug rules life number tick reply before (Some present) is) where
      by_plan : (plan : Plan) → plan_of plug rules (with_reply tick reply present) ≡ plan → counts plug rules life number present ≡ true
          → AfterNext (next_by plug (with_reply tick reply present) plan) (powered plug rules (Some present)) (powered plug rules (Some (with_reply tick reply present)))
          → RefusedByPlan plug rules (after_reply plug rules life number tick reply before (Some present)).life (notes_in plug rules life number reply (Some present))
      by_plan (Asks setup) plan counted after = absurd (stays_powered _ _ had after powered_before (rw counted at lost))
      by_plan IsReady plan counted after = absurd (stays_powered _ _ had after powered_before (rw counted at lost))
      by_plan (Refuses rule) plan counted after = rw (counted, plan) (record {
        life = with_reply tick reply present;
        rule = rule;
        earlier = _;
        present = refl;
        by_plan = plan;
        named = refl;
      })

      by_counts : (count : Bool) → counts plug rules life number present ≡ count
          → AfterNext (next_in plug rules life number tick reply (Some present)) (powered plug rules (Some present)) (powered plug rules (after_reply plug rules life number tick reply before (Some present)).life)
          → RefusedByPlan plug rules (after_reply plug rules life number tick reply before (Some present)).life (notes_in plug rules life number reply (Some present))
      by_counts false uncounted after = absurd (stays_powered _ _ had (rw uncounted at after) powered_before (rw uncounted at lost))
      by_counts true counted after = by_plan (plan_of plug rules (with_reply tick reply present)) refl counted (rw counted at after)

by_tick : (plug : Plug) (rules : RuleSet) (tick : ℕ) (past : List Moment) (had : ℕ) (silent : Bool) → silent ≡ is_silent_in plug rules tick (life_at plug rules past)
    → power_at plug rules past ≡ Some had → power_at plug rules (Ticked tick ∷ past) ≡ None → LostBy plug rules (Ticked tick) past
by_tick plug rules tick past had true is powered_before lost = rw (sym is) refl
by_tick plug rules tick past had false is powered_before lost =
    absurd (stays_powered _ _ had (power-ticked plug rules tick (life_at plug rules past) false is) powered_before lost)

pub refusals_are_named : RefusalsAreNamed
refusals_are_named plug rules Detached past had powered_before lost = tt
refusals_are_named plug rules Darkened past had powered_before lost = tt
refusals_are_named plug rules (Replied life number tick reply) past had powered_before lost =
    by_reply plug rules life number tick reply (standing plug rules (host_calls past)) (life_at plug rules past) had refl powered_before lost
refusals_are_named plug rules (Ticked tick) past had powered_before lost =
    by_tick plug rules tick past had (is_silent_in plug rules tick (life_at plug rules past)) refl powered_before lost
refusals_are_named plug rules (Attached tick) past had powered_before lost =
    begins_powered plug rules (gets_power (Attached tick) past) had tick (lives past + 1) past powered_before lost
refusals_are_named plug rules (Woke tick) past had powered_before lost =
    begins_powered plug rules (gets_power (Woke tick) past) had tick (lives past + 1) past powered_before lost
refusals_are_named plug rules (Reported interface bytes) past had powered_before lost = stays_powered _ _ had refl powered_before lost
