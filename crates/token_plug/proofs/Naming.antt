-- Where the token loses its power, the log says why.
use Rattle.std.proofs.Common.{◌≡◌, ℕ, Bool, true, false, List, [], ◌∷◌, ◌++◌, Option, Some, None, refl, sym, ap, subst, ◌∙◌}
use Rattle.std.proofs.lemmas.List.{append-nil}
use Rattle.psd_base.specs.declared.console.Note.{Note}
use Rattle.psd_base.specs.declared.console.Plug.TheVariants.{Token}
use Rattle.psd_base.specs.declared.console.RuleName.{RuleName}
use Rattle.peripheral_filter.specs.declared.rule.RuleSet.{RuleSet}
use Rattle.console_host.specs.declared.next.Next.{Next}
use Rattle.console_host.specs.declared.next.Next.TheVariants as next
use Rattle.console_host.specs.Plan.{Plan, Asks, IsReady, Refuses}
use Rattle.console_host.specs.Replies.{Reply}
use Rattle.console_host.specs.Lives.{Life, Standing, plan_of, counts, with_reply, standing, after_reply, is_silent_in, notes_in, next_in, next_by}
use Rattle.console_plug.specs.Naming.{RefusedByPlan}
use Rattle.console_plug.specs.PlugStands.{power_of}
use Rattle.auth_router.specs.Slot.{has_power_after, lives, state_after}
use Rattle.auth_router.specs.SlotCalls.{SlotCall, Bar}
use Rattle.auth_router.specs.declared.slot.SlotState.TheVariants as state
use Rattle.token_plug.specs.Moments.{Moment, Attached, Detached, Replied, Ticked, Woke, Darkened, Left, Selected}
use Rattle.token_plug.specs.Lives.{slot_calls, host_calls, life_at, state_at, power_at}
use Rattle.token_plug.specs.Routing.{port_of, routed_at}
use Rattle.token_plug.specs.TokenGives.{routing_notes}
use Rattle.token_plug.specs.Naming.{LostBy, RefusalsAreNamed}
use Rattle.token_plug.proofs.SlotSteps.{StandsAs, bars}
use Rattle.token_plug.proofs.Together.{together}
use Rattle.token_plug.proofs.Effects.{powers_at, Effect, Kept, CameOn, WentOff, GoesOff, is_refused, asking-reply, effect}

has-power : (had : Bool) (number life : ℕ) → power_of had number ≡ Some life → had ≡ true
has-power true number life is = refl
has-power false number life is = absurd (let never : None ≡ Some life = is in cc)

no-power : (had : Bool) (number : ℕ) → power_of had number ≡ None → had ≡ false
no-power true number is = absurd (let never : Some number ≡ None = is in cc)
no-power false number is = refl

-- power is lost where it goes off
goes-off : (rules : RuleSet) (moment : Moment) (past : List Moment) (life : ℕ) → power_at rules past ≡ Some life → power_at rules (moment ∷ past) ≡ None
    → GoesOff rules moment past
goes-off rules moment past life had lost = by_effect (effect rules moment past) where
  before : has_power_after (powers_at rules past) ≡ true
  before = has-power (has_power_after (powers_at rules past)) (lives (slot_calls rules past)) life had

  after : has_power_after (powers_at rules (moment ∷ past)) ≡ false
  after = no-power (has_power_after (powers_at rules (moment ∷ past))) (lives (slot_calls rules (moment ∷ past))) lost

  by_effect : Effect rules moment past → GoesOff rules moment past
  by_effect (Kept keeps) = absurd (let never : true ≡ false = sym before ∙ ap has_power_after (sym keeps.same) ∙ after in cc)
  by_effect (CameOn on) = absurd (let never : true ≡ false = ap has_power_after (sym on.on) ∙ after in cc)
  by_effect (WentOff off) = off

module _ (rules : RuleSet) (life number tick : ℕ) (reply : Reply) where
  -- a reply after which the plan refuses the token
  refused_by : (before : Standing) (now : Option Life) (rule : RuleName) → before.life ≡ now → next_in Token rules life number tick reply now ≡ next.Refused rule
      → RefusedByPlan Token rules (after_reply Token rules life number tick reply before now).life (notes_in Token rules life number reply now)
  refused_by before None rule is refused = absurd (let never : next.Ignored ≡ next.Refused rule = refused in cc)
  refused_by before (Some present) rule is refused = by_counts (counts Token rules life number present) refl where
    by_plan : (plan : Plan) → plan_of Token rules (with_reply tick reply present) ≡ plan → counts Token rules life number present ≡ true
        → next_by Token (with_reply tick reply present) plan ≡ next.Refused rule
        → RefusedByPlan Token rules (after_reply Token rules life number tick reply before (Some present)).life (notes_in Token rules life number reply (Some present))
    by_plan (Asks setup) plan counted answer = absurd (cc)
    by_plan IsReady plan counted answer = absurd (cc)
    by_plan (Refuses named) plan counted answer = rw (counted, plan) (record {
      life = with_reply tick reply present;
      rule = named;
      earlier = _;
      present = refl;
      by_plan = plan;
      named = refl;
    })

    by_counts : (count : Bool) → counts Token rules life number present ≡ count
        → RefusedByPlan Token rules (after_reply Token rules life number tick reply before (Some present)).life (notes_in Token rules life number reply (Some present))
    by_counts false uncounted = absurd (let never : next.Ignored ≡ next.Refused rule = rw uncounted at refused in cc)
    by_counts true counted = by_plan (plan_of Token rules (with_reply tick reply present)) refl counted (rw counted at refused)

  -- the token isn't routed at such a reply, so nothing follows its line
  not_routed : (past : List Moment) (rule : RuleName) → next_in Token rules life number tick reply (life_at rules past) ≡ next.Refused rule
      → routing_notes (routed_at rules past) (routed_at rules (Replied life number tick reply ∷ past)) ≡ []
  not_routed past rule refused =
      let asks : state_at rules past ≡ state.Asking = asking-reply rules life number tick reply past (next.Refused rule) refused (λ same. absurd (cc)) in
      let g = together rules past in
      let stands : StandsAs (slot_calls rules past) state.Asking = subst (StandsAs (slot_calls rules past)) (sym g.stands.state_is ∙ asks) g.stands in
      let told : slot_calls rules (Replied life number tick reply ∷ past) ≡ Bar tick rule ∷ slot_calls rules past = rw refused refl in
      let after : routed_at rules (Replied life number tick reply ∷ past) ≡ None =
      ap (λ (calls : List SlotCall). port_of (state_after calls)) told ∙ ap port_of (bars tick rule (slot_calls rules past) stands).state_is in
      ap (λ (r : Option ℕ). routing_notes (routed_at rules past) r) after ∙ ap (λ (r : Option ℕ). routing_notes r None) (ap port_of asks)

  by_reply : (past : List Moment) (answer : Next) → next_in Token rules life number tick reply (life_at rules past) ≡ answer
      → GoesOff rules (Replied life number tick reply) past → LostBy rules (Replied life number tick reply) past
  by_reply past (next.Refused rule) is off =
      subst (λ (notes : List Note). RefusedByPlan Token rules (life_at rules (Replied life number tick reply ∷ past)) notes)
      (sym (ap (λ (more : List Note). notes_in Token rules life number reply (life_at rules past) ++ more) (not_routed past rule is) ∙ append-nil (notes_in Token rules life number reply (life_at rules past))))
      (refused_by (standing Token rules (host_calls rules past)) (life_at rules past) rule refl is)
  by_reply past next.Ignored is off = absurd (let never : false ≡ true = ap is_refused (sym is) ∙ off.may in cc)
  by_reply past (next.Ask order) is off = absurd (let never : false ≡ true = ap is_refused (sym is) ∙ off.may in cc)
  by_reply past next.Ready is off = absurd (let never : false ≡ true = ap is_refused (sym is) ∙ off.may in cc)

by_tick : (rules : RuleSet) (tick : ℕ) (past : List Moment) (silent : Bool) → is_silent_in Token rules tick (life_at rules past) ≡ silent
    → GoesOff rules (Ticked tick) past → LostBy rules (Ticked tick) past
by_tick rules tick past true silent off = rw silent refl
by_tick rules tick past false quiet off = absurd (let never : false ≡ true = sym quiet ∙ off.may in cc)

pub refusals_are_named : RefusalsAreNamed
refusals_are_named rules (Detached tick) past life had lost = tt
refusals_are_named rules (Darkened tick) past life had lost = tt
refusals_are_named rules (Left tick) past life had lost = tt
refusals_are_named rules (Replied present number tick reply) past life had lost =
    by_reply rules present number tick reply past (next_in Token rules present number tick reply (life_at rules past)) refl
    (goes-off rules (Replied present number tick reply) past life had lost)
refusals_are_named rules (Ticked tick) past life had lost =
    by_tick rules tick past (is_silent_in Token rules tick (life_at rules past)) refl (goes-off rules (Ticked tick) past life had lost)
refusals_are_named rules (Attached tick) past life had lost =
    absurd (let never : false ≡ true = (goes-off rules (Attached tick) past life had lost).may in cc)
refusals_are_named rules (Woke tick) past life had lost =
    absurd (let never : false ≡ true = (goes-off rules (Woke tick) past life had lost).may in cc)
refusals_are_named rules (Selected port) past life had lost =
    absurd (let never : false ≡ true = (goes-off rules (Selected port) past life had lost).may in cc)
