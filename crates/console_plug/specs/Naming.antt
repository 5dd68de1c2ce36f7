-- Each refusal has its line in the log, and each such line its rule.
use Rattle.std.specs.Prelude.{◌≡◌, ℕ, List, [], ◌∷◌, ◌++◌, Option, Some, None}
use Rattle.psd_base.specs.declared.console.Note.{Note}
use Rattle.psd_base.specs.declared.console.Note.TheVariants as note
use Rattle.psd_base.specs.declared.console.Plug.{Plug}
use Rattle.psd_base.specs.declared.console.RuleName.{RuleName}
use Rattle.peripheral_filter.specs.declared.rule.RuleSet.{RuleSet}
use Rattle.console_host.specs.declared.rules.TheConstants.{SILENT}
use Rattle.console_host.specs.Plan.{Refuses}
use Rattle.console_host.specs.Lives.{Life, plan_of}
use Rattle.console_plug.specs.Moments.{Moment, Attached, Detached, Replied, Reported, Ticked, Woke, Darkened}
use Rattle.console_plug.specs.Lives.{life_at, power_at}
use Rattle.console_plug.specs.PlugGives.{notes_at}

-- the plan of the present life refuses the peripheral by this rule, and the last of these lines says so
pub record RefusedByPlan (plug : Plug) (rules : RuleSet) (now : Option Life) (notes : List Note) : Type 0 where
  pub life : Life
  pub rule : RuleName
  pub earlier : List Note
  pub present : now ≡ Some life
  pub by_plan : plan_of plug rules life ≡ Refuses rule
  pub named : notes ≡ earlier ++ note.Refused plug rule ∷ []

-- Why a peripheral lost its power: it was taken off, or the switch went dark, which is no refusal; a reply after which its plan
-- refuses it, and whose last line in the log names that rule; or it stayed silent, and the log says so.
abbrev pub LostBy : Plug → RuleSet → Moment → List Moment → Type 0
LostBy plug rules Detached past = Unit {0}
LostBy plug rules Darkened past = Unit {0}
LostBy plug rules (Replied life number tick reply) past =
    RefusedByPlan plug rules (life_at plug rules (Replied life number tick reply ∷ past)) (notes_at plug rules (Replied life number tick reply) past)
LostBy plug rules (Ticked tick) past = notes_at plug rules (Ticked tick) past ≡ note.Refused plug SILENT ∷ []
LostBy plug rules (Attached tick) past = ⊥
LostBy plug rules (Woke tick) past = ⊥
LostBy plug rules (Reported interface bytes) past = ⊥

-- Whatever happened at a plug: where its peripheral loses its power, this is why.
abbrev pub RefusalsAreNamed : Type 0
RefusalsAreNamed = (plug : Plug) (rules : RuleSet) (moment : Moment) (past : List Moment) (life : ℕ)
    → power_at plug rules past ≡ Some life → power_at plug rules (moment ∷ past) ≡ None → LostBy plug rules moment past
