-- Each refusal of the token has its line in the log.
use Rattle.std.specs.Prelude.{◌≡◌, ℕ, List, [], ◌∷◌, Some, None}
use Rattle.psd_base.specs.declared.console.Note.TheVariants as note
use Rattle.psd_base.specs.declared.console.Plug.TheVariants.{Token}
use Rattle.peripheral_filter.specs.declared.rule.RuleSet.{RuleSet}
use Rattle.console_host.specs.declared.rules.TheConstants.{SILENT}
use Rattle.console_plug.specs.Naming.{RefusedByPlan}
use Rattle.token_plug.specs.Moments.{Moment, Attached, Detached, Replied, Ticked, Woke, Darkened, Left, Selected}
use Rattle.token_plug.specs.Lives.{life_at, power_at}
use Rattle.token_plug.specs.TokenGives.{notes_at}

-- Why the token lost its power: it was taken off, the switch went dark, or the selected port was left, which is no refusal; a
-- reply after which its plan refuses it, and whose last line in the log names that rule; or it stayed silent, and the log says
-- so.
abbrev pub LostBy : RuleSet → Moment → List Moment → Type 0
LostBy rules (Detached tick) past = Unit {0}
LostBy rules (Darkened tick) past = Unit {0}
LostBy rules (Left tick) past = Unit {0}
LostBy rules (Replied life number tick reply) past =
    RefusedByPlan Token rules (life_at rules (Replied life number tick reply ∷ past)) (notes_at rules (Replied life number tick reply) past)
LostBy rules (Ticked tick) past = notes_at rules (Ticked tick) past ≡ note.Refused Token SILENT ∷ []
LostBy rules (Attached tick) past = ⊥
LostBy rules (Woke tick) past = ⊥
LostBy rules (Selected port) past = ⊥

-- Whatever happened: where the token loses its power, this is why.
abbrev pub RefusalsAreNamed : Type 0
RefusalsAreNamed = (rules : RuleSet) (moment : Moment) (past : List Moment) (life : ℕ)
    → power_at rules past ≡ Some life → power_at rules (moment ∷ past) ≡ None → LostBy rules moment past
