-- The moments at the plugs, by what happens at the front.
use Rattle.std.proofs.Common.{◌≡◌, ℕ, List, [], refl}
use Rattle.psd_base.specs.declared.console.Plug.{Plug}
use Rattle.psd_base.specs.declared.console.Plug.TheVariants.{Keyboard, Mouse, Token}
use Rattle.psd_base.specs.Event.{Attaches, Detaches, Reports, Finishes}
use Rattle.fail_secure.specs.declared.health_change.HealthChange.{HealthChange}
use Rattle.fail_secure.specs.declared.health_change.HealthChange.TheVariants as change
use Rattle.peripheral_filter.specs.declared.rule.RuleSet.{RuleSet}
use Rattle.console_plug.specs.Moments.{Moment}
use Rattle.console_plug.proofs.Powering.{no_power_orders}
use Rattle.port_model.specs.FrontEvents.{FrontEvent, front_event}
use Rattle.token_plug.specs.Moments as token
use Rattle.token_plug.specs.TokenGives.{notes_at}
use Rattle.switch_core.specs.Notes.{front_notes}
use Rattle.switch_core.specs.Orders.{front_orders}
use Rattle.port_model.specs.Token.{change_moments, early_token_notes, given_over, late_token_notes, token_orders}
use Rattle.port_model.specs.Peripherals.{change_moment, peripheral_notes, peripheral_orders, plug_notes}

-- where the health changes, the log says nothing of a peripheral
pub change_notes-none : (own : Plug) (rules : RuleSet) (tick : ℕ) (health : HealthChange) (past : List Moment) → plug_notes own rules (change_moment tick health) past ≡ []
change_notes-none own rules tick change.Stays past = refl
change_notes-none own rules tick change.Wakes past = refl
change_notes-none own rules tick change.Darkens past = refl

pub token_change_notes-none : (rules : RuleSet) (tick : ℕ) (health : HealthChange) (past : List token.Moment)
    → given_over (notes_at rules) (change_moments tick health) past ≡ []
token_change_notes-none rules tick change.Stays past = refl
token_change_notes-none rules tick change.Wakes past = refl
token_change_notes-none rules tick change.Darkens past = refl

-- an attachment, a detachment and a report bring no line
pub attach_notes-none : (rules : RuleSet) (tick : ℕ) (own : Plug) (past : List FrontEvent) → front_notes rules tick (Attaches own) past ≡ []
unfolding peripheral_notes early_token_notes late_token_notes
attach_notes-none rules tick Keyboard past = refl
attach_notes-none rules tick Mouse past = refl
attach_notes-none rules tick Token past = refl

pub detach_notes-none : (rules : RuleSet) (tick : ℕ) (own : Plug) (past : List FrontEvent) → front_notes rules tick (Detaches own) past ≡ []
unfolding peripheral_notes early_token_notes late_token_notes
detach_notes-none rules tick Keyboard past = refl
detach_notes-none rules tick Mouse past = refl
detach_notes-none rules tick Token past = refl

pub report_notes-none : (rules : RuleSet) (tick interface : ℕ) (bytes : List ℕ) (own : Plug) (past : List FrontEvent) → front_notes rules tick (Reports own interface bytes) past ≡ []
unfolding peripheral_notes early_token_notes late_token_notes
report_notes-none rules tick interface bytes Keyboard past = refl
report_notes-none rules tick interface bytes Mouse past = refl
report_notes-none rules tick interface bytes Token past = refl

-- nothing is ordered at a report
pub report_orders-none : (rules : RuleSet) (tick interface : ℕ) (bytes : List ℕ) (own : Plug) (past : List FrontEvent) → front_orders rules (front_event tick (Reports own interface bytes)) past ≡ []
unfolding peripheral_orders token_orders
report_orders-none rules tick interface bytes Keyboard past = rw no_power_orders refl
report_orders-none rules tick interface bytes Mouse past = rw no_power_orders refl
report_orders-none rules tick interface bytes Token past = refl

-- and at the end of a job the log says nothing, and nothing is ordered
pub done_notes-none : (rules : RuleSet) (tick life number status : ℕ) (bytes : List ℕ) (past : List FrontEvent) → front_notes rules tick (Finishes life number status bytes) past ≡ []
unfolding peripheral_notes early_token_notes late_token_notes
done_notes-none rules tick life number status bytes past = refl

pub done_orders-none : (rules : RuleSet) (tick life number status : ℕ) (bytes : List ℕ) (past : List FrontEvent) → front_orders rules (front_event tick (Finishes life number status bytes)) past ≡ []
unfolding peripheral_orders token_orders
done_orders-none rules tick life number status bytes past = refl
