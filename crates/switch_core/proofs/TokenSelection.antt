-- The token's plug knows which port is selected.
use Rattle.std.proofs.Common.{◌≡◌, ℕ, Bool, true, false, nat_eq, List, [], ◌∷◌, ◌++◌, Option, Some, None, refl, sym, subst, ap, ◌∙◌, cond, inl, inr}
use Rattle.std.proofs.lemmas.Bool.Decides.{eqb_tells}
use Rattle.std.proofs.lemmas.Bool.{false≢true}
use Rattle.psd_base.specs.declared.act.Act.{Act}
use Rattle.psd_base.specs.declared.act.Answer.TheVariants as answer
use Rattle.psd_base.specs.declared.act.Side.TheVariants.{Ua}
use Rattle.psd_base.specs.declared.console.Panel.{Panel}
use Rattle.psd_base.specs.declared.console.Plug.{Plug}
use Rattle.psd_base.specs.declared.console.Plug.TheVariants.{Keyboard, Mouse, Token}
use Rattle.psd_base.specs.Event.{Seen, Doing, TimePasses, PanelMoves, Attaches, Detaches, Replies, Reports, Finishes}
use Rattle.peripheral_filter.specs.declared.rule.RuleSet.{RuleSet}
use Rattle.fail_secure.specs.Health.{health_after}
use Rattle.fail_secure.specs.HealthChange.{change_of}
use Rattle.fail_secure.specs.declared.health_change.HealthChange.{HealthChange}
use Rattle.fail_secure.specs.declared.health_change.HealthChange.TheVariants as change
use Rattle.auth_router.specs.Bridge.{BridgePast, bridge_answer}
use Rattle.console_host.specs.Replies.{reply_of}
use Rattle.token_plug.specs.Lives as token
use Rattle.token_plug.specs.Moments.{Moment, Attached, Detached, Replied, Ticked}
use Rattle.token_plug.proofs.Staying.{selected-routed}
use Rattle.port_model.specs.Concerns.{is_live}
use Rattle.port_model.specs.OnePort.{answer_to}
use Rattle.port_model.specs.Chosen.{is_at, selected_at}
use Rattle.port_model.specs.FrontEvents.{FrontEvent, front_event, front_of}
use Rattle.port_model.specs.FrontHealth.{health_at}
use Rattle.switch_core.specs.SlotStands.{views_of}
use Rattle.port_model.specs.Token.{change_moments, if_token, selection_moments, token_history, token_port}
use Rattle.switch_core.specs.Bridges.{bridges_of}
use Rattle.port_model.specs.View.{view}
use Rattle.port_model.proofs.Numbers.{other_number, same_number}
use Rattle.switch_core.proofs.Selecting.{selected-Darkens, selected-Stays, selected-Wakes, selected-alive, selected_before-Wakes}
use Rattle.switch_core.proofs.TokenViews.{others_are_down}
use Rattle.switch_core.proofs.Views.{is_live-view}

selecting : (history : List Moment) (tick : ℕ) (was now : Option ℕ) → token.selected_at history ≡ was
    → token.selected_at ((selection_moments tick was now ++ Ticked tick ∷ []) ++ history) ≡ now
selecting history tick None None is = is
selecting history tick None (Some port) is = rw is refl
selecting history tick (Some left) None is = refl
selecting history tick (Some left) (Some port) is = elim (eqb_tells left port) [
  | inl same ↦ rw (same.0, subst (λ (n : ℕ). nat_eq port n ≡ true) (sym same.1) (same_number port)) (is ∙ ap Some same.1)
  | inr apart ↦ rw (apart.0, other_number port left (λ same. apart.1 (sym same))) refl
]

at_plug : (own : Plug) (moment : Moment) (history : List Moment) → token.selected_at (moment ∷ history) ≡ token.selected_at history
    → token.selected_at (if_token own moment ++ history) ≡ token.selected_at history
at_plug Keyboard moment history same = refl
at_plug Mouse moment history same = refl
at_plug Token moment history same = same

pub selected-token : (rules : RuleSet) (past : List FrontEvent) → token.selected_at (token_history rules past) ≡ selected_at rules past
unfolding health_after
selected-token rules [] = refl
selected-token rules (event ∷ past) = by event.tick event.doing (selected-token rules past) where
  moved : (tick : ℕ) (move : Panel) (to : HealthChange) → to ≡ change_of (health_at past) (health_at (front_event tick (PanelMoves move) ∷ past))
      → token.selected_at (token_history rules past) ≡ selected_at rules past
      → token.selected_at (change_moments tick to ++ token_history rules past) ≡ selected_at rules (front_event tick (PanelMoves move) ∷ past)
  moved tick move change.Stays is before = before ∙ sym (selected-Stays rules tick move past is)
  moved tick move change.Wakes is before = before ∙ selected_before-Wakes rules tick move past is ∙ sym (selected-Wakes rules tick move past is)
  moved tick move change.Darkens is before = sym (selected-Darkens rules tick move past is)

  by : (tick : ℕ) (doing : Doing) → token.selected_at (token_history rules past) ≡ selected_at rules past
      → token.selected_at (token_history rules (front_event tick doing ∷ past)) ≡ selected_at rules (front_event tick doing ∷ past)
  by tick TimePasses before = selecting (token_history rules past) tick (selected_at rules past) (selected_at rules (front_event tick TimePasses ∷ past)) before
  by tick (PanelMoves move) before = moved tick move (change_of (health_at past) (health_at (front_event tick (PanelMoves move) ∷ past))) refl before
  by tick (Attaches plug) before = at_plug plug (Attached tick) (token_history rules past) refl ∙ before
  by tick (Detaches plug) before = at_plug plug (Detached tick) (token_history rules past) refl ∙ before
  by tick (Replies plug life number status bytes) before = at_plug plug (Replied life number tick (reply_of status bytes)) (token_history rules past) refl ∙ before
  by tick (Reports plug interface bytes) before = before
  by tick (Finishes life number status bytes) before = before

-- the token is routed to the selected port alone
pub selected-token_port : (rules : RuleSet) (past : List FrontEvent) (port : ℕ) → token_port rules past ≡ Some port → selected_at rules past ≡ Some port
selected-token_port rules past port is = sym (selected-token rules past) ∙ selected-routed rules (token_history rules past) port is

-- what an act at a token connector is answered
pub token_answer : (rules : RuleSet) (past : List Seen) (port tick : ℕ) (act : Act) → bridge_answer (bridges_of rules past port) act ≡ answer_to (views_of rules past port) tick Ua act
token_answer rules past port tick act = by (is_live (view rules port past)) refl where
  dark : is_live (view rules port past) ≡ false → (routed : Option ℕ) → token_port rules (front_of past) ≡ routed → is_at port routed ≡ false
  dark asleep None is = refl
  dark asleep (Some own) is =
      let awake = selected-alive rules (front_of past) own (selected-token_port rules (front_of past) own is) in
      absurd (false≢true (sym asleep ∙ is_live-view rules port past ∙ awake))

  by : (live : Bool) → is_live (view rules port past) ≡ live → bridge_answer (bridges_of rules past port) act ≡ (cond live (bridge_answer (bridges_of rules past port) act) answer.Silent)
  by true is = refl
  by false is =
      ap (λ (bridge : BridgePast). bridge_answer bridge act) (others_are_down rules past port (dark is (token_port rules (front_of past)) refl))
