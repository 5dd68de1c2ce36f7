-- The selection at each event at the front.
use Rattle.std.proofs.Common.{◌≡◌, ℕ, ◌≤◌, Bool, true, false, List, [], ◌∷◌, Option, Some, None, refl, sym, subst, ap, ◌∙◌, cond, inl, inr}
use Rattle.std.specs.Prelude.{filter}
use Rattle.std.proofs.lemmas.Bool.{false≢true}
use Rattle.std.proofs.lemmas.Bool.Decides.{eqb_tells}
use Rattle.psd_base.specs.History.{newest, or_else, since}
use Rattle.psd_base.specs.Event.{Doing, TimePasses, PanelMoves, Attaches, Detaches, Replies, Reports, Finishes, MovesWithin}
use Rattle.psd_base.specs.declared.console.Panel.{Panel}
use Rattle.psd_base.specs.declared.console.Panel.TheVariants as panel
use Rattle.psd_base.specs.declared.port.TheConstants.{MAX_PORTS}
use Rattle.peripheral_filter.specs.declared.rule.RuleSet.{RuleSet}
use Rattle.fail_secure.specs.declared.health.Health.{Health}
use Rattle.fail_secure.specs.declared.health.Health.TheVariants.{Testing, Alive, Dark}
use Rattle.fail_secure.specs.declared.health_change.HealthChange.TheVariants as change
use Rattle.fail_secure.specs.Health.{Report, Checked, Tampered, health_after}
use Rattle.fail_secure.specs.HealthChange.{change_of, is_alive}
use Rattle.fail_secure.proofs.Reports.{dark-failed, dark-tampered, dark-still, alive-still}
use Rattle.selector.specs.Choice.{Look, ask_of, looks_in, chosen, chosen_of, choice_after, selected_in, is_settled, asks_for_other}
use Rattle.selector.specs.declared.choice.Choice.TheVariants.{Target, Selected}
use Rattle.selector.specs.Moments.{Moment, Moved, Ticked}
use Rattle.selector.specs.Panel.{is_button_down, is_guard_down, numbers_from, only_one, is_empty, ports_down, pair_after, pair_since, are_buttons_up}
use Rattle.port_model.specs.FrontEvents.{FrontEvent, front_event, front_of}
use Rattle.port_model.specs.FrontHealth.{health_at, panel_moves, reports_in, with_report}
use Rattle.port_model.specs.Chosen.{given_after, moments_in, selected_at, selections}
use Rattle.switch_core.specs.SeatStands.{CanHave}
use Rattle.switch_core.specs.SlotStands.{views_of}
use Rattle.fail_secure.specs.declared.health_change.HealthChange.{HealthChange}
use Rattle.psd_base.specs.Event.{Seen}
use Rattle.switch_core.specs.PanelsWithin.{PanelsWithin}
use Rattle.port_model.specs.Peripherals.{shows_nothing}
use Rattle.port_model.proofs.Numbers.{same_number}
use Rattle.switch_core.proofs.Views.{is_live-view, wakes_from}

-- Before the switch is alive nothing is looked at

abbrev is_testing : Health → Bool
is_testing (Testing passed) = true
is_testing Alive = false
is_testing Dark = false

-- a self-test that goes on went on before
testing_before : (report : Report) (reports : List Report) → is_testing (health_after (report ∷ reports)) ≡ true → is_testing (health_after reports) ≡ true
testing_before report reports is = by (health_after reports) refl where
  not_alive : (report : Report) → Alive ≡ health_after reports → is_testing (health_after (report ∷ reports)) ≡ true → is_testing Alive ≡ true
  not_alive (Checked check true up) alive is = subst (λ (h : Health). is_testing h ≡ true) (sym (alive-still check up reports alive)) is
  not_alive (Checked check false up) alive is = absurd (false≢true (subst (λ (h : Health). is_testing h ≡ true) (sym (dark-failed check up reports)) is))
  not_alive Tampered alive is = absurd (false≢true (subst (λ (h : Health). is_testing h ≡ true) (sym (dark-tampered reports)) is))

  by : (before : Health) → before ≡ health_after reports → is_testing (health_after reports) ≡ true
  by (Testing passed) was = subst (λ (h : Health). is_testing h ≡ true) was refl
  by Alive was = subst (λ (h : Health). is_testing h ≡ true) was (not_alive report was is)
  by Dark was = absurd (false≢true (subst (λ (h : Health). is_testing h ≡ true) (sym (dark-still report reports was)) is))

testing_before-move : (move : Panel) (up : Bool) (reports : List Report) → is_testing (health_after (with_report move up reports)) ≡ true → is_testing (health_after reports) ≡ true
testing_before-move (panel.Guard down) up reports is = is
testing_before-move (panel.Button port down) up reports is = is
testing_before-move (panel.Check check passed) up reports is = testing_before (Checked check passed up) reports is
testing_before-move panel.Tamper up reports is = testing_before Tampered reports is

nothing_looked : (rules : RuleSet) (past : List FrontEvent) → is_testing (health_at past) ≡ true → looks_in (moments_in rules past) ≡ []
nothing_looked rules [] is = refl
nothing_looked rules (event ∷ past) is = by_doing (nothing_looked rules past) event.tick event.doing is where
  asleep : (health : Health) (tick : ℕ) (up : Bool) → is_testing health ≡ true → looks_in (moments_in rules past) ≡ []
      → looks_in (cond (is_alive health) (Ticked tick up ∷ moments_in rules past) (moments_in rules past)) ≡ []
  asleep (Testing passed) tick up is none = none
  asleep Alive tick up is none = absurd (false≢true is)
  asleep Dark tick up is none = none

  by_doing : (is_testing (health_at past) ≡ true → looks_in (moments_in rules past) ≡ []) → (tick : ℕ) (doing : Doing) → is_testing (health_at (front_event tick doing ∷ past)) ≡ true → looks_in (moments_in rules (front_event tick doing ∷ past)) ≡ []
  by_doing before tick TimePasses is = asleep (health_at past) tick (shows_nothing rules past) is (before is)
  by_doing before tick (PanelMoves move) is = before (testing_before-move move (are_buttons_up (panel_moves past)) (reports_in past) is)
  by_doing before tick (Attaches plug) is = before is
  by_doing before tick (Detaches plug) is = before is
  by_doing before tick (Replies plug life number status bytes) is = before is
  by_doing before tick (Reports plug interface bytes) is = before is
  by_doing before tick (Finishes life number status bytes) is = before is

-- A switch that wakes was in its self-test

dark_stays : (move : Panel) (up : Bool) (reports : List Report) → Dark ≡ health_after reports → Dark ≡ health_after (with_report move up reports)
dark_stays (panel.Guard down) up reports is = is
dark_stays (panel.Button port down) up reports is = is
dark_stays (panel.Check check passed) up reports is = dark-still (Checked check passed up) reports is
dark_stays panel.Tamper up reports is = dark-still Tampered reports is

testing_where_wakes : (tick : ℕ) (move : Panel) (past : List FrontEvent) → change.Wakes ≡ change_of (health_at past) (health_at (front_event tick (PanelMoves move) ∷ past))
    → is_testing (health_at past) ≡ true
testing_where_wakes tick move past wakes = by (health_at past) refl where
  by : (before : Health) → before ≡ health_at past → is_testing (health_at past) ≡ true
  by (Testing passed) was = subst (λ (h : Health). is_testing h ≡ true) was refl
  by Alive was = absurd (false≢true (sym (subst (λ (h : Health). is_alive h ≡ false) (sym was) (wakes_from _ _ wakes))))
  by Dark was =
      let after = dark_stays move (are_buttons_up (panel_moves past)) (reports_in past) was in
      let first = subst (λ (h : Health). change.Wakes ≡ change_of h (health_at (front_event tick (PanelMoves move) ∷ past))) (sym was) wakes in
      let second : change.Wakes ≡ change_of Dark Dark = subst (λ (h : Health). change.Wakes ≡ change_of Dark h) (sym after) first in
      absurd (cc)

-- What a move at the panel makes of the selection

same_alive : (before after : Health) → change.Stays ≡ change_of before after → is_alive after ≡ is_alive before
same_alive (Testing passed) (Testing more) is = refl
same_alive (Testing passed) Alive is = absurd (cc)
same_alive (Testing passed) Dark is = refl
same_alive Alive (Testing more) is = absurd (cc)
same_alive Alive Alive is = refl
same_alive Alive Dark is = absurd (cc)
same_alive Dark (Testing more) is = refl
same_alive Dark Alive is = absurd (cc)
same_alive Dark Dark is = refl

not_alive_after : (before after : Health) → change.Darkens ≡ change_of before after → is_alive after ≡ false
not_alive_after before (Testing passed) is = refl
not_alive_after (Testing passed) Alive is = absurd (cc)
not_alive_after Alive Alive is = absurd (cc)
not_alive_after Dark Alive is = absurd (cc)
not_alive_after before Dark is = refl

module _ (rules : RuleSet) (tick : ℕ) (move : Panel) (past : List FrontEvent) where
  abbrev after : List FrontEvent
  after = front_event tick (PanelMoves move) ∷ past

  pub selected-Stays : change.Stays ≡ change_of (health_at past) (health_at after) → selected_at rules after ≡ selected_at rules past
  selected-Stays stays =
      ap (λ (alive : Bool). cond alive (selected_in (choice_after (moments_in rules past))) None) (same_alive (health_at past) (health_at after) stays)

  pub selected-Darkens : change.Darkens ≡ change_of (health_at past) (health_at after) → selected_at rules after ≡ None
  selected-Darkens darkens =
      ap (λ (alive : Bool). cond alive (selected_in (choice_after (moments_in rules past))) None) (not_alive_after (health_at past) (health_at after) darkens)

  pub selected_before-Wakes : change.Wakes ≡ change_of (health_at past) (health_at after) → selected_at rules past ≡ None
  selected_before-Wakes wakes =
      ap (λ (alive : Bool). cond alive (selected_in (choice_after (moments_in rules past))) None) (wakes_from (health_at past) (health_at after) wakes)

  pub selected-Wakes : change.Wakes ≡ change_of (health_at past) (health_at after) → selected_at rules after ≡ None
  unfolding chosen
  selected-Wakes wakes =
      let none = nothing_looked rules past (testing_where_wakes tick move past wakes) in
      by (is_alive (health_at after)) (ap (λ (looks : List Look). selected_in (chosen looks)) none) where
        by : (alive : Bool) → selected_in (choice_after (moments_in rules past)) ≡ None → cond alive (selected_in (choice_after (moments_in rules past))) None ≡ None
        by true none = none
        by false none = refl

-- The selected port is one of the switch's

abbrev MomentsWithin : ℕ → List Moment → Type 0
MomentsWithin count [] = Unit {0}
MomentsWithin count (Moved tick move ∷ past) = MovesWithin count move × MomentsWithin count past
MomentsWithin count (Ticked tick up ∷ past) = MomentsWithin count past

moments-within : (rules : RuleSet) (count : ℕ) (past : List FrontEvent) → PanelsWithin count past → MomentsWithin count (moments_in rules past)
moments-within rules count [] within = tt
moments-within rules count (event ∷ past) within = by_doing (moments-within rules count past) event.tick event.doing within where
  by_alive : (alive : Bool) (tick : ℕ) (up : Bool) → MomentsWithin count (moments_in rules past) → MomentsWithin count (cond alive (Ticked tick up ∷ moments_in rules past) (moments_in rules past))
  by_alive true tick up within = within
  by_alive false tick up within = within

  by_doing : (PanelsWithin count past → MomentsWithin count (moments_in rules past)) → (tick : ℕ) (doing : Doing) → PanelsWithin count (front_event tick doing ∷ past) → MomentsWithin count (moments_in rules (front_event tick doing ∷ past))
  by_doing before tick TimePasses within = by_alive (is_alive (health_at past)) tick (shows_nothing rules past) (before within.1)
  by_doing before tick (PanelMoves move) within = (within.0, before within.1)
  by_doing before tick (Attaches plug) within = before within.1
  by_doing before tick (Detaches plug) within = before within.1
  by_doing before tick (Replies plug life number status bytes) within = before within.1
  by_doing before tick (Reports plug interface bytes) within = before within.1
  by_doing before tick (Finishes life number status bytes) within = before within.1

-- a button that is down was pressed
down-within : (count port : ℕ) (past : List Moment) → MomentsWithin count past → is_button_down port past ≡ true → port ≤ count
down-within count port [] within down = absurd (false≢true down)
down-within count port (Ticked tick up ∷ past) within down = down-within count port past within down
down-within count port (Moved tick (panel.Guard is) ∷ past) within down = down-within count port past within.1 down
down-within count port (Moved tick (panel.Check check passed) ∷ past) within down = down-within count port past within.1 down
down-within count port (Moved tick panel.Tamper ∷ past) within down = down-within count port past within.1 down
down-within count port (Moved tick (panel.Button other is) ∷ past) within down =
    elim (eqb_tells other port) [
      | inl same ↦ subst (λ (p : ℕ). p ≤ count) same.1 within.0
      | inr apart ↦ down-within count port past within.1 (let here = rw apart.0 at down in here)
    ]

-- the only one of those that pass a test passes it
only_one-passes : (test : ℕ → Bool) (numbers : List ℕ) (port : ℕ) → only_one (filter test numbers) ≡ Some port → test port ≡ true
only_one-passes test [] port is = absurd (cc)
only_one-passes test (number ∷ numbers) port is = by (only_one-passes test numbers port) (test number) refl is where
  first : (rest : List ℕ) → cond (is_empty rest) (Some number) None ≡ Some port → number ≡ port
  first [] is = cc
  first (other ∷ rest) is = absurd (cc)

  by : (only_one (filter test numbers) ≡ Some port → test port ≡ true) → (passes : Bool) → test number ≡ passes → only_one (cond passes (number ∷ filter test numbers) (filter test numbers)) ≡ Some port → test port ≡ true
  by before true passed is = subst (λ (p : ℕ). test p ≡ true) (first (filter test numbers) is) passed
  by before false failed is = before is

pair-within : (count : ℕ) (past : List Moment) (port : ℕ) → MomentsWithin count past → pair_after past ≡ Some port → port ≤ count
unfolding ports_down
pair-within count past port within is = by (is_guard_down past) is where
  by : (guard : Bool) → cond guard (only_one (ports_down past)) None ≡ Some port → port ≤ count
  by true is = down-within count port past within (only_one-passes (λ p. is_button_down p past) (numbers_from 1 MAX_PORTS) port is)
  by false is = absurd (cc)

asked-within : (count : ℕ) (past : List Moment) (port : ℕ) → MomentsWithin count past → newest (λ look. look.ask) (looks_in past) ≡ Some port → port ≤ count
asked-within count [] port within is = absurd (cc)
asked-within count (Moved tick move ∷ past) port within is = asked-within count past port within.1 is
asked-within count (Ticked tick up ∷ past) port within is = by (asked-within count past port within) (pair_after past) refl is where
  by_time : (newest (λ look. look.ask) (looks_in past) ≡ Some port → port ≤ count) → (pair : ℕ) (stands : Bool) → pair_after past ≡ Some pair → or_else (cond stands (Some pair) None) (newest (λ look. look.ask) (looks_in past)) ≡ Some port → port ≤ count
  by_time before pair true was is = subst (λ (p : ℕ). p ≤ count) (let same : pair ≡ port = cc in same) (pair-within count past pair within was)
  by_time before pair false was is = before is

  by : (newest (λ look. look.ask) (looks_in past) ≡ Some port → port ≤ count) → (pair : Option ℕ) → pair_after past ≡ pair → or_else (ask_of pair (pair_since past) tick) (newest (λ look. look.ask) (looks_in past)) ≡ Some port → port ≤ count
  by before None was is = before is
  by before (Some pair) was is = by_time before pair _ was is

chosen-asked : (looks : List Look) (port : ℕ) → selected_in (chosen looks) ≡ Some port → newest (λ look. look.ask) looks ≡ Some port
unfolding chosen
chosen-asked looks port is = by (newest (λ look. look.ask) looks) is where
  by_settled : (asked : ℕ) (settled : Bool) → selected_in (cond settled (Selected asked) (Target asked)) ≡ Some port → Some asked ≡ Some port
  by_settled asked true is = is
  by_settled asked false is = absurd (cc)

  by : (asked : Option ℕ) → selected_in (chosen_of asked looks) ≡ Some port → asked ≡ Some port
  by None is = absurd (cc)
  by (Some asked) is = by_settled asked (is_settled asked (since (asks_for_other asked) looks)) is

pub selected-within : (rules : RuleSet) (count : ℕ) (past : List FrontEvent) (port : ℕ) → PanelsWithin count past → selected_at rules past ≡ Some port → port ≤ count
selected-within rules count past port within is = by (is_alive (health_at past)) is where
  by : (alive : Bool) → cond alive (selected_in (choice_after (moments_in rules past))) None ≡ Some port → port ≤ count
  by true is = asked-within count (moments_in rules past) port (moments-within rules count past within) (chosen-asked (looks_in (moments_in rules past)) port is)
  by false is = absurd (cc)

-- and the switch is alive
pub selected-alive : (rules : RuleSet) (past : List FrontEvent) (port : ℕ) → selected_at rules past ≡ Some port → is_alive (health_at past) ≡ true
selected-alive rules past port is = by (is_alive (health_at past)) is where
  by : (alive : Bool) → cond alive (selected_in (choice_after (moments_in rules past))) None ≡ Some port → alive ≡ true
  by true is = refl
  by false is = absurd (cc)

-- The console goes with the selection

pub given_after-same : (chosen : Option ℕ) (gives : ℕ) → given_after chosen chosen gives ≡ gives
given_after-same None gives = refl
given_after-same (Some port) gives = rw (same_number port) refl

-- a move at the panel selects nothing
pub selections-move : (rules : RuleSet) (tick : ℕ) (move : Panel) (past : List FrontEvent) → selections rules (front_event tick (PanelMoves move) ∷ past) ≡ selections rules past
selections-move rules tick move past = by (change_of (health_at past) (health_at (front_event tick (PanelMoves move) ∷ past))) refl where
  to_none : selected_at rules (front_event tick (PanelMoves move) ∷ past) ≡ None
      → given_after (selected_at rules past) (selected_at rules (front_event tick (PanelMoves move) ∷ past)) (selections rules past) ≡ selections rules past
  to_none none = ap (λ (chosen : Option ℕ). given_after (selected_at rules past) chosen (selections rules past)) none

  by : (to : HealthChange) → to ≡ change_of (health_at past) (health_at (front_event tick (PanelMoves move) ∷ past)) → selections rules (front_event tick (PanelMoves move) ∷ past) ≡ selections rules past
  by change.Stays is =
      ap (λ (chosen : Option ℕ). given_after (selected_at rules past) chosen (selections rules past)) (selected-Stays rules tick move past is)
      ∙ given_after-same (selected_at rules past) (selections rules past)
  by change.Wakes is = to_none (selected-Wakes rules tick move past is)
  by change.Darkens is = to_none (selected-Darkens rules tick move past is)

-- the port that a clock event selects is there, and awake
pub can_have : (rules : RuleSet) (count tick : ℕ) (past : List Seen) → PanelsWithin count (front_of past)
    → CanHave count (views_of rules past) (selected_at rules (front_event tick TimePasses ∷ front_of past))
can_have rules count tick past within = by (selected_at rules (front_event tick TimePasses ∷ front_of past)) refl where
  by : (chosen : Option ℕ) → selected_at rules (front_event tick TimePasses ∷ front_of past) ≡ chosen → CanHave count (views_of rules past) chosen
  by None is = tt
  by (Some port) is = (
    selected-within rules count (front_event tick TimePasses ∷ front_of past) port (tt, within) is,
    is_live-view rules port past ∙ selected-alive rules (front_event tick TimePasses ∷ front_of past) port is,
  )
