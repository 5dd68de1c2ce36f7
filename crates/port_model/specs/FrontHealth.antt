-- The health of the switch after what happened at its front, newest first.
use Rattle.std.specs.Prelude.{ℕ, Bool, List, [], ◌∷◌}
use Rattle.psd_base.specs.declared.console.Panel.{Panel}
use Rattle.psd_base.specs.declared.console.Panel.TheVariants as panel
use Rattle.psd_base.specs.Event.{Doing, PanelMoves, MovesWithin}
use Rattle.fail_secure.specs.declared.health.Health.{Health}
use Rattle.fail_secure.specs.declared.health.Health.TheVariants.{Testing, Alive, Dark}
use Rattle.fail_secure.specs.Health.{Report, Checked, Tampered, health_after}
use Rattle.selector.specs.Moments.{Moment, Moved}
use Rattle.selector.specs.Panel.{are_buttons_up}
use Rattle.port_model.specs.FrontEvents.{FrontEvent}

-- a check is reported with whether no button is down
abbrev pub with_report : Panel → Bool → List Report → List Report
with_report (panel.Guard down) buttons_up reports = reports
with_report (panel.Button port down) buttons_up reports = reports
with_report (panel.Check check passed) buttons_up reports = Checked check passed buttons_up ∷ reports
with_report panel.Tamper buttons_up reports = Tampered ∷ reports

-- a check is one of those of the self-test, whatever ports there are
abbrev pub IsKnownCheck : Panel → Type 0
IsKnownCheck (panel.Guard down) = Unit {0}
IsKnownCheck (panel.Button port down) = Unit {0}
IsKnownCheck (panel.Check check passed) = MovesWithin 0 (panel.Check check passed)
IsKnownCheck panel.Tamper = Unit {0}

-- the moves at the panel
abbrev pub panel_moves : List FrontEvent → List Moment
panel_moves [] = []
panel_moves (event ∷ past) = with_doing event.tick event.doing (panel_moves past) where
  with_doing : ℕ → Doing → List Moment → List Moment
  with_doing tick (PanelMoves move) moves = Moved tick move ∷ moves
  with_doing tick _ moves = moves

-- what is reported to the self-test
abbrev pub reports_in : List FrontEvent → List Report
reports_in [] = []
reports_in (event ∷ past) = with_doing event.doing (panel_moves past) (reports_in past) where
  with_doing : Doing → List Moment → List Report → List Report
  with_doing (PanelMoves move) moves reports = with_report move (are_buttons_up moves) reports
  with_doing _ moves reports = reports

abbrev pub health_at : List FrontEvent → Health
health_at past = health_after (reports_in past)

-- the checks that a self-test kept, each in its bit; there is none but in the self-test
abbrev pub checks_in : Health → ℕ
checks_in (Testing passed) = passed
checks_in Alive = 0
checks_in Dark = 0
