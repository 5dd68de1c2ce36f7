-- What the log says of each event.
use Rattle.std.specs.Prelude.{ℕ, ◌==◌, List, [], ◌∷◌, ◌++◌, Option, Some, None, if◌then◌else◌}
use Rattle.psd_base.specs.declared.console.Note.{Note}
use Rattle.psd_base.specs.declared.console.Note.TheVariants as note
use Rattle.psd_base.specs.declared.console.Panel.{Panel}
use Rattle.psd_base.specs.declared.console.Panel.TheVariants as panel
use Rattle.psd_base.specs.declared.console.Reason.{Reason}
use Rattle.psd_base.specs.declared.console.Reason.TheVariants as reason
use Rattle.psd_base.specs.Event.{Doing, TimePasses, PanelMoves, Happening, PortActs, AtFront, Seen}
use Rattle.selector.specs.declared.selector.Move.{Move}
use Rattle.selector.specs.declared.selector.Move.TheVariants as moves
use Rattle.fail_secure.specs.declared.health_change.HealthChange.{HealthChange}
use Rattle.fail_secure.specs.declared.health_change.HealthChange.TheVariants as change
use Rattle.fail_secure.specs.HealthChange.{change_of}
use Rattle.peripheral_filter.specs.declared.rule.RuleSet.{RuleSet}
use Rattle.port_model.specs.FrontEvents.{FrontEvent, front_event, front_of}
use Rattle.port_model.specs.FrontHealth.{health_at}
use Rattle.port_model.specs.Chosen.{selected_at}
use Rattle.port_model.specs.Peripherals.{peripheral_notes}
use Rattle.port_model.specs.Token.{early_token_notes, late_token_notes}

-- why a move makes the switch dark: a check that failed, an opened case, or a button that was down when the last check passed
abbrev pub reason_of : Panel → Reason
reason_of (panel.Guard down) = reason.Button
reason_of (panel.Button port down) = reason.Button
reason_of (panel.Check check passed) = if passed then reason.Button else reason.Check check
reason_of panel.Tamper = reason.Tamper

abbrev pub change_notes : Panel → HealthChange → List Note
change_notes move change.Stays = []
change_notes move change.Wakes = note.Alive ∷ []
change_notes move change.Darkens = note.Dark (reason_of move) ∷ []

-- the port that is selected changes from the first to the second
abbrev pub selection_notes : Option ℕ → Option ℕ → List Note
selection_notes None None = []
selection_notes None (Some port) = note.Select port ∷ []
selection_notes (Some left) None = note.Leave left ∷ []
selection_notes (Some left) (Some port) = if left == port then [] else note.Leave left ∷ note.Select port ∷ []

-- what health and selection give at an event
abbrev pub selector_notes : RuleSet → ℕ → Doing → List FrontEvent → List Note
selector_notes rules tick TimePasses front =
    selection_notes (selected_at rules front) (selected_at rules (front_event tick TimePasses ∷ front))
selector_notes rules tick (PanelMoves move) front =
    change_notes move (change_of (health_at front) (health_at (front_event tick (PanelMoves move) ∷ front)))
selector_notes rules tick _ front = []

-- What the log says of an event at the front: what the peripherals come to, then what becomes of the selection, and then to
-- which port the token is routed by it.
abbrev pub front_notes : RuleSet → ℕ → Doing → List FrontEvent → List Note
front_notes rules tick doing front =
    (peripheral_notes rules (front_event tick doing) front ++ early_token_notes rules (front_event tick doing) front)
    ++ (selector_notes rules tick doing front ++ late_token_notes rules (front_event tick doing) front)

-- What the log says of an event after a history. Of what a computer does it says nothing.
abbrev pub notes_at : RuleSet → Seen → List Seen → List Note
notes_at rules event past = notes_of event.tick event.happening (front_of past) where
  notes_of : ℕ → Happening → List FrontEvent → List Note
  notes_of tick (PortActs port side act) front = []
  notes_of tick (AtFront doing) front = front_notes rules tick doing front

-- what the log says of a move of the selection
abbrev pub move_notes : Move → List Note
move_notes moves.Stay = []
move_notes (moves.Leave left port) = note.Leave left ∷ []
move_notes (moves.Enter port) = note.Select port ∷ []
move_notes (moves.LeaveEnter left port) = note.Leave left ∷ note.Select port ∷ []
