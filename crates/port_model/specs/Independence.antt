-- That what other computers do concerns no port but their own. Schedules and views are newest first.
use Rattle.std.specs.Prelude.{◌≡◌, ◌≢◌, ℕ, Bool, true, false, not, ◌==◌, List, [], ◌∷◌, if◌then◌else◌}
use Rattle.psd_base.specs.declared.act.Act.{Act}
use Rattle.psd_base.specs.declared.act.Side.{Side}
use Rattle.psd_base.specs.Event.{Happening, PortActs, AtFront, Seen}
use Rattle.peripheral_filter.specs.declared.rule.RuleSet.{RuleSet}
use Rattle.port_model.specs.Concerns.{Own, item}
use Rattle.port_model.specs.OnePort.{one_port_lines}
use Rattle.port_model.specs.View.{view}

-- an act of a computer
abbrev pub is_act : Happening → Bool
is_act (PortActs port side act) = true
is_act (AtFront doing) = false

-- an act of another computer than that of this port
abbrev pub is_act_elsewhere : ℕ → Happening → Bool
is_act_elsewhere port (PortActs other side act) = not (other == port)
is_act_elsewhere port (AtFront doing) = false

-- the same events without those that pass
abbrev pub without : (Happening → Bool) → List Seen → List Seen
without passes [] = []
without passes (event ∷ events) = if passes event.happening then without passes events else event ∷ without passes events

-- the computer of a port acts
abbrev pub acts : ℕ → ℕ → Side → Act → Seen
acts tick port side act = record { tick = tick; happening = PortActs port side act }

-- An act of one port leaves the view of every other port as it was.
abbrev pub ActLeavesOtherViews : Type 0
ActLeavesOtherViews = (rules : RuleSet) (port other tick : ℕ) (side : Side) (act : Act) (past : List Seen) → other ≢ port
    → view rules other (acts tick port side act ∷ past) ≡ view rules other past

-- And so it leaves the transcript of every other port as it was.
abbrev pub ActLeavesOtherLines : Type 0
ActLeavesOtherLines = (rules : RuleSet) (port other tick : ℕ) (side : Side) (act : Act) (past : List Seen) → other ≢ port
    → one_port_lines (view rules other (acts tick port side act ∷ past)) ≡ one_port_lines (view rules other past)

-- At its own port an act adds its own item to the view, and nothing else.
abbrev pub ActAddsItsItem : Type 0
ActAddsItsItem = (rules : RuleSet) (port tick : ℕ) (side : Side) (act : Act) (past : List Seen)
    → view rules port (acts tick port side act ∷ past) ≡ item tick (Own side act) ∷ view rules port past

-- What other computers do concerns no port but their own: taking out, adding or exchanging such acts leaves a view as it was.
abbrev pub ViewIgnoresOthers : Type 0
ViewIgnoresOthers = (rules : RuleSet) (port : ℕ) (past : List Seen) → view rules port (without (is_act_elsewhere port) past) ≡ view rules port past

-- Where the same concerns a port, its computer is answered the same, whatever else happened and whatever the rules.
abbrev pub SameViewSameLines : Type 0
SameViewSameLines = (rules others : RuleSet) (port : ℕ) (past other : List Seen) → view rules port past ≡ view others port other
    → one_port_lines (view rules port past) ≡ one_port_lines (view others port other)
