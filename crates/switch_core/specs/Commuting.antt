-- The switch knows its schedule only by what happened at the front and by the views of its ports, so acts of different
-- computers commute. Schedules are newest first.
use Rattle.std.specs.Prelude.{◌≡◌, ◌≢◌, ℕ, List, ◌∷◌, ◌++◌}
use Rattle.psd_base.specs.declared.act.Act.{Act}
use Rattle.psd_base.specs.declared.act.Side.{Side}
use Rattle.psd_base.specs.Event.{Seen}
use Rattle.peripheral_filter.specs.declared.rule.RuleSet.{RuleSet}
use Rattle.switch_core.specs.declared.switch.Switch.{Switch}
use Rattle.port_model.specs.FrontEvents.{front_of}
use Rattle.port_model.specs.Independence.{acts}
use Rattle.switch_core.specs.StandsFor.{StandsFor}
use Rattle.port_model.specs.View.{view}

-- Two schedules say the same to every part of the switch: the same happened at the front, and each port has the same view.
pub record SameWords (rules : RuleSet) (past other : List Seen) : Type 0 where
  pub front : front_of past ≡ front_of other
  pub views : (port : ℕ) → view rules port past ≡ view rules port other

-- A switch that stands for a schedule stands for each that says the same.
abbrev pub StandsForSame : Type 0
StandsForSame = (rules : RuleSet) (switch : Switch) (past other : List Seen)
    → SameWords rules past other → StandsFor rules switch past → StandsFor rules switch other

-- Two acts at different ports, next to each other in a schedule, may be exchanged, whatever their ticks and whatever came before
-- and comes after them: the schedule says the same.
abbrev pub ActsCommute : Type 0
ActsCommute = (rules : RuleSet) (port other tick at : ℕ) (side connector : Side) (act taken : Act) (further past : List Seen) → port ≢ other
    → SameWords rules (further ++ acts tick port side act ∷ acts at other connector taken ∷ past)
    (further ++ acts at other connector taken ∷ acts tick port side act ∷ past)
