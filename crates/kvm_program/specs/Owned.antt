-- Whose the token is, over the events of a run.
use Rattle.std.specs.Prelude.{List, []}
use Rattle.psd_base.specs.Event.{Seen}
use Rattle.psd_base.specs.History.{onto}
use Rattle.peripheral_filter.specs.declared.rule.RuleSet.{RuleSet}
use Rattle.switch_core.specs.Ownership.{HeardIn, RoutedOnceIn}
use Rattle.switch_core.specs.Stamped.{ApartIn, OnePortsIn}

-- Of the jobs that the token is ordered to do, those of two of its lives are apart: between them its power goes off, and next comes
-- on, RESET ticks later at the earliest. Those of one life are one port's, ordered in one selection. No life is routed to two
-- ports, and that a job is done is heard by the port alone to which its life is routed, which is the selected one.
pub record Owns (rules : RuleSet) (events : List Seen) : Type 0 where
  pub apart : ApartIn rules (onto events [])
  pub one_port : OnePortsIn rules (onto events [])
  pub once : RoutedOnceIn rules (onto events [])
  pub heard : HeardIn rules (onto events [])
