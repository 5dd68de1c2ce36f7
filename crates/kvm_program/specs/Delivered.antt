-- What a computer reads of what is typed and moved, over the events of a run.
use Rattle.std.specs.Prelude.{◌≡◌, ℕ, List, [], ◌++◌}
use Rattle.psd_base.specs.Event.{Seen}
use Rattle.psd_base.specs.History.{onto}
use Rattle.peripheral_filter.specs.declared.rule.RuleSet.{RuleSet}
use Rattle.km_port.specs.Delivery.{Delivery}
use Rattle.port_model.specs.View.{view}

-- At each moment of the run: what its port's one-port switch answered so far delivers what was accepted so far.
abbrev pub Delivers : RuleSet → ℕ → List Seen → Type 0
Delivers rules port events = (served left : List Seen) → events ≡ served ++ left → Delivery (view rules port (onto served []))
