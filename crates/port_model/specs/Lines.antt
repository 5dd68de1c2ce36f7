-- The line that each event gives.
use Rattle.std.specs.Prelude.{ℕ, List, Option, Some, None}
use Rattle.psd_base.specs.Event.{Happening, PortActs, AtFront, Seen}
use Rattle.psd_base.specs.declared.act.Answer.{Answer}
use Rattle.psd_base.specs.declared.line.Line.{Line}
use Rattle.peripheral_filter.specs.declared.rule.RuleSet.{RuleSet}
use Rattle.port_model.specs.View.{view}
use Rattle.port_model.specs.OnePort.{line_of}

-- the line that an event gives after a history, with its port: that of an act, the last of its port's transcript
abbrev pub line_at : RuleSet → Seen → List Seen → Option (ℕ × Line)
line_at rules event past = line_of_happening event.tick event.happening past where
  line_of_happening : ℕ → Happening → List Seen → Option (ℕ × Line)
  line_of_happening tick (PortActs port side act) past = Some (port, line_of (view rules port past) tick side act)
  line_of_happening tick (AtFront doing) past = None

-- the line of an event with its port, where this was answered: an event that is no act has none, whatever the answer
abbrev pub line_with : Seen → Answer → Option (ℕ × Line)
line_with event answer = line_of_happening event.tick event.happening answer where
  line_of_happening : ℕ → Happening → Answer → Option (ℕ × Line)
  line_of_happening tick (PortActs port side act) answer = Some (port, record { tick = tick; side = side; act = act; answer = answer })
  line_of_happening tick (AtFront doing) answer = None
