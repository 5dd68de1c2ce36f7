-- The text of a port's transcript.
use Rattle.std.specs.Prelude.{ℕ, ◌==◌, List, [], Option, Some, None, if◌then◌else◌}
use Rattle.std.specs.List.{flat_map}
use Rattle.psd_base.specs.History.{onto}
use Rattle.psd_base.specs.Event.{Seen}
use Rattle.psd_base.specs.declared.line.Line.{Line}
use Rattle.peripheral_filter.specs.declared.rule.RuleSet.{RuleSet}
use Rattle.port_transcript.specs.PortLine.{line_text}
use Rattle.port_model.specs.View.{view}
use Rattle.port_model.specs.OnePort.{one_port_lines}

-- the text of a list of lines
abbrev pub lines_text : List Line → List ℕ
lines_text lines = flat_map line_text lines

-- what the one-port switch of this port writes over a history, which is newest first
abbrev pub transcript_after : RuleSet → ℕ → List Seen → List ℕ
transcript_after rules port past = lines_text (one_port_lines (view rules port past))

-- the same over events, which are oldest first
abbrev pub transcript_of : RuleSet → ℕ → List Seen → List ℕ
transcript_of rules port events = transcript_after rules port (onto events [])

-- what a line is to a port's transcript: its text, where the port is its own
abbrev pub text_at : ℕ → Option (ℕ × Line) → List ℕ
text_at port None = []
text_at port (Some (own, line)) = if own == port then line_text line else []
