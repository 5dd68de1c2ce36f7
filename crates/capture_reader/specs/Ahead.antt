-- What was read ahead of a source, as an event.
use Rattle.std.specs.Prelude.{ℕ, List, Option, option_map}
use Rattle.psd_base.specs.declared.act.Act.{Act}
use Rattle.psd_base.specs.Event.{Happening, PortActs, AtFront, TimePasses, PanelMoves, Attaches, Detaches, Replies, Reports, Finishes, Seen}
use Rattle.capture_reader.specs.declared.ahead.Ahead.{Ahead}
use Rattle.capture_reader.specs.declared.ahead.Answered.{Answered}
use Rattle.capture_reader.specs.declared.ahead.Kept.{Kept}
use Rattle.capture_reader.specs.declared.ahead.Kept.TheVariants as kept
use Rattle.capture_reader.specs.declared.form.Said.{Said}

-- what a record says, with what stands beside it: an act, what is answered, and bytes
abbrev pub kept_happening : Act → Answered → List ℕ → Kept → Happening
kept_happening act answered bytes kept.Clock = AtFront TimePasses
kept_happening act answered bytes (kept.Port port side) = PortActs port side act
kept_happening act answered bytes (kept.Attach plug) = AtFront (Attaches plug)
kept_happening act answered bytes (kept.Detach plug) = AtFront (Detaches plug)
kept_happening act answered bytes (kept.Reply plug) = AtFront (Replies plug answered.life answered.number answered.status bytes)
kept_happening act answered bytes (kept.Report plug interface) = AtFront (Reports plug interface bytes)
kept_happening act answered bytes kept.Job = AtFront (Finishes answered.life answered.number answered.status bytes)

abbrev pub kept_seen : ℕ → Act → Answered → List ℕ → Kept → Seen
kept_seen tick act answered bytes saying = record { tick = tick; happening = kept_happening act answered bytes saying }

-- the record that was read ahead
abbrev pub ahead_of : Ahead → Option Seen
ahead_of ahead = option_map (kept_seen ahead.tick ahead.act ahead.answered ahead.bytes) ahead.kept

-- what a line says
abbrev pub said_seen : Said → Seen
said_seen said = record { tick = said.tick; happening = AtFront (PanelMoves said.panel) }

-- the line that was read ahead
abbrev pub line_of : Option Said → Option Seen
line_of said = option_map said_seen said
