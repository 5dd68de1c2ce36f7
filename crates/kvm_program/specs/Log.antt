-- The text of the log, and what it counts.
use Rattle.std.specs.Prelude.{ℕ, ◌+◌, Bool, true, false, List, [], ◌∷◌, ◌++◌}
use Rattle.std.specs.List.{flat_map}
use Rattle.psd_base.specs.declared.console.Note.{Note}
use Rattle.psd_base.specs.declared.console.Note.TheVariants as note
use Rattle.psd_base.specs.Event.{Seen}
use Rattle.psd_base.specs.History.{number_of, onto}
use Rattle.peripheral_filter.specs.declared.rule.RuleSet.{RuleSet}
use Rattle.port_transcript.specs.LogLine.{note_text}
use Rattle.switch_core.specs.Notes.{notes_at}

-- the lines of the notes of one event
abbrev pub notes_text : ℕ → List Note → List ℕ
notes_text tick notes = flat_map (note_text tick) notes

-- what the log says over a history, which is newest first
abbrev pub log_after : RuleSet → List Seen → List ℕ
log_after rules [] = []
log_after rules (event ∷ past) = log_after rules past ++ notes_text event.tick (notes_at rules event past)

-- the same over events, which are oldest first
abbrev pub log_of : RuleSet → List Seen → List ℕ
log_of rules events = log_after rules (onto events [])

-- a port was left
abbrev pub is_leave : Note → Bool
is_leave note.Alive = false
is_leave (note.Dark reason) = false
is_leave (note.Leave port) = true
is_leave (note.Select port) = false
is_leave (note.Routed port) = false
is_leave (note.InterfaceAccepted plug interface) = false
is_leave (note.InterfaceRefused plug interface rule) = false
is_leave (note.Accepted plug) = false
is_leave (note.Refused plug rule) = false

-- a device or an interface was refused
abbrev pub is_refusal : Note → Bool
is_refusal note.Alive = false
is_refusal (note.Dark reason) = false
is_refusal (note.Leave port) = false
is_refusal (note.Select port) = false
is_refusal (note.Routed port) = false
is_refusal (note.InterfaceAccepted plug interface) = false
is_refusal (note.InterfaceRefused plug interface rule) = true
is_refusal (note.Accepted plug) = false
is_refusal (note.Refused plug rule) = true

-- how many notes of a history pass
abbrev pub noted : RuleSet → (Note → Bool) → List Seen → ℕ
noted rules passes [] = 0
noted rules passes (event ∷ past) = noted rules passes past + number_of passes (notes_at rules event past)
