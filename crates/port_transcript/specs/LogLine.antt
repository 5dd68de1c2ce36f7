-- The text of a line of the log.
use Rattle.std.specs.Prelude.{ℕ, ◌^◌, ◌<◌, nat_lt, if◌then◌else◌, List, ◌++◌, codes}
use Rattle.std.specs.Fmt.{decimal}
use Rattle.psd_base.specs.Port.{IsPort}
use Rattle.psd_base.specs.declared.console.Note.{Note}
use Rattle.psd_base.specs.declared.console.Note.TheVariants as note
use Rattle.psd_base.specs.declared.console.Reason.{Reason}
use Rattle.psd_base.specs.declared.console.Reason.TheVariants as reason
use Rattle.psd_base.specs.declared.console.RuleName.{RuleName}
use Rattle.psd_base.specs.declared.console.RuleName.TheVariants as rule
use Rattle.port_transcript.specs.Plug.{plug_text}

-- the number in decimal, with a zero before a single digit
unfoldable pub two_digits : ℕ → List ℕ
two_digits number = if nat_lt number 10 then codes "0" ++ decimal number else decimal number

unfoldable pub reason_text : Reason → List ℕ
reason_text (reason.Check number) = codes "CHECK " ++ decimal number
reason_text reason.Tamper = codes "TAMPER"
reason_text reason.Button = codes "BUTTON"

unfoldable pub rule_text : RuleName → List ℕ
rule_text (rule.Fixed number) = codes "F" ++ two_digits number
rule_text (rule.Deny number) = codes "D" ++ two_digits number
rule_text rule.NotAllowed = codes "A00"

-- the note without its tick
unfoldable pub note_words : Note → List ℕ
note_words note.Alive = codes "ALIVE"
note_words (note.Dark reason) = codes "DARK " ++ reason_text reason
note_words (note.Leave port) = codes "LEAVE " ++ decimal port
note_words (note.Select port) = codes "SELECT " ++ decimal port
note_words (note.Routed port) = codes "TOKEN ROUTED " ++ decimal port
note_words (note.InterfaceAccepted plug interface) = plug_text plug ++ codes " INTERFACE " ++ decimal interface ++ codes " ACCEPTED"
note_words (note.InterfaceRefused plug interface rule) = plug_text plug ++ codes " INTERFACE " ++ decimal interface ++ codes " REFUSED " ++ rule_text rule
note_words (note.Accepted plug) = plug_text plug ++ codes " ACCEPTED"
note_words (note.Refused plug rule) = plug_text plug ++ codes " REFUSED " ++ rule_text rule

-- the tick, the note and a line feed
unfoldable pub note_text : ℕ → Note → List ℕ
note_text tick note = decimal tick ++ codes " " ++ note_words note ++ codes "\n"

-- the fields are in the ranges of their types

abbrev pub IsReason : Reason → Type 0
IsReason (reason.Check number) = number < 2 ^ 8
IsReason reason.Tamper = Unit {0}
IsReason reason.Button = Unit {0}

abbrev pub IsRuleName : RuleName → Type 0
IsRuleName (rule.Fixed number) = number < 2 ^ 8
IsRuleName (rule.Deny number) = number < 2 ^ 8
IsRuleName rule.NotAllowed = Unit {0}

abbrev pub IsNote : Note → Type 0
IsNote note.Alive = Unit {0}
IsNote (note.Dark reason) = IsReason reason
IsNote (note.Leave port) = IsPort port
IsNote (note.Select port) = IsPort port
IsNote (note.Routed port) = IsPort port
IsNote (note.InterfaceAccepted plug interface) = interface < 2 ^ 8
IsNote (note.InterfaceRefused plug interface rule) = (interface < 2 ^ 8) × IsRuleName rule
IsNote (note.Accepted plug) = Unit {0}
IsNote (note.Refused plug rule) = IsRuleName rule
