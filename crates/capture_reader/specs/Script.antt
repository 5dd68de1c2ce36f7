-- The button script: lines to the end of the input, each of which ends before a line feed or at the end.
use Rattle.std.specs.Prelude.{ℕ, zero, suc, ◌+◌, Bool, true, false, ◌&&◌, ◌||◌, ◌==◌, nat_lt, nat_le, List, [], ◌∷◌, ◌++◌, length, slice_index, Option, Some, None, Result, Ok, Err, if◌then◌else◌, codes}
use Rattle.std.specs.List.{before_first, after_first}
use Rattle.std.specs.Str.{bytes_eq}
use Rattle.psd_base.specs.declared.console.Panel.{Panel}
use Rattle.psd_base.specs.declared.console.Panel.TheVariants.{Guard, Button, Check, Tamper}
use Rattle.psd_base.specs.declared.console.TheConstants.{CHECKS}
use Rattle.psd_base.specs.declared.port.TheConstants.{MAX_PORTS}
use Rattle.psd_base.specs.declared.stop.ScriptFault.{ScriptFault}
use Rattle.psd_base.specs.declared.stop.ScriptFault.TheVariants.{LineTooLong, NotALine, TickBack, NoSuchPort}
use Rattle.psd_base.specs.declared.stop.Stop.TheVariants as stops
use Rattle.psd_base.specs.Event.{Seen}
use Rattle.psd_base.specs.History.{or_else}
use Rattle.psd_base.specs.Reading.{◌>>=◌, number_in}
use Rattle.capture_reader.specs.declared.form.Said.{Said}
use Rattle.capture_reader.specs.declared.line.TheConstants.{LINE_MAX}
use Rattle.capture_reader.specs.Ahead.{said_seen}
use Rattle.capture_reader.specs.Schedule.{Schedule, in_front, over}

abbrev pub is_line_feed : ℕ → Bool
is_line_feed byte = byte == 10

abbrev pub is_space : ℕ → Bool
is_space byte = byte == 32

-- the bytes before the first line feed, or all where there is none
unfoldable pub first_line : List ℕ → List ℕ
first_line bytes = before_first is_line_feed bytes

-- the decimal digit of a number below ten
abbrev pub digit_of : ℕ → ℕ
digit_of number = 48 + number

-- the text of a move at the panel, as it stands behind the tick and a space
abbrev pub panel_text : Panel → List ℕ
panel_text (Guard true) = codes "guard down"
panel_text (Guard false) = codes "guard up"
panel_text (Button port true) = digit_of port ∷ codes " down"
panel_text (Button port false) = digit_of port ∷ codes " up"
panel_text (Check number true) = codes "check " ++ digit_of number ∷ codes " pass"
panel_text (Check number false) = codes "check " ++ digit_of number ∷ codes " fail"
panel_text Tamper = codes "tamper"

-- the moves of the buttons and the outcomes of the checks, of the numbers 1 to this one

abbrev pub buttons : ℕ → List Panel
buttons zero = []
buttons (suc n) = Button (suc n) true ∷ Button (suc n) false ∷ buttons n

abbrev pub checks : ℕ → List Panel
checks zero = []
checks (suc n) = Check (suc n) true ∷ Check (suc n) false ∷ checks n

-- the one of these moves that has this text
unfoldable pub move_among : List Panel → List ℕ → Option Panel
move_among [] text = None
move_among (panel ∷ panels) text = if bytes_eq text (panel_text panel) then Some panel else move_among panels text

-- the move that has this text; no two have one
unfoldable pub panel_in : List ℕ → Option Panel
panel_in text =
    or_else (move_among (Guard true ∷ Guard false ∷ Tamper ∷ []) text)
    (or_else (move_among (buttons MAX_PORTS) text) (move_among (checks CHECKS) text))

-- no digits, and zeros before a number
abbrev pub is_misspelt : List ℕ → Bool
is_misspelt word = (length word == 0) || ((slice_index word 0 == 48) && nat_lt 1 (length word))

-- the tick that a word says: decimal without leading zeros
unfoldable pub tick_in : List ℕ → Option ℕ
tick_in word = if is_misspelt word then None else number_in word

-- what a line says: its tick, one space, and the text of a move
unfoldable pub said_in : List ℕ → Option Said
said_in line = do
  tick ← tick_in (before_first is_space line)
  panel ← panel_in (after_first is_space line)
  Some (record { tick = tick; panel = panel })

-- whether a switch with so many ports has the port of a move
abbrev pub has_port : ℕ → Panel → Bool
has_port ports (Guard down) = true
has_port ports (Button port down) = nat_le port ports
has_port ports (Check number passed) = true
has_port ports Tamper = true

-- what was said after a line of tick `last`
unfoldable pub judged : ℕ → ℕ → Said → Result Seen ScriptFault
judged ports last said =
    if nat_lt said.tick last then Err TickBack
    else if has_port ports said.panel then Ok (said_seen said)
    else Err NoSuchPort

-- the event of a line after one of tick `last`, or the first of its checks that fails
unfoldable pub line_at : ℕ → ℕ → List ℕ → Result Seen ScriptFault
line_at ports last line =
    if nat_lt LINE_MAX (length line) then Err LineTooLong
    else elim (said_in line) [ Some said ↦ judged ports last said | None ↦ Err NotALine ]

-- The lines after one of tick `last`, where the first has this number, and begins so many bytes on. They end where no byte is left.
unfoldable pub lines : ℕ → ℕ → ℕ → ℕ → List ℕ → Schedule
lines ports last number skip [] = over None
lines ports last number zero (byte ∷ bytes) =
    elim (line_at ports last (first_line (byte ∷ bytes))) [
      | Ok event ↦ in_front event (lines ports event.tick (number + 1) (length (first_line (byte ∷ bytes))) bytes)
      | Err why ↦ over (Some (stops.Script number why))
    ]
lines ports last number (suc skip) (byte ∷ bytes) = lines ports last number skip bytes

-- the whole script of a switch with so many ports
unfoldable pub script : ℕ → List ℕ → Schedule
script ports bytes = lines ports 0 1 0 bytes
