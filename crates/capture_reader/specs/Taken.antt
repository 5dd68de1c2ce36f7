-- The bytes that a call takes of an input, and how many whole records, or lines with their line feeds, are among them. After a read
-- that failed, the events that were given are the shortest part of the schedule that holds every whole record, or line, among the
-- bytes of that input that were taken.
use Rattle.std.specs.Prelude.{◌≡◌, ℕ, zero, suc, ◌+◌, Bool, true, false, not, List, [], ◌∷◌, ◌++◌, length, drop, Option, Some, None, option_map, Ok, Err, if◌then◌else◌, IsSomeAnd}
use Rattle.std.specs.List.{count_by}
use Rattle.psd_base.specs.declared.outlet.Input.{Input}
use Rattle.psd_base.specs.declared.outlet.Input.TheVariants as inputs
use Rattle.psd_base.specs.declared.stop.Stop.{Stop}
use Rattle.psd_base.specs.declared.stop.Stop.TheVariants as stops
use Rattle.psd_base.specs.Desk.{Told}
use Rattle.psd_base.specs.Event.{Happening, PortActs, AtFront, TimePasses, PanelMoves, Attaches, Detaches, Replies, Reports, Finishes, Seen}
use Rattle.capture_reader.specs.Capture.{header, records}
use Rattle.capture_reader.specs.Script.{is_line_feed}

-- Moves at the panel come from the script, and all else from the capture.
abbrev pub moves_panel : Happening → Bool
moves_panel (PortActs port side act) = false
moves_panel (AtFront TimePasses) = false
moves_panel (AtFront (PanelMoves move)) = true
moves_panel (AtFront (Attaches plug)) = false
moves_panel (AtFront (Detaches plug)) = false
moves_panel (AtFront (Replies plug life number status bytes)) = false
moves_panel (AtFront (Reports plug interface bytes)) = false
moves_panel (AtFront (Finishes life number status bytes)) = false

-- whether an event comes from this input
abbrev pub is_from : Input → Seen → Bool
is_from inputs.Rules event = false
is_from inputs.Capture event = not (moves_panel event.happening)
is_from inputs.Script event = moves_panel event.happening

-- The shortest part from the front that holds so many events of an input. It ends with one of them, and without any it is empty.
unfoldable pub shortest : Input → ℕ → List Seen → List Seen
shortest input zero events = []
shortest input (suc count) [] = []
shortest input (suc count) (event ∷ events) = event ∷ (if is_from input event then shortest input count events else shortest input (suc count) events)

-- how many whole records a capture has that begins with these bytes, or consists of them
unfoldable pub whole_records : List ℕ → ℕ
whole_records bytes =
    elim (header bytes) [
      | Ok ports ↦ length (records ports 0 8 0 (drop 8 bytes)).events
      | Err stop ↦ 0
    ]

-- how many lines end with a line feed
unfoldable pub whole_lines : List ℕ → ℕ
whole_lines bytes = count_by is_line_feed bytes

-- how many events, one or none

abbrev pub waiting : Option Seen → ℕ
waiting None = 0
waiting (Some event) = 1

abbrev pub given_from : Input → Option Seen → ℕ
given_from input None = 0
given_from input (Some event) = if is_from input event then 1 else 0

-- Bytes of an input were taken: they stood in front of what is left. Of the whole records, or lines, that there were in what was
-- held, these bytes, and any further ones, so many were given, and the others are in what is held and the further ones. Where the
-- end of the input was met nothing can come behind it, and nothing is said.
pub record Took (before after : List ℕ → ℕ) (ended : Bool) (left left_after : Option (List ℕ)) (given : ℕ) : Type 0 where
  pub bytes : List ℕ
  pub left_is : left ≡ option_map (λ rest. bytes ++ rest) left_after
  pub counted : ended ≡ false → (more : List ℕ) → before (bytes ++ more) ≡ after more + given

-- the bytes that were taken of an input hold nothing whole
pub record TookNone (whole : List ℕ → ℕ) (left left_after : Option (List ℕ)) : Type 0 where
  pub bytes : List ℕ
  pub left_is : left ≡ option_map (λ rest. bytes ++ rest) left_after
  pub none : whole bytes ≡ 0

-- a read that failed comes before anything whole was taken of its input
abbrev pub FailsFirst : (List ℕ → ℕ) → (List ℕ → ℕ) → Told → Told → Stop → Type 0
FailsFirst records_in lines_in told told_after (stops.ReadFault inputs.Rules) = Unit {0}
FailsFirst records_in lines_in told told_after (stops.ReadFault inputs.Capture) = TookNone records_in (told.left inputs.Capture) (told_after.left inputs.Capture)
FailsFirst records_in lines_in told told_after (stops.ReadFault inputs.Script) = TookNone lines_in (told.left inputs.Script) (told_after.left inputs.Script)
FailsFirst records_in lines_in told told_after stops.Usage = Unit {0}
FailsFirst records_in lines_in told told_after (stops.Rules why) = Unit {0}
FailsFirst records_in lines_in told told_after (stops.Capture offset why) = Unit {0}
FailsFirst records_in lines_in told told_after (stops.Script line why) = Unit {0}
FailsFirst records_in lines_in told told_after stops.TooLong = Unit {0}
FailsFirst records_in lines_in told told_after (stops.WriteFault outlet) = Unit {0}
FailsFirst records_in lines_in told told_after stops.OutOfMemory = Unit {0}

-- Behind this event one looks on in its input alone, and at the beginning in none.
abbrev pub LooksAt : Option Seen → Input → Type 0
LooksAt None input = ⊥
LooksAt (Some event) input = is_from input event ≡ true

-- a read that failed comes behind an event of its input
abbrev pub FailsBehind : Option Seen → Stop → Type 0
FailsBehind given (stops.ReadFault input) = IsSomeAnd given (λ event. is_from input event ≡ true)
FailsBehind given stops.Usage = Unit {0}
FailsBehind given (stops.Rules why) = Unit {0}
FailsBehind given (stops.Capture offset why) = Unit {0}
FailsBehind given (stops.Script line why) = Unit {0}
FailsBehind given stops.TooLong = Unit {0}
FailsBehind given (stops.WriteFault outlet) = Unit {0}
FailsBehind given stops.OutOfMemory = Unit {0}
