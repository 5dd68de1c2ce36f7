-- How the words of a port's line are read. A line is read only where its own text is the bytes, so these
-- definitions may take more than line texts.
use Rattle.std.specs.Prelude.{ℕ, ◌/◌, ◌==◌, ◌||◌, nat_lt, Bool, true, false, if◌then◌else◌, List, [], length, Option, Some, None, codes}
use Rattle.std.specs.List.{after_first, before_first}
use Rattle.std.specs.Result.{result_ok}
use Rattle.std.specs.Str.{bytes_eq}
use Rattle.hex.specs.Hex.{decode_sized}
use Rattle.psd_base.specs.Reading.{◌>>=◌, number_in}
use Rattle.psd_base.specs.Setup.{setup_of}
use Rattle.psd_base.specs.declared.act.Act.{Act}
use Rattle.psd_base.specs.declared.act.Act.TheVariants as act
use Rattle.psd_base.specs.declared.act.Answer.{Answer}
use Rattle.psd_base.specs.declared.act.Answer.TheVariants as answer
use Rattle.psd_base.specs.declared.act.Side.{Side}
use Rattle.psd_base.specs.declared.act.Side.TheVariants.{Km, Ua}
use Rattle.psd_base.specs.declared.line.Line.{Line}
use Rattle.psd_base.specs.declared.packet.TheConstants.{PACKET_SIZE}
use Rattle.psd_base.specs.declared.setup.Setup.{Setup}

-- a blank or a line feed ends a word
abbrev pub is_break : ℕ → Bool
is_break byte = byte == 32 || byte == 10

unfoldable pub first_word : List ℕ → List ℕ
first_word bytes = before_first is_break bytes

unfoldable pub other_words : List ℕ → List ℕ
other_words bytes = after_first is_break bytes

-- a number of one byte
unfoldable pub byte_of : List ℕ → Option ℕ
byte_of word = do
  number ← number_in word
  if nat_lt number 256 then Some number else None

unfoldable pub flag_of : List ℕ → Option Bool
flag_of word = if bytes_eq word (codes "1") then Some true else if bytes_eq word (codes "0") then Some false else None

unfoldable pub side_of : List ℕ → Option Side
side_of word = if bytes_eq word (codes "KM") then Some Km else if bytes_eq word (codes "UA") then Some Ua else None

unfoldable pub packet_of : List ℕ → Option (List ℕ)
packet_of word = if bytes_eq word (codes "-") then Some []
    else if nat_lt PACKET_SIZE (length word / 2) then None
    else result_ok (decode_sized word (length word / 2))

unfoldable pub setup_in : List ℕ → Option Setup
setup_in word = do
  bytes ← result_ok (decode_sized word 8)
  Some (setup_of bytes)

-- an act without its name, and the bytes behind it

unfoldable pub setup_at : List ℕ → Option (Act × List ℕ)
setup_at bytes = do
  address ← byte_of (first_word bytes)
  setup ← setup_in (first_word (other_words bytes))
  Some (act.Setup address setup, other_words (other_words bytes))

unfoldable pub out_at : List ℕ → Option (Act × List ℕ)
out_at bytes = do
  address ← byte_of (first_word bytes)
  endpoint ← byte_of (first_word (other_words bytes))
  toggle ← flag_of (first_word (other_words (other_words bytes)))
  packet ← packet_of (first_word (other_words (other_words (other_words bytes))))
  Some (act.Out address endpoint toggle packet, other_words (other_words (other_words (other_words bytes))))

unfoldable pub in_at : List ℕ → Option (Act × List ℕ)
in_at bytes = do
  address ← byte_of (first_word bytes)
  endpoint ← byte_of (first_word (other_words bytes))
  acked ← flag_of (first_word (other_words (other_words bytes)))
  Some (act.In address endpoint acked, other_words (other_words (other_words bytes)))

unfoldable pub act_at : List ℕ → Option (Act × List ℕ)
act_at bytes = if bytes_eq (first_word bytes) (codes "RESET") then Some (act.Reset, other_words bytes)
    else if bytes_eq (first_word bytes) (codes "SETUP") then setup_at (other_words bytes)
    else if bytes_eq (first_word bytes) (codes "OUT") then out_at (other_words bytes)
    else if bytes_eq (first_word bytes) (codes "IN") then in_at (other_words bytes)
    else None

unfoldable pub data_in : List ℕ → Option Answer
data_in bytes = do
  toggle ← flag_of (first_word bytes)
  packet ← packet_of (first_word (other_words bytes))
  Some (answer.Data toggle packet)

unfoldable pub answer_in : List ℕ → Option Answer
answer_in bytes = if bytes_eq (first_word bytes) (codes "ACK") then Some answer.Ack
    else if bytes_eq (first_word bytes) (codes "NAK") then Some answer.Nak
    else if bytes_eq (first_word bytes) (codes "STALL") then Some answer.Stall
    else if bytes_eq (first_word bytes) (codes "SILENT") then Some answer.Silent
    else if bytes_eq (first_word bytes) (codes "DATA") then data_in (other_words bytes)
    else None

-- the word between act and answer is passed over
unfoldable pub line_in : List ℕ → Option Line
line_in bytes = do
  tick ← number_in (first_word bytes)
  side ← side_of (first_word (other_words bytes))
  act ← act_at (other_words (other_words bytes))
  answer ← answer_in (other_words act.1)
  Some (record { tick = tick; side = side; act = act.0; answer = answer })
