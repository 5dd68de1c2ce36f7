-- The text of a line of a port's transcript.
use Rattle.std.specs.Prelude.{ℕ, ◌^◌, ◌<◌, ◌≤◌, List, ◌++◌, All, codes, length}
use Rattle.std.specs.Fmt.{decimal}
use Rattle.hex.specs.Hex.{encode_lower}
use Rattle.psd_base.specs.Setup.{setup_bytes}
use Rattle.psd_base.specs.declared.act.Act.{Act}
use Rattle.psd_base.specs.declared.act.Act.TheVariants as act
use Rattle.psd_base.specs.declared.act.Answer.{Answer}
use Rattle.psd_base.specs.declared.act.Answer.TheVariants as answer
use Rattle.psd_base.specs.declared.act.Side.{Side}
use Rattle.psd_base.specs.declared.act.Side.TheVariants.{Km, Ua}
use Rattle.psd_base.specs.declared.line.Line.{Line}
use Rattle.psd_base.specs.declared.packet.TheConstants.{PACKET_SIZE}
use Rattle.psd_base.specs.declared.setup.Setup.{Setup}
use Rattle.port_transcript.specs.declared.port.ActLine.{ActLine}
use Rattle.port_transcript.specs.Text.{bytes_text, flag_text}

unfoldable pub side_text : Side → List ℕ
side_text Km = codes "KM"
side_text Ua = codes "UA"

unfoldable pub act_text : Act → List ℕ
act_text act.Reset = codes "RESET"
act_text (act.Setup address setup) = codes "SETUP " ++ decimal address ++ codes " " ++ encode_lower (setup_bytes setup)
act_text (act.Out address endpoint toggle bytes) = codes "OUT " ++ decimal address ++ codes " " ++ decimal endpoint ++ codes " " ++ flag_text toggle ++ codes " " ++ bytes_text bytes
act_text (act.In address endpoint acked) = codes "IN " ++ decimal address ++ codes " " ++ decimal endpoint ++ codes " " ++ flag_text acked

unfoldable pub answer_text : Answer → List ℕ
answer_text answer.Ack = codes "ACK"
answer_text answer.Nak = codes "NAK"
answer_text answer.Stall = codes "STALL"
answer_text answer.Silent = codes "SILENT"
answer_text (answer.Data toggle bytes) = codes "DATA " ++ flag_text toggle ++ codes " " ++ bytes_text bytes

-- the line whose parts lie elsewhere
abbrev pub line_of : ActLine → Line
line_of line = record { tick = line.tick.now; side = line.side; act = line.act.now; answer = line.answer.now }

-- `TICK SIDE ACT -> ANSWER` and a line feed
unfoldable pub line_text : Line → List ℕ
line_text line = decimal line.tick ++ codes " " ++ side_text line.side ++ codes " " ++ act_text line.act ++ codes " -> " ++ answer_text line.answer ++ codes "\n"

-- the fields are in the ranges of their types

pub record IsPacket (bytes : List ℕ) : Type 0 where
  pub size : length bytes ≤ PACKET_SIZE
  pub bytes_fit : All (λ byte. byte < 2 ^ 8) bytes

pub record IsSetup (setup : Setup) : Type 0 where
  pub kind : setup.kind < 2 ^ 8
  pub request : setup.request < 2 ^ 8
  pub value : setup.value < 2 ^ 16
  pub index : setup.index < 2 ^ 16
  pub length_fits : setup.length < 2 ^ 16

abbrev pub IsAct : Act → Type 0
IsAct act.Reset = Unit {0}
IsAct (act.Setup address setup) = (address < 2 ^ 8) × IsSetup setup
IsAct (act.Out address endpoint toggle bytes) = (address < 2 ^ 8) × (endpoint < 2 ^ 8) × IsPacket bytes
IsAct (act.In address endpoint acked) = (address < 2 ^ 8) × (endpoint < 2 ^ 8)

abbrev pub IsAnswer : Answer → Type 0
IsAnswer answer.Ack = Unit {0}
IsAnswer answer.Nak = Unit {0}
IsAnswer answer.Stall = Unit {0}
IsAnswer answer.Silent = Unit {0}
IsAnswer (answer.Data toggle bytes) = IsPacket bytes

pub record IsLine (line : Line) : Type 0 where
  pub tick : line.tick < 2 ^ 32
  pub act : IsAct line.act
  pub answer : IsAnswer line.answer
