-- How long the line of a port is.
use Rattle.std.proofs.Common.{ℕ, ◌^◌, ◌<◌, ◌≤◌, List, [], ◌∷◌, length, Bool, true, false, arith}
use Rattle.std.specs.Fmt.{decimal}
use Rattle.std.proofs.lemmas.Fmt.{length-decimal-le}
use Rattle.std.proofs.lemmas.List.{length-append}
use Rattle.hex.proofs.HexLemmas.{length-encode_with}
use Rattle.hex.specs.Hex.{lower_digits}
use Rattle.psd_base.specs.Setup.{setup_bytes}
use Rattle.psd_base.specs.declared.act.Act.{Act}
use Rattle.psd_base.specs.declared.act.Act.TheVariants as act
use Rattle.psd_base.specs.declared.act.Answer.{Answer}
use Rattle.psd_base.specs.declared.act.Answer.TheVariants as answer
use Rattle.psd_base.specs.declared.act.Side.{Side}
use Rattle.psd_base.specs.declared.act.Side.TheVariants.{Km, Ua}
use Rattle.psd_base.specs.declared.line.Line.{Line}
use Rattle.port_transcript.specs.declared.port.TheConstants.{PORT_LINE_SIZE}
use Rattle.port_transcript.specs.PortLine.{IsAct, IsAnswer, IsLine, IsPacket, act_text, answer_text, line_text, side_text}
use Rattle.port_transcript.specs.Text.{bytes_text, flag_text}

-- a number of one byte has at most three digits
pub byte_digits : (n : ℕ) → n < 2 ^ 8 → length (decimal n) ≤ 3
byte_digits n small = length-decimal-le 3 n (omega arith) (omega arith) (omega arith)

pub length-flag_text : (flag : Bool) → length (flag_text flag) ≤ 1
length-flag_text false = omega arith
length-flag_text true = omega arith

pub length-bytes_text-le : (bytes : List ℕ) → IsPacket bytes → length (bytes_text bytes) ≤ 128
length-bytes_text-le [] is = omega arith
length-bytes_text-le (byte ∷ bytes) is = omega (arith, length-encode_with lower_digits (byte ∷ bytes), is.size)

length-side_text : (side : Side) → length (side_text side) ≤ 2
unfolding side_text
length-side_text Km = omega arith
length-side_text Ua = omega arith

length-act_text-le : (one : Act) → IsAct one → length (act_text one) ≤ 142
unfolding act_text
length-act_text-le act.Reset is = omega arith
length-act_text-le (act.Setup address setup) is =
    simp length-append (omega (arith, byte_digits address is.0, length-encode_with lower_digits (setup_bytes setup)))
length-act_text-le (act.Out address endpoint toggle bytes) is =
    simp length-append (omega (arith, byte_digits address is.0, byte_digits endpoint is.1, length-flag_text toggle, length-bytes_text-le bytes is.2))
length-act_text-le (act.In address endpoint acked) is =
    simp length-append (omega (arith, byte_digits address is.0, byte_digits endpoint is.1, length-flag_text acked))

length-answer_text-le : (one : Answer) → IsAnswer one → length (answer_text one) ≤ 135
unfolding answer_text
length-answer_text-le answer.Ack is = omega arith
length-answer_text-le answer.Nak is = omega arith
length-answer_text-le answer.Stall is = omega arith
length-answer_text-le answer.Silent is = omega arith
length-answer_text-le (answer.Data toggle bytes) is =
    simp length-append (omega (arith, length-flag_text toggle, length-bytes_text-le bytes is))

-- no line is longer than the bound
pub length-line_text-le : (line : Line) → IsLine line → length (line_text line) ≤ PORT_LINE_SIZE
unfolding line_text
length-line_text-le line is =
    let tick : length (decimal line.tick) ≤ 10 = length-decimal-le 10 line.tick (omega arith) (omega (arith, is.tick)) (omega (arith, is.tick)) in
    simp length-append (omega (arith, tick, length-side_text line.side, length-act_text-le line.act is.act, length-answer_text-le line.answer is.answer))

-- no line is empty: it has its line feed
pub length-line_text-pos : (line : Line) → 0 < length (line_text line)
unfolding line_text
length-line_text-pos line = simp length-append (omega arith)
