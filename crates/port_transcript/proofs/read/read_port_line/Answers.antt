-- The words of a line's text give that line, whose text is again the bytes.
use Rattle.std.proofs.Common.{◌≡◌, ℕ, true, false, List, Some, sym, ap, ◌∙◌}
use Rattle.psd_base.specs.declared.line.Line.{Line}
use Rattle.port_transcript.specs.PortLine.{IsLine, line_text}
use Rattle.port_transcript.specs.ReadBack.{line_in}
use Rattle.port_transcript.proofs.ReadRanges.{line_in-fits}
use Rattle.port_transcript.proofs.ReadingLaws.{line_in-line_text, some_same}
use Rattle.port_transcript.proofs.read.read_port_line.Goals as goal

-- what the words of these bytes give, where they are a line's text
given : (bytes : List ℕ) (line : Line) → IsLine line → line_text line ≡ bytes → line_in bytes ≡ Some line
given bytes line is same = ap line_in (sym same) ∙ line_in-line_text line is

true_not_false : true ≡ false → ⊥
true_not_false same = cc

pub returns-in_err-line-clause-only : goal.returns-in_err-line-clause-only
returns-in_err-line-clause-only c line is same =
    c.from_residual.ensures ∙ (c.in_err-line.ensures ∙ given c.args.bytes.now line is same)

pub returns-then-is_text_of-clause-only : goal.returns-then-is_text_of-clause-only
returns-then-is_text_of-clause-only c line is same = c.in_ok-line.ensures ∙ given c.args.bytes.now line is same

pub returns-then-is_text_of-clause-in_range : goal.returns-then-is_text_of-clause-in_range
returns-then-is_text_of-clause-in_range c = line_in-fits c.args.bytes.now c.in_ok-line.line (sym c.in_ok-line.ensures)

pub returns-else-is_text_of-clause-only : goal.returns-else-is_text_of-clause-only
returns-else-is_text_of-clause-only c line is same =
    let read = some_same c.in_ok-line.line line (c.in_ok-line.ensures ∙ given c.args.bytes.now line is same) in
    absurd (true_not_false (sym (c.is_text_of.ensures.1 (ap line_text read ∙ same)) ∙ c.if-is_text_of.false))
