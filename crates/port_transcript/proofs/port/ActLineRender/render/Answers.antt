-- A line ends behind its text, and its text is no longer than a line.
use Rattle.std.proofs.Common.{arith}
use Rattle.port_transcript.specs.PortLine.{line_of, line_text}
use Rattle.port_transcript.proofs.Rendering.{end_of}
use Rattle.port_transcript.proofs.port.ActLineRender.render.Goals as goal

pub returns-clause-end : goal.returns-clause-end
returns-clause-end c =
    end_of c.put.new.into c.args.into.now (line_text (line_of c.args.self.now)) c.args.at c.put.result c.put.ensures.items (omega (arith, c.requires)) (omega (arith, c.requires, c.put.ensures.end, c.put.ensures.len))

pub returns-clause-most : goal.returns-clause-most
returns-clause-most c = omega (arith, c.put.ensures.end, returns-clause-end c)
