-- The byte is the number of its bits.
use Rattle.std.proofs.Common.{rules, ◌∙◌, FitsSigned, w64}
use Rattle.std.proofs.lemmas.Int.{to_z-of_z}
use Rattle.hid_report.proofs.SourceLaws.{counted-byte}
use Rattle.hid_report.proofs.source.Source.counted_byte.Goals as goal

pub returns-clause-value : goal.returns-clause-value
returns-clause-value c =
    let low : FitsSigned w64 c.args.self.now.minimum = search rules in
    let high : FitsSigned w64 c.args.self.now.maximum = search rules in
    c.bounded.ensures.value
    ∙ counted-byte c.args.self.now c.args.report.now c.args.index c.new.result c.byte_at-byte.result _ _
    c.requires.size c.requires.place c.new.ensures (to_z-of_z w64 c.args.self.now.minimum low) (to_z-of_z w64 c.args.self.now.maximum high)
    c.byte_at-byte.ensures.value c.byte_at-byte.ensures.small
