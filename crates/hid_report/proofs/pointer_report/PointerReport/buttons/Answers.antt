-- Buttons in a row are one number.
use Rattle.std.proofs.Common.{sym, ap, ◌∙◌}
use Rattle.hid_report.specs.Elements.{raw_bits}
use Rattle.hid_report.proofs.FlagLaws.{row-weights}
use Rattle.hid_report.proofs.pointer_report.PointerReport.buttons.Goals as goal

pub returns-in-Some-clause-value : goal.returns-in-Some-clause-value
returns-in-Some-clause-value c =
    let self = c.args.self.now in
    row-weights c.args.report.now c.in-Some.place c.number_at.result self.first self.second self.third self.fourth self.fifth
    (sym c.in-Some.is ∙ c.requires.row) (c.number_at.ensures.value ∙ ap (raw_bits c.args.report.now c.in-Some.place) c.new.ensures)
