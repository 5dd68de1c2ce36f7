-- One field more, and the last one.
use Rattle.std.proofs.Common.{sym, ◌∙◌}
use Rattle.psd_base.specs.KeySet.{no_keys}
use Rattle.hid_report.specs.Keys.{press_all, down_usages, rolls_over_for}
use Rattle.hid_report.proofs.ReportLaws.{none-rolls, field-pressed, all-pressed}
use Rattle.hid_report.proofs.layout.Layout.pressed.Goals as goal

pub loop-field-preserved : goal.loop-field-preserved
loop-field-preserved c =
    let numbered = c.is_numbered-numbered.result in
    let fields = c.fields-field-items.result.now in
    let no = sym c.press_for.ensures.rollover ∙ c.if-press_for.false in
    record {
      rollover = c.loop-field.invariant.rollover
          ∙ none-rolls (rolls_over_for c.args.id numbered c.args.report.now) fields c.loop-field.field-index c.field-item.result c.loop-field-test.true c.field-item.is no;
      keys = field-pressed (press_all no_keys (down_usages c.args.id numbered c.args.report.now fields)) c.loop-field.keys c.press_for.new.keys
          c.args.id numbered c.args.report.now fields c.loop-field.field-index c.field-item.result
          c.loop-field-test.true c.field-item.is c.loop-field.invariant.keys (c.press_for.ensures.keys c.if-press_for.false);
    }

pub returns : goal.returns
returns c =
    all-pressed c.args.id c.args.self.now c.args.report.now c.fields-field-items.result.now c.is_numbered-numbered.result c.loop-field.keys c.loop-field.field-index
    c.fields-field-items.ensures c.is_numbered-numbered.ensures c.loop-field-test.false c.loop-field.invariant.rollover c.loop-field.invariant.keys
