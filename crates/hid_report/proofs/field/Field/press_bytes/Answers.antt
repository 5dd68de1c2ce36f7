-- One element more, and the last one.
use Rattle.std.proofs.Common.{◌+◌, slice_index, refl, sym, ◌∙◌}
use Rattle.hid_report.specs.Elements.{is_rollover, down_from}
use Rattle.hid_report.specs.Keys.{press_all}
use Rattle.hid_report.specs.Arrays.{named_by}
use Rattle.hid_report.proofs.ElementLaws.{down-end, press-end}
use Rattle.hid_report.proofs.ArrayLaws.{byte-usage, pressed-more, passed-more, rolls-here}
use Rattle.hid_report.proofs.field.Field.press_bytes.Goals as goal

pub loop-j-preserved : goal.loop-j-preserved
loop-j-preserved c =
    let field = c.args.self.now in
    let numbered = c.args.numbered in
    let report = c.args.report.now in
    let j = c.loop-j.j in
    let byte = slice_index report (c.args.start + j) in
    let usage = byte-usage field numbered report c.args.start j byte c.requires.array c.requires.size c.requires.place refl c.press_byte.ensures.small in
    record {
      rollover = c.loop-j.invariant.rollover
          ∙ passed-more field numbered report j field.count (named_by field byte) c.loop-j-test.true usage
          (sym c.press_byte.ensures.rollover ∙ c.if-press_byte.false);
      keys = pressed-more (press_all c.args.keys.now (down_from field numbered report 0 field.count)) c.loop-j.keys c.press_byte.new.keys
          field numbered report j field.count (named_by field byte) c.loop-j-test.true usage c.loop-j.invariant.keys
          (c.press_byte.ensures.keys c.if-press_byte.false);
    }

pub returns-then-press_byte-clause-rollover : goal.returns-then-press_byte-clause-rollover
returns-then-press_byte-clause-rollover c =
    let field = c.args.self.now in
    let numbered = c.args.numbered in
    let report = c.args.report.now in
    let j = c.loop-j.j in
    let byte = slice_index report (c.args.start + j) in
    let usage = byte-usage field numbered report c.args.start j byte c.requires.array c.requires.size c.requires.place refl c.press_byte.ensures.small in
    sym (
    c.loop-j.invariant.rollover
    ∙ rolls-here field numbered report j field.count (named_by field byte) c.loop-j-test.true usage
    (sym c.press_byte.ensures.rollover ∙ c.if-press_byte.true)
    )

pub returns-clause-rollover : goal.returns-clause-rollover
returns-clause-rollover c =
    sym (
    c.loop-j.invariant.rollover
    ∙ down-end is_rollover c.args.self.now c.args.numbered c.args.report.now c.loop-j.j c.args.self.now.count c.loop-j-test.false
    )

pub returns-clause-keys : goal.returns-clause-keys
returns-clause-keys c = λ none.
    sym (
    c.loop-j.invariant.keys
    ∙ press-end c.loop-j.keys c.args.self.now c.args.numbered c.args.report.now c.loop-j.j c.args.self.now.count c.loop-j-test.false
    )
