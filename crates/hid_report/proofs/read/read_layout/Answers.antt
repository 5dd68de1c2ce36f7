-- The pass, item by item, and its two ends.
use Rattle.std.proofs.Common.{arith, Ok, ap, ◌∙◌}
use Rattle.hid_report.proofs.LayoutLaws.{reached-start, slice-from, reached-more, refused, open-at-end, read-whole}
use Rattle.hid_report.proofs.read.read_layout.Goals as goal

pub loop-at-init : goal.loop-at-init
loop-at-init c = reached-start c.args.bytes.now c.new-pass.result c.new-pass.ensures

pub loop-at-preserved : goal.loop-at-preserved
loop-at-preserved c =
    let r = c.loop-at.invariant in
    reached-more c.args.bytes.now c.loop-at.at c.in-Ok.size c.loop-at.pass c.take_first.new.self r c.loop-at-test.true
    _ (slice-from c.args.bytes.now c.loop-at.at) (c.in-Ok.ensures.ok r.past r.stands)

pub returns-in-Err : goal.returns-in-Err
returns-in-Err c =
    let r = c.loop-at.invariant in
    refused c.args.bytes.now c.loop-at.at c.loop-at.pass r c.in-Err.why c.loop-at-test.true
    _ (slice-from c.args.bytes.now c.loop-at.at) (c.in-Err.ensures.err r.past r.stands)

pub returns-then-pass-gt0 : goal.returns-then-pass-gt0
returns-then-pass-gt0 c =
    open-at-end c.args.bytes.now c.loop-at.at c.loop-at.pass c.loop-at.invariant c.loop-at-test.false c.if-pass-gt0.true

pub returns : goal.returns
returns c =
    let r = c.loop-at.invariant in
    ap Ok (c.of.ensures r.past r.stands)
    ∙ read-whole c.args.bytes.now c.loop-at.at c.loop-at.pass r c.loop-at-test.false (omega arith)
