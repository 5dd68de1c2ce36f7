-- The walk passes over what begins no interface, and counts the interfaces down.
use Rattle.std.proofs.Common.{refl, sym, ◌∙◌}
use Rattle.usb_descriptor.proofs.Cuts.{first_whole, rest_whole}
use Rattle.usb_descriptor.proofs.Walks.{some_bytes, reaches_passed, reaches_more, reached}
use Rattle.usb_descriptor.proofs.view.interface_from.Goals as goal

pub loop-descriptor-init : goal.loop-descriptor-init
loop-descriptor-init c = record { whole = c.requires.whole; within = c.requires.within; same = refl }

pub split_whole-requires : goal.split_whole-requires
split_whole-requires c =
    let h = c.loop-descriptor.invariant in
    first_whole c.loop-descriptor.rest.now (some_bytes c.loop-descriptor.rest.now c.loop-descriptor.left h.within) h.whole

pub loop-descriptor-preserved-then-not-begins_interface : goal.loop-descriptor-preserved-then-not-begins_interface
loop-descriptor-preserved-then-not-begins_interface c =
    reaches_passed c.args.bytes.now c.args.i c.loop-descriptor.rest.now c.loop-descriptor.left c.split_whole.result.0.now c.split_whole.result.1.now
    c.loop-descriptor.invariant c.split_whole.ensures (sym c.begins_interface.ensures ∙ c.if-not-begins_interface.true)

pub returns-then-left-eq0-clause-place : goal.returns-then-left-eq0-clause-place
returns-then-left-eq0-clause-place c =
    reached c.args.bytes.now c.args.i c.loop-descriptor.rest.now c.loop-descriptor.left c.split_whole.result.0.now c.split_whole.result.1.now
    c.loop-descriptor.invariant c.split_whole.ensures (sym c.begins_interface.ensures ∙ c.if-not-begins_interface.false) c.if-left-eq0.true

pub returns-then-left-eq0-clause-whole : goal.returns-then-left-eq0-clause-whole
returns-then-left-eq0-clause-whole c =
    rest_whole c.loop-descriptor.rest.now c.split_whole.result.0.now c.split_whole.result.1.now c.split_whole.ensures c.loop-descriptor.invariant.whole

pub loop-descriptor-preserved : goal.loop-descriptor-preserved
loop-descriptor-preserved c =
    reaches_more c.args.bytes.now c.args.i c.loop-descriptor.rest.now c.loop-descriptor.left c.split_whole.result.0.now c.split_whole.result.1.now
    c.loop-descriptor.invariant c.split_whole.ensures (sym c.begins_interface.ensures ∙ c.if-not-begins_interface.false) c.if-left-eq0.false
