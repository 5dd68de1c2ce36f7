-- The descriptors are taken in turn until one has a fault or none is left.
use Rattle.std.proofs.Common.{sym, subst, arith, List, ℕ, length}
use Rattle.std.proofs.lemmas.Bool.{eqb-true, eqb-false}
use Rattle.std.proofs.lemmas.List.{nil_from_length}
use Rattle.usb_descriptor.specs.Descriptor.{front_of}
use Rattle.usb_descriptor.proofs.Cuts.{shorter}
use Rattle.usb_descriptor.proofs.Walks.{Walked, walked_none, walked_more, walked_fault, walked_all}
use Rattle.usb_descriptor.proofs.config.tally_of.Goals as goal

pub loop-rest-init : goal.loop-rest-init
loop-rest-init c = walked_none c.args.first.now c.args.others.now c.new-tally.result (c.new-tally.ensures c.args.first.now c.requires.kind)

pub loop-rest-preserved : goal.loop-rest-preserved
loop-rest-preserved c =
    let walked = c.loop-rest.invariant in
    walked_more c.args.first.now c.args.others.now c.loop-rest.rest.now c.in-Ok.after.now c.loop-rest.tally c.add_first.new.self walked
    (c.in-Ok.ensures walked.earlier walked.tallies)

pub loop-rest-smaller : goal.loop-rest-smaller
loop-rest-smaller c =
    let walked = c.loop-rest.invariant in
    shorter c.loop-rest.rest.now (front_of c.loop-rest.rest.now) c.in-Ok.after.now (c.in-Ok.ensures walked.earlier walked.tallies).split

pub returns-in-Err : goal.returns-in-Err
returns-in-Err c =
    let walked = c.loop-rest.invariant in
    walked_fault c.args.first.now c.args.others.now c.loop-rest.rest.now c.loop-rest.tally c.in-Err.why walked (omega (arith, eqb-false _ 0 (sym c.loop-rest-test.ensures)))
    (c.in-Err.ensures walked.earlier walked.tallies)

pub returns : goal.returns
returns c =
    let rest = c.loop-rest.rest.now in
    let P : List ℕ → Type 0 = λ r. Walked c.args.first.now c.args.others.now r c.loop-rest.tally in
    walked_all c.args.first.now c.args.others.now c.loop-rest.tally
    (subst P (nil_from_length rest (eqb-true (length rest) 0 (sym c.loop-rest-test.ensures))) c.loop-rest.invariant)
