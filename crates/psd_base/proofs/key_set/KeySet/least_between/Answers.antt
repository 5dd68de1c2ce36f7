-- The lowest bit of the first word that has one is the next key.
use Rattle.std.proofs.Common.{◌+◌, ◌*◌, arith}
use Rattle.psd_base.proofs.KeyWordLemmas.{next_in_first, none_in_first, next_in_later, next-none, next-some, next_nowhere}
use Rattle.psd_base.proofs.key_set.KeySet.least_between.Goals as goal

pub returns-in-Some-clause-none : goal.returns-in-Some-clause-none
returns-in-Some-clause-none c =
    rw c.up_to.ensures
    (next-none c.self.inside.words c.args.self.now c.args.first c.args.last (c.args.first + c.in-Some.bit) c.self.view_is (omega arith)
    (next_in_first c.self.inside.words c.args.first c.self.invariant c.in-Some.bit c.in-Some.ensures.some))

pub returns-in-Some-clause-some : goal.returns-in-Some-clause-some
returns-in-Some-clause-some c =
    rw c.up_to.ensures
    (next-some c.self.inside.words c.args.self.now c.args.first c.args.last (c.args.first + c.in-Some.bit) c.self.view_is (omega arith)
    (next_in_first c.self.inside.words c.args.first c.self.invariant c.in-Some.bit c.in-Some.ensures.some))

pub loop-place-init : goal.loop-place-init
loop-place-init c = none_in_first c.self.inside.words c.args.first c.self.invariant c.in-None.ensures.none

pub returns-in-Some-lowest-clause-none : goal.returns-in-Some-lowest-clause-none
returns-in-Some-lowest-clause-none c =
    rw c.up_to-in-Some-lowest.ensures
    (next-none c.self.inside.words c.args.self.now c.args.first c.args.last (64 * c.loop-place.place + c.in-Some-lowest.bit) c.self.view_is (omega arith)
    (next_in_later c.self.inside.words c.args.first c.self.invariant c.loop-place.place c.loop-place.invariant c.in-Some-lowest.bit (omega arith) c.in-Some-lowest.ensures.some))

pub returns-in-Some-lowest-clause-some : goal.returns-in-Some-lowest-clause-some
returns-in-Some-lowest-clause-some c =
    rw c.up_to-in-Some-lowest.ensures
    (next-some c.self.inside.words c.args.self.now c.args.first c.args.last (64 * c.loop-place.place + c.in-Some-lowest.bit) c.self.view_is (omega arith)
    (next_in_later c.self.inside.words c.args.first c.self.invariant c.loop-place.place c.loop-place.invariant c.in-Some-lowest.bit (omega arith) c.in-Some-lowest.ensures.some))

pub returns-clause-none : goal.returns-clause-none
returns-clause-none c =
    next_nowhere c.self.inside.words c.args.self.now c.args.first c.args.last c.self.view_is (omega arith)
    (λ usage low high. c.loop-place.invariant usage low (omega arith))
