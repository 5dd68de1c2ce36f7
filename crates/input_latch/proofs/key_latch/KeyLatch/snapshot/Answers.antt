-- All changes of the set are offered, in their order.
use Rattle.std.proofs.Common.{◌≡◌, ap, ◌∙◌}
use Rattle.std.specs.Cmp.{booleans_Decides}
use Rattle.std.proofs.lemmas.Slice.Eq.{slice_eq-Decides}
use mathlib.Core.Bool.{beq}
use Rattle.input_latch.specs.KeyHistory.{changes_between}
use Rattle.input_latch.specs.KeyLatch.{key_latch_of}
use Rattle.input_latch.specs.KeyLatchStands.{KeyLatchValue}
use Rattle.input_latch.specs.KeySteps.{key_state, steps_of}
use Rattle.input_latch.specs.Verdict.{nothing_offered}
use Rattle.input_latch.proofs.KeyLatchLaws.{snapshot_steps, stands_again, counts_again, stands_shown, counts_shown}
use Rattle.input_latch.proofs.key_latch.KeyLatch.snapshot.Goals as goal

same_set : (c : goal.Then-eq) → c.args.keys.now ≡ c.args.self.now.last
same_set c =
    (slice_eq-Decides {E = beq} booleans_Decides c.args.keys.now c.self.inside.last c.eq.result c.eq.ensures).0 c.if-eq.true
    ∙ ap (λ (latch : KeyLatchValue). latch.last) c.self.view_is

pub returns-then-eq-clause-stands : goal.returns-then-eq-clause-stands
returns-then-eq-clause-stands c = λ past stands. stands_again c.args.self.now past c.args.keys.now stands (same_set c)

pub returns-then-eq-clause-counts : goal.returns-then-eq-clause-counts
returns-then-eq-clause-counts c = λ past stands. counts_again c.args.self.now past c.args.keys.now stands (same_set c)

all_offered : (c : goal.After-self-2-1)
    → key_state (key_latch_of c.self-2.inside) c.press_all-2.new.offered ≡ steps_of (key_state c.args.self.now nothing_offered) (changes_between c.args.self.now.last c.args.keys.now)
all_offered c =
    ap (λ (latch : KeyLatchValue). key_state latch c.press_all-2.new.offered) c.self-2.view_is
    ∙ snapshot_steps c.args.self.now c.args.keys.now c.without-gone.result c.without-come.result c.self.inside.last
    (key_state c.release_all.new.self c.release_all.new.offered) (key_state c.release_all-2.new.self c.release_all-2.new.offered)
    (key_state c.press_all.new.self c.press_all.new.offered) (key_state c.press_all-2.new.self c.press_all-2.new.offered)
    c.without-gone.ensures c.without-come.ensures (ap (λ (latch : KeyLatchValue). latch.last) c.self.view_is)
    c.release_all.ensures.step c.release_all-2.ensures.step c.press_all.ensures.step c.press_all-2.ensures.step

pub returns-clause-stands : goal.returns-clause-stands
returns-clause-stands c = λ past stands.
    stands_shown c.args.self.now past stands c.args.keys.now (key_latch_of c.self-2.inside) c.press_all-2.new.offered (all_offered c) c.self-2.invariant.places

pub returns-clause-counts : goal.returns-clause-counts
returns-clause-counts c = λ past stands.
    counts_shown c.args.self.now past stands c.args.keys.now (key_latch_of c.self-2.inside) c.press_all-2.new.offered (all_offered c)
