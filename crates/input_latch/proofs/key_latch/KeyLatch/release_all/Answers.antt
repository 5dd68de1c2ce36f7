-- One key after another is offered.
use Rattle.std.proofs.Common.{◌+◌, ◌-◌, arith}
use Rattle.psd_base.specs.KeySet.{keys_from}
use Rattle.input_latch.specs.declared.key_latch.KeyChange.TheVariants.{Release}
use Rattle.input_latch.specs.KeyClass.{keys_of}
use Rattle.input_latch.specs.KeySteps.{key_state}
use Rattle.input_latch.proofs.KeyLatchLaws.{next_step, no_step}
use Rattle.input_latch.proofs.key_latch.KeyLatch.release_all.Goals as goal

pub loop-usage-preserved : goal.loop-usage-preserved
loop-usage-preserved c = record {
  steps =
      next_step Release (key_state c.args.self.now c.args.offered.now) (key_state c.loop-usage.self c.loop-usage.offered) (key_state c.release.new.self c.release.new.offered)
      (keys_of c.args.class c.args.keys.now) c.args.keys.now c.loop-usage.next c.last-last.result c.in-Some.usage
      c.loop-usage.invariant.steps c.in-Some.ensures.some c.release.ensures.step;
  from_first = omega (arith, c.in-Some.ensures.inside, c.loop-usage.invariant.from_first);
  to_last = omega (arith, c.in-Some.ensures.inside);
  few = omega (arith, c.in-Some.ensures.inside, c.release.ensures.one, c.loop-usage.invariant.few);
}

pub returns-clause-step : goal.returns-clause-step
returns-clause-step c =
    no_step Release (key_state c.args.self.now c.args.offered.now) (key_state c.loop-usage.self c.loop-usage.offered)
    (keys_of c.args.class c.args.keys.now) (keys_from c.args.keys.now c.loop-usage.next (c.last-last.result + 1 - c.loop-usage.next))
    c.loop-usage.invariant.steps c.in_default.ensures.none
