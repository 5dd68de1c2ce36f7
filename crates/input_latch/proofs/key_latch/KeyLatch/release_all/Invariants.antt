-- The keys before the next one are done.
use Rattle.std.proofs.Common.{◌≡◌, ◌+◌, ◌-◌, ◌≤◌, map}
use Rattle.psd_base.specs.KeySet.{keys_from}
use Rattle.input_latch.specs.declared.key_latch.KeyChange.TheVariants.{Release}
use Rattle.input_latch.specs.KeyClass.{first_of, keys_of}
use Rattle.input_latch.specs.KeySteps.{key_state, steps_of}
use Rattle.input_latch.proofs.key_latch.KeyLatch.release_all.Given as goal

abbrev pub invariant-loop-usage : goal.invariant-loop-usage
invariant-loop-usage l = record {
  steps : steps_of (key_state l.initial.self l.initial.offered) (map Release (keys_of l.fn.class l.keys)) ≡ steps_of (key_state l.self l.offered) (map Release (keys_from l.keys l.next (l.last + 1 - l.next)));
  from_first : first_of l.fn.class ≤ l.next;
  to_last : l.next ≤ l.last + 1;
  few : l.offered.taken + l.offered.refused + first_of l.fn.class ≤ l.initial.offered.taken + l.initial.offered.refused + l.next;
}

abbrev pub decreases-loop-usage : goal.decreases-loop-usage
decreases-loop-usage l = l.last + 1 - l.next
