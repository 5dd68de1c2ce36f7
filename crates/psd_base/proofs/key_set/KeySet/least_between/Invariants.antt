-- No key stands from the first usage on in the words before this one.
use Rattle.std.proofs.Common.{◌≡◌, ℕ, ◌*◌, ◌<◌, ◌≤◌, false}
use Rattle.psd_base.specs.KeyWords.{flag_in}
use Rattle.psd_base.proofs.key_set.KeySet.least_between.Given as goal

abbrev pub invariant-loop-place : goal.invariant-loop-place
invariant-loop-place l = (usage : ℕ) → l.first ≤ usage → usage < 64 * l.place → flag_in l.self-inside.words usage ≡ false
