-- What the sets so far have, and then the others.
use Rattle.std.proofs.Common.{◌≡◌, drop}
use Rattle.psd_base.specs.KeySet.{no_keys}
use Rattle.console_plug.specs.Shown.{all_keys}
use Rattle.console_plug.proofs.shown_keys.all_keys.Given as goal

abbrev pub invariant-loop-set : goal.invariant-loop-set
invariant-loop-set l = all_keys l.keys (drop l.set-index l.sets) ≡ all_keys no_keys l.sets
