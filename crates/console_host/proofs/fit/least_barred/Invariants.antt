-- The least so far, and the rules that are left.
use Rattle.std.proofs.Common.{◌≡◌, drop}
use Rattle.console_host.specs.Fits.{barring_rules}
use Rattle.console_host.specs.Judging.{least_from}
use Rattle.console_host.proofs.fit.least_barred.Given as goal

abbrev pub invariant-loop-fit : goal.invariant-loop-fit
invariant-loop-fit l = least_from l.found (barring_rules (drop l.fit-index l.fits)) ≡ least_from l.initial.found (barring_rules l.fits)
