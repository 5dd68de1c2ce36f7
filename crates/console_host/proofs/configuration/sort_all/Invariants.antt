-- The interfaces so far are sorted.
use Rattle.std.proofs.Common.{◌≡◌, ◌≤◌, ◌++◌, drop, length}
use Rattle.console_host.specs.Fits.{fits_in, misfits_in, settings}
use Rattle.console_host.proofs.configuration.sort_all.Given as goal

abbrev pub invariant-loop-i : goal.invariant-loop-i
invariant-loop-i l = record {
  fits : l.fitting.items ++ fits_in l.plug (drop l.i (settings l.config)) ≡ fits_in l.plug (settings l.config);
  misfits : l.notes.items ++ misfits_in l.plug (drop l.i (settings l.config)) ≡ misfits_in l.plug (settings l.config);
  few_fits : length l.fitting.items ≤ l.i;
  few_notes : length l.notes.items ≤ l.i;
}
