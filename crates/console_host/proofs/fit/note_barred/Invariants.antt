-- The lines so far, and those that are left.
use Rattle.std.proofs.Common.{◌≡◌, ◌+◌, ◌≤◌, ◌==◌, ◌++◌, drop, length, map, filter}
use Rattle.console_host.specs.declared.order.TheConstants.{CONFIGURE}
use Rattle.console_host.specs.Fits.{Barred, barred_from, barred_note}
use Rattle.console_host.proofs.fit.note_barred.Given as goal

abbrev pub invariant-loop-fit : goal.invariant-loop-fit
invariant-loop-fit l = record {
  lines : l.notes.items ++ map (barred_note l.plug) (filter (λ (barred : Barred). barred.due == l.number) (barred_from l.answered (drop l.fit-index l.fits)))
      ≡ l.initial.notes.items ++ map (barred_note l.plug) (filter (λ (barred : Barred). barred.due == l.number) (barred_from CONFIGURE l.fits));
  few : l.answered ≤ CONFIGURE + l.fit-index;
  room : length l.notes.items ≤ 1 + l.fit-index;
}
