-- The orders so far are answered, and none of them is the one that is sought.
use Rattle.std.proofs.Common.{◌≡◌, ◌+◌, ◌≤◌, ◌==◌, drop}
use Rattle.std.specs.List.{find}
use Rattle.console_host.specs.declared.fit.ReportAsk.{ReportAsk}
use Rattle.console_host.specs.declared.order.TheConstants.{CONFIGURE}
use Rattle.console_host.specs.Fits.{asks_from}
use Rattle.console_host.proofs.fit.ask_after.Given as goal

abbrev pub invariant-loop-fit : goal.invariant-loop-fit
invariant-loop-fit l = record {
  rest : find (λ (ask : ReportAsk). ask.number == l.number + 1) (asks_from l.answered (drop l.fit-index l.fits)) ≡ find (λ (ask : ReportAsk). ask.number == l.number + 1) (asks_from CONFIGURE l.fits);
  few : l.answered ≤ CONFIGURE + l.fit-index;
}
