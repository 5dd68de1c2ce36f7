-- The last usage so far.
use Rattle.std.proofs.Common.{◌≡◌, drop, None}
use Rattle.hid_report.specs.Elements.{last_usage}
use Rattle.hid_report.proofs.usage.final_usage.Given as goal

abbrev pub invariant-loop-span : goal.invariant-loop-span
invariant-loop-span l = last_usage None l.spans ≡ last_usage l.last (drop l.span-index l.spans)
