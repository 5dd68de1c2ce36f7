-- What is looked for lies among the ranges that are left.
use Rattle.std.proofs.Common.{◌≡◌, drop}
use Rattle.hid_report.specs.Elements.{usage_at}
use Rattle.hid_report.proofs.usage.nth_usage.Given as goal

abbrev pub invariant-loop-span : goal.invariant-loop-span
invariant-loop-span l = usage_at l.spans l.n ≡ usage_at (drop l.span-index l.spans) l.left
