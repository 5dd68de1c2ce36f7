-- The spans of the ranges so far.
use Rattle.std.proofs.Common.{◌≡◌, map, take}
use Rattle.hid_report.specs.Usages.{span_of}
use Rattle.hid_report.proofs.usage.spans_of.Given as goal

abbrev pub invariant-loop-range : goal.invariant-loop-range
invariant-loop-range l = l.spans.items ≡ map (span_of l.page) (take l.range-index l.ranges)
