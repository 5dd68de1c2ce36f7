-- A key lies among the ranges that are left.
use Rattle.std.proofs.Common.{◌≡◌, drop}
use Rattle.std.specs.List.{list_any}
use Rattle.hid_report.specs.Elements.{holds_key}
use Rattle.hid_report.proofs.usage.lists_key.Given as goal

abbrev pub invariant-loop-span : goal.invariant-loop-span
invariant-loop-span l = list_any holds_key l.spans ≡ list_any holds_key (drop l.span-index l.spans)
