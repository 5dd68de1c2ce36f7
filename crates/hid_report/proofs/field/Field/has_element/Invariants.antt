-- A wanted usage lies among the elements that are left.
use Rattle.std.proofs.Common.{◌≡◌, ◌-◌}
use Rattle.std.specs.List.{list_any}
use Rattle.hid_report.specs.Elements.{element_usages}
use Rattle.hid_report.specs.Wanted.{is_wanted}
use Rattle.hid_report.proofs.field.Field.has_element.Given as goal

abbrev pub invariant-loop-j : goal.invariant-loop-j
invariant-loop-j l =
    list_any (is_wanted l.wanted l.self) (element_usages l.self.spans.items 0 l.self.count)
    ≡ list_any (is_wanted l.wanted l.self) (element_usages l.self.spans.items l.j (l.self.count - l.j))
