-- The first element of the usage is among those that are left.
use Rattle.std.proofs.Common.{◌≡◌, ◌-◌}
use Rattle.hid_report.specs.Pointer.{find_element}
use Rattle.hid_report.proofs.field.Field.find_element.Given as goal

abbrev pub invariant-loop-j : goal.invariant-loop-j
invariant-loop-j l =
    find_element l.wanted l.self.spans.items 0 l.self.count
    ≡ find_element l.wanted l.self.spans.items l.j (l.self.count - l.j)
