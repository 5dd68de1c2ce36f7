-- The keys of the elements that are left are still to be put into the set.
use Rattle.std.proofs.Common.{◌≡◌, ◌-◌}
use Rattle.hid_report.specs.Elements.{down_from}
use Rattle.hid_report.specs.Keys.{press_all}
use Rattle.hid_report.proofs.field.Field.press.Given as goal

abbrev pub invariant-loop-j : goal.invariant-loop-j
invariant-loop-j l =
    press_all l.initial.keys (down_from l.self l.numbered l.report 0 l.self.count)
    ≡ press_all l.keys (down_from l.self l.numbered l.report l.j (l.self.count - l.j))
