-- A rollover usage lies among the elements that are left, and their keys are still to be put into the set.
use Rattle.std.proofs.Common.{◌≡◌, ◌-◌}
use Rattle.std.specs.List.{list_any}
use Rattle.hid_report.specs.Elements.{down_from, is_rollover}
use Rattle.hid_report.specs.Keys.{press_all}
use Rattle.hid_report.proofs.field.Field.press_elements.Given as goal

abbrev pub invariant-loop-j : goal.invariant-loop-j
invariant-loop-j l = record {
  rollover : list_any is_rollover (down_from l.self l.numbered l.report 0 l.self.count)
      ≡ list_any is_rollover (down_from l.self l.numbered l.report l.j (l.self.count - l.j));
  keys : press_all l.initial.keys (down_from l.self l.numbered l.report 0 l.self.count)
      ≡ press_all l.keys (down_from l.self l.numbered l.report l.j (l.self.count - l.j));
}
