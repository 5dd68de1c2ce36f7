-- A rollover usage lies in the fields that are left, and their keys are still to be put into the set.
use Rattle.std.proofs.Common.{◌≡◌, drop}
use Rattle.std.specs.List.{list_any}
use Rattle.psd_base.specs.KeySet.{no_keys}
use Rattle.hid_report.specs.Keys.{press_all, down_usages, rolls_over_for}
use Rattle.hid_report.proofs.layout.Layout.pressed.Given as goal

abbrev pub invariant-loop-field : goal.invariant-loop-field
invariant-loop-field l = record {
  rollover : list_any (rolls_over_for l.id l.numbered l.report) l.field-items
      ≡ list_any (rolls_over_for l.id l.numbered l.report) (drop l.field-index l.field-items);
  keys : press_all no_keys (down_usages l.id l.numbered l.report l.field-items)
      ≡ press_all l.keys (down_usages l.id l.numbered l.report (drop l.field-index l.field-items));
}
