-- The places that are left show the keys that are left.
use Rattle.std.proofs.Common.{◌≡◌, [], ◌-◌, ◌≤◌, ◌++◌, length, take, drop}
use Rattle.psd_base.specs.KeySet.{keys_from}
use Rattle.emulated_keyboard.specs.Report.{filled, key_report}
use Rattle.emulated_keyboard.proofs.report.report_of.Given as goal

abbrev pub invariant-places : goal.invariant-places
invariant-places l = record {
  shown : key_report l.keys ≡ take l.place l.report ++ filled (8 - l.place) (keys_from l.keys l.next (165 - l.next));
  empty : drop l.place l.report ≡ filled (8 - l.place) [];
  size : length l.report ≡ 8;
  to_last : l.next ≤ 165;
}
