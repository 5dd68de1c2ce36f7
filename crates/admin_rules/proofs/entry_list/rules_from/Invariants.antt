-- The rules so far are those of the entries so far.
use Rattle.std.proofs.Common.{◌≡◌, ◌≤◌, take, map, filter_map}
use Rattle.arrayvec.specs.ArrayVec.{array_vec_len}
use Rattle.toml.specs.View.{view}
use Rattle.admin_rules.specs.Entry.{rule_of}
use Rattle.admin_rules.proofs.entry_list.rules_from.Given as goal

abbrev pub invariant-loop-entry : goal.invariant-loop-entry
invariant-loop-entry l = record {
  kept : l.rules.items ≡ filter_map rule_of (map view (take l.entry-index l.entries));
  room : array_vec_len l.rules ≤ l.entry-index;
}
