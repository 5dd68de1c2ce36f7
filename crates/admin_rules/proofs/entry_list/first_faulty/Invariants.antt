-- No entry so far is faulty.
use Rattle.std.proofs.Common.{◌≡◌, ◌+◌, drop, map}
use Rattle.std.specs.List.{position_from}
use Rattle.toml.specs.View.{view}
use Rattle.admin_rules.specs.Entry.{is_faulty}
use Rattle.admin_rules.proofs.entry_list.first_faulty.Given as goal

abbrev pub invariant-loop-place : goal.invariant-loop-place
invariant-loop-place l =
    position_from is_faulty (l.place + 1) (map view (drop l.place l.entries)) ≡ position_from is_faulty 1 (map view l.entries)
