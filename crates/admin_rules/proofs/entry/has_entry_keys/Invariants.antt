-- The keys that are left decide.
use Rattle.std.proofs.Common.{◌≡◌}
use Rattle.toml.specs.View.{members_view}
use Rattle.admin_rules.specs.Entry.{is_entry_key}
use Rattle.admin_rules.specs.Keys.{all_keys}
use Rattle.admin_rules.proofs.entry.has_entry_keys.Given as goal

abbrev pub invariant-members : goal.invariant-members
invariant-members l =
    (goal.iterator-members).can_next l.key-iterator × (goal.iterator-members).is_finite l.key-iterator
    × (all_keys is_entry_key (members_view l.key-iterator) ≡ all_keys is_entry_key (members_view l.table.entries))
