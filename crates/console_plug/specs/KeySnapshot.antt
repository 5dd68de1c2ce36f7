-- The snapshot of a keyboard as the code has it.
use Rattle.std.specs.Prelude.{Bool, List}
use Rattle.console_plug.specs.declared.shown_keys.KeySnapshot.{KeySnapshot}
use Rattle.console_plug.specs.Shown.{Snapshot, at_place}

abbrev pub key_snapshot : KeySnapshot → Snapshot (List Bool)
key_snapshot snapshot = at_place snapshot.place snapshot.keys
