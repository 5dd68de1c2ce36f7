-- The snapshot of a mouse as the code has it, and of that the buttons.
use Rattle.std.specs.Prelude.{ℕ}
use Rattle.psd_base.specs.declared.sample.Sample.{Sample}
use Rattle.console_plug.specs.declared.shown_buttons.PointerSnapshot.{PointerSnapshot}
use Rattle.console_plug.specs.Shown.{Snapshot, at_place}

abbrev pub sample_snapshot : PointerSnapshot → Snapshot Sample
sample_snapshot snapshot = at_place snapshot.place snapshot.sample

abbrev pub button_snapshot : PointerSnapshot → Snapshot ℕ
button_snapshot snapshot = at_place snapshot.place snapshot.sample.buttons
