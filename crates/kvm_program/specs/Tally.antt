-- The count of one port.
use Rattle.std.specs.Prelude.{ℕ, ◌-◌, slice_index}
use Rattle.kvm_program.specs.declared.tally.Tally.{Tally}

abbrev pub bytes_at : Tally → ℕ → ℕ
bytes_at tally port = slice_index tally.bytes (port - 1)
