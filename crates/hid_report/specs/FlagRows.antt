-- Buttons that lie in a row.
use Rattle.std.specs.Prelude.{ℕ, ◌+◌, ◌==◌, ◌&&◌, Bool, false, Option, Some, None, if◌then◌else◌, pos}
use Rattle.std.specs.Int.Signed.{le_z}
use Rattle.hid_report.specs.declared.source.Source.{Source}

-- whether a source is this bit, and counts whether it is 0 or 1
abbrev pub is_flag : ℕ → Option Source → Bool
is_flag bit None = false
is_flag bit (Some source) =
    source.place == bit
    && (source.size == 1 && (le_z (pos 0) source.minimum && (le_z source.minimum (pos 0) && le_z (pos 1) source.maximum)))

-- whether five sources are flags, each behind the one before
abbrev pub are_flags : ℕ → Option Source → Option Source → Option Source → Option Source → Option Source → Bool
are_flags bit first second third fourth fifth =
    is_flag bit first
    && (is_flag (bit + 1) second && (is_flag (bit + 2) third && (is_flag (bit + 3) fourth && is_flag (bit + 4) fifth)))

-- the place of the first of five such flags
abbrev pub row_of : Option Source → Option Source → Option Source → Option Source → Option Source → Option ℕ
row_of None second third fourth fifth = None
row_of (Some source) second third fourth fifth =
    if are_flags source.place (Some source) second third fourth fifth then Some source.place else None
