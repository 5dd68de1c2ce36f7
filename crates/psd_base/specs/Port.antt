-- Which numbers are those of ports.
use Rattle.std.specs.Prelude.{ℕ, ◌≤◌}
use Rattle.psd_base.specs.declared.port.TheConstants.{MAX_PORTS}

-- ports are numbered from 1
abbrev pub IsPort : ℕ → Type 0
IsPort number = (1 ≤ number) × (number ≤ MAX_PORTS)
