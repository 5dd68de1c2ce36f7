-- Where each input, and each outlet, has its place in a table.
use Rattle.std.specs.Prelude.{ℕ, ◌+◌}
use Rattle.psd_base.specs.declared.outlet.Input.{Input}
use Rattle.psd_base.specs.declared.outlet.Input.TheVariants.{Rules, Capture, Script}
use Rattle.psd_base.specs.declared.outlet.Outlet.{Outlet}
use Rattle.psd_base.specs.declared.outlet.Outlet.TheVariants.{Report, Faults, Console, Log, Port}

abbrev pub place_of_input : Input → ℕ
place_of_input Rules = 0
place_of_input Capture = 1
place_of_input Script = 2

-- no two outlets share a place, whatever numbers ports may have; as no port has the number 0, place 4 stays unused
abbrev pub place_of_outlet : Outlet → ℕ
place_of_outlet Report = 0
place_of_outlet Faults = 1
place_of_outlet Console = 2
place_of_outlet Log = 3
place_of_outlet (Port number) = 4 + number
