-- The exit status of a run that stopped.
use Rattle.std.specs.Prelude.{ℕ}
use Rattle.psd_base.specs.declared.stop.Stop.{Stop}
use Rattle.psd_base.specs.declared.stop.Stop.TheVariants.{Usage, Rules, Capture, Script, TooLong, ReadFault, WriteFault, OutOfMemory}

abbrev pub status_of : Stop → ℕ
status_of Usage = 1
status_of (Rules why) = 2
status_of (Capture offset why) = 3
status_of (Script line why) = 4
status_of TooLong = 5
status_of (ReadFault input) = 6
status_of (WriteFault outlet) = 7
status_of OutOfMemory = 8
