-- What a peripheral is asked, as functions of what it replied.
use Rattle.std.specs.Prelude.{ℕ}
use Rattle.psd_base.specs.declared.setup.Setup.{Setup}
use Rattle.console_host.specs.declared.fit.ReportAsk.{ReportAsk}

abbrev pub get_configuration : ℕ → Setup
get_configuration total = record { kind = 0x80; request = 6; value = 0x0200; index = 0; length = total }

abbrev pub set_configuration : ℕ → Setup
set_configuration number = record { kind = 0; request = 9; value = number; index = 0; length = 0 }

abbrev pub get_report : ReportAsk → Setup
get_report ask = record { kind = 0x81; request = 6; value = 0x2200; index = ask.interface; length = ask.length }
