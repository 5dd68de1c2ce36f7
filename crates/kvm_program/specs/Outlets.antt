-- What writing does to the outlets.
use Rattle.std.specs.Prelude.{◌≡◌, ◌≢◌, ◌⊎◌, ℕ, List, ◌++◌, Option, option_map, Result, Ok, Err}
use Rattle.psd_base.specs.Desk.{IsAppendedPart, IsSource, NoInput, Told, Touches, WriteFailed}
use Rattle.psd_base.specs.declared.outlet.Outlet.{Outlet}
use Rattle.psd_base.specs.declared.outlet.Outlet.TheVariants as outlet
use Rattle.psd_base.specs.declared.stop.Stop.{Stop}
use Rattle.psd_base.specs.declared.stop.Stop.TheVariants as stop

-- an outlet grew by exactly this text
abbrev pub Grew : Option (List ℕ) → Option (List ℕ) → List ℕ → Type 0
Grew before after text = after ≡ option_map (λ sent. sent ++ text) before

-- a text was written whole, or in part where the write failed
abbrev pub Wrote : Result (Unit {0}) Stop → Option (List ℕ) → Option (List ℕ) → List ℕ → Type 0
Wrote (Ok done) before after text = Grew before after text
Wrote (Err why) before after text = IsAppendedPart before after text

abbrev pub WroteTo : Outlet → Result (Unit {0}) Stop → Told → Told → List ℕ → Type 0
WroteTo to result before after text = Wrote result (before.sent to) (after.sent to) text

-- the outlets to which events write: the ports, the console and the log
abbrev pub IsText : Outlet → Type 0
IsText (outlet.Port port) = Unit {0}
IsText outlet.Console = Unit {0}
IsText outlet.Log = Unit {0}
IsText outlet.Report = ⊥
IsText outlet.Faults = ⊥

-- the outlets of the ports
abbrev pub IsTranscript : Outlet → Type 0
IsTranscript (outlet.Port port) = Unit {0}
IsTranscript outlet.Console = ⊥
IsTranscript outlet.Log = ⊥
IsTranscript outlet.Report = ⊥
IsTranscript outlet.Faults = ⊥

-- the console and the log
abbrev pub IsOfConsole : Outlet → Type 0
IsOfConsole (outlet.Port port) = ⊥
IsOfConsole outlet.Console = Unit {0}
IsOfConsole outlet.Log = Unit {0}
IsOfConsole outlet.Report = ⊥
IsOfConsole outlet.Faults = ⊥

-- these outlets, and the faults, to which a stop writes its line
abbrev pub AndFaults : (Outlet → Type 0) → Outlet → Type 0
AndFaults writes to = writes to ⊎ (to ≡ outlet.Faults)

-- nothing is read, and the ports alone are written
abbrev pub OnlyWritesPorts : Told → Told → Type 0
OnlyWritesPorts = Touches NoInput IsTranscript

-- nothing is read, and the console and the log alone are written
abbrev pub OnlyWritesConsole : Told → Told → Type 0
OnlyWritesConsole = Touches NoInput IsOfConsole

-- nothing is read, and the ports, the console and the log alone are written
abbrev pub OnlyWritesTexts : Told → Told → Type 0
OnlyWritesTexts = Touches NoInput IsText

-- nothing is read, and nothing grows; a write of no bytes to a port, the console or the log may have failed
pub record Untouched (before after : Told) : Type 0 where
  pub only : OnlyWritesTexts before after
  pub same : (outlet : Outlet) → after.sent outlet ≡ before.sent outlet

-- serving reads the capture and the script, and writes to the ports, the console and the log alone
abbrev pub OnlyServes : Told → Told → Type 0
OnlyServes = Touches IsSource IsText

-- the stop is a write fault at the console, the log or a port, whose count rose
abbrev pub IsTextFault : Told → Told → Stop → Type 0
IsTextFault before after why = (to : Outlet) × (why ≡ stop.WriteFault to) × (to ≢ outlet.Faults) × (to ≢ outlet.Report) × WriteFailed to before after
