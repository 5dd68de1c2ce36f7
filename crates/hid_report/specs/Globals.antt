-- The values of the global items (HID 1.11, 6.2.2.7).
use Rattle.std.specs.Prelude.{ℕ, zero, suc, ◌+◌, ◌-◌, ◌*◌, ◌==◌, nat_lt, List, [], ◌∷◌, if◌then◌else◌, ℤ, pos, ◌-ℤ◌}
use Rattle.hid_report.specs.declared.item.Datum.{Datum}
use Rattle.hid_report.specs.declared.item.Global.{Global}
use Rattle.hid_report.specs.declared.item.Global.TheVariants.{UsagePage, LogicalMinimum, LogicalMaximum, ReportSize, ReportId, ReportCount}
use Rattle.hid_report.specs.declared.item.Item.{Item}
use Rattle.hid_report.specs.declared.item.Item.TheVariants as item
use Rattle.hid_report.specs.declared.globals.Globals.{Globals}

abbrev pub no_datum : Datum
no_datum = record { raw = 0; bytes = 0 }

-- the values where no global item was given
abbrev pub no_globals : Globals
no_globals = record { page = 0; minimum = no_datum; maximum = no_datum; size = 0; count = 0; id = 0 }

-- the values after a global item
abbrev pub with_global : Global → Datum → Globals → Globals
with_global UsagePage datum globals = record globals { page = datum.raw }
with_global LogicalMinimum datum globals = record globals { minimum = datum }
with_global LogicalMaximum datum globals = record globals { maximum = datum }
with_global ReportSize datum globals = record globals { size = datum.raw }
with_global ReportId datum globals = record globals { id = datum.raw }
with_global ReportCount datum globals = record globals { count = datum.raw }

-- The values at a place: each is that of the last item of its tag before the place that doesn't stand between
-- a Push and its Pop. `closed` is how many Pops of later items have their Push among these items.
unfoldable pub globals_at : ℕ → List Item → Globals
globals_at closed [] = no_globals
globals_at closed (item.Pop ∷ past) = globals_at (suc closed) past
globals_at zero (item.Push ∷ past) = globals_at zero past
globals_at (suc closed) (item.Push ∷ past) = globals_at closed past
globals_at zero (item.Global tag datum ∷ past) = with_global tag datum (globals_at zero past)
globals_at (suc closed) (item.Global tag datum ∷ past) = globals_at (suc closed) past
globals_at closed (_ ∷ past) = globals_at closed past

-- the global values after these items
abbrev pub globals : List Item → Globals
globals past = globals_at 0 past

-- how many Push items are open after these items
unfoldable pub open_pushes : List Item → ℕ
open_pushes [] = 0
open_pushes (item.Push ∷ past) = suc (open_pushes past)
open_pushes (item.Pop ∷ past) = open_pushes past - 1
open_pushes (_ ∷ past) = open_pushes past

-- how many collections are open after these items
unfoldable pub open_collections : List Item → ℕ
open_collections [] = 0
open_collections (item.Collection ∷ past) = open_collections past + 1
open_collections (item.EndCollection ∷ past) = open_collections past - 1
open_collections (_ ∷ past) = open_collections past

-- a number of which the upper half of the range stands for negative numbers
abbrev pub signed_value : ℕ → ℕ → ℤ
signed_value half raw = if nat_lt raw half then pos raw else pos raw -ℤ pos (2 * half)

-- an item's data as a signed number
abbrev pub signed_datum : Datum → ℤ
signed_datum datum =
    if datum.bytes == 1 then signed_value 128 datum.raw
    else if datum.bytes == 2 then signed_value 32768 datum.raw
    else if datum.bytes == 4 then signed_value 2147483648 datum.raw
    else pos datum.raw
