-- How many bits the reports have.
use Rattle.std.specs.Prelude.{ℕ, ◌+◌, ◌*◌, ◌==◌, Bool, true, false, List, [], ◌∷◌, if◌then◌else◌}
use Rattle.hid_report.specs.declared.item.Global.TheVariants.{ReportId}
use Rattle.hid_report.specs.declared.item.Item.{Item}
use Rattle.hid_report.specs.declared.item.Item.TheVariants as item
use Rattle.hid_report.specs.Globals.{globals}

-- whether the reports begin with an ID byte: some item is a Report ID
unfoldable pub is_numbered : List Item → Bool
is_numbered [] = false
is_numbered (item.Global ReportId datum ∷ past) = true
is_numbered (_ ∷ past) = is_numbered past

-- the bits of the Input items of this report ID, without an ID byte
unfoldable pub report_bits : ℕ → List Item → ℕ
report_bits id [] = 0
report_bits id (item.Input flags ∷ past) =
    if (globals past).id == id then report_bits id past + (globals past).size * (globals past).count else report_bits id past
report_bits id (_ ∷ past) = report_bits id past

-- the same with the ID byte
abbrev pub whole_bits : ℕ → List Item → ℕ
whole_bits id past = report_bits id past + (if is_numbered past then 8 else 0)
