-- The faults of a report descriptor.
use Rattle.std.specs.Prelude.{ℕ, ◌+◌, ◌==◌, nat_lt, Bool, false, ◌&&◌, ◌||◌, not, List, [], ◌∷◌, ◌++◌, length, Option, Some, None, if◌then◌else◌}
use Rattle.hid_report.specs.declared.item.Item.{Item}
use Rattle.hid_report.specs.declared.item.Item.TheVariants as item
use Rattle.hid_report.specs.declared.item.Global.TheVariants.{ReportId}
use Rattle.hid_report.specs.declared.fault.LayoutFault.{LayoutFault}
use Rattle.hid_report.specs.declared.fault.LayoutWhy.{LayoutWhy}
use Rattle.hid_report.specs.declared.fault.LayoutWhy.TheVariants as why
use Rattle.hid_report.specs.Items.{Place, whole, cut, end}
use Rattle.hid_report.specs.Globals.{globals, open_pushes, open_collections}
use Rattle.hid_report.specs.Usages.{usages, waiting_minimum, ends_range}
use Rattle.hid_report.specs.Bits.{whole_bits}
use Rattle.hid_report.specs.Fields.{fields}

-- Each of these says whether a fault stands at an item that comes after `past`.

-- there is nothing to close
abbrev pub is_unbalanced : List Item → Item → Bool
is_unbalanced past item.EndCollection = open_collections past == 0
is_unbalanced past item.Pop = open_pushes past == 0
is_unbalanced past _ = false

abbrev pub has_zero_size : List Item → Item → Bool
has_zero_size past (item.Input flags) = not flags.constant && ((globals past).size == 0 && nat_lt 0 (globals past).count)
has_zero_size past _ = false

abbrev pub has_bad_id : Item → Bool
has_bad_id (item.Global ReportId datum) = datum.raw == 0 || nat_lt 255 datum.raw
has_bad_id _ = false

abbrev pub is_one_field_more : List Item → Item → Bool
is_one_field_more past (item.Input flags) = not flags.constant && nat_lt 64 (length (fields past) + 1)
is_one_field_more past _ = false

-- a usage or a range that counts, and over 32 of them
abbrev pub is_one_usage_more : List Item → Item → Bool
is_one_usage_more past (item.Usage datum) = nat_lt 32 (length (usages past) + 1)
is_one_usage_more past (item.UsageMaximum high) =
    ends_range (globals past).page (waiting_minimum past) high && nat_lt 32 (length (usages past) + 1)
is_one_usage_more past _ = false

abbrev pub is_too_deep : List Item → Item → Bool
is_too_deep past item.Collection = nat_lt 16 (open_collections past + 1)
is_too_deep past _ = false

abbrev pub is_one_push_more : List Item → Item → Bool
is_one_push_more past item.Push = nat_lt 4 (open_pushes past + 1)
is_one_push_more past _ = false

abbrev pub is_wide : List Item → Item → Bool
is_wide past (item.Input flags) = not flags.constant && nat_lt 32 (globals past).size
is_wide past _ = false

-- A report is above 512 bits: the one that an Input item adds to, or the one of the items before the first
-- Report ID item, which gets an ID byte there. That report has the ID 0.
abbrev pub is_long : List Item → Item → Bool
is_long past (item.Input flags) = nat_lt 512 (whole_bits (globals past).id (item.Input flags ∷ past))
is_long past (item.Global ReportId datum) = nat_lt 512 (whole_bits 0 (item.Global ReportId datum ∷ past))
is_long past _ = false

-- the first of the faults that stand at an item
unfoldable pub fault_of : List Item → Item → Option LayoutWhy
fault_of past item =
    if is_unbalanced past item then Some why.Unbalanced
    else if has_zero_size past item then Some why.ZeroSize
    else if has_bad_id item then Some why.BadId
    else if is_one_field_more past item then Some why.Fields
    else if is_one_usage_more past item then Some why.Usages
    else if is_too_deep past item then Some why.Depth
    else if is_one_push_more past item then Some why.Pushes
    else if is_wide past item then Some why.Wide
    else if is_long past item then Some why.Long
    else None

abbrev pub fault_at : ℕ → Option LayoutWhy → List LayoutFault
fault_at at None = []
fault_at at (Some cause) = record { at = at; why = cause } ∷ []

-- the faults of these places, in order: each whole item is judged by the items before it
unfoldable pub faults : List Item → List Place → List LayoutFault
faults past [] = []
faults past (whole at item ∷ rest) = fault_at at (fault_of past item) ++ faults (item ∷ past) rest
faults past (cut at ∷ rest) = record { at = at; why = why.Truncated } ∷ faults past rest
faults past (end at ∷ rest) =
    fault_at at (if open_collections past == 0 then None else Some why.Unbalanced) ++ faults past rest
