-- The items of a report descriptor (HID 1.11, 6.2.2). A list of items that came before is newest first.
use Rattle.std.specs.Prelude.{ℕ, zero, suc, ◌+◌, ◌-◌, ◌*◌, ◌/◌, ◌%◌, ◌==◌, nat_le, List, [], ◌∷◌, length, slice_index, Option, Some, None, if◌then◌else◌}
use Rattle.hid_report.specs.declared.item.Datum.{Datum}
use Rattle.hid_report.specs.declared.item.Flags.{Flags}
use Rattle.hid_report.specs.declared.item.Global.TheVariants.{UsagePage, LogicalMinimum, LogicalMaximum, ReportSize, ReportId, ReportCount}
use Rattle.hid_report.specs.declared.item.Item.{Item}
use Rattle.hid_report.specs.declared.item.Item.TheVariants as item
use Rattle.hid_report.specs.declared.item.Entry.{Entry}

-- how many bytes of data follow this prefix
abbrev pub data_size : ℕ → ℕ
data_size prefix = if prefix % 4 == 3 then 4 else prefix % 4

-- how many bytes the first item has: a long item has its data's length in its second byte
abbrev pub item_length : List ℕ → ℕ
item_length bytes =
    if slice_index bytes 0 == 0xfe then 3 + slice_index bytes 1 else 1 + data_size (slice_index bytes 0)

abbrev pub raw_data : ℕ → List ℕ → ℕ
raw_data size bytes =
    if size == 0 then 0
    else if size == 1 then slice_index bytes 1
    else if size == 2 then slice_index bytes 1 + 256 * slice_index bytes 2
    else slice_index bytes 1 + 256 * slice_index bytes 2 + 65536 * slice_index bytes 3 + 16777216 * slice_index bytes 4

-- the data of a short item at the head of these bytes, least significant byte first
unfoldable pub datum_of : List ℕ → Datum
datum_of bytes =
    record { raw = raw_data (data_size (slice_index bytes 0)) bytes; bytes = data_size (slice_index bytes 0) }

abbrev pub flags_of : ℕ → Flags
flags_of raw = record { constant = raw % 2 == 1; variable = raw / 2 % 2 == 1; relative = raw / 4 % 2 == 1 }

abbrev pub main_item : ℕ → Datum → Item
main_item tag datum =
    if tag == 8 then item.Input (flags_of datum.raw)
    else if tag == 9 then item.OtherMain
    else if tag == 10 then item.Collection
    else if tag == 11 then item.OtherMain
    else if tag == 12 then item.EndCollection
    else item.Other

abbrev pub global_item : ℕ → Datum → Item
global_item tag datum =
    if tag == 0 then item.Global UsagePage datum
    else if tag == 1 then item.Global LogicalMinimum datum
    else if tag == 2 then item.Global LogicalMaximum datum
    else if tag == 7 then item.Global ReportSize datum
    else if tag == 8 then item.Global ReportId datum
    else if tag == 9 then item.Global ReportCount datum
    else if tag == 10 then item.Push
    else if tag == 11 then item.Pop
    else item.Other

abbrev pub local_item : ℕ → Datum → Item
local_item tag datum =
    if tag == 0 then item.Usage datum
    else if tag == 1 then item.UsageMinimum datum
    else if tag == 2 then item.UsageMaximum datum
    else item.Other

-- the item by the type and the tag of its prefix
abbrev pub item_by : ℕ → ℕ → Datum → Item
item_by kind tag datum =
    if kind == 0 then main_item tag datum
    else if kind == 1 then global_item tag datum
    else if kind == 2 then local_item tag datum
    else item.Other

-- the first item of these bytes, unless it runs past their end
unfoldable pub first_item : List ℕ → Option Entry
first_item bytes =
    if nat_le (item_length bytes) (length bytes)
    then Some (record { item = item_by (slice_index bytes 0 / 4 % 4) (slice_index bytes 0 / 16) (datum_of bytes); length = item_length bytes })
    else None

-- what stands at a place of a report descriptor: an item, an item that runs past the end, or the end
pub data Place : Type 0 where
  whole : ℕ → Item → Place
  cut : ℕ → Place
  end : ℕ → Place

-- the places of these bytes: `skip` of them belong to the item before, and the first is byte `at` of the descriptor
unfoldable pub places : ℕ → ℕ → List ℕ → List Place
places skip at [] = end at ∷ []
places (suc skip) at (byte ∷ bytes) = places skip (at + 1) bytes
places zero at (byte ∷ bytes) = elim (first_item (byte ∷ bytes)) [
  | Some entry ↦ whole at entry.item ∷ places (entry.length - 1) (at + 1) bytes
  | None ↦ cut at ∷ []
]

-- the whole items of these places, newest first, on top of `past`
abbrev pub onto : List Place → List Item → List Item
onto [] past = past
onto (whole at item ∷ rest) past = onto rest (item ∷ past)
onto (_ ∷ rest) past = onto rest past

-- the items of a report descriptor
unfoldable pub items : List ℕ → List Item
items bytes = onto (places 0 0 bytes) []
