-- The usages that are listed before a main item (HID 1.11, 6.2.2.8).
use Rattle.std.specs.Prelude.{ℕ, ◌+◌, ◌*◌, ◌==◌, nat_le, Bool, false, List, [], ◌∷◌, ◌++◌, Option, Some, None, if◌then◌else◌}
use Rattle.hid_report.specs.declared.item.Datum.{Datum}
use Rattle.hid_report.specs.declared.item.Item.{Item}
use Rattle.hid_report.specs.declared.item.Item.TheVariants as item
use Rattle.hid_report.specs.declared.usage.UsageRange.{UsageRange}
use Rattle.hid_report.specs.declared.usage.Span.{Span}
use Rattle.hid_report.specs.Globals.{globals}

-- a usage with its page in the high half: data of 4 bytes has its page, shorter data takes `page`
abbrev pub full_usage : ℕ → Datum → ℕ
full_usage page datum = if datum.bytes == 4 then datum.raw else page * 65536 + datum.raw

abbrev pub span_of : ℕ → UsageRange → Span
span_of page range = record { low = full_usage page range.low; high = full_usage page range.high }

-- the Usage Minimum that waits for its Usage Maximum
unfoldable pub waiting_minimum : List Item → Option Datum
waiting_minimum [] = None
waiting_minimum (item.Input flags ∷ past) = None
waiting_minimum (item.OtherMain ∷ past) = None
waiting_minimum (item.Collection ∷ past) = None
waiting_minimum (item.EndCollection ∷ past) = None
waiting_minimum (item.UsageMinimum datum ∷ past) = Some datum
waiting_minimum (item.UsageMaximum datum ∷ past) = None
waiting_minimum (_ ∷ past) = waiting_minimum past

-- whether a Usage Maximum ends a range: a minimum waits, and isn't above it by the page that stands there
abbrev pub ends_range : ℕ → Option Datum → Datum → Bool
ends_range page None high = false
ends_range page (Some low) high = nat_le (full_usage page low) (full_usage page high)

-- the range that a Usage Maximum ends
abbrev pub range_to : ℕ → Option Datum → Datum → List UsageRange
range_to page None high = []
range_to page (Some low) high = if ends_range page (Some low) high then record { low = low; high = high } ∷ [] else []

-- the usages and ranges since the last main item, in order
unfoldable pub usages : List Item → List UsageRange
usages [] = []
usages (item.Input flags ∷ past) = []
usages (item.OtherMain ∷ past) = []
usages (item.Collection ∷ past) = []
usages (item.EndCollection ∷ past) = []
usages (item.Usage datum ∷ past) = usages past ++ record { low = datum; high = datum } ∷ []
usages (item.UsageMaximum high ∷ past) = usages past ++ range_to (globals past).page (waiting_minimum past) high
usages (_ ∷ past) = usages past
