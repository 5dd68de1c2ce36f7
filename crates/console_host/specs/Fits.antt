-- The interfaces of a keyboard or a mouse that its plug is for, and when the turn of each comes.
use Rattle.std.specs.Prelude.{ℕ, ◌+◌, ◌==◌, nat_lt, Bool, not, List, [], ◌∷◌, map, filter, Option, Some, None, slice_index, if◌then◌else◌}
use Rattle.std.specs.List.{find, filter_map}
use Rattle.psd_base.specs.declared.console.Plug.{Plug}
use Rattle.psd_base.specs.declared.console.Plug.TheVariants.{Keyboard, Mouse, Token}
use Rattle.psd_base.specs.declared.console.RuleName.{RuleName}
use Rattle.psd_base.specs.declared.console.Note.{Note}
use Rattle.psd_base.specs.declared.console.Note.TheVariants.{InterfaceRefused}
use Rattle.psd_base.specs.declared.packet.TheConstants.{BLOCK_SIZE}
use Rattle.usb_descriptor.specs.Device.{word_at}
use Rattle.usb_descriptor.specs.Descriptor.{descriptors_of, is_hid}
use Rattle.usb_descriptor.specs.Setting.{Setting, interfaces_of, number_of}
use Rattle.peripheral_filter.specs.declared.fixed.TheConstants.{MALFORMED_REPORT, REPORT_LIMITS, NO_INTERFACE}
use Rattle.peripheral_filter.specs.Classes.{class_of, class_for}
use Rattle.console_host.specs.declared.fit.Fit.{Fit}
use Rattle.console_host.specs.declared.fit.ReportAsk.{ReportAsk}
use Rattle.console_host.specs.declared.fit.ReportEntry.{ReportEntry}
use Rattle.console_host.specs.declared.fit.ReportEntry.TheVariants.{Missing, TooLong, Length}
use Rattle.console_host.specs.declared.report.TheConstants.{REPORT_DESCRIPTOR}

-- the interfaces of a configuration: those with alternate setting 0
abbrev pub settings : List ℕ → List Setting
settings bytes = interfaces_of (descriptors_of bytes)

-- the plug is for interfaces of this class
abbrev pub is_fit : Plug → Setting → Bool
is_fit plug setting = class_of setting == class_for plug

-- Of an interface's first HID descriptor byte 6 names a report descriptor, and the two bytes after it say how long that is.
abbrev pub entry_of : Option (List ℕ) → ReportEntry
entry_of None = Missing
entry_of (Some hid) =
    if slice_index hid 6 == REPORT_DESCRIPTOR then (if nat_lt BLOCK_SIZE (word_at hid 7) then TooLong else Length (word_at hid 7))
    else Missing

abbrev pub fit_of : Setting → Fit
fit_of setting = record { number = number_of setting.interface; entry = entry_of (find is_hid setting.others) }

abbrev pub fits_in : Plug → List Setting → List Fit
fits_in plug found = map fit_of (filter (is_fit plug) found)

abbrev pub misfit_note : Plug → Setting → Note
misfit_note plug setting = InterfaceRefused plug (number_of setting.interface) NO_INTERFACE

-- the lines of the interfaces that the plug isn't for
abbrev pub misfits_in : Plug → List Setting → List Note
misfits_in plug found = map (misfit_note plug) (filter (λ setting. not (is_fit plug setting)) found)

-- A token has no report descriptors, and its interfaces no lines.
abbrev pub fits : Plug → List ℕ → List Fit
fits Keyboard bytes = fits_in Keyboard (settings bytes)
fits Mouse bytes = fits_in Mouse (settings bytes)
fits Token bytes = []

abbrev pub misfits : Plug → List ℕ → List Note
misfits Keyboard bytes = misfits_in Keyboard (settings bytes)
misfits Mouse bytes = misfits_in Mouse (settings bytes)
misfits Token bytes = []

-- the rule by which an interface is refused without an order
abbrev pub barring : ReportEntry → Option RuleName
barring Missing = Some MALFORMED_REPORT
barring TooLong = Some REPORT_LIMITS
barring (Length bytes) = None

-- The orders for report descriptors, numbered behind so many that are answered.
abbrev pub asks_from : ℕ → List Fit → List ReportAsk
asks_from number [] = []
asks_from number (fit ∷ later) = elim fit.entry [
  | Missing ↦ asks_from number later
  | TooLong ↦ asks_from number later
  | Length bytes ↦ record { interface = fit.number; length = bytes; number = number + 1 } ∷ asks_from (number + 1) later
]

-- an interface that is refused without an order: its turn comes after the reply to the order before it
pub record Barred : Type 0 where
  pub interface : ℕ
  pub rule : RuleName
  pub due : ℕ

abbrev pub barred_from : ℕ → List Fit → List Barred
barred_from number [] = []
barred_from number (fit ∷ later) = elim (barring fit.entry) [
  | None ↦ barred_from (number + 1) later
  | Some rule ↦ record { interface = fit.number; rule = rule; due = number } ∷ barred_from number later
]

-- the rules by which interfaces are refused without an order
abbrev pub barring_rules : List Fit → List RuleName
barring_rules found = filter_map (λ fit. barring fit.entry) found

abbrev pub barred_note : Plug → Barred → Note
barred_note plug barred = InterfaceRefused plug barred.interface barred.rule
