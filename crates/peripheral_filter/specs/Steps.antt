-- The rules of each step in which a peripheral is judged, in order, each with whether it holds.
use Rattle.std.specs.Prelude.{ℕ, ◌==◌, Bool, true, false, not, ◌||◌, List, [], ◌∷◌, length, Option, is_some, Ok, Err}
use Rattle.std.specs.List.{list_any}
use Rattle.psd_base.specs.declared.console.Plug.{Plug}
use Rattle.psd_base.specs.declared.console.Plug.TheVariants.{Keyboard, Mouse, Token}
use Rattle.psd_base.specs.declared.console.RuleName.{RuleName}
use Rattle.usb_descriptor.specs.declared.device.DeviceDesc.{DeviceDesc}
use Rattle.usb_descriptor.specs.declared.fault.DescWhy.{DescWhy}
use Rattle.usb_descriptor.specs.declared.fault.DescWhy.TheVariants as desc
use Rattle.usb_descriptor.specs.declared.view.InterfaceDesc.{InterfaceDesc}
use Rattle.usb_descriptor.specs.Device.{device_verdict}
use Rattle.usb_descriptor.specs.Fault.{config_verdict}
use Rattle.hid_report.specs.declared.fault.LayoutWhy.{LayoutWhy}
use Rattle.hid_report.specs.declared.fault.LayoutWhy.TheVariants as why
use Rattle.hid_report.specs.Elements.{is_absolute_field}
use Rattle.hid_report.specs.LayoutValue.{LayoutValue, layout_of}
use Rattle.peripheral_filter.specs.declared.rule.RuleSet.{RuleSet}
use Rattle.peripheral_filter.specs.declared.class.TheConstants.{HUB_CLASS, HID_CLASS, SMART_CARD_CLASS}
use Rattle.peripheral_filter.specs.declared.fixed.TheConstants.{MALFORMED_DESCRIPTOR, HUB, SIZE_LIMITS, NO_INTERFACE, MALFORMED_REPORT, REPORT_LIMITS, NO_FIELD, CHANGED, ABSOLUTE_POINTER}
use Rattle.peripheral_filter.specs.Changes.{is_changed}
use Rattle.peripheral_filter.specs.Classes.{classes_of, has_class, class_for}
use Rattle.peripheral_filter.specs.Rules.{matches, list_rules}

-- the sizes of endpoint 0 that USB 2.0 has, in bytes (section 9.6.1)
abbrev pub is_packet_size : ℕ → Bool
is_packet_size size = size == 8 || size == 16 || size == 32 || size == 64

-- The reply to GET_DESCRIPTOR(device). One that isn't a device descriptor has no fields to be judged.
abbrev pub device_rules : List ℕ → Option (List ℕ) → List (RuleName × Bool)
device_rules bytes before = elim (device_verdict bytes) [
  | Err fault ↦ (MALFORMED_DESCRIPTOR, true) ∷ []
  | Ok device ↦
      (HUB, device.class == HUB_CLASS)
      ∷ (SIZE_LIMITS, not (is_packet_size device.max0))
      ∷ (CHANGED, is_changed before bytes)
      ∷ []
]

-- there are too many interfaces or endpoints
abbrev pub is_too_many : DescWhy → Bool
is_too_many desc.TooMany = true
is_too_many _ = false

-- no interface is one for this plug, or a token has one that isn't
abbrev pub has_no_interface : Plug → List ℕ → Bool
has_no_interface Keyboard classes = not (has_class HID_CLASS classes)
has_no_interface Mouse classes = not (has_class HID_CLASS classes)
has_no_interface Token classes =
    length classes == 0 || list_any (λ class. not (class == SMART_CARD_CLASS)) classes

-- a configuration that can't be read
abbrev pub refused_config_rules : DescWhy → List (RuleName × Bool)
refused_config_rules why = (MALFORMED_DESCRIPTOR, not (is_too_many why)) ∷ (SIZE_LIMITS, is_too_many why) ∷ []

-- a configuration that can be read, whose interfaces have these classes
abbrev pub read_config_rules : Plug → RuleSet → DeviceDesc → List ℕ → Bool → List (RuleName × Bool)
read_config_rules plug rules device classes changed =
    (HUB, has_class HUB_CLASS classes)
    ∷ (NO_INTERFACE, has_no_interface plug classes)
    ∷ (CHANGED, changed)
    ∷ list_rules (matches plug device classes) rules

-- the bytes of a configuration with all that belongs to it
abbrev pub config_rules : Plug → RuleSet → DeviceDesc → List ℕ → Option (List ℕ) → List (RuleName × Bool)
config_rules plug rules device bytes before = elim (config_verdict bytes) [
  | Err fault ↦ refused_config_rules fault.why
  | Ok read ↦ read_config_rules plug rules device (classes_of read) (is_changed before bytes)
]

-- one interface of a configuration
abbrev pub interface_rules : Plug → InterfaceDesc → List (RuleName × Bool)
interface_rules plug interface = (NO_INTERFACE, not (interface.class == class_for plug)) ∷ []

-- a report descriptor is malformed, where it isn't beyond a limit
abbrev pub is_malformed : LayoutWhy → Bool
is_malformed why.Truncated = true
is_malformed why.Unbalanced = true
is_malformed why.ZeroSize = true
is_malformed why.BadId = true
is_malformed _ = false

-- No field can be used at this plug. A token has no reports.
abbrev pub has_no_field : Plug → LayoutValue → Bool
has_no_field Keyboard reading = not (is_some reading.keys)
has_no_field Mouse reading = not (is_some reading.pointer)
has_no_field Token reading = false

-- an X or Y of a mouse isn't relative
abbrev pub is_absolute_pointer : Plug → LayoutValue → Bool
is_absolute_pointer Keyboard reading = false
is_absolute_pointer Mouse reading = list_any is_absolute_field reading.fields
is_absolute_pointer Token reading = false

-- a report descriptor that can't be read
abbrev pub refused_layout_rules : LayoutWhy → List (RuleName × Bool)
refused_layout_rules cause = (MALFORMED_REPORT, is_malformed cause) ∷ (REPORT_LIMITS, not (is_malformed cause)) ∷ []

-- the layout of a report descriptor
abbrev pub read_layout_rules : Plug → LayoutValue → List (RuleName × Bool)
read_layout_rules plug reading =
    (NO_FIELD, has_no_field plug reading) ∷ (ABSOLUTE_POINTER, is_absolute_pointer plug reading) ∷ []

-- a report descriptor
abbrev pub layout_rules : Plug → List ℕ → List (RuleName × Bool)
layout_rules plug bytes = elim (layout_of bytes) [
  | Err fault ↦ refused_layout_rules fault.why
  | Ok reading ↦ read_layout_rules plug reading
]
