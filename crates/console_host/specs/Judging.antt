-- How each reply is judged: the rules of its step in order, each with whether it holds.
use Rattle.std.specs.Prelude.{ℕ, ◌+◌, ◌==◌, nat_le, nat_lt, Bool, not, ◌&&◌, List, [], ◌∷◌, ◌++◌, length, slice_index, Option, Some, None, Result, Ok, Err, if◌then◌else◌}
use Rattle.std.specs.Option.{option_map}
use Rattle.psd_base.specs.declared.console.Plug.{Plug}
use Rattle.psd_base.specs.declared.console.RuleName.{RuleName}
use Rattle.psd_base.specs.declared.console.RuleName.TheVariants.{Fixed, Deny, NotAllowed}
use Rattle.psd_base.specs.declared.packet.TheConstants.{BLOCK_SIZE}
use Rattle.usb_descriptor.specs.Device.{word_at}
use Rattle.usb_descriptor.specs.declared.device.DeviceDesc.{DeviceDesc}
use Rattle.hid_report.specs.LayoutValue.{LayoutValue, layout_of}
use Rattle.hid_report.specs.declared.fault.LayoutFault.{LayoutFault}
use Rattle.peripheral_filter.specs.declared.fixed.TheConstants.{MALFORMED_DESCRIPTOR, SIZE_LIMITS, MALFORMED_REPORT}
use Rattle.peripheral_filter.specs.declared.rule.RuleSet.{RuleSet}
use Rattle.peripheral_filter.specs.declared.rule.Verdict.{Verdict}
use Rattle.peripheral_filter.specs.declared.rule.Verdict.TheVariants.{Accepted, Refused}
use Rattle.peripheral_filter.specs.Steps.{device_rules, config_rules, layout_rules}
use Rattle.peripheral_filter.specs.Verdicts.{first_that_holds}
use Rattle.console_host.specs.declared.rules.TheConstants.{STALLED, SILENT}
use Rattle.console_host.specs.declared.status.TheConstants.{STALL}
use Rattle.console_host.specs.declared.head.TheConstants.{HEAD_SIZE, CONFIGURATION_KIND}
use Rattle.console_host.specs.declared.descriptors.Descriptors.{Descriptors}
use Rattle.console_host.specs.Replies.{Reply}

-- A reply's status is judged before its bytes: a stall, and then a failure.
abbrev pub status_rules : ℕ → List (RuleName × Bool)
status_rules status = (STALLED, status == STALL) ∷ (SILENT, nat_lt STALL status) ∷ []

abbrev pub before_device : Option Descriptors → Option (List ℕ)
before_device before = option_map (λ known. known.device) before

abbrev pub before_configuration : Option Descriptors → Option (List ℕ)
before_configuration before = option_map (λ known. known.configuration) before

-- the device descriptor; `before` has the descriptors that were accepted in an earlier life
abbrev pub device_step : Option Descriptors → Reply → List (RuleName × Bool)
device_step before reply = status_rules reply.status ++ device_rules reply.bytes (before_device before)

-- the first bytes of a configuration: its length, its kind and its total length
abbrev pub is_head : List ℕ → Bool
is_head bytes = length bytes == HEAD_SIZE && slice_index bytes 0 == HEAD_SIZE && slice_index bytes 1 == CONFIGURATION_KIND && nat_le HEAD_SIZE (word_at bytes 2)

abbrev pub head_rules : List ℕ → List (RuleName × Bool)
head_rules bytes = (MALFORMED_DESCRIPTOR, not (is_head bytes)) ∷ (SIZE_LIMITS, nat_lt BLOCK_SIZE (word_at bytes 2)) ∷ []

abbrev pub head_step : Reply → List (RuleName × Bool)
head_step reply = status_rules reply.status ++ head_rules reply.bytes

-- the whole configuration, of a device with this descriptor, of which so many bytes were asked for
abbrev pub configuration_step : Plug → RuleSet → DeviceDesc → ℕ → Option Descriptors → Reply → List (RuleName × Bool)
configuration_step plug rules device total before reply =
    status_rules reply.status ++ (MALFORMED_DESCRIPTOR, not (length reply.bytes == total)) ∷ config_rules plug rules device reply.bytes (before_configuration before)

-- Of a reply with a report descriptor, or with a stall in its place, only the interface can be refused.
abbrev pub silence_rules : ℕ → List (RuleName × Bool)
silence_rules status = (SILENT, nat_lt STALL status) ∷ []

-- a report descriptor of which so many bytes were asked for
abbrev pub report_step : Plug → ℕ → Reply → List (RuleName × Bool)
report_step plug asked reply =
    (STALLED, reply.status == STALL) ∷ (MALFORMED_REPORT, not (length reply.bytes == asked)) ∷ layout_rules plug reply.bytes

-- the layout of a report descriptor that no rule refuses; such a one can always be read
abbrev pub layout_by : Verdict → Result LayoutValue LayoutFault → Result LayoutValue RuleName
layout_by (Refused rule) read = Err rule
layout_by Accepted (Ok reading) = Ok reading
layout_by Accepted (Err fault) = Err MALFORMED_REPORT

-- what a reply says of the interface that was asked for so many bytes: its layout, or the rule that refuses it
abbrev pub finding : Plug → ℕ → Reply → Result LayoutValue RuleName
finding plug asked reply = layout_by (first_that_holds (report_step plug asked reply)) (layout_of reply.bytes)

-- the place of a rule in the order in which rules are named
abbrev pub rank : RuleName → ℕ
rank (Fixed number) = number
rank (Deny place) = 256 + place
rank NotAllowed = 512

-- of two rules the one that comes first
abbrev pub lesser : Option RuleName → RuleName → RuleName
lesser None rule = rule
lesser (Some before) rule = if nat_lt (rank rule) (rank before) then rule else before

-- the rule that comes first of these and the one before them
abbrev pub least_from : Option RuleName → List RuleName → Option RuleName
least_from least [] = least
least_from least (rule ∷ rules) = least_from (Some (lesser least rule)) rules
