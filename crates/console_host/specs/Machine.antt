-- The steps of an attachment, one by one.
use Rattle.std.specs.Prelude.{ℕ, ◌+◌, ◌==◌, nat_le, nat_lt, Bool, false, ◌&&◌, List, [], ◌∷◌, ◌++◌, length, map, filter, Option, Some, None, unwrap_or, Result, Ok, Err, if◌then◌else◌}
use Rattle.std.specs.List.{find}
use Rattle.psd_base.specs.declared.setup.Setup.{Setup}
use Rattle.psd_base.specs.declared.console.Plug.{Plug}
use Rattle.psd_base.specs.declared.console.Plug.TheVariants.{Keyboard, Mouse, Token}
use Rattle.psd_base.specs.declared.console.RuleName.{RuleName}
use Rattle.psd_base.specs.declared.console.Note.{Note}
use Rattle.psd_base.specs.declared.console.Note.TheVariants as note
use Rattle.psd_base.specs.declared.console.Order.TheVariants as order
use Rattle.usb_descriptor.specs.declared.device.DeviceDesc.{DeviceDesc}
use Rattle.usb_descriptor.specs.Device.{word_at, device_of}
use Rattle.usb_descriptor.specs.View.{configuration_value, in_set, out_set}
use Rattle.hid_report.specs.LayoutValue.{LayoutValue}
use Rattle.peripheral_filter.specs.declared.fixed.TheConstants.{NO_INTERFACE}
use Rattle.peripheral_filter.specs.declared.rule.RuleSet.{RuleSet}
use Rattle.peripheral_filter.specs.declared.rule.Verdict.{Verdict}
use Rattle.peripheral_filter.specs.declared.rule.Verdict.TheVariants.{Accepted, Refused}
use Rattle.peripheral_filter.specs.Verdicts.{first_that_holds}
use Rattle.console_host.specs.declared.attachment.Attachment.{Attachment}
use Rattle.console_host.specs.declared.descriptors.Descriptors.{Descriptors}
use Rattle.console_host.specs.declared.descriptors.Shape.{Shape}
use Rattle.console_host.specs.declared.fit.TheConstants.{INTERFACES_MAX}
use Rattle.console_host.specs.declared.fit.ReportAsk.{ReportAsk}
use Rattle.console_host.specs.declared.interface.Interface.{Interface}
use Rattle.console_host.specs.declared.next.Next.{Next}
use Rattle.console_host.specs.declared.next.Next.TheVariants as next
use Rattle.console_host.specs.declared.next.TheConstants.{SILENCE}
use Rattle.console_host.specs.declared.order.TheConstants.{DEVICE, ADDRESS, HEAD, CONFIGURATION, CONFIGURE, GET_DEVICE, SET_ADDRESS, GET_HEAD}
use Rattle.console_host.specs.declared.step.Step.{Step}
use Rattle.console_host.specs.declared.step.Step.TheVariants as step
use Rattle.console_host.specs.declared.step.Outcome.{Outcome}
use Rattle.console_host.specs.declared.step.Outcome.TheVariants as outcome
use Rattle.console_host.specs.declared.step.Phase.{Phase}
use Rattle.console_host.specs.declared.step.Phase.TheVariants as phase
use Rattle.console_host.specs.Replies.{Reply}
use Rattle.console_host.specs.Orders.{get_configuration, set_configuration, get_report}
use Rattle.console_host.specs.Fits.{fits, misfits, asks_from, barred_from, barred_note, barring_rules}
use Rattle.console_host.specs.Judging.{device_step, head_step, configuration_step, status_rules, silence_rules, finding, lesser, least_from}
use Rattle.console_host.specs.Plan.{is_none}

abbrev pub number_of : Step → ℕ
number_of step.Device = DEVICE
number_of (step.Address device) = ADDRESS
number_of (step.Head device) = HEAD
number_of (step.Configuration device total) = CONFIGURATION
number_of (step.Configure value) = CONFIGURE
number_of (step.Report ask) = ask.number

abbrev pub setup_of : Step → Setup
setup_of step.Device = GET_DEVICE
setup_of (step.Address device) = SET_ADDRESS
setup_of (step.Head device) = GET_HEAD
setup_of (step.Configuration device total) = get_configuration total
setup_of (step.Configure value) = set_configuration value
setup_of (step.Report ask) = get_report ask

-- the first of two verdicts that refuses
abbrev pub then_by : Verdict → Verdict → Verdict
then_by Accepted later = later
then_by (Refused rule) later = Refused rule

-- what is read where no rule holds, else the rule
abbrev pub unless_refused : {A : Type 0} → Verdict → A → Result A RuleName
unless_refused Accepted value = Ok value
unless_refused (Refused rule) value = Err rule

abbrev pub device_reading : Option Descriptors → Reply → Result DeviceDesc RuleName
device_reading before reply = unless_refused (first_that_holds (device_step before reply)) (device_of reply.bytes)

abbrev pub head_reading : Reply → Result ℕ RuleName
head_reading reply = unless_refused (first_that_holds (head_step reply)) (word_at reply.bytes 2)

abbrev pub shape_of : DeviceDesc → List ℕ → Shape
shape_of device bytes = record {
  value = configuration_value bytes;
  max0 = device.max0;
  ins = in_set bytes;
  outs = out_set bytes;
}

-- what the reply with the device descriptor comes to, and what is kept of it
abbrev pub device_outcome : Result DeviceDesc RuleName → Outcome
device_outcome (Ok device) = outcome.Ask (step.Address device)
device_outcome (Err rule) = outcome.Refused rule

abbrev pub with_device : Result DeviceDesc RuleName → List ℕ → Attachment → Attachment
with_device (Ok device) bytes attachment = record attachment { device = bytes; size = device.max0 }
with_device (Err rule) bytes attachment = attachment

-- what a reply whose bytes aren't read comes to
abbrev pub plain_outcome : Verdict → Step → Outcome
plain_outcome Accepted after = outcome.Ask after
plain_outcome (Refused rule) after = outcome.Refused rule

abbrev pub head_outcome : DeviceDesc → Result ℕ RuleName → Outcome
head_outcome device (Ok total) = outcome.Ask (step.Configuration device total)
head_outcome device (Err rule) = outcome.Refused rule

abbrev pub with_configuration : Verdict → DeviceDesc → List ℕ → Attachment → Attachment
with_configuration Accepted device bytes attachment = record attachment {
  configuration = bytes;
  shape = shape_of device bytes;
  fits = record { items = fits attachment.plug bytes };
}
with_configuration (Refused rule) device bytes attachment = attachment

abbrev pub configuration_notes : Verdict → Plug → List ℕ → List Note
configuration_notes Accepted plug bytes = misfits plug bytes
configuration_notes (Refused rule) plug bytes = []

-- what is known of the interface that was asked
abbrev pub with_finding : ℕ → Result LayoutValue RuleName → Attachment → Attachment
with_finding number (Ok layout) attachment =
    if nat_lt (length attachment.accepted.items) INTERFACES_MAX then
    record attachment { accepted = record { items = attachment.accepted.items ++ record { number = number; layout = Some layout } ∷ [] } }
    else attachment
with_finding number (Err rule) attachment = record attachment { least = Some (lesser attachment.least rule) }

abbrev pub finding_notes : Plug → ℕ → Result LayoutValue RuleName → List Note
finding_notes plug number (Ok layout) = note.InterfaceAccepted plug number ∷ []
finding_notes plug number (Err rule) = note.InterfaceRefused plug number rule ∷ []

-- the end of an enumeration that isn't refused before
abbrev pub outcome_by : Bool → Option RuleName → Outcome
outcome_by nothing least = if nothing then outcome.Refused (unwrap_or least NO_INTERFACE) else outcome.Ready

abbrev pub outcome_at_end : Plug → List Interface → Option RuleName → Outcome
outcome_at_end Keyboard accepted least = outcome_by (is_none accepted) least
outcome_at_end Mouse accepted least = outcome_by (is_none accepted) least
outcome_at_end Token accepted least = outcome.Ready

-- what comes after order `number` is answered, where that didn't refuse the device
abbrev pub turn_by : Attachment → Option ReportAsk → Outcome
turn_by attachment (Some ask) = outcome.Ask (step.Report ask)
turn_by attachment None =
    outcome_at_end attachment.plug attachment.accepted.items (least_from attachment.least (barring_rules attachment.fits.items))

abbrev pub turn_outcome : Attachment → ℕ → Outcome
turn_outcome attachment number = turn_by attachment (find (λ ask. ask.number == number + 1) (asks_from CONFIGURE attachment.fits.items))

abbrev pub turn_notes : Attachment → ℕ → List Note
turn_notes attachment number = map (barred_note attachment.plug) (filter (λ barred. barred.due == number) (barred_from CONFIGURE attachment.fits.items))

-- the reply to the order that chooses the configuration
abbrev pub configured_outcome : Verdict → Attachment → Outcome
configured_outcome Accepted attachment = turn_outcome attachment CONFIGURE
configured_outcome (Refused rule) attachment = outcome.Refused rule

abbrev pub configured_notes : Verdict → Attachment → List Note
configured_notes Accepted attachment = turn_notes attachment CONFIGURE
configured_notes (Refused rule) attachment = []

-- the reply with a report descriptor
abbrev pub report_finding : Plug → ReportAsk → Reply → Result LayoutValue RuleName
report_finding plug ask reply = finding plug ask.length reply

abbrev pub after_report : Verdict → ReportAsk → Reply → Attachment → Attachment
after_report Accepted ask reply attachment = with_finding ask.interface (report_finding attachment.plug ask reply) attachment
after_report (Refused rule) ask reply attachment = attachment

abbrev pub report_outcome : Verdict → ReportAsk → Reply → Attachment → Outcome
report_outcome Accepted ask reply attachment = turn_outcome (after_report Accepted ask reply attachment) ask.number
report_outcome (Refused rule) ask reply attachment = outcome.Refused rule

abbrev pub report_notes : Verdict → ReportAsk → Reply → Attachment → List Note
report_notes Accepted ask reply attachment =
    finding_notes attachment.plug ask.interface (report_finding attachment.plug ask reply) ++ turn_notes (after_report Accepted ask reply attachment) ask.number
report_notes (Refused rule) ask reply attachment = []

-- the verdict of each step on a reply
abbrev pub configuration_verdict : RuleSet → DeviceDesc → ℕ → Reply → Attachment → Verdict
configuration_verdict rules device total reply attachment =
    first_that_holds (configuration_step attachment.plug rules device total attachment.known reply)

abbrev pub status_verdict : ℕ → Verdict
status_verdict status = first_that_holds (status_rules status)

abbrev pub silence_verdict : ℕ → Verdict
silence_verdict status = first_that_holds (silence_rules status)

abbrev pub outcome_of : Step → RuleSet → Reply → Attachment → Outcome
outcome_of step.Device rules reply attachment = device_outcome (device_reading attachment.known reply)
outcome_of (step.Address device) rules reply attachment = plain_outcome (status_verdict reply.status) (step.Head device)
outcome_of (step.Head device) rules reply attachment = head_outcome device (head_reading reply)
outcome_of (step.Configuration device total) rules reply attachment =
    plain_outcome (configuration_verdict rules device total reply attachment) (step.Configure (configuration_value reply.bytes))
outcome_of (step.Configure value) rules reply attachment = configured_outcome (status_verdict reply.status) attachment
outcome_of (step.Report ask) rules reply attachment = report_outcome (silence_verdict reply.status) ask reply attachment

abbrev pub judged : Step → RuleSet → Reply → Attachment → Attachment
judged step.Device rules reply attachment = with_device (device_reading attachment.known reply) reply.bytes attachment
judged (step.Address device) rules reply attachment = attachment
judged (step.Head device) rules reply attachment = attachment
judged (step.Configuration device total) rules reply attachment =
    with_configuration (configuration_verdict rules device total reply attachment) device reply.bytes attachment
judged (step.Configure value) rules reply attachment = attachment
judged (step.Report ask) rules reply attachment = after_report (silence_verdict reply.status) ask reply attachment

abbrev pub judged_notes : Step → RuleSet → Reply → Attachment → List Note
judged_notes step.Device rules reply attachment = []
judged_notes (step.Address device) rules reply attachment = []
judged_notes (step.Head device) rules reply attachment = []
judged_notes (step.Configuration device total) rules reply attachment =
    configuration_notes (configuration_verdict rules device total reply attachment) attachment.plug reply.bytes
judged_notes (step.Configure value) rules reply attachment = configured_notes (status_verdict reply.status) attachment
judged_notes (step.Report ask) rules reply attachment = report_notes (silence_verdict reply.status) ask reply attachment

-- the attachment once a reply has come to something
abbrev pub with_known : Option Descriptors → Attachment → Attachment
with_known None attachment =
    record attachment { known = Some (record { device = attachment.device; configuration = attachment.configuration }) }
with_known (Some known) attachment = attachment

abbrev pub settled : Outcome → ℕ → ℕ → Attachment → Attachment
settled (outcome.Ask after) life tick attachment = record attachment { phase = phase.Asking life tick after }
settled outcome.Ready life tick attachment = with_known attachment.known (record attachment { phase = phase.Ready })
settled (outcome.Refused rule) life tick attachment = record attachment { phase = phase.Ended }

abbrev pub settled_notes : Plug → Outcome → List Note
settled_notes plug (outcome.Ask after) = []
settled_notes plug outcome.Ready = note.Accepted plug ∷ []
settled_notes plug (outcome.Refused rule) = note.Refused plug rule ∷ []

abbrev pub settled_next : Plug → ℕ → Outcome → Next
settled_next plug life (outcome.Ask after) = next.Ask (order.Ask plug life (number_of after) (setup_of after))
settled_next plug life outcome.Ready = next.Ready
settled_next plug life (outcome.Refused rule) = next.Refused rule

-- the outstanding order, where a reply with this life and number is one to it
abbrev pub awaited : ℕ → ℕ → Phase → Option Step
awaited life number (phase.Asking present since asked) = if present == life && number_of asked == number then Some asked else None
awaited life number phase.Vacant = None
awaited life number phase.Ready = None
awaited life number phase.Ended = None

abbrev pub answered_with : Option Step → RuleSet → ℕ → ℕ → Reply → Attachment → Attachment
answered_with None rules life tick reply attachment = attachment
answered_with (Some asked) rules life tick reply attachment =
    settled (outcome_of asked rules reply attachment) life tick (judged asked rules reply attachment)

abbrev pub answered_next : Option Step → RuleSet → ℕ → Reply → Attachment → Next
answered_next None rules life reply attachment = next.Ignored
answered_next (Some asked) rules life reply attachment =
    settled_next (judged asked rules reply attachment).plug life (outcome_of asked rules reply attachment)

abbrev pub answered_notes : Option Step → RuleSet → Reply → Attachment → List Note
answered_notes None rules reply attachment = []
answered_notes (Some asked) rules reply attachment =
    judged_notes asked rules reply attachment ++ settled_notes (judged asked rules reply attachment).plug (outcome_of asked rules reply attachment)

-- whether an order has been outstanding too long
abbrev pub is_overdue : ℕ → Phase → Bool
is_overdue tick (phase.Asking life since asked) = nat_le (since + SILENCE) tick
is_overdue tick phase.Vacant = false
is_overdue tick phase.Ready = false
is_overdue tick phase.Ended = false
