-- The plan of an enumeration: what comes after the replies of a life that count, the newest of which comes first.
use Rattle.std.specs.Prelude.{ℕ, ◌+◌, ◌==◌, nat_lt, Bool, true, false, List, [], ◌∷◌, ◌++◌, length, map, filter, Option, Some, None, unwrap_or, Result, Ok, Err, if◌then◌else◌}
use Rattle.std.specs.Option.{option_map}
use Rattle.std.specs.List.{find}
use Rattle.psd_base.specs.History.{or_else}
use Rattle.psd_base.specs.declared.setup.Setup.{Setup}
use Rattle.psd_base.specs.declared.console.Plug.{Plug}
use Rattle.psd_base.specs.declared.console.Plug.TheVariants.{Keyboard, Mouse, Token}
use Rattle.psd_base.specs.declared.console.RuleName.{RuleName}
use Rattle.psd_base.specs.declared.console.Note.{Note}
use Rattle.psd_base.specs.declared.console.Note.TheVariants as note
use Rattle.usb_descriptor.specs.Device.{word_at, device_of}
use Rattle.usb_descriptor.specs.View.{configuration_value, in_set, out_set}
use Rattle.hid_report.specs.LayoutValue.{LayoutValue}
use Rattle.peripheral_filter.specs.declared.fixed.TheConstants.{NO_INTERFACE}
use Rattle.peripheral_filter.specs.declared.rule.RuleSet.{RuleSet}
use Rattle.peripheral_filter.specs.declared.rule.Verdict.{Verdict}
use Rattle.peripheral_filter.specs.declared.rule.Verdict.TheVariants.{Accepted, Refused}
use Rattle.peripheral_filter.specs.Verdicts.{first_that_holds}
use Rattle.console_host.specs.declared.order.TheConstants.{DEVICE, ADDRESS, HEAD, CONFIGURATION, CONFIGURE, GET_DEVICE, SET_ADDRESS, GET_HEAD}
use Rattle.console_host.specs.declared.fit.ReportAsk.{ReportAsk}
use Rattle.console_host.specs.declared.interface.Interface.{Interface}
use Rattle.console_host.specs.declared.descriptors.Descriptors.{Descriptors}
use Rattle.console_host.specs.declared.descriptors.Shape.{Shape}
use Rattle.console_host.specs.declared.status.TheConstants.{STALL}
use Rattle.console_host.specs.Replies.{Reply, answered}
use Rattle.console_host.specs.Orders.{get_configuration, set_configuration, get_report}
use Rattle.console_host.specs.Fits.{fits, misfits, asks_from, barred_from, barred_note, barring_rules}
use Rattle.console_host.specs.Judging.{status_rules, device_step, head_step, configuration_step, silence_rules, finding, least_from}

-- the next order; or ready; or refused
pub data Plan : Type 0 where
  Asks : Setup → Plan
  IsReady : Plan
  Refuses : RuleName → Plan

-- how many bytes the configuration has by its head
abbrev pub total_in : List Reply → ℕ
total_in replies = word_at (answered HEAD replies) 2

-- the rules by which the reply after the earlier ones refuses the device
abbrev pub rules_at : Plug → RuleSet → Option Descriptors → List Reply → Reply → List (RuleName × Bool)
rules_at plug rules before earlier reply =
    if length earlier + 1 == DEVICE then device_step before reply
    else if length earlier + 1 == ADDRESS then status_rules reply.status
    else if length earlier + 1 == HEAD then head_step reply
    else if length earlier + 1 == CONFIGURATION then configuration_step plug rules (device_of (answered DEVICE earlier)) (total_in earlier) before reply
    else if length earlier + 1 == CONFIGURE then status_rules reply.status
    else silence_rules reply.status

abbrev pub rule_of : Verdict → Option RuleName
rule_of Accepted = None
rule_of (Refused rule) = Some rule

-- The device is refused after the first reply after which some rule refuses it, by the first such rule.
abbrev pub refusal : Plug → RuleSet → Option Descriptors → List Reply → Option RuleName
refusal plug rules before [] = None
refusal plug rules before (reply ∷ earlier) = or_else (refusal plug rules before earlier) (rule_of (first_that_holds (rules_at plug rules before earlier reply)))

-- the orders for report descriptors, by the configuration that came
abbrev pub report_asks : Plug → List Reply → List ReportAsk
report_asks plug replies = asks_from CONFIGURE (fits plug (answered CONFIGURATION replies))

abbrev pub report_ask : ℕ → Plug → List Reply → Option ReportAsk
report_ask number plug replies = find (λ ask. ask.number == number) (report_asks plug replies)

-- the order that comes after the replies, none where each step is answered
abbrev pub next_order : Plug → List Reply → Option Setup
next_order plug replies =
    if length replies + 1 == DEVICE then Some GET_DEVICE
    else if length replies + 1 == ADDRESS then Some SET_ADDRESS
    else if length replies + 1 == HEAD then Some GET_HEAD
    else if length replies + 1 == CONFIGURATION then Some (get_configuration (total_in replies))
    else if length replies + 1 == CONFIGURE then Some (set_configuration (configuration_value (answered CONFIGURATION replies)))
    else option_map get_report (report_ask (length replies + 1) plug replies)

-- An interface that was asked for its report descriptor is accepted with a layout, or refused by a rule.
pub record Found : Type 0 where
  pub interface : ℕ
  pub verdict : Result LayoutValue RuleName

-- what a reply says of the interface that its order asked, if it asked one; a failure refuses the device and says nothing of it
abbrev pub found_by : Plug → Option ReportAsk → Reply → Option Found
found_by plug None reply = None
found_by plug (Some ask) reply =
    if nat_lt STALL reply.status then None else Some (record { interface = ask.interface; verdict = finding plug ask.length reply })

abbrev pub found_at : Plug → List Reply → Reply → Option Found
found_at plug earlier reply = found_by plug (report_ask (length earlier + 1) plug earlier) reply

abbrev pub listed_by : Option Found → List Interface
listed_by None = []
listed_by (Some found) = elim found.verdict [ Ok layout ↦ record { number = found.interface; layout = Some layout } ∷ [] | Err rule ↦ [] ]

-- the interfaces that the replies accept, in the configuration's order
abbrev pub accepted_in : Plug → List Reply → List Interface
accepted_in plug [] = []
accepted_in plug (reply ∷ earlier) = accepted_in plug earlier ++ listed_by (found_at plug earlier reply)

abbrev pub refused_by : Option Found → List RuleName
refused_by None = []
refused_by (Some found) = elim found.verdict [ Ok layout ↦ [] | Err rule ↦ rule ∷ [] ]

-- the rules by which the replies refuse the interfaces that were asked
abbrev pub refused_in : Plug → List Reply → List RuleName
refused_in plug [] = []
refused_in plug (reply ∷ earlier) = refused_in plug earlier ++ refused_by (found_at plug earlier reply)

-- the rules that refuse interfaces that the plug is for: those of the replies, and those that need none
abbrev pub refusals : Plug → List Reply → List RuleName
refusals plug replies =
    refused_in plug replies ++ barring_rules (fits plug (answered CONFIGURATION replies))

abbrev pub is_none : {A : Type 0} → List A → Bool
is_none [] = true
is_none (item ∷ items) = false

-- A keyboard or a mouse needs an accepted interface. Without one it is refused by the least of the rules that refused its
-- interfaces.
abbrev pub by_interfaces : List Interface → List RuleName → Plan
by_interfaces accepted rules = if is_none accepted then Refuses (unwrap_or (least_from None rules) NO_INTERFACE) else IsReady

abbrev pub conclusion : Plug → List Interface → List RuleName → Plan
conclusion Keyboard accepted rules = by_interfaces accepted rules
conclusion Mouse accepted rules = by_interfaces accepted rules
conclusion Token accepted rules = IsReady

-- what comes where the device isn't refused
abbrev pub goes_on : Plug → List Reply → Option Setup → Plan
goes_on plug replies (Some setup) = Asks setup
goes_on plug replies None = conclusion plug (accepted_in plug replies) (refusals plug replies)

abbrev pub plan_by : Plug → List Reply → Option RuleName → Plan
plan_by plug replies (Some rule) = Refuses rule
plan_by plug replies None = goes_on plug replies (next_order plug replies)

-- the plan after the replies; `before` has the descriptors that were accepted in an earlier life
abbrev pub plan : Plug → RuleSet → Option Descriptors → List Reply → Plan
plan plug rules before replies = plan_by plug replies (refusal plug rules before replies)

abbrev pub found_notes : Plug → Option Found → List Note
found_notes plug None = []
found_notes plug (Some found) = elim found.verdict [
  | Ok layout ↦ note.InterfaceAccepted plug found.interface ∷ []
  | Err rule ↦ note.InterfaceRefused plug found.interface rule ∷ []
]

-- The lines of interfaces that a reply brings, where the device stands: after the configuration those that the plug isn't
-- for; later the line of the interface that was asked, and of those whose turn comes after it and that aren't asked.
abbrev pub interface_notes : Plug → List Reply → Reply → List Note
interface_notes plug earlier reply =
    if length earlier + 1 == CONFIGURATION then misfits plug reply.bytes
    else found_notes plug (found_at plug earlier reply)
    ++ map (barred_note plug) (filter (λ barred. barred.due == length earlier + 1) (barred_from CONFIGURE (fits plug (answered CONFIGURATION earlier))))

-- the device's line
abbrev pub device_notes : Plug → Plan → List Note
device_notes plug (Asks setup) = []
device_notes plug IsReady = note.Accepted plug ∷ []
device_notes plug (Refuses rule) = note.Refused plug rule ∷ []

abbrev pub standing_notes : Plug → List Reply → Reply → Option RuleName → List Note
standing_notes plug earlier reply None = interface_notes plug earlier reply
standing_notes plug earlier reply (Some rule) = []

-- the lines that a reply brings
abbrev pub notes_of : Plug → RuleSet → Option Descriptors → List Reply → Reply → List Note
notes_of plug rules before earlier reply =
    standing_notes plug earlier reply (refusal plug rules before (reply ∷ earlier)) ++ device_notes plug (plan plug rules before (reply ∷ earlier))

-- the descriptors that came
abbrev pub descriptors_in : List Reply → Descriptors
descriptors_in replies = record { device = answered DEVICE replies; configuration = answered CONFIGURATION replies }

abbrev pub shape_in : List Reply → Shape
shape_in replies =
    let configuration = answered CONFIGURATION replies in
    record {
      value = configuration_value configuration;
      max0 = (device_of (answered DEVICE replies)).max0;
      ins = in_set configuration;
      outs = out_set configuration;
    }
