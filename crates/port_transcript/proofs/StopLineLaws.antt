-- How long the line of a stop is.
use Rattle.std.proofs.Common.{◌<◌, ◌≤◌, length, arith}
use Rattle.std.specs.Fmt.{decimal}
use Rattle.std.proofs.lemmas.Fmt.{length-decimal-le}
use Rattle.std.proofs.lemmas.List.{length-append}
use Rattle.psd_base.specs.declared.outlet.Input.{Input}
use Rattle.psd_base.specs.declared.outlet.Input.TheVariants as input
use Rattle.psd_base.specs.declared.outlet.Outlet.{Outlet}
use Rattle.psd_base.specs.declared.outlet.Outlet.TheVariants as outlet
use Rattle.psd_base.specs.declared.stop.CaptureFault.{CaptureFault}
use Rattle.psd_base.specs.declared.stop.CaptureFault.TheVariants as capture
use Rattle.psd_base.specs.declared.stop.RuleList.{RuleList}
use Rattle.psd_base.specs.declared.stop.RuleList.TheVariants as rule_list
use Rattle.psd_base.specs.declared.stop.RulesFault.{RulesFault}
use Rattle.psd_base.specs.declared.stop.RulesFault.TheVariants as rules
use Rattle.psd_base.specs.declared.stop.ScriptFault.{ScriptFault}
use Rattle.psd_base.specs.declared.stop.ScriptFault.TheVariants as script
use Rattle.psd_base.specs.declared.stop.Stop.{Stop}
use Rattle.psd_base.specs.declared.stop.Stop.TheVariants as stop
use Rattle.port_transcript.specs.StopLine.{IsOutlet, IsRulesFault, IsStop, capture_text, input_text, list_text, outlet_text, rules_text, script_text, stop_text, stop_words}
use Rattle.port_transcript.specs.declared.stop.TheConstants.{STOP_LINE_SIZE}
use Rattle.port_transcript.proofs.ConsoleLineLaws.{word_digits}
use Rattle.port_transcript.proofs.PortLineLaws.{byte_digits}

length-list_text-le : (list : RuleList) → length (list_text list) ≤ 5
unfolding list_text
length-list_text-le rule_list.Root = omega arith
length-list_text-le rule_list.Allow = omega arith
length-list_text-le rule_list.Deny = omega arith

length-rules_text-le : (why : RulesFault) → IsRulesFault why → length (rules_text why) ≤ 17
unfolding rules_text
length-rules_text-le rules.TooBig is = omega arith
length-rules_text-le rules.Syntax is = omega arith
length-rules_text-le (rules.Shape list entry) is =
    let digits : length (decimal entry) ≤ 5 = length-decimal-le 5 entry (omega arith) (omega arith) (omega arith) in
    simp length-append (omega (arith, length-list_text-le list, digits))
length-rules_text-le (rules.TooMany list) is = simp length-append (omega (arith, length-list_text-le list))

length-capture_text-le : (why : CaptureFault) → length (capture_text why) ≤ 10
unfolding capture_text
length-capture_text-le capture.BadMagic = omega arith
length-capture_text-le capture.BadPorts = omega arith
length-capture_text-le capture.Truncated = omega arith
length-capture_text-le capture.TickBack = omega arith
length-capture_text-le capture.BadKind = omega arith
length-capture_text-le capture.BadWho = omega arith
length-capture_text-le capture.BadLength = omega arith
length-capture_text-le capture.BadField = omega arith

length-script_text-le : (why : ScriptFault) → length (script_text why) ≤ 13
unfolding script_text
length-script_text-le script.LineTooLong = omega arith
length-script_text-le script.NotALine = omega arith
length-script_text-le script.TickBack = omega arith
length-script_text-le script.NoSuchPort = omega arith

length-input_text-le : (one : Input) → length (input_text one) ≤ 7
unfolding input_text
length-input_text-le input.Rules = omega arith
length-input_text-le input.Capture = omega arith
length-input_text-le input.Script = omega arith

length-outlet_text-le : (one : Outlet) → IsOutlet one → length (outlet_text one) ≤ 8
unfolding outlet_text
length-outlet_text-le outlet.Report is = omega arith
length-outlet_text-le outlet.Faults is = omega arith
length-outlet_text-le outlet.Console is = omega arith
length-outlet_text-le outlet.Log is = omega arith
length-outlet_text-le (outlet.Port port) is = simp length-append (omega (arith, byte_digits port (omega (arith, is.1))))

length-stop_words-le : (one : Stop) → IsStop one → length (stop_words one) ≤ 39
unfolding stop_words
length-stop_words-le stop.Usage is = omega arith
length-stop_words-le (stop.Rules why) is = simp length-append (omega (arith, length-rules_text-le why is))
length-stop_words-le (stop.Capture offset why) is =
    let digits : length (decimal offset) ≤ 20 = length-decimal-le 20 offset (omega arith) (omega arith) is in
    simp length-append (omega (arith, digits, length-capture_text-le why))
length-stop_words-le (stop.Script line why) is = simp length-append (omega (arith, word_digits line is, length-script_text-le why))
length-stop_words-le stop.TooLong is = omega arith
length-stop_words-le (stop.ReadFault one) is = simp length-append (omega (arith, length-input_text-le one))
length-stop_words-le (stop.WriteFault one) is = simp length-append (omega (arith, length-outlet_text-le one is))
length-stop_words-le stop.OutOfMemory is = omega arith

-- no line is longer than the bound
pub length-stop_text-le : (one : Stop) → IsStop one → length (stop_text one) ≤ STOP_LINE_SIZE
unfolding stop_text
length-stop_text-le one is = simp length-append (omega (arith, length-stop_words-le one is))

-- no line is empty: it has its line feed
pub length-stop_text-pos : (one : Stop) → 0 < length (stop_text one)
unfolding stop_text
length-stop_text-pos one = simp length-append (omega arith)
