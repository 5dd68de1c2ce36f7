-- The text of the line of a run that stopped.
use Rattle.std.specs.Prelude.{ℕ, ◌^◌, ◌<◌, List, ◌++◌, codes}
use Rattle.std.specs.Fmt.{decimal}
use Rattle.psd_base.specs.Port.{IsPort}
use Rattle.psd_base.specs.declared.outlet.Input.{Input}
use Rattle.psd_base.specs.declared.outlet.Input.TheVariants as input
use Rattle.psd_base.specs.declared.outlet.Outlet.{Outlet}
use Rattle.psd_base.specs.declared.outlet.Outlet.TheVariants as outlet
use Rattle.psd_base.specs.declared.stop.CaptureFault.{CaptureFault}
use Rattle.psd_base.specs.declared.stop.CaptureFault.TheVariants as capture
use Rattle.psd_base.specs.declared.stop.RuleList.{RuleList}
use Rattle.psd_base.specs.declared.stop.RuleList.TheVariants as rule_list
use Rattle.psd_base.specs.declared.stop.RulesFault.{RulesFault}
use Rattle.psd_base.specs.declared.stop.RulesFault.TheVariants as rules
use Rattle.psd_base.specs.declared.stop.ScriptFault.{ScriptFault}
use Rattle.psd_base.specs.declared.stop.ScriptFault.TheVariants as script
use Rattle.psd_base.specs.declared.stop.Stop.{Stop}
use Rattle.psd_base.specs.declared.stop.Stop.TheVariants as stop

unfoldable pub list_text : RuleList → List ℕ
list_text rule_list.Root = codes "root"
list_text rule_list.Allow = codes "allow"
list_text rule_list.Deny = codes "deny"

unfoldable pub rules_text : RulesFault → List ℕ
rules_text rules.TooBig = codes "too-big"
rules_text rules.Syntax = codes "syntax"
rules_text (rules.Shape list entry) = codes "shape " ++ list_text list ++ codes " " ++ decimal entry
rules_text (rules.TooMany list) = codes "too-many " ++ list_text list

unfoldable pub capture_text : CaptureFault → List ℕ
capture_text capture.BadMagic = codes "bad-magic"
capture_text capture.BadPorts = codes "bad-ports"
capture_text capture.Truncated = codes "truncated"
capture_text capture.TickBack = codes "tick-back"
capture_text capture.BadKind = codes "bad-kind"
capture_text capture.BadWho = codes "bad-who"
capture_text capture.BadLength = codes "bad-length"
capture_text capture.BadField = codes "bad-field"

unfoldable pub script_text : ScriptFault → List ℕ
script_text script.LineTooLong = codes "line-too-long"
script_text script.NotALine = codes "not-a-line"
script_text script.TickBack = codes "tick-back"
script_text script.NoSuchPort = codes "no-such-port"

unfoldable pub input_text : Input → List ℕ
input_text input.Rules = codes "rules"
input_text input.Capture = codes "capture"
input_text input.Script = codes "script"

unfoldable pub outlet_text : Outlet → List ℕ
outlet_text outlet.Report = codes "report"
outlet_text outlet.Faults = codes "faults"
outlet_text outlet.Console = codes "console"
outlet_text outlet.Log = codes "log"
outlet_text (outlet.Port port) = codes "port " ++ decimal port

-- the stop without its line feed
unfoldable pub stop_words : Stop → List ℕ
stop_words stop.Usage = codes "not a command"
stop_words (stop.Rules why) = codes "rules " ++ rules_text why
stop_words (stop.Capture offset why) = codes "capture " ++ decimal offset ++ codes " " ++ capture_text why
stop_words (stop.Script line why) = codes "script " ++ decimal line ++ codes " " ++ script_text why
stop_words stop.TooLong = codes "too long"
stop_words (stop.ReadFault input) = codes "read fault " ++ input_text input
stop_words (stop.WriteFault outlet) = codes "write fault " ++ outlet_text outlet
stop_words stop.OutOfMemory = codes "out of memory"

-- the stop and a line feed
unfoldable pub stop_text : Stop → List ℕ
stop_text stop = stop_words stop ++ codes "\n"

-- the fields are in the ranges of their types

abbrev pub IsRulesFault : RulesFault → Type 0
IsRulesFault rules.TooBig = Unit {0}
IsRulesFault rules.Syntax = Unit {0}
IsRulesFault (rules.Shape list entry) = entry < 2 ^ 16
IsRulesFault (rules.TooMany list) = Unit {0}

abbrev pub IsOutlet : Outlet → Type 0
IsOutlet outlet.Report = Unit {0}
IsOutlet outlet.Faults = Unit {0}
IsOutlet outlet.Console = Unit {0}
IsOutlet outlet.Log = Unit {0}
IsOutlet (outlet.Port port) = IsPort port

abbrev pub IsStop : Stop → Type 0
IsStop stop.Usage = Unit {0}
IsStop (stop.Rules why) = IsRulesFault why
IsStop (stop.Capture offset why) = offset < 2 ^ 64
IsStop (stop.Script line why) = line < 2 ^ 32
IsStop stop.TooLong = Unit {0}
IsStop (stop.ReadFault input) = Unit {0}
IsStop (stop.WriteFault outlet) = IsOutlet outlet
IsStop stop.OutOfMemory = Unit {0}
