-- Worked lines, by computing the definitions.
use Rattle.std.proofs.Common.{◌≡◌, refl, codes, true, false, [], ◌∷◌}
use Rattle.std.specs.Fmt.{digits}
use Rattle.hex.specs.Hex.{encode_with}
use Rattle.psd_base.specs.declared.act.Act.TheVariants as act
use Rattle.psd_base.specs.declared.act.Answer.TheVariants as answer
use Rattle.psd_base.specs.declared.act.Side.TheVariants.{Km, Ua}
use Rattle.psd_base.specs.declared.console.JobKind.TheVariants as kind
use Rattle.psd_base.specs.declared.console.Note.TheVariants as note
use Rattle.psd_base.specs.declared.console.Order.TheVariants as order
use Rattle.psd_base.specs.declared.console.Plug.TheVariants.{Keyboard, Mouse, Token}
use Rattle.psd_base.specs.declared.console.Reason.TheVariants as reason
use Rattle.psd_base.specs.declared.console.RuleName.TheVariants as rule
use Rattle.psd_base.specs.declared.line.Line.{Line}
use Rattle.psd_base.specs.declared.outlet.Input.TheVariants as input
use Rattle.psd_base.specs.declared.outlet.Outlet.TheVariants as outlet
use Rattle.psd_base.specs.declared.stop.CaptureFault.TheVariants.{Truncated}
use Rattle.psd_base.specs.declared.stop.RuleList.TheVariants.{Deny}
use Rattle.psd_base.specs.declared.stop.RulesFault.TheVariants as rules
use Rattle.psd_base.specs.declared.stop.ScriptFault.TheVariants.{NoSuchPort}
use Rattle.psd_base.specs.declared.stop.Stop.TheVariants as stop
use Rattle.port_transcript.specs.ConsoleLine.{job_words, kind_text, order_text, order_words}
use Rattle.port_transcript.specs.LogLine.{note_text, note_words, reason_text, rule_text, two_digits}
use Rattle.port_transcript.specs.Plug.{plug_text}
use Rattle.port_transcript.specs.PortLine.{act_text, answer_text, line_text, side_text}
use Rattle.port_transcript.specs.StopLine.{capture_text, input_text, list_text, outlet_text, rules_text, script_text, stop_text, stop_words}

unfoldable on_lines : Unit {0}
unfolding line_text side_text act_text answer_text note_text note_words reason_text rule_text two_digits order_text order_words job_words kind_text plug_text stop_text stop_words rules_text list_text capture_text script_text input_text outlet_text digits encode_with
on_lines = tt

-- the request of the device descriptor
abbrev device_request : Line
device_request = record {
  tick = 1;
  side = Km;
  act = act.Setup 0 (record { kind = 128; request = 6; value = 256; index = 0; length = 64 });
  answer = answer.Ack;
}

setup_line : line_text device_request ≡ codes "1 KM SETUP 0 8006000100004000 -> ACK\n"
unfolding on_lines
setup_line = refl

-- a keyboard report that isn't acknowledged
abbrev report : Line
report = record {
  tick = 141;
  side = Km;
  act = act.In 0 1 false;
  answer = answer.Data false (0 ∷ 0 ∷ 4 ∷ 0 ∷ 0 ∷ 0 ∷ 0 ∷ 0 ∷ []);
}

report_line : line_text report ≡ codes "141 KM IN 0 1 0 -> DATA 0 0000040000000000\n"
unfolding on_lines
report_line = refl

off_line : order_text 7 (order.Off Mouse 2) ≡ codes "7 MOUSE OFF 2\n"
unfolding on_lines
off_line = refl

job_line : order_text 120 (order.Job (record { life = 1; number = 1; kind = kind.Control (record { kind = 128; request = 6; value = 256; index = 0; length = 18 }) [] })) ≡ codes "120 TOKEN JOB 1 1 CTL 8006000100001200 -\n"
unfolding on_lines
job_line = refl

refused_line : note_text 9 (note.Refused Token (rule.Deny 64)) ≡ codes "9 TOKEN REFUSED D64\n"
unfolding on_lines
refused_line = refl

interface_line : note_text 0 (note.InterfaceRefused Keyboard 1 (rule.Fixed 7)) ≡ codes "0 KEYBOARD INTERFACE 1 REFUSED F07\n"
unfolding on_lines
interface_line = refl

truncated_line : stop_text (stop.Capture 88 Truncated) ≡ codes "capture 88 truncated\n"
unfolding on_lines
truncated_line = refl

write_fault_line : stop_text (stop.WriteFault (outlet.Port 1)) ≡ codes "write fault port 1\n"
unfolding on_lines
write_fault_line = refl

reset_line : line_text (record { tick = 140; side = Km; act = act.Reset; answer = answer.Silent }) ≡ codes "140 KM RESET -> SILENT\n"
unfolding on_lines
reset_line = refl

write_line : line_text (record { tick = 131; side = Ua; act = act.Out 5 2 true (7 ∷ []); answer = answer.Nak })
    ≡ codes "131 UA OUT 5 2 1 07 -> NAK\n"
unfolding on_lines
write_line = refl

empty_data_line : line_text (record { tick = 1; side = Km; act = act.In 5 0 true; answer = answer.Data true [] })
    ≡ codes "1 KM IN 5 0 1 -> DATA 1 -\n"
unfolding on_lines
empty_data_line = refl

-- the log, in the order of its table

alive_line : note_text 0 note.Alive ≡ codes "0 ALIVE\n"
unfolding on_lines
alive_line = refl

failed_line : note_text 0 (note.Dark (reason.Check 2)) ≡ codes "0 DARK CHECK 2\n"
unfolding on_lines
failed_line = refl

tamper_line : note_text 0 (note.Dark reason.Tamper) ≡ codes "0 DARK TAMPER\n"
unfolding on_lines
tamper_line = refl

button_line : note_text 0 (note.Dark reason.Button) ≡ codes "0 DARK BUTTON\n"
unfolding on_lines
button_line = refl

leave_line : note_text 250 (note.Leave 1) ≡ codes "250 LEAVE 1\n"
unfolding on_lines
leave_line = refl

select_line : note_text 320 (note.Select 2) ≡ codes "320 SELECT 2\n"
unfolding on_lines
select_line = refl

routed_line : note_text 110 (note.Routed 1) ≡ codes "110 TOKEN ROUTED 1\n"
unfolding on_lines
routed_line = refl

accepted_line : note_text 0 (note.Accepted Keyboard) ≡ codes "0 KEYBOARD ACCEPTED\n"
unfolding on_lines
accepted_line = refl

interface_accepted_line : note_text 0 (note.InterfaceAccepted Keyboard 0) ≡ codes "0 KEYBOARD INTERFACE 0 ACCEPTED\n"
unfolding on_lines
interface_accepted_line = refl

fixed_rules : rule_text (rule.Fixed 11) ≡ codes "F11"
unfolding on_lines
fixed_rules = refl

deny_rules : rule_text (rule.Deny 1) ≡ codes "D01"
unfolding on_lines
deny_rules = refl

allow_rules : rule_text rule.NotAllowed ≡ codes "A00"
unfolding on_lines
allow_rules = refl

rule_of_three_digits : rule_text (rule.Fixed 100) ≡ codes "F100"
unfolding on_lines
rule_of_three_digits = refl

-- the console, in the order of its table

on_line : order_text 0 (order.On Keyboard 1) ≡ codes "0 KEYBOARD ON 1\n"
unfolding on_lines
on_line = refl

ask_line : order_text 1250 (order.Ask Token 2 1 (record { kind = 128; request = 6; value = 256; index = 0; length = 18 }))
    ≡ codes "1250 TOKEN ASK 2 1 8006000100001200\n"
unfolding on_lines
ask_line = refl

in_job_line : order_text 130 (order.Job (record { life = 1; number = 2; kind = kind.In 1 })) ≡ codes "130 TOKEN JOB 1 2 IN 1\n"
unfolding on_lines
in_job_line = refl

out_job_line : order_text 131 (order.Job (record { life = 1; number = 3; kind = kind.Out 2 (0x65 ∷ 0 ∷ []) }))
    ≡ codes "131 TOKEN JOB 1 3 OUT 2 6500\n"
unfolding on_lines
out_job_line = refl

-- runs that stopped

shape_line : stop_text (stop.Rules (rules.Shape Deny 1)) ≡ codes "rules shape deny 1\n"
unfolding on_lines
shape_line = refl

too_many_line : stop_text (stop.Rules (rules.TooMany Deny)) ≡ codes "rules too-many deny\n"
unfolding on_lines
too_many_line = refl

script_line : stop_text (stop.Script 1 NoSuchPort) ≡ codes "script 1 no-such-port\n"
unfolding on_lines
script_line = refl

read_fault_line : stop_text (stop.ReadFault input.Rules) ≡ codes "read fault rules\n"
unfolding on_lines
read_fault_line = refl
