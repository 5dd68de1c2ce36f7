-- How long a line of the log is.
use Rattle.std.proofs.Common.{ℕ, ◌^◌, ◌<◌, ◌≤◌, length, arith}
use Rattle.std.proofs.lemmas.Bool.Decides.{nat_tests}
use Rattle.std.proofs.lemmas.Fmt.{decimal_digit}
use Rattle.std.proofs.lemmas.List.{length-append}
use Rattle.psd_base.specs.declared.console.Note.{Note}
use Rattle.psd_base.specs.declared.console.Note.TheVariants as note
use Rattle.psd_base.specs.declared.console.Reason.{Reason}
use Rattle.psd_base.specs.declared.console.Reason.TheVariants as reason
use Rattle.psd_base.specs.declared.console.RuleName.{RuleName}
use Rattle.psd_base.specs.declared.console.RuleName.TheVariants as rule
use Rattle.port_transcript.specs.LogLine.{IsNote, IsReason, IsRuleName, note_text, note_words, reason_text, rule_text, two_digits}
use Rattle.port_transcript.specs.declared.log.TheConstants.{LOG_LINE_SIZE}
use Rattle.port_transcript.proofs.ConsoleLineLaws.{length-plug_text-le, word_digits}
use Rattle.port_transcript.proofs.PortLineLaws.{byte_digits}

length-two_digits-le : (n : ℕ) → n < 2 ^ 8 → length (two_digits n) ≤ 3
unfolding two_digits
length-two_digits-le n small = grind (arith, nat_tests, byte_digits, decimal_digit, length-append)

length-reason_text-le : (one : Reason) → IsReason one → length (reason_text one) ≤ 9
unfolding reason_text
length-reason_text-le (reason.Check number) is = simp length-append (omega (arith, byte_digits number is))
length-reason_text-le reason.Tamper is = omega arith
length-reason_text-le reason.Button is = omega arith

length-rule_text-le : (one : RuleName) → IsRuleName one → length (rule_text one) ≤ 4
unfolding rule_text
length-rule_text-le (rule.Fixed number) is = simp length-append (omega (arith, length-two_digits-le number is))
length-rule_text-le (rule.Deny number) is = simp length-append (omega (arith, length-two_digits-le number is))
length-rule_text-le rule.NotAllowed is = omega arith

length-note_words-le : (one : Note) → IsNote one → length (note_words one) ≤ 35
unfolding note_words
length-note_words-le note.Alive is = omega arith
length-note_words-le (note.Dark reason) is = simp length-append (omega (arith, length-reason_text-le reason is))
length-note_words-le (note.Leave port) is = simp length-append (omega (arith, byte_digits port (omega (arith, is.1))))
length-note_words-le (note.Select port) is = simp length-append (omega (arith, byte_digits port (omega (arith, is.1))))
length-note_words-le (note.Routed port) is = simp length-append (omega (arith, byte_digits port (omega (arith, is.1))))
length-note_words-le (note.InterfaceAccepted plug interface) is =
    simp length-append (omega (arith, length-plug_text-le plug, byte_digits interface is))
length-note_words-le (note.InterfaceRefused plug interface rule) is =
    simp length-append (omega (arith, length-plug_text-le plug, byte_digits interface is.0, length-rule_text-le rule is.1))
length-note_words-le (note.Accepted plug) is = simp length-append (omega (arith, length-plug_text-le plug))
length-note_words-le (note.Refused plug rule) is =
    simp length-append (omega (arith, length-plug_text-le plug, length-rule_text-le rule is))

-- no line is longer than the bound
pub length-note_text-le : (tick : ℕ) (one : Note) → tick < 2 ^ 32 → IsNote one → length (note_text tick one) ≤ LOG_LINE_SIZE
unfolding note_text
length-note_text-le tick one small is = simp length-append (omega (arith, word_digits tick small, length-note_words-le one is))

-- no line is empty: it has its line feed
pub length-note_text-pos : (tick : ℕ) (one : Note) → 0 < length (note_text tick one)
unfolding note_text
length-note_text-pos tick one = simp length-append (omega arith)
