-- How long a line of the console is.
use Rattle.std.proofs.Common.{ℕ, ◌^◌, ◌<◌, ◌≤◌, List, [], ◌∷◌, length, arith}
use Rattle.std.specs.Fmt.{decimal}
use Rattle.std.proofs.lemmas.Fmt.{length-decimal-le}
use Rattle.std.proofs.lemmas.List.{length-append}
use Rattle.hex.proofs.HexLemmas.{length-encode_with}
use Rattle.hex.specs.Hex.{lower_digits}
use Rattle.psd_base.specs.Setup.{setup_bytes}
use Rattle.psd_base.specs.declared.console.Job.{Job}
use Rattle.psd_base.specs.declared.console.JobKind.{JobKind}
use Rattle.psd_base.specs.declared.console.JobKind.TheVariants as kind
use Rattle.psd_base.specs.declared.console.Order.{Order}
use Rattle.psd_base.specs.declared.console.Order.TheVariants as order
use Rattle.psd_base.specs.declared.console.Plug.{Plug}
use Rattle.psd_base.specs.declared.console.Plug.TheVariants.{Keyboard, Mouse, Token}
use Rattle.port_transcript.specs.ConsoleLine.{IsBlock, IsJob, IsJobKind, IsOrder, job_words, kind_text, order_text, order_words}
use Rattle.port_transcript.specs.Plug.{plug_text}
use Rattle.port_transcript.specs.Text.{bytes_text}
use Rattle.port_transcript.specs.declared.console.TheConstants.{CONSOLE_LINE_SIZE}
use Rattle.port_transcript.proofs.PortLineLaws.{byte_digits, length-bytes_text-le}

-- a number of four bytes has at most ten digits
pub word_digits : (n : ℕ) → n < 2 ^ 32 → length (decimal n) ≤ 10
word_digits n small = length-decimal-le 10 n (omega arith) (omega arith) (omega arith)

pub length-plug_text-le : (plug : Plug) → length (plug_text plug) ≤ 8
unfolding plug_text
length-plug_text-le Keyboard = omega arith
length-plug_text-le Mouse = omega arith
length-plug_text-le Token = omega arith

length-block_text-le : (bytes : List ℕ) → IsBlock bytes → length (bytes_text bytes) ≤ 2048
length-block_text-le [] is = omega arith
length-block_text-le (byte ∷ bytes) is = omega (arith, length-encode_with lower_digits (byte ∷ bytes), is.size)

length-kind_text-le : (one : JobKind) → IsJobKind one → length (kind_text one) ≤ 2069
unfolding kind_text
length-kind_text-le (kind.Control setup bytes) is =
    simp length-append (omega (arith, length-encode_with lower_digits (setup_bytes setup), length-block_text-le bytes is.1))
length-kind_text-le (kind.In endpoint) is = simp length-append (omega (arith, byte_digits endpoint is))
length-kind_text-le (kind.Out endpoint bytes) is =
    simp length-append (omega (arith, byte_digits endpoint is.0, length-bytes_text-le bytes is.1))

length-job_words-le : (job : Job) → IsJob job → length (job_words job) ≤ 2101
unfolding job_words
length-job_words-le job is =
    simp length-append (omega (arith, word_digits job.life is.life, word_digits job.number is.number, length-kind_text-le job.kind is.kind))

length-order_words-le : (one : Order) → IsOrder one → length (order_words one) ≤ 2101
unfolding order_words
length-order_words-le (order.On plug life) is = simp length-append (omega (arith, length-plug_text-le plug, word_digits life is))
length-order_words-le (order.Off plug life) is = simp length-append (omega (arith, length-plug_text-le plug, word_digits life is))
length-order_words-le (order.Ask plug life number setup) is =
    simp length-append (omega (arith, length-plug_text-le plug, word_digits life is.0, word_digits number is.1, length-encode_with lower_digits (setup_bytes setup)))
length-order_words-le (order.Job job) is = length-job_words-le job is

-- no line is longer than the bound
pub length-order_text-le : (tick : ℕ) (one : Order) → tick < 2 ^ 32 → IsOrder one → length (order_text tick one) ≤ CONSOLE_LINE_SIZE
unfolding order_text
length-order_text-le tick one small is = simp length-append (omega (arith, word_digits tick small, length-order_words-le one is))

-- no line is empty: it has its line feed
pub length-order_text-pos : (tick : ℕ) (one : Order) → 0 < length (order_text tick one)
unfolding order_text
length-order_text-pos tick one = simp length-append (omega arith)
