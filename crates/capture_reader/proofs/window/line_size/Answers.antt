-- The bytes that were looked at are the first 65 of those that are held, or all.
use Rattle.std.proofs.Common.{◌≡◌, ℕ, ◌≤◌, List, length, take, None, position, sym, ap, ◌∙◌, arith, length-take}
use Rattle.std.proofs.lemmas.List.{take_min}
use Rattle.capture_reader.specs.Script.{is_line_feed}
use Rattle.capture_reader.proofs.FrontLines.{found_line, long_line, ended_line, no_line}
use Rattle.capture_reader.proofs.window.line_size.Goals as goal

front_is : (bytes : List ℕ) (count : ℕ) → count ≡ Rattle.std.proofs.Common.min 65 (length bytes) → take count bytes ≡ take 65 bytes
front_is bytes count is = ap (λ n. take n bytes) is ∙ take_min 65 bytes

pub returns-in-Some-clause-found : goal.returns-in-Some-clause-found
returns-in-Some-clause-found c =
    let bytes = c.args.bytes.now in
    found_line bytes c.args.ended c.in-Some.size (ap (position is_line_feed) (sym (front_is bytes c.min.result c.min.ensures)) ∙ sym c.line_feed_at.ensures ∙ c.in-Some.is)

pub returns-then-front-gt-LINE_MAX-clause-found : goal.returns-then-front-gt-LINE_MAX-clause-found
returns-then-front-gt-LINE_MAX-clause-found c =
    let bytes = c.args.bytes.now in
    let none = ap (position is_line_feed) (sym (front_is bytes c.min.result c.min.ensures)) ∙ sym c.line_feed_at.ensures ∙ c.in-None.is in
    long_line bytes c.args.ended none (omega (arith, length-take c.min.result bytes))

pub returns-then-ended-clause-found : goal.returns-then-ended-clause-found
returns-then-ended-clause-found c =
    let bytes = c.args.bytes.now in
    let none = ap (position is_line_feed) (sym (front_is bytes c.min.result c.min.ensures)) ∙ sym c.line_feed_at.ensures ∙ c.in-None.is in
    let size : length (take c.min.result bytes) ≡ length bytes = omega (arith, length-take c.min.result bytes) in
    rw size (ended_line bytes c.args.ended none c.if-ended.true (omega (arith, length-take c.min.result bytes)))

pub returns-else-ended-clause-none : goal.returns-else-ended-clause-none
returns-else-ended-clause-none c =
    let bytes = c.args.bytes.now in
    let none = ap (position is_line_feed) (sym (front_is bytes c.min.result c.min.ensures)) ∙ sym c.line_feed_at.ensures ∙ c.in-None.is in
    let few = no_line bytes none (omega (arith, length-take c.min.result bytes, length-take 65 bytes)) in
    (few.0, few.1, c.if-ended.false)
