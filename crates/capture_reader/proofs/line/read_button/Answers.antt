-- A text of a button begins with its number.
use Rattle.std.proofs.Common.{◌≡◌, ◌<◌, length, sym, ap, ◌∙◌, arith}
use Rattle.std.proofs.lemmas.Bool.Decides.{nat_tests}
use Rattle.std.proofs.lemmas.List.{nil_from_length}
use Rattle.capture_reader.specs.Script.{buttons, move_among}
use Rattle.capture_reader.proofs.Moves.{no_button_in, no_text}
use Rattle.capture_reader.proofs.line.read_button.Goals as goal

pub returns-then-is_empty-clause-value : goal.returns-then-is_empty-clause-value
returns-then-is_empty-clause-value c =
    let test = sym c.is_empty.ensures ∙ c.if-is_empty.true in
    let none : length c.args.text.now ≡ 0 = grind (arith, nat_tests) in
    sym (ap (move_among (buttons 8)) (nil_from_length c.args.text.now none) ∙ no_text)

pub returns-in-None-clause-value : goal.returns-in-None-clause-value
returns-in-None-clause-value c =
    let test = sym c.is_empty.ensures ∙ c.if-is_empty.false in
    let some : 0 < length c.args.text.now = grind (arith, nat_tests) in
    sym (no_button_in c.args.text.now some c.in-None.ensures.none)
