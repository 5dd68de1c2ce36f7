-- A text of a check begins with the word and has its number behind it.
use Rattle.std.proofs.Common.{◌≡◌, ◌≢◌, ℕ, ◌≤◌, List, true, false, codes, get_or, take, drop, sym, ap, ◌∙◌, subst}
use Rattle.std.proofs.lemmas.List.{take_rest}
use Rattle.std.specs.Str.{bytes_eq}
use Rattle.capture_reader.specs.Script.{checks, digit_of, move_among}
use Rattle.capture_reader.proofs.Moves.{short_text, no_check-front, no_check, check_begins, is_false, is_true}
use Rattle.capture_reader.proofs.line.read_check.Goals as goal

pub returns-then-text-le-CHECK_FRONT-clause-value : goal.returns-then-text-le-CHECK_FRONT-clause-value
returns-then-text-le-CHECK_FRONT-clause-value c = sym (short_text c.args.text.now c.if-text-le-CHECK_FRONT.true)

pub returns-then-ne-clause-value : goal.returns-then-ne-clause-value
returns-then-ne-clause-value c =
    let text = c.args.text.now in
    let other : bytes_eq (take 6 text) (codes "check ") ≡ false = ap (bytes_eq (take 6 text)) (sym c.as_slice.ensures) ∙ is_false _ (sym c.ne.ensures ∙ c.if-ne.true) in
    sym (no_check-front 4 text other)

pub returns-in-None-clause-value : goal.returns-in-None-clause-value
returns-in-None-clause-value c =
    let text = c.args.text.now in
    let same : bytes_eq (take 6 text) (codes "check ") ≡ true = ap (bytes_eq (take 6 text)) (sym c.as_slice.ensures) ∙ is_true _ (sym c.ne.ensures ∙ c.if-ne.false) in
    let none = subst (λ (behind : List ℕ). (number : ℕ) → 1 ≤ number → number ≤ 4 → get_or behind 0 0 ≢ digit_of number) (take_rest text 6) c.in-None.ensures.none in
    sym (ap (move_among (checks 4)) (check_begins text same c.if-text-le-CHECK_FRONT.false) ∙ no_check 4 (get_or (drop 6 text) 0 0) (drop 1 (drop 6 text)) none)
