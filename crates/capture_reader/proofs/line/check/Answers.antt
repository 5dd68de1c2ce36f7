-- What stands behind the number of a check.
use Rattle.std.proofs.Common.{◌≡◌, true, false, codes, sym, ap, ◌∙◌}
use Rattle.std.specs.Str.{bytes_eq}
use Rattle.capture_reader.proofs.Moves.{check_passed, check_failed, check_neither}
use Rattle.capture_reader.proofs.line.check.Goals as goal

pub returns-then-eq-clause-value : goal.returns-then-eq-clause-value
returns-then-eq-clause-value c =
    let rest = c.args.rest.now in
    let passed : bytes_eq rest (codes " pass") ≡ true = ap (bytes_eq rest) (sym c.as_slice.ensures) ∙ sym c.eq.ensures ∙ c.if-eq.true in
    sym (check_passed c.args.number rest c.requires.0 c.requires.1 passed)

pub returns-then-eq-2-clause-value : goal.returns-then-eq-2-clause-value
returns-then-eq-2-clause-value c =
    let rest = c.args.rest.now in
    let passed : bytes_eq rest (codes " pass") ≡ false = ap (bytes_eq rest) (sym c.as_slice.ensures) ∙ sym c.eq.ensures ∙ c.if-eq.false in
    let failed : bytes_eq rest (codes " fail") ≡ true = ap (bytes_eq rest) (sym c.as_slice-else-eq.ensures) ∙ sym c.eq-else-eq.ensures ∙ c.if-eq-2.true in
    sym (check_failed c.args.number rest c.requires.0 c.requires.1 passed failed)

pub returns-else-eq-2-clause-value : goal.returns-else-eq-2-clause-value
returns-else-eq-2-clause-value c =
    let rest = c.args.rest.now in
    let passed : bytes_eq rest (codes " pass") ≡ false = ap (bytes_eq rest) (sym c.as_slice.ensures) ∙ sym c.eq.ensures ∙ c.if-eq.false in
    let failed : bytes_eq rest (codes " fail") ≡ false = ap (bytes_eq rest) (sym c.as_slice-else-eq.ensures) ∙ sym c.eq-else-eq.ensures ∙ c.if-eq-2.false in
    sym (check_neither c.args.number rest c.requires.0 c.requires.1 passed failed)
