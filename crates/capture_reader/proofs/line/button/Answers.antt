-- What stands behind the number of a button.
use Rattle.std.proofs.Common.{◌≡◌, ℕ, Some, true, false, codes, sym, ap, ◌∙◌}
use Rattle.std.specs.Str.{bytes_eq}
use Rattle.psd_base.specs.declared.console.Panel.TheVariants.{Button}
use Rattle.capture_reader.proofs.Moves.{button_down, button_up, button_neither}
use Rattle.capture_reader.proofs.line.button.Goals as goal

pub returns-then-eq-clause-value : goal.returns-then-eq-clause-value
returns-then-eq-clause-value c =
    let rest = c.args.rest.now in
    let down : bytes_eq rest (codes " down") ≡ true = ap (bytes_eq rest) (sym c.as_slice.ensures) ∙ sym c.eq.ensures ∙ c.if-eq.true in
    ap (λ (n : ℕ). Some (Button n true)) c.in-Some.ensures.value ∙ sym (button_down c.args.number rest c.requires.0 c.requires.1 down)

pub returns-then-eq-2-clause-value : goal.returns-then-eq-2-clause-value
returns-then-eq-2-clause-value c =
    let rest = c.args.rest.now in
    let down : bytes_eq rest (codes " down") ≡ false = ap (bytes_eq rest) (sym c.as_slice.ensures) ∙ sym c.eq.ensures ∙ c.if-eq.false in
    let up : bytes_eq rest (codes " up") ≡ true = ap (bytes_eq rest) (sym c.as_slice-else-eq.ensures) ∙ sym c.eq-else-eq.ensures ∙ c.if-eq-2.true in
    ap (λ (n : ℕ). Some (Button n false)) c.in-Some.ensures.value ∙ sym (button_up c.args.number rest c.requires.0 c.requires.1 down up)

pub returns-else-eq-2-clause-value : goal.returns-else-eq-2-clause-value
returns-else-eq-2-clause-value c =
    let rest = c.args.rest.now in
    let down : bytes_eq rest (codes " down") ≡ false = ap (bytes_eq rest) (sym c.as_slice.ensures) ∙ sym c.eq.ensures ∙ c.if-eq.false in
    let up : bytes_eq rest (codes " up") ≡ false = ap (bytes_eq rest) (sym c.as_slice-else-eq.ensures) ∙ sym c.eq-else-eq.ensures ∙ c.if-eq-2.false in
    sym (button_neither c.args.number rest c.requires.0 c.requires.1 down up)
