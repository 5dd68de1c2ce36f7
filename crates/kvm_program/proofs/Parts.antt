-- Outlets that grew by a text, or by a part of it.
use Rattle.std.proofs.Common.{◌≡◌, ℕ, zero, suc, ◌+◌, ◌≤◌, List, [], ◌++◌, length, take, min, Option, Some, None, Result, Ok, Err, refl, sym, ap, ◌∙◌, append_assoc, arith}
use Rattle.std.proofs.lemmas.List.{take-append-le, take_min, append-nil}
use Rattle.std.proofs.Math.Seq.{take-append-add, take-append_seam, take-length}
use Rattle.psd_base.specs.Desk.{IsAppendedPart, Told, Touches}
use Rattle.psd_base.specs.declared.outlet.Input.{Input}
use Rattle.psd_base.specs.declared.outlet.Outlet.{Outlet}
use Rattle.psd_base.specs.declared.stop.Stop.{Stop}
use Rattle.kvm_program.specs.Outlets.{Grew, Wrote}

-- no text leaves an outlet as it was
pub Grew-nothing : (before after : Option (List ℕ)) → after ≡ before → Grew before after []
Grew-nothing None after same = same
Grew-nothing (Some sent) after same = same ∙ ap Some (sym (append-nil sent))

-- one text after another
pub Grew-more : (before mid after : Option (List ℕ)) (first second : List ℕ) → Grew before mid first → Grew mid after second → Grew before after (first ++ second)
Grew-more None mid after first second one two = rw (two, one) refl
Grew-more (Some sent) mid after first second one two = rw (two, one) (ap Some (append_assoc sent first second))

-- the first so many of a text that goes on
front : (first second third : List ℕ) (count : ℕ) → take (length first + min count (length second)) ((first ++ second) ++ third) ≡ first ++ take count second
front first second third count =
    let short : min count (length second) ≤ length second = omega arith in
    rw append_assoc (rw take-append-add (ap (λ (text : List ℕ). first ++ text) (take-append-le _ second third short ∙ take_min count second)))

-- a text, and then a part of another one, are a part of both and what follows
pub Grew-part : (before mid after : Option (List ℕ)) (first second third : List ℕ)
    → Grew before mid first → IsAppendedPart mid after second → IsAppendedPart before after ((first ++ second) ++ third)
Grew-part None mid after first second third one two = (0, rw (two.1, one) refl)
Grew-part (Some sent) mid after first second third one two = (
  length first + min two.0 (length second),
  rw (two.1, one, front first second third two.0) (ap Some (append_assoc sent first (take two.0 second))),
)

-- a whole text is a part of what goes on after it
pub Grew-prefix : (before after : Option (List ℕ)) (first second : List ℕ) → Grew before after first → IsAppendedPart before after (first ++ second)
Grew-prefix None after first second one = (0, one)
Grew-prefix (Some sent) after first second one = (length first, rw (one, take-append_seam first second) refl)

-- a whole text is a part of itself
pub Grew-whole : (before after : Option (List ℕ)) (text : List ℕ) → Grew before after text → IsAppendedPart before after text
Grew-whole before after text one = (length text, rw take_whole one) where
  take_whole : take (length text) text ≡ text
  take_whole = take-length text

-- a text that was written before what was written last
pub Wrote-before : (result : Result (Unit {0}) Stop) (before mid after : Option (List ℕ)) (text : List ℕ) → Grew before mid text → after ≡ mid → Wrote result before after text
Wrote-before (Ok done) before mid after text wrote same = same ∙ wrote
Wrote-before (Err why) before mid after text wrote same = Grew-whole before after text (same ∙ wrote)

-- an outlet that stays as it is
pub Wrote-nothing : (result : Result (Unit {0}) Stop) (before after : Option (List ℕ)) → after ≡ before → Wrote result before after []
Wrote-nothing (Ok done) before after same = Grew-nothing before after same
Wrote-nothing (Err why) before after same = Grew-whole before after [] (Grew-nothing before after same)

-- no bytes, written whole or in part, leave an outlet as it was

take_nothing : (count : ℕ) → take {A = ℕ} count [] ≡ []
take_nothing zero = refl
take_nothing (suc count) = refl

pub Part-stays : (before after : Option (List ℕ)) → IsAppendedPart before after [] → after ≡ before
Part-stays None after part = part.1
Part-stays (Some sent) after part = part.1 ∙ ap Some (ap (λ (text : List ℕ). sent ++ text) (take_nothing part.0) ∙ append-nil sent)

pub Wrote-stays : (result : Result (Unit {0}) Stop) (before after : Option (List ℕ)) → Wrote result before after [] → after ≡ before
Wrote-stays (Ok done) None after wrote = wrote
Wrote-stays (Ok done) (Some sent) after wrote = wrote ∙ ap Some (append-nil sent)
Wrote-stays (Err why) before after wrote = Part-stays before after wrote

-- one thing that touches these places, and then another
pub Touches-then : (reads : Input → Type 0) (writes : Outlet → Type 0) (before mid after : Told)
    → Touches reads writes before mid → Touches reads writes mid after → Touches reads writes before after
Touches-then reads writes before mid after one two = record {
  inputs = λ which apart. two.inputs which apart ∙ one.inputs which apart;
  outlets = λ to apart. two.outlets to apart ∙ one.outlets to apart;
  read_counts = λ which. omega (arith, one.read_counts which, two.read_counts which);
  write_counts = λ to. omega (arith, one.write_counts to, two.write_counts to);
  other_reads = λ which apart. two.other_reads which apart ∙ one.other_reads which apart;
  other_writes = λ to apart. two.other_writes to apart ∙ one.other_writes to apart;
}
