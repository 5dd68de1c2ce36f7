-- Buttons that lie in a row are the digits of one number.
use Rattle.std.proofs.Common.{◌≡◌, ℕ, zero, suc, ◌+◌, ◌*◌, ◌<◌, Bool, true, false, cond, ◌&&◌, nat_eq, nat_le, List, Option, Some, None, refl, sym, ap, ◌∙◌, arith, unwrap_or, ℤ, pos, negsuc}
use Rattle.std.proofs.lemmas.Bool.Decides.{nat_tests}
use Rattle.std.specs.Int.Signed.{le_z}
use Rattle.hid_report.specs.declared.source.Source.{Source}
use Rattle.hid_report.specs.Elements.{bit_of, raw_bits, is_zero}
use Rattle.hid_report.specs.Sources.{bounded, counted_by, weight_from}
use Rattle.hid_report.specs.FlagRows.{is_flag, are_flags, row_of}

-- one bit
single : (report : List ℕ) (bit : ℕ) → raw_bits report bit 1 ≡ bit_of report bit
unfolding raw_bits
single report bit =
    let same : bit + 0 ≡ bit = omega arith in
    omega_one (bit_of report (bit + 0)) ∙ ap (bit_of report) same
  where
    omega_one : (b : ℕ) → 0 + b * 1 ≡ b
    omega_one b = omega arith

bit-small : (report : List ℕ) (bit : ℕ) → bit_of report bit < 2
bit-small report bit = omega arith

flag-weight : (raw weight : ℕ) (minimum maximum : ℤ) → raw < 2 → le_z (pos 0) minimum ≡ true → le_z minimum (pos 0) ≡ true
    → le_z (pos 1) maximum ≡ true → cond (is_zero (unwrap_or (bounded 1 minimum maximum raw) (pos 0))) 0 weight ≡ raw * weight
flag-weight raw weight (negsuc n) maximum small low high most = absurd (cc)
flag-weight raw weight (pos (suc n)) maximum small low high most = absurd (grind (arith, nat_tests, high))
flag-weight raw weight (pos zero) (negsuc m) small low high most = absurd (cc)
flag-weight raw weight (pos zero) (pos zero) small low high most = absurd (cc)
flag-weight zero weight (pos zero) (pos (suc m)) small low high most = by_test (nat_le 0 (suc m))
  where
    by_test : (within : Bool) → cond (is_zero (unwrap_or (cond within (Some (pos 0)) None) (pos 0))) 0 weight ≡ 0 * weight
    by_test true = omega arith
    by_test false = omega arith
flag-weight (suc zero) weight (pos zero) (pos (suc m)) small low high most = by_test (nat_le 1 (suc m)) (grind (arith, nat_tests))
  where
    by_test : (within : Bool) → within ≡ true → cond (is_zero (unwrap_or (cond within (Some (pos 1)) None) (pos 0))) 0 weight ≡ 1 * weight
    by_test true is = omega arith
    by_test false is = absurd (cc)
flag-weight (suc (suc raw)) weight (pos zero) (pos (suc m)) small low high most = absurd (omega (arith, small))

-- what is known of a flag
record Flag (bit : ℕ) (source : Source) : Type 0 where
  place : source.place ≡ bit
  size : source.size ≡ 1
  low : le_z (pos 0) source.minimum ≡ true
  high : le_z source.minimum (pos 0) ≡ true
  most : le_z (pos 1) source.maximum ≡ true

both : (a b : Bool) → (a && b) ≡ true → (a ≡ true) × (b ≡ true)
both true b h = (refl, h)
both false b h = absurd (cc)

flag-is : (bit : ℕ) (source : Source) → is_flag bit (Some source) ≡ true → Flag bit source
flag-is bit source h =
    let a = both (nat_eq source.place bit) _ h in
    let b = both (nat_eq source.size 1) _ a.1 in
    let c = both (le_z (pos 0) source.minimum) _ b.1 in
    let d = both (le_z source.minimum (pos 0)) _ c.1 in
    record {
      place = grind (arith, nat_tests, a.0);
      size = grind (arith, nat_tests, b.0);
      low = c.0;
      high = d.0;
      most = d.1;
    }

weight-is : (report : List ℕ) (bit weight : ℕ) (source : Option Source) → is_flag bit source ≡ true
    → weight_from report source weight ≡ bit_of report bit * weight
unfolding counted_by
weight-is report bit weight None h = absurd (cc)
weight-is report bit weight (Some source) h =
    let flag = flag-is bit source h in
    ap (λ n. cond (is_zero (unwrap_or (bounded n source.minimum source.maximum (raw_bits report source.place n)) (pos 0))) 0 weight) flag.size
    ∙ ap (λ p. cond (is_zero (unwrap_or (bounded 1 source.minimum source.maximum (raw_bits report p 1)) (pos 0))) 0 weight) flag.place
    ∙ ap (λ raw. cond (is_zero (unwrap_or (bounded 1 source.minimum source.maximum raw) (pos 0))) 0 weight) (single report bit)
    ∙ flag-weight (bit_of report bit) weight source.minimum source.maximum (bit-small report bit) flag.low flag.high flag.most

five : (report : List ℕ) (bit : ℕ)
    → raw_bits report bit 5
    ≡ 0 + bit_of report (bit + 0) * 1 + bit_of report (bit + 1) * 2 + bit_of report (bit + 2) * 4 + bit_of report (bit + 3) * 8 + bit_of report (bit + 4) * 16
unfolding raw_bits
five report bit = refl

flags-weights : (report : List ℕ) (bit : ℕ) (first second third fourth fifth : Option Source) → are_flags bit first second third fourth fifth ≡ true
    → raw_bits report bit 5
    ≡ weight_from report first 1 + weight_from report second 2 + weight_from report third 4 + weight_from report fourth 8 + weight_from report fifth 16
flags-weights report bit first second third fourth fifth h =
    let a = both (is_flag bit first) _ h in
    let b = both (is_flag (bit + 1) second) _ a.1 in
    let c = both (is_flag (bit + 2) third) _ b.1 in
    let d = both (is_flag (bit + 3) fourth) _ c.1 in
    let same : bit + 0 ≡ bit = omega arith in
    five report bit
    ∙ ap (λ p. 0 + bit_of report p * 1 + bit_of report (bit + 1) * 2 + bit_of report (bit + 2) * 4 + bit_of report (bit + 3) * 8 + bit_of report (bit + 4) * 16) same
    ∙ sum_of (sym (weight-is report bit 1 first a.0)) (sym (weight-is report (bit + 1) 2 second b.0)) (sym (weight-is report (bit + 2) 4 third c.0))
    (sym (weight-is report (bit + 3) 8 fourth d.0)) (sym (weight-is report (bit + 4) 16 fifth d.1))
  where
    sum_of : {a b c d e v w x y z : ℕ} → a ≡ v → b ≡ w → c ≡ x → d ≡ y → e ≡ z → 0 + a + b + c + d + e ≡ v + w + x + y + z
    sum_of p q r s t = rw (p, q, r, s, t) (omega arith)

-- five buttons in a row
pub row-weights : (report : List ℕ) (bit value : ℕ) (first second third fourth fifth : Option Source) → Some bit ≡ row_of first second third fourth fifth
    → value ≡ raw_bits report bit 5
    → value
    ≡ weight_from report first 1 + weight_from report second 2 + weight_from report third 4 + weight_from report fourth 8 + weight_from report fifth 16
row-weights report bit value None second third fourth fifth is v = absurd (cc)
row-weights report bit value (Some source) second third fourth fifth is v =
    by_test (are_flags source.place (Some source) second third fourth fifth) is (flags-weights report source.place (Some source) second third fourth fifth)
  where
    weights : ℕ
    weights = weight_from report (Some source) 1 + weight_from report second 2 + weight_from report third 4 + weight_from report fourth 8 + weight_from report fifth 16

    by_test : (test : Bool) → Some bit ≡ cond test (Some source.place) None → (test ≡ true → raw_bits report source.place 5 ≡ weights) → value ≡ weights
    by_test false e all = absurd (cc)
    by_test true e all = let same : bit ≡ source.place = cc in v ∙ ap (λ p. raw_bits report p 5) same ∙ all refl
