-- Whether a port's number is that of a port.
use Rattle.std.proofs.Common.{◌≡◌, ◌≢◌, ℕ, true, false, nat_eq, refl, inl, inr}
use Rattle.std.proofs.lemmas.Bool.Decides.{eqb_tells}

pub same_number : (number : ℕ) → nat_eq number number ≡ true
same_number number = elim (eqb_tells number number) [ inl is ↦ is.0 | inr is ↦ absurd (is.1 refl) ]

pub other_number : (first second : ℕ) → first ≢ second → nat_eq first second ≡ false
other_number first second apart = elim (eqb_tells first second) [ inl is ↦ absurd (apart is.1) | inr is ↦ is.0 ]
