-- The pieces of a motion, one after another.
use Rattle.std.proofs.Common.{◌≡◌, ℕ, zero, suc, ◌+◌, ◌-◌, ◌/◌, ◌≤◌, max, nat_le, ℤ, pos, negsuc, Bool, true, false, ◌&&◌, [], ◌∷◌, refl, ap, arith, if◌then◌else◌}
use Rattle.std.proofs.lemmas.Bool.{and_parts}
use Rattle.std.proofs.lemmas.Bool.Decides.{nat_tests}
use Rattle.input_latch.specs.Motion.{is_zero}
use Rattle.emulated_mouse.specs.declared.motion.Motion.{Motion}
use Rattle.emulated_mouse.specs.Motion.{is_still, left, piece_of, left_of, size, greatest, pieces, pieces_left, pieces_of}

size-left : (count : ℤ) → size (left count) ≡ size count - 127
size-left (pos n) = refl
size-left (negsuc n) = by (nat_le n 126) refl where
  by : (b : Bool) → nat_le n 126 ≡ b → size (if b then pos 0 else negsuc (n - 127)) ≡ suc n - 127
  by true is = grind (arith, nat_tests)
  by false is = grind (arith, nat_tests)

pub greatest-left : (moved : Motion) → greatest (left_of moved) ≡ greatest moved - 127
greatest-left moved = omega (arith, size-left moved.x, size-left moved.y, size-left moved.wheel)

-- how many pieces
one_more : (g h : ℕ) → h ≡ g - 127 → max 1 ((g + 126) / 127) ≡ suc ((h + 126) / 127)
one_more g h is = omega arith

one_more_left : (g h : ℕ) → h ≡ g - 127 → 1 ≤ g → (g + 126) / 127 ≡ suc ((h + 126) / 127)
one_more_left g h is some = omega arith

none_more : (g : ℕ) → g ≡ 0 → (g + 126) / 127 ≡ 0
none_more g is = omega arith

zero_size : (count : ℤ) → is_zero count ≡ true → size count ≡ 0
zero_size (pos zero) is = refl
zero_size (pos (suc n)) is = absurd (cc)
zero_size (negsuc n) is = absurd (cc)

some_size : (count : ℤ) → is_zero count ≡ false → 1 ≤ size count
some_size (pos zero) is = absurd (cc)
some_size (pos (suc n)) is = omega arith
some_size (negsuc n) is = omega arith

none_greatest : (moved : Motion) → is_still moved ≡ true → greatest moved ≡ 0
none_greatest moved is =
    let outer = and_parts (is_zero moved.x && is_zero moved.y) (is_zero moved.wheel) is in
    let inner = and_parts (is_zero moved.x) (is_zero moved.y) outer.0 in
    omega (arith, zero_size moved.x inner.0, zero_size moved.y inner.1, zero_size moved.wheel outer.1)

some_greatest : (moved : Motion) → is_still moved ≡ false → 1 ≤ greatest moved
some_greatest moved is = by (is_zero moved.x) (is_zero moved.y) (is_zero moved.wheel) refl refl refl is where
  by : (x y wheel : Bool) → is_zero moved.x ≡ x → is_zero moved.y ≡ y → is_zero moved.wheel ≡ wheel → (x && y && wheel) ≡ false → 1 ≤ greatest moved
  by false y wheel a b c is = omega (arith, some_size moved.x a)
  by true false wheel a b c is = omega (arith, some_size moved.y b)
  by true true false a b c is = omega (arith, some_size moved.wheel c)
  by true true true a b c is = absurd (cc)

pub pieces_of-first : (moved : Motion) → pieces_of moved ≡ piece_of moved ∷ pieces_left (left_of moved)
unfolding pieces
pieces_of-first moved =
    ap (λ (n : ℕ). pieces n moved) (one_more (greatest moved) (greatest (left_of moved)) (greatest-left moved))

pub pieces_left-first : (moved : Motion) → is_still moved ≡ false → pieces_left moved ≡ piece_of moved ∷ pieces_left (left_of moved)
unfolding pieces
pieces_left-first moved is =
    ap (λ (n : ℕ). pieces n moved) (one_more_left (greatest moved) (greatest (left_of moved)) (greatest-left moved) (some_greatest moved is))

pub pieces_left-none : (moved : Motion) → is_still moved ≡ true → pieces_left moved ≡ []
unfolding pieces
pieces_left-none moved is = ap (λ (n : ℕ). pieces n moved) (none_more (greatest moved) (none_greatest moved is))
