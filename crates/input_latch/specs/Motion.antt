-- Motions that are added up.
use Rattle.std.specs.Prelude.{ℤ, pos, negsuc, ◌+ℤ◌, int_le, zero, suc, Bool, true, false, ◌&&◌, Option, Some, None, if◌then◌else◌}
use Rattle.input_latch.specs.declared.motion.Join.{Join}
use Rattle.input_latch.specs.declared.motion.Join.TheVariants.{Apart, TooFar, Sum}
use Rattle.input_latch.specs.declared.pointer_latch.PointerChange.{PointerChange}
use Rattle.input_latch.specs.declared.pointer_latch.PointerChange.TheVariants.{Press, Release, Motion}

abbrev pub is_zero : ℤ → Bool
is_zero (pos zero) = true
is_zero (pos (suc n)) = false
is_zero (negsuc n) = false

-- whether a motion may have this count
abbrev pub is_count : ℤ → Bool
is_count count = int_le (negsuc 2147483646) count && int_le count (pos 2147483647)

abbrev pub sum_of : ℤ → ℤ → Option ℤ
sum_of a b = if is_count (a +ℤ b) then Some (a +ℤ b) else None

abbrev pub all_of : Option ℤ → Option ℤ → Option ℤ → Join
all_of None y wheel = TooFar
all_of (Some x) None wheel = TooFar
all_of (Some x) (Some y) None = TooFar
all_of (Some x) (Some y) (Some wheel) = Sum x y wheel

-- a motion with the change before it, if that is a motion too
abbrev pub join_of : Option PointerChange → ℤ → ℤ → ℤ → Join
join_of None x y wheel = Apart
join_of (Some (Press button)) x y wheel = Apart
join_of (Some (Release button)) x y wheel = Apart
join_of (Some (Motion a b c)) x y wheel = all_of (sum_of a x) (sum_of b y) (sum_of c wheel)
