-- Where what was rendered ends.
use Rattle.std.specs.Prelude.{ℕ, ◌≡◌, ◌+◌, ◌≤◌, List, ◌++◌, take, length}
use Rattle.std.proofs.Common.{arith, ap, length-take-le, length-append}

-- bytes behind those that lie in front of a place end so much later
pub end_of : (new old text : List ℕ) (at end : ℕ) → take end new ≡ take at old ++ text → at ≤ length old → end ≤ length new → end ≡ at + length text
end_of new old text at end same before behind = omega (arith, ap length same, length-take-le end new behind, length-take-le at old before, length-append (take at old) text)
