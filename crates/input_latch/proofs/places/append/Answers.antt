-- No change is overwritten.
use Rattle.std.proofs.Common.{◌≡◌, ◌-◌, ◌≤◌, ℕ, List, [], ◌∷◌, ◌++◌, length, arith, ap, refl, length-append}
use Rattle.circular_buffer.specs.Buffer.{buffer, keep_last}
use Rattle.input_latch.proofs.places.append.Goals as goal

-- a list that fits is kept whole
keep_last-all : {X : Type 0} → (n : ℕ) (xs : List X) → length xs ≤ n → keep_last n xs ≡ xs
keep_last-all n xs fits = let none : length xs - n ≡ 0 = omega arith in rw none refl

pub returns : goal.returns
returns g c =
    rw c.push_back.ensures.items
    (ap (λ (items : List g.row.C.Denot). buffer items c.args.waiting.now.capacity)
    (keep_last-all c.args.waiting.now.capacity (c.args.waiting.now.items ++ c.args.change ∷ []) (omega (arith, length-append c.args.waiting.now.items (c.args.change ∷ [])))))
