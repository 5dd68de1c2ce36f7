-- A list of one word is that word.
use Rattle.std.proofs.Common.{◌≡◌, ℕ, List, [], ◌∷◌, length, Some, slice_get, ap, arith}
use Rattle.kvm_program.proofs.command.Command.read.Goals as goal

only_word : (words : List (List ℕ)) (word : List ℕ) → length words ≡ 1 → slice_get words 0 ≡ Some word → words ≡ word ∷ []
only_word [] word one is = absurd (cc)
only_word (first ∷ []) word one is = let same : first ≡ word = cc in ap (λ (w : List ℕ). w ∷ []) same
only_word (first ∷ second ∷ rest) word one is = absurd (omega arith)

pub returns-clause-named : goal.returns-clause-named
returns-clause-named c =
    let one : length c.args.words.now ≡ 1 = omega arith in
    let only = only_word _ _ one c.word.ensures in
    rw only c.read_one.ensures.named
