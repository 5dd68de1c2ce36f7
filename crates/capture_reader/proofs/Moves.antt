-- Which texts are those of moves.
use Rattle.std.proofs.Common.{◌≡◌, ◌≢◌, ℕ, zero, suc, ◌+◌, ◌<◌, ◌≤◌, ◌⊎◌, inl, inr, Bool, true, false, nat_eq, List, [], ◌∷◌, ◌++◌, length, take, drop, get_or, Option, Some, None, cond, not, codes, refl, sym, ap, ◌∙◌, arith, length-drop, take-append-drop}
use Rattle.std.proofs.lemmas.Bool.Decides.{nat_tests}
use Rattle.std.proofs.lemmas.List.{take_all}
use Rattle.std.proofs.lemmas.Slice.Eq.{bytes_eq-Decides}
use Rattle.std.specs.Str.{bytes_eq}
use Rattle.psd_base.specs.declared.console.Panel.{Panel}
use Rattle.psd_base.specs.declared.console.Panel.TheVariants.{Button, Check}
use Rattle.capture_reader.specs.Script.{buttons, checks, digit_of, move_among}

-- the move of a button, by what stands behind its number
abbrev pub button_of : ℕ → List ℕ → Option Panel
button_of port rest = cond (bytes_eq rest (codes " down")) (Some (Button port true)) (cond (bytes_eq rest (codes " up")) (Some (Button port false)) None)

-- the outcome of a check, by what stands behind its number
abbrev pub check_of : ℕ → List ℕ → Option Panel
check_of number rest = cond (bytes_eq rest (codes " pass")) (Some (Check number true)) (cond (bytes_eq rest (codes " fail")) (Some (Check number false)) None)

abbrev pub check_text : ℕ → List ℕ → List ℕ
check_text digit rest = 99 ∷ 104 ∷ 101 ∷ 99 ∷ 107 ∷ 32 ∷ digit ∷ rest

same_or_below : (number n : ℕ) → number ≤ suc n → (number ≡ suc n) ⊎ (number ≤ n)
same_or_below number n few = elim (nat_eq number (suc n)) as (λ b. nat_eq number (suc n) ≡ b → (number ≡ suc n) ⊎ (number ≤ n)) [
  | true ↦ λ is. inl (grind (arith, nat_tests))
  | false ↦ λ is. inr (grind (arith, nat_tests))
] refl

pub no_button : (n digit : ℕ) (rest : List ℕ) → ((number : ℕ) → 1 ≤ number → number ≤ n → digit ≢ digit_of number) → move_among (buttons n) (digit ∷ rest) ≡ None
unfolding move_among
no_button zero digit rest none = refl
no_button (suc n) digit rest none =
    let other : digit ≢ 48 + suc n = none (suc n) (omega arith) (omega arith) in
    let test : nat_eq digit (48 + suc n) ≡ false = grind (arith, nat_tests) in
    rw test (no_button n digit rest (λ number some few. none number some (omega arith)))

pub some_button : (n number : ℕ) (rest : List ℕ) → 1 ≤ number → number ≤ n → move_among (buttons n) (digit_of number ∷ rest) ≡ button_of number rest
unfolding move_among
some_button zero number rest some few = absurd (omega arith)
some_button (suc n) number rest some few = elim (same_or_below number n few) [
  | inl same ↦
      let none : move_among (buttons n) (digit_of (suc n) ∷ rest) ≡ None = no_button n (digit_of (suc n)) rest (λ other least most equal. omega arith) in
      let test : nat_eq (48 + suc n) (48 + suc n) ≡ true = grind (arith, nat_tests) in
      rw same (rw test (ap (λ last. cond (bytes_eq rest (codes " down")) (Some (Button (suc n) true)) (cond (bytes_eq rest (codes " up")) (Some (Button (suc n) false)) last)) none))
  | inr below ↦
      let test : nat_eq (48 + number) (48 + suc n) ≡ false = grind (arith, nat_tests) in
      rw test (some_button n number rest some below)
]

pub no_check : (n digit : ℕ) (rest : List ℕ) → ((number : ℕ) → 1 ≤ number → number ≤ n → digit ≢ digit_of number) → move_among (checks n) (check_text digit rest) ≡ None
unfolding move_among
no_check zero digit rest none = refl
no_check (suc n) digit rest none =
    let other : digit ≢ 48 + suc n = none (suc n) (omega arith) (omega arith) in
    let test : nat_eq digit (48 + suc n) ≡ false = grind (arith, nat_tests) in
    rw test (no_check n digit rest (λ number some few. none number some (omega arith)))

pub some_check : (n number : ℕ) (rest : List ℕ) → 1 ≤ number → number ≤ n → move_among (checks n) (check_text (digit_of number) rest) ≡ check_of number rest
unfolding move_among
some_check zero number rest some few = absurd (omega arith)
some_check (suc n) number rest some few = elim (same_or_below number n few) [
  | inl same ↦
      let none : move_among (checks n) (check_text (digit_of (suc n)) rest) ≡ None = no_check n (digit_of (suc n)) rest (λ other least most equal. omega arith) in
      let test : nat_eq (48 + suc n) (48 + suc n) ≡ true = grind (arith, nat_tests) in
      rw same (rw test (ap (λ last. cond (bytes_eq rest (codes " pass")) (Some (Check (suc n) true)) (cond (bytes_eq rest (codes " fail")) (Some (Check (suc n) false)) last)) none))
  | inr below ↦
      let test : nat_eq (48 + number) (48 + suc n) ≡ false = grind (arith, nat_tests) in
      rw test (some_check n number rest some below)
]

-- a text that doesn't begin so isn't that of a check
not_check : (text rest : List ℕ) → bytes_eq (take 6 text) (codes "check ") ≡ false → bytes_eq text (99 ∷ 104 ∷ 101 ∷ 99 ∷ 107 ∷ 32 ∷ rest) ≡ false
not_check text rest other = elim (bytes_eq text (99 ∷ 104 ∷ 101 ∷ 99 ∷ 107 ∷ 32 ∷ rest)) as (λ b. bytes_eq text (99 ∷ 104 ∷ 101 ∷ 99 ∷ 107 ∷ 32 ∷ rest) ≡ b → b ≡ false) [
  | true ↦ λ is. ap (λ start. bytes_eq (take 6 start) (codes "check ")) (sym ((bytes_eq-Decides text (99 ∷ 104 ∷ 101 ∷ 99 ∷ 107 ∷ 32 ∷ rest)).0 is)) ∙ other
  | false ↦ λ is. refl
] refl

pub no_check-front : (n : ℕ) (text : List ℕ) → bytes_eq (take 6 text) (codes "check ") ≡ false → move_among (checks n) text ≡ None
unfolding move_among
no_check-front zero text other = refl
no_check-front (suc n) text other =
    let passed = not_check text (digit_of (suc n) ∷ codes " pass") other in
    let failed = not_check text (digit_of (suc n) ∷ codes " fail") other in
    rw (passed, failed) (no_check-front n text other)

-- what a button's text is, by what stands behind its number

pub button_down : (number : ℕ) (rest : List ℕ) → 1 ≤ number → number ≤ 8 → bytes_eq rest (codes " down") ≡ true → move_among (buttons 8) (digit_of number ∷ rest) ≡ Some (Button number true)
button_down number rest some few down = some_button 8 number rest some few ∙ rw down refl

pub button_up : (number : ℕ) (rest : List ℕ) → 1 ≤ number → number ≤ 8 → bytes_eq rest (codes " down") ≡ false → bytes_eq rest (codes " up") ≡ true
    → move_among (buttons 8) (digit_of number ∷ rest) ≡ Some (Button number false)
button_up number rest some few down up = some_button 8 number rest some few ∙ rw (down, up) refl

pub button_neither : (number : ℕ) (rest : List ℕ) → 1 ≤ number → number ≤ 8 → bytes_eq rest (codes " down") ≡ false → bytes_eq rest (codes " up") ≡ false
    → move_among (buttons 8) (digit_of number ∷ rest) ≡ None
button_neither number rest some few down up = some_button 8 number rest some few ∙ rw (down, up) refl

-- and a check's

pub check_passed : (number : ℕ) (rest : List ℕ) → 1 ≤ number → number ≤ 4 → bytes_eq rest (codes " pass") ≡ true → move_among (checks 4) (check_text (digit_of number) rest) ≡ Some (Check number true)
check_passed number rest some few passed = some_check 4 number rest some few ∙ rw passed refl

pub check_failed : (number : ℕ) (rest : List ℕ) → 1 ≤ number → number ≤ 4 → bytes_eq rest (codes " pass") ≡ false → bytes_eq rest (codes " fail") ≡ true
    → move_among (checks 4) (check_text (digit_of number) rest) ≡ Some (Check number false)
check_failed number rest some few passed failed = some_check 4 number rest some few ∙ rw (passed, failed) refl

pub check_neither : (number : ℕ) (rest : List ℕ) → 1 ≤ number → number ≤ 4 → bytes_eq rest (codes " pass") ≡ false → bytes_eq rest (codes " fail") ≡ false
    → move_among (checks 4) (check_text (digit_of number) rest) ≡ None
check_neither number rest some few passed failed = some_check 4 number rest some few ∙ rw (passed, failed) refl

-- no text, and one whose first byte is no digit of a button
pub no_button_in : (text : List ℕ) → 0 < length text → ((number : ℕ) → 1 ≤ number → number ≤ 8 → get_or text 0 0 ≢ digit_of number) → move_among (buttons 8) text ≡ None
no_button_in [] some none = absurd (omega arith)
no_button_in (digit ∷ rest) some none = no_button 8 digit rest none

pub in_front_of : (text : List ℕ) → 0 < length text → text ≡ get_or text 0 0 ∷ drop 1 text
in_front_of [] some = absurd (omega arith)
in_front_of (byte ∷ rest) some = refl

-- a text that begins as that of a check
pub check_begins : (text : List ℕ) → bytes_eq (take 6 text) (codes "check ") ≡ true → 6 < length text → text ≡ check_text (get_or (drop 6 text) 0 0) (drop 1 (drop 6 text))
check_begins text front long =
    let start : take 6 text ≡ codes "check " = (bytes_eq-Decides (take 6 text) (codes "check ")).0 front in
    sym (take-append-drop 6 text) ∙ ap (λ xs. xs ++ drop 6 text) start ∙ ap (λ xs. codes "check " ++ xs) (in_front_of (drop 6 text) (omega (arith, length-drop 6 text)))

pub short_text : (text : List ℕ) → length text ≤ 6 → move_among (checks 4) text ≡ None
unfolding move_among
short_text text short = by_front (bytes_eq (take 6 text) (codes "check ")) refl where
  by_front : (b : Bool) → bytes_eq (take 6 text) (codes "check ") ≡ b → move_among (checks 4) text ≡ None
  by_front false is = no_check-front 4 text is
  by_front true is =
      let start : text ≡ codes "check " = sym (take_all 6 text short) ∙ (bytes_eq-Decides (take 6 text) (codes "check ")).0 is in
      ap (move_among (checks 4)) start

pub no_text : move_among (buttons 8) [] ≡ None
unfolding move_among
no_text = refl

pub is_false : (b : Bool) → not b ≡ true → b ≡ false
is_false true is = cc
is_false false is = refl

pub is_true : (b : Bool) → not b ≡ false → b ≡ true
is_true true is = refl
is_true false is = cc
