-- A computer reads from a report what it was made of.
use Rattle.std.proofs.Common.{◌≡◌, ◌≢◌, ℕ, zero, suc, ◌+◌, ◌-◌, ◌<◌, ◌≤◌, ℤ, pos, negsuc, nat_le, nat_eq, Bool, true, false, not, ◌&&◌, ◌||◌, List, [], ◌∷◌, length, get_or, refl, sym, ap, ◌∙◌, inl, inr, arith, if◌then◌else◌}
use Rattle.std.proofs.lemmas.Bool.{cases_eq, leb-true, and_parts, false≢true}
use Rattle.std.proofs.lemmas.List.{ext_get_or}
use Rattle.std.proofs.lemmas.Bool.Decides.{nat_tests}
use Rattle.psd_base.specs.KeySet.{is_ordinary, is_modifier, is_passed_on, has_key, keys_from, IsKeySet}
use Rattle.input_latch.specs.declared.key_class.KeyClass.TheVariants.{Ordinary}
use Rattle.input_latch.specs.KeyClass.{number_in}
use Rattle.emulated_keyboard.specs.Report.{modifiers_of, filled, key_report}
use Rattle.emulated_mouse.specs.Motion.{cut, piece}
use Rattle.emulated_mouse.specs.Report.{byte_of, button_bits, report, report_bytes}
use Rattle.km_port.specs.Reports.{has_bit, is_named, flags, shows_key, keys_in, count_in, report_in}

-- flags, place by place
length-flags : (is_set : ℕ → Bool) (n first : ℕ) → length (flags is_set first n) ≡ n
unfolding flags
length-flags is_set zero first = refl
length-flags is_set (suc n) first = ap suc (length-flags is_set n (first + 1))

flags-at : (is_set : ℕ → Bool) (n first place : ℕ) → place < n → get_or (flags is_set first n) place false ≡ is_set (first + place)
unfolding flags
flags-at is_set zero first place below = absurd (omega arith)
flags-at is_set (suc n) first zero below =
    let same : first ≡ first + 0 = omega arith in
    ap is_set same
flags-at is_set (suc n) first (suc place) below =
    let same : first + 1 + place ≡ first + suc place = omega arith in
    flags-at is_set n (first + 1) place (omega arith) ∙ ap is_set same

-- flags that say of each place what a list says are that list
flags-are : (is_set : ℕ → Bool) (n : ℕ) (keys : List Bool) → length keys ≡ n → ((place : ℕ) → place < n → is_set place ≡ get_or keys place false) → flags is_set 0 n ≡ keys
flags-are is_set n keys long same =
    ext_get_or false (flags is_set 0 n) keys (length-flags is_set n 0 ∙ sym long)
    (λ place below.
    let inside : place < n = omega (arith, length-flags is_set n 0) in
    let here : 0 + place ≡ place = omega arith in
    flags-at is_set n 0 place inside ∙ ap is_set here ∙ same place inside)

-- a fact on some truth values holds where it holds for each of them
abbrev both : (Bool → Bool) → Bool
both fact = fact true && fact false

of_both : (fact : Bool → Bool) → both fact ≡ true → (b : Bool) → fact b ≡ true
of_both fact holds true = (and_parts (fact true) (fact false) holds).0
of_both fact holds false = (and_parts (fact true) (fact false) holds).1

abbrev same : Bool → Bool → Bool
same true b = b
same false b = not b

same-is : (a b : Bool) → same a b ≡ true → a ≡ b
same-is true true is = refl
same-is true false is = absurd (false≢true is)
same-is false true is = absurd (false≢true is)
same-is false false is = refl

-- the places of a byte, one by one
below_five : (P : ℕ → Type 0) → P 0 → P 1 → P 2 → P 3 → P 4 → (place : ℕ) → place < 5 → P place
below_five P p0 p1 p2 p3 p4 zero below = p0
below_five P p0 p1 p2 p3 p4 (suc zero) below = p1
below_five P p0 p1 p2 p3 p4 (suc (suc zero)) below = p2
below_five P p0 p1 p2 p3 p4 (suc (suc (suc zero))) below = p3
below_five P p0 p1 p2 p3 p4 (suc (suc (suc (suc zero)))) below = p4
below_five P p0 p1 p2 p3 p4 (suc (suc (suc (suc (suc more))))) below = absurd (omega arith)

below_eight : (P : ℕ → Type 0) → P 0 → P 1 → P 2 → P 3 → P 4 → P 5 → P 6 → P 7 → (place : ℕ) → place < 8 → P place
below_eight P p0 p1 p2 p3 p4 p5 p6 p7 zero below = p0
below_eight P p0 p1 p2 p3 p4 p5 p6 p7 (suc zero) below = p1
below_eight P p0 p1 p2 p3 p4 p5 p6 p7 (suc (suc zero)) below = p2
below_eight P p0 p1 p2 p3 p4 p5 p6 p7 (suc (suc (suc zero))) below = p3
below_eight P p0 p1 p2 p3 p4 p5 p6 p7 (suc (suc (suc (suc zero)))) below = p4
below_eight P p0 p1 p2 p3 p4 p5 p6 p7 (suc (suc (suc (suc (suc zero))))) below = p5
below_eight P p0 p1 p2 p3 p4 p5 p6 p7 (suc (suc (suc (suc (suc (suc zero)))))) below = p6
below_eight P p0 p1 p2 p3 p4 p5 p6 p7 (suc (suc (suc (suc (suc (suc (suc zero))))))) below = p7
below_eight P p0 p1 p2 p3 p4 p5 p6 p7 (suc (suc (suc (suc (suc (suc (suc (suc more)))))))) below = absurd (omega arith)

-- a byte made of five bits, and one made of eight
abbrev bit : Bool → ℕ → ℕ
bit down value = if down then value else 0

abbrev five : (a b c d e : Bool) → ℕ
five a b c d e = bit a 1 + bit b 2 + bit c 4 + bit d 8 + bit e 16

abbrev eight : (a b c d e f g h : Bool) → ℕ
eight a b c d e f g h = bit a 1 + bit b 2 + bit c 4 + bit d 8 + bit e 16 + bit f 32 + bit g 64 + bit h 128

-- whether the bit of a place is the one of which the byte was made
abbrev tells_five : ℕ → (a b c d e : Bool) → Bool
tells_five place a b c d e = same (has_bit (five a b c d e) place) (get_or (a ∷ b ∷ c ∷ d ∷ e ∷ []) place false)

abbrev tells_eight : ℕ → (a b c d e f g h : Bool) → Bool
tells_eight place a b c d e f g h =
    same (has_bit (eight a b c d e f g h) place) (get_or (a ∷ b ∷ c ∷ d ∷ e ∷ f ∷ g ∷ h ∷ []) place false)

abbrev each_five : ℕ → Bool
each_five place = both (λ a. both (λ b. both (λ c. both (λ d. both (λ e. tells_five place a b c d e)))))

abbrev each_eight : ℕ → Bool
each_eight place =
    both (λ a. both (λ b. both (λ c. both (λ d. both (λ e. both (λ f. both (λ g. both (λ h. tells_eight place a b c d e f g h))))))))

five-tell : (place : ℕ) → place < 5 → each_five place ≡ true
five-tell = below_five (λ (place : ℕ). each_five place ≡ true) refl refl refl refl refl

eight-tell : (place : ℕ) → place < 8 → each_eight place ≡ true
eight-tell = below_eight (λ (place : ℕ). each_eight place ≡ true) refl refl refl refl refl refl refl refl

five-read : (place : ℕ) (a b c d e : Bool) → place < 5 → has_bit (five a b c d e) place ≡ get_or (a ∷ b ∷ c ∷ d ∷ e ∷ []) place false
five-read place a b c d e below =
    let one = of_both (λ a. both (λ b. both (λ c. both (λ d. both (λ e. tells_five place a b c d e))))) (five-tell place below) a in
    let two = of_both (λ b. both (λ c. both (λ d. both (λ e. tells_five place a b c d e)))) one b in
    let three = of_both (λ c. both (λ d. both (λ e. tells_five place a b c d e))) two c in
    let four = of_both (λ d. both (λ e. tells_five place a b c d e)) three d in
    same-is (has_bit (five a b c d e) place) (get_or (a ∷ b ∷ c ∷ d ∷ e ∷ []) place false) (of_both (λ e. tells_five place a b c d e) four e)

eight-read : (place : ℕ) (a b c d e f g h : Bool) → place < 8
    → has_bit (eight a b c d e f g h) place ≡ get_or (a ∷ b ∷ c ∷ d ∷ e ∷ f ∷ g ∷ h ∷ []) place false
eight-read place a b c d e f g h below =
    let one =
    of_both (λ a. both (λ b. both (λ c. both (λ d. both (λ e. both (λ f. both (λ g. both (λ h. tells_eight place a b c d e f g h)))))))) (eight-tell place below) a
    in
    let two = of_both (λ b. both (λ c. both (λ d. both (λ e. both (λ f. both (λ g. both (λ h. tells_eight place a b c d e f g h))))))) one b in
    let three = of_both (λ c. both (λ d. both (λ e. both (λ f. both (λ g. both (λ h. tells_eight place a b c d e f g h)))))) two c in
    let four = of_both (λ d. both (λ e. both (λ f. both (λ g. both (λ h. tells_eight place a b c d e f g h))))) three d in
    let five = of_both (λ e. both (λ f. both (λ g. both (λ h. tells_eight place a b c d e f g h)))) four e in
    let six = of_both (λ f. both (λ g. both (λ h. tells_eight place a b c d e f g h))) five f in
    let seven = of_both (λ g. both (λ h. tells_eight place a b c d e f g h)) six g in
    same-is (has_bit (eight a b c d e f g h) place) (get_or (a ∷ b ∷ c ∷ d ∷ e ∷ f ∷ g ∷ h ∷ []) place false)
    (of_both (λ h. tells_eight place a b c d e f g h) seven h)

-- the modifiers of a report
modifier-read : (keys : List Bool) (place : ℕ) → place < 8 → has_bit (modifiers_of keys) place ≡ has_key keys (224 + place)
modifier-read keys place below =
    eight-read place (has_key keys 224) (has_key keys 225) (has_key keys 226) (has_key keys 227) (has_key keys 228) (has_key keys 229) (has_key keys 230) (has_key keys 231) below
    ∙ below_eight
    (λ (place : ℕ).
    get_or (has_key keys 224 ∷ has_key keys 225 ∷ has_key keys 226 ∷ has_key keys 227 ∷ has_key keys 228 ∷ has_key keys 229 ∷ has_key keys 230 ∷ has_key keys 231 ∷ []) place false
    ≡ has_key keys (224 + place))
    refl refl refl refl refl refl refl refl place below

-- the usages that a report's places name are those of its keys, where the places are enough
named-below : (keys : List Bool) (n first usage : ℕ) → usage < first → is_named (keys_from keys first n) usage ≡ false
unfolding keys_from
named-below keys zero first usage below = refl
named-below keys (suc n) first usage below =
    by (has_key keys first) (nat_eq first usage) refl (named-below keys n (first + 1) usage (omega arith))
  where
    by : (down here : Bool) → nat_eq first usage ≡ here → is_named (keys_from keys (first + 1) n) usage ≡ false
        → is_named (if down then first ∷ keys_from keys (first + 1) n else keys_from keys (first + 1) n) usage ≡ false
    by false here is rest = rest
    by true true is rest = absurd (grind (arith, nat_tests))
    by true false is rest = ap (λ (b : Bool). b || is_named (keys_from keys (first + 1) n) usage) is ∙ rest

named-in : (keys : List Bool) (n first usage : ℕ) → first ≤ usage → usage < first + n → is_named (keys_from keys first n) usage ≡ has_key keys usage
unfolding keys_from
named-in keys zero first usage low high = absurd (omega arith)
named-in keys (suc n) first usage low high =
    elim (cases_eq first usage) [
      | inl equal ↦ here (has_key keys first) equal refl
      | inr apart ↦ elsewhere (has_key keys first) (nat_eq first usage) refl apart (named-in keys n (first + 1) usage (omega arith) (omega arith))
    ]
  where
    here : (down : Bool) → first ≡ usage → has_key keys first ≡ down
        → is_named (if down then first ∷ keys_from keys (first + 1) n else keys_from keys (first + 1) n) usage ≡ has_key keys usage
    here true equal is =
        let test : nat_eq first usage ≡ true = grind (arith, nat_tests) in
        ap (λ (b : Bool). b || is_named (keys_from keys (first + 1) n) usage) test
        ∙ sym (ap (λ (u : ℕ). has_key keys u) (sym equal) ∙ is)
    here false equal is =
        named-below keys n (first + 1) usage (omega arith) ∙ sym (ap (λ (u : ℕ). has_key keys u) (sym equal) ∙ is)

    elsewhere : (down test : Bool) → nat_eq first usage ≡ test → first ≢ usage
        → is_named (keys_from keys (first + 1) n) usage ≡ has_key keys usage
        → is_named (if down then first ∷ keys_from keys (first + 1) n else keys_from keys (first + 1) n) usage ≡ has_key keys usage
    elsewhere false test is apart rest = rest
    elsewhere true true is apart rest = absurd (apart (grind (arith, nat_tests)))
    elsewhere true false is apart rest = ap (λ (b : Bool). b || is_named (keys_from keys (first + 1) n) usage) is ∙ rest

filled-named : (n : ℕ) (usages : List ℕ) (usage : ℕ) → length usages ≤ n → 1 ≤ usage → is_named (filled n usages) usage ≡ is_named usages usage
unfolding filled
filled-named zero [] usage few above = refl
filled-named zero (first ∷ usages) usage few above = absurd (omega arith)
filled-named (suc n) [] usage few above =
    let test : nat_eq 0 usage ≡ false = grind (arith, nat_tests) in
    ap (λ (b : Bool). b || is_named (filled n []) usage) test ∙ filled-named n [] usage (omega arith) above
filled-named (suc n) (first ∷ usages) usage few above = ap (λ (b : Bool). nat_eq first usage || b) (filled-named n usages usage (omega arith) above)

-- a report of six ordinary keys at most shows its keys
module _ (keys : List Bool) (form : IsKeySet keys) (few : number_in Ordinary keys ≤ 6) where
  shown : (usage : ℕ) → usage < 256 → shows_key (key_report keys) usage ≡ has_key keys usage
  unfolding key_report
  shown usage below = by (is_modifier usage) (is_ordinary usage) refl refl where
    by : (modifier ordinary : Bool) → is_modifier usage ≡ modifier → is_ordinary usage ≡ ordinary
        → (if modifier then has_bit (modifiers_of keys) (usage - 224) else ordinary && is_named (filled 6 (keys_from keys 4 161)) usage) ≡ has_key keys usage
    by true ordinary is other =
        let p = and_parts (nat_le 224 usage) (nat_le usage 231) is in
        let low = leb-true 224 usage p.0 in
        let high = leb-true usage 231 p.1 in
        let place : 224 + (usage - 224) ≡ usage = omega arith in
        modifier-read keys (usage - 224) (omega arith) ∙ ap (λ (u : ℕ). has_key keys u) place
    by false true other is =
        let p = and_parts (nat_le 4 usage) (nat_le usage 164) is in
        let low = leb-true 4 usage p.0 in
        let high = leb-true usage 164 p.1 in
        filled-named 6 (keys_from keys 4 161) usage few (omega arith) ∙ named-in keys 161 4 usage low (omega arith)
    by false false modifier ordinary =
        let passed : is_passed_on usage ≡ false = rw (ordinary, modifier) refl in
        sym (form.passed_on usage passed)

  pub keys-read : keys_in (key_report keys) ≡ keys
  unfolding keys_in
  keys-read = flags-are (shows_key (key_report keys)) 256 keys form.one_each shown

-- a piece's counts, read back from their bytes
count-read : (count : ℤ) → count_in (byte_of (cut count)) ≡ cut count
count-read (pos n) = by (nat_le n 127) refl where
  by : (b : Bool) → nat_le n 127 ≡ b → count_in (byte_of (if b then pos n else pos 127)) ≡ (if b then pos n else pos 127)
  by true is = rw is refl
  by false is = refl
count-read (negsuc n) = by (nat_le n 126) refl where
  by : (b : Bool) → nat_le n 126 ≡ b → count_in (byte_of (if b then negsuc n else negsuc 126)) ≡ (if b then negsuc n else negsuc 126)
  by true is =
      let low = leb-true n 126 is in
      let test : nat_le (255 - n) 127 ≡ false = grind (arith, nat_tests) in
      let back : 255 - (255 - n) ≡ n = omega arith in
      rw test (ap negsuc back)
  by false is = refl

-- the buttons of a mouse's report
button-read : (buttons : List Bool) (place : ℕ) → place < 5 → has_bit (button_bits buttons) place ≡ has_key buttons place
button-read buttons place below =
    five-read place (has_key buttons 0) (has_key buttons 1) (has_key buttons 2) (has_key buttons 3) (has_key buttons 4) below
    ∙ below_five
    (λ (place : ℕ).
    get_or (has_key buttons 0 ∷ has_key buttons 1 ∷ has_key buttons 2 ∷ has_key buttons 3 ∷ has_key buttons 4 ∷ []) place false ≡ has_key buttons place)
    refl refl refl refl refl place below

-- a report of five buttons and a piece of some motion is read back
pub report-read : (buttons : List Bool) (x y wheel : ℤ) → length buttons ≡ 5
    → report_in (report_bytes (report buttons (piece (cut x) (cut y) (cut wheel)))) ≡ report buttons (piece (cut x) (cut y) (cut wheel))
unfolding report_in
report-read buttons x y wheel long =
    rw (flags-are (has_bit (button_bits buttons)) 5 buttons long (button-read buttons), count-read x, count-read y, count-read wheel) refl
