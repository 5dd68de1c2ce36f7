-- Loops over the ranges of a field and over the bits of an element.
use Rattle.std.proofs.Common.{◌≡◌, ℕ, zero, suc, ◌+◌, ◌-◌, ◌*◌, ◌/◌, ◌%◌, ◌^◌, ◌<◌, ◌≤◌, Bool, true, false, cond, List, [], ◌∷◌, ◌++◌, length, slice_index, get_or, drop, Option, Some, None, refl, sym, ap, ◌∙◌, arith, nat_lt, nat_le}
use Rattle.std.proofs.Math.Nat.{mul-le-mul_right, div-div-eq-div-mul}
use Rattle.std.proofs.lemmas.Nat.{pow-add, mod-pow-add}
use Rattle.std.specs.List.{list_any}
use Rattle.std.specs.Option.{option_to_list}
use Rattle.hid_report.specs.declared.field.Field.{Field}
use Rattle.std.proofs.lemmas.List.{at_drop_more, at_drop_all}
use Rattle.std.proofs.lemmas.Bool.Decides.{nat_tests}
use Rattle.hid_report.specs.declared.usage.Span.{Span}
use Rattle.hid_report.specs.Elements.{usage_at, last_usage, bit_of, raw_bits, element_usage, element_usages, down_usage, down_from}
use Rattle.hid_report.specs.Wanted.{is_one}
use Rattle.hid_report.specs.Keys.{press, press_all}
use Rattle.hid_report.specs.Pointer.{find_element, is_usage}

-- one range of a list
usage_at-empty : (span : Span) (spans : List Span) (n : ℕ) → span.high < span.low → usage_at (span ∷ spans) n ≡ usage_at spans n
unfolding usage_at
usage_at-empty span spans n h = grind (arith, nat_tests)

usage_at-here : (span : Span) (spans : List Span) (n : ℕ) → span.low ≤ span.high → n ≤ span.high - span.low → usage_at (span ∷ spans) n ≡ Some (span.low + n)
unfolding usage_at
usage_at-here span spans n h k = grind (arith, nat_tests)

usage_at-later : (span : Span) (spans : List Span) (n : ℕ) → span.low ≤ span.high → span.high - span.low < n → usage_at (span ∷ spans) n ≡ usage_at spans (n - (span.high - span.low + 1))
unfolding usage_at
usage_at-later span spans n h k =
    let first : nat_lt span.high span.low ≡ false = grind (arith, nat_tests) in
    let second : nat_le n (span.high - span.low) ≡ false = grind (arith, nat_tests) in
    let less : n - (span.high - span.low) - 1 ≡ n - (span.high - span.low + 1) = omega arith in
    rw (first, second) (ap (usage_at spans) less)

pub next-empty : (spans : List Span) (i n : ℕ) (d : Span) → i < length spans → (get_or spans i d).high < (get_or spans i d).low
    → usage_at (drop i spans) n ≡ usage_at (drop (i + 1) spans) n
next-empty spans i n d h e = at_drop_more (λ xs. usage_at xs n) spans i d h ∙ usage_at-empty (get_or spans i d) (drop (i + 1) spans) n e

pub next-here : (spans : List Span) (i n : ℕ) (d : Span) → i < length spans → (get_or spans i d).low ≤ (get_or spans i d).high
    → n ≤ (get_or spans i d).high - (get_or spans i d).low → usage_at (drop i spans) n ≡ Some ((get_or spans i d).low + n)
next-here spans i n d h e k = at_drop_more (λ xs. usage_at xs n) spans i d h ∙ usage_at-here (get_or spans i d) (drop (i + 1) spans) n e k

pub next-later : (spans : List Span) (i n : ℕ) (d : Span) → i < length spans → (get_or spans i d).low ≤ (get_or spans i d).high
    → (get_or spans i d).high - (get_or spans i d).low < n → usage_at (drop i spans) n ≡ usage_at (drop (i + 1) spans) (n - ((get_or spans i d).high - (get_or spans i d).low + 1))
next-later spans i n d h e k = at_drop_more (λ xs. usage_at xs n) spans i d h ∙ usage_at-later (get_or spans i d) (drop (i + 1) spans) n e k

pub next-none : (spans : List Span) (i n : ℕ) → length spans ≤ i → usage_at (drop i spans) n ≡ None
unfolding usage_at
next-none spans i n h = at_drop_all (λ xs. usage_at xs n) spans i h ∙ nothing
  where
    nothing : usage_at [] n ≡ None
    nothing = refl

last-empty : (last : Option ℕ) (span : Span) (spans : List Span) → span.high < span.low → last_usage last (span ∷ spans) ≡ last_usage last spans
unfolding last_usage
last-empty last span spans h =
    let test : nat_lt span.high span.low ≡ true = grind (arith, nat_tests) in
    rw test refl

last-full : (last : Option ℕ) (span : Span) (spans : List Span) → span.low ≤ span.high → last_usage last (span ∷ spans) ≡ last_usage (Some span.high) spans
unfolding last_usage
last-full last span spans h =
    let test : nat_lt span.high span.low ≡ false = grind (arith, nat_tests) in
    rw test refl

pub more-empty : (last : Option ℕ) (spans : List Span) (i : ℕ) (d : Span) → i < length spans → (get_or spans i d).high < (get_or spans i d).low
    → last_usage last (drop i spans) ≡ last_usage last (drop (i + 1) spans)
more-empty last spans i d h e = at_drop_more (last_usage last) spans i d h ∙ last-empty last (get_or spans i d) (drop (i + 1) spans) e

pub more-full : (last : Option ℕ) (spans : List Span) (i : ℕ) (d : Span) → i < length spans → (get_or spans i d).low ≤ (get_or spans i d).high
    → last_usage last (drop i spans) ≡ last_usage (Some (get_or spans i d).high) (drop (i + 1) spans)
more-full last spans i d h e = at_drop_more (last_usage last) spans i d h ∙ last-full last (get_or spans i d) (drop (i + 1) spans) e

pub more-none : (last : Option ℕ) (spans : List Span) (i : ℕ) → length spans ≤ i → last_usage last (drop i spans) ≡ last
unfolding last_usage
more-none last spans i h = at_drop_all (last_usage last) spans i h ∙ nothing
  where
    nothing : last_usage last [] ≡ last
    nothing = refl

pub ruleset usage_steps = (next-empty, next-here, next-later, next-none, more-empty, more-full, more-none)

pub raw_bits-none : (report : List ℕ) (place : ℕ) → raw_bits report place 0 ≡ 0
unfolding raw_bits
raw_bits-none report place = refl

-- one more bit
pub raw_bits-suc : (report : List ℕ) (place n : ℕ) → raw_bits report place (suc n) ≡ raw_bits report place n + bit_of report (place + n) * 2 ^ n
unfolding raw_bits
raw_bits-suc report place n = refl

-- a bit of the byte in which the bits before it lie
bit-beside : (report : List ℕ) (place k : ℕ) → place % 8 + k < 8 → bit_of report (place + k) ≡ slice_index report (place / 8) / 2 ^ (place % 8) / 2 ^ k % 2
bit-beside report place k h =
    let same : (place + k) / 8 ≡ place / 8 = omega arith in
    let later : (place + k) % 8 ≡ place % 8 + k = omega arith in
    rw (same, later, pow-add 2 (place % 8) k) (ap (λ n. n % 2) (sym (div-div-eq-div-mul (slice_index report (place / 8)) (2 ^ (place % 8)) (2 ^ k))))

spread : (value low bit weight w : ℕ) → value + low * weight + bit * (weight * w) ≡ value + (bit * w + low) * weight
spread value low bit weight w = omega arith

-- bits of one byte more
pub raw_bits-piece : (report : List ℕ) (place n k : ℕ) → (place + n) % 8 + k ≤ 8
    → raw_bits report place (n + k) ≡ raw_bits report place n + slice_index report ((place + n) / 8) / 2 ^ ((place + n) % 8) % 2 ^ k * 2 ^ n
raw_bits-piece report place n zero h =
    let same : n + 0 ≡ n = omega arith in
    let nothing : slice_index report ((place + n) / 8) / 2 ^ ((place + n) % 8) % 1 ≡ 0 = omega arith in
    rw (same, nothing) (omega arith)
raw_bits-piece report place n (suc k) h =
    let byte : ℕ = slice_index report ((place + n) / 8) / 2 ^ ((place + n) % 8) in
    let one_more : n + suc k ≡ suc (n + k) = omega arith in
    let before : raw_bits report place (n + k) ≡ raw_bits report place n + byte % 2 ^ k * 2 ^ n = raw_bits-piece report place n k (omega arith) in
    let along : place + (n + k) ≡ place + n + k = omega arith in
    let width : 1 + k ≡ suc k = omega arith in
    let bit : bit_of report (place + (n + k)) ≡ byte / 2 ^ k % 2 = ap (bit_of report) along ∙ bit-beside report (place + n) k (omega arith) in
    let both : byte % 2 ^ (1 + k) ≡ byte / 2 ^ k % 2 * 2 ^ k + byte % 2 ^ k = mod-pow-add byte 1 k in
    ap (raw_bits report place) one_more
    ∙ raw_bits-suc report place (n + k)
    ∙ ap (λ v. v + bit_of report (place + (n + k)) * 2 ^ (n + k)) before
    ∙ ap (λ b. raw_bits report place n + byte % 2 ^ k * 2 ^ n + b * 2 ^ (n + k)) bit
    ∙ ap (λ w. raw_bits report place n + byte % 2 ^ k * 2 ^ n + byte / 2 ^ k % 2 * w) (pow-add 2 n k)
    ∙ spread (raw_bits report place n) (byte % 2 ^ k) (byte / 2 ^ k % 2) (2 ^ n) (2 ^ k)
    ∙ ap (λ v. raw_bits report place n + v * 2 ^ n) (sym both)
    ∙ ap (λ w. raw_bits report place n + byte % 2 ^ w * 2 ^ n) width

-- bits that lie in one byte
pub raw_bits-one : (report : List ℕ) (place k : ℕ) → place % 8 + k ≤ 8 → raw_bits report place k ≡ slice_index report (place / 8) / 2 ^ (place % 8) % 2 ^ k
raw_bits-one report place k h =
    let same : place + 0 ≡ place = omega arith in
    let start : raw_bits report place (0 + k) ≡ raw_bits report place 0 + slice_index report ((place + 0) / 8) / 2 ^ ((place + 0) % 8) % 2 ^ k * 2 ^ 0 =
    raw_bits-piece report place 0 k (omega arith) in
    let all : 0 + k ≡ k = omega arith in
    sym (ap (raw_bits report place) all) ∙ start
    ∙ ap (λ p. raw_bits report place 0 + slice_index report (p / 8) / 2 ^ (p % 8) % 2 ^ k * 2 ^ 0) same
    ∙ alone (raw_bits report place 0) (slice_index report (place / 8) / 2 ^ (place % 8) % 2 ^ k) (raw_bits-none report place)
  where
    alone : (none piece : ℕ) → none ≡ 0 → none + piece * 1 ≡ piece
    alone none piece is = omega (arith, is)

pub ruleset piece_steps = (raw_bits-one)

-- the digits so far and `k` more
pub next-fits : (value piece n k : ℕ) → value < 2 ^ n → piece < 2 ^ k → value + piece * 2 ^ n < 2 ^ (n + k)
next-fits value piece n k h p =
    let weight : 2 ^ (n + k) ≡ 2 ^ n * 2 ^ k = pow-add 2 n k in
    let most : (piece + 1) * 2 ^ n ≤ 2 ^ k * 2 ^ n = mul-le-mul_right (2 ^ n) (omega arith) in
    rw weight (omega (arith, most, h))

-- one element more of a field's usages
element_usages-more : (spans : List Span) (j n : ℕ) → j < n → element_usages spans j (n - j) ≡ option_to_list (element_usage spans j) ++ element_usages spans (j + 1) (n - (j + 1))
unfolding element_usages
element_usages-more spans j n h =
    let more : n - j ≡ suc (n - (j + 1)) = omega arith in
    rw more refl

pub down_from-more : (field : Field) (numbered : Bool) (report : List ℕ) (j n : ℕ) → j < n
    → down_from field numbered report j (n - j) ≡ option_to_list (down_usage field numbered report j) ++ down_from field numbered report (j + 1) (n - (j + 1))
unfolding down_from
down_from-more field numbered report j n h =
    let more : n - j ≡ suc (n - (j + 1)) = omega arith in
    rw more refl

find_element-more : (wanted : ℕ) (spans : List Span) (j n : ℕ) → j < n
    → find_element wanted spans j (n - j) ≡ cond (is_usage wanted (element_usage spans j)) (Some j) (find_element wanted spans (j + 1) (n - (j + 1)))
unfolding find_element
find_element-more wanted spans j n h =
    let more : n - j ≡ suc (n - (j + 1)) = omega arith in
    rw more refl

pub one-true : (test : ℕ → Bool) (o : Option ℕ) (rest : List ℕ) → is_one test o ≡ true → list_any test (option_to_list o ++ rest) ≡ true
one-true test None rest h = absurd (cc)
one-true test (Some usage) rest h = rw h refl

pub one-false : (test : ℕ → Bool) (o : Option ℕ) (rest : List ℕ) → is_one test o ≡ false → list_any test (option_to_list o ++ rest) ≡ list_any test rest
one-false test None rest h = refl
one-false test (Some usage) rest h = rw h refl

-- what is left to look through, at an element that passes and at one that doesn't
pub any-here : (test : ℕ → Bool) (spans : List Span) (j n : ℕ) → j < n → is_one test (element_usage spans j) ≡ true
    → list_any test (element_usages spans j (n - j)) ≡ true
any-here test spans j n h e = rw (element_usages-more spans j n h) (one-true test (element_usage spans j) (element_usages spans (j + 1) (n - (j + 1))) e)

pub any-later : (test : ℕ → Bool) (spans : List Span) (j n : ℕ) → j < n → is_one test (element_usage spans j) ≡ false
    → list_any test (element_usages spans j (n - j)) ≡ list_any test (element_usages spans (j + 1) (n - (j + 1)))
any-later test spans j n h e = rw (element_usages-more spans j n h) (one-false test (element_usage spans j) (element_usages spans (j + 1) (n - (j + 1))) e)

pub any-end : (test : ℕ → Bool) (spans : List Span) (j n : ℕ) → n ≤ j → list_any test (element_usages spans j (n - j)) ≡ false
unfolding element_usages
any-end test spans j n h = let nothing : n - j ≡ 0 = omega arith in rw nothing refl

pub find-here : (wanted : ℕ) (spans : List Span) (j n : ℕ) → j < n → is_usage wanted (element_usage spans j) ≡ true
    → find_element wanted spans j (n - j) ≡ Some j
find-here wanted spans j n h e = rw (find_element-more wanted spans j n h, e) refl

pub find-later : (wanted : ℕ) (spans : List Span) (j n : ℕ) → j < n → is_usage wanted (element_usage spans j) ≡ false
    → find_element wanted spans j (n - j) ≡ find_element wanted spans (j + 1) (n - (j + 1))
find-later wanted spans j n h e = rw (find_element-more wanted spans j n h, e) refl

pub find-end : (wanted : ℕ) (spans : List Span) (j n : ℕ) → n ≤ j → find_element wanted spans j (n - j) ≡ None
unfolding find_element
find-end wanted spans j n h = let nothing : n - j ≡ 0 = omega arith in rw nothing refl

pub down-end : (test : ℕ → Bool) (field : Field) (numbered : Bool) (report : List ℕ) (j n : ℕ) → n ≤ j
    → list_any test (down_from field numbered report j (n - j)) ≡ false
unfolding down_from
down-end test field numbered report j n h = let nothing : n - j ≡ 0 = omega arith in rw nothing refl

-- what is left to look through, at an element that says nothing and at one that says a usage
pub named-none : (test : ℕ → Bool) (field : Field) (numbered : Bool) (report : List ℕ) (j n : ℕ) → j < n → down_usage field numbered report j ≡ None
    → list_any test (down_from field numbered report j (n - j)) ≡ list_any test (down_from field numbered report (j + 1) (n - (j + 1)))
named-none test field numbered report j n h e = rw (down_from-more field numbered report j n h, e) refl

pub named-here : (test : ℕ → Bool) (field : Field) (numbered : Bool) (report : List ℕ) (j n usage : ℕ) → j < n → down_usage field numbered report j ≡ Some usage
    → test usage ≡ true → list_any test (down_from field numbered report j (n - j)) ≡ true
named-here test field numbered report j n usage h e is = rw (down_from-more field numbered report j n h, e, is) refl

pub named-later : (test : ℕ → Bool) (field : Field) (numbered : Bool) (report : List ℕ) (j n usage : ℕ) → j < n → down_usage field numbered report j ≡ Some usage
    → test usage ≡ false → list_any test (down_from field numbered report j (n - j)) ≡ list_any test (down_from field numbered report (j + 1) (n - (j + 1)))
named-later test field numbered report j n usage h e is = rw (down_from-more field numbered report j n h, e, is) refl

pub press-none : (keys : List Bool) (field : Field) (numbered : Bool) (report : List ℕ) (j n : ℕ) → j < n → down_usage field numbered report j ≡ None
    → press_all keys (down_from field numbered report j (n - j)) ≡ press_all keys (down_from field numbered report (j + 1) (n - (j + 1)))
press-none keys field numbered report j n h e = rw (down_from-more field numbered report j n h, e) refl

pub press-some : (keys : List Bool) (field : Field) (numbered : Bool) (report : List ℕ) (j n usage : ℕ) → j < n → down_usage field numbered report j ≡ Some usage
    → press_all keys (down_from field numbered report j (n - j)) ≡ press_all (press keys usage) (down_from field numbered report (j + 1) (n - (j + 1)))
unfolding press_all
press-some keys field numbered report j n usage h e = rw (down_from-more field numbered report j n h, e) refl

pub press-end : (keys : List Bool) (field : Field) (numbered : Bool) (report : List ℕ) (j n : ℕ) → n ≤ j
    → press_all keys (down_from field numbered report j (n - j)) ≡ keys
unfolding down_from press_all
press-end keys field numbered report j n h = let nothing : n - j ≡ 0 = omega arith in rw nothing refl

pub ruleset element_steps = (any-here, any-later, any-end, find-here, find-later, find-end, named-none, named-here, named-later, down-end, press-none, press-some, press-end)
