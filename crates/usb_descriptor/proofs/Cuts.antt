-- How the first descriptor is cut from the bytes, and what follows where none of them is cut short.
use Rattle.std.proofs.Common.{◌≡◌, ℕ, zero, suc, ◌-◌, ◌<◌, ◌≤◌, max, true, false, cond, leb, List, [], ◌∷◌, length, take, drop, get_or, refl, sym, ◌∙◌, ap, subst, arith, IsTrue, length-append}
use Rattle.std.proofs.lemmas.Bool.{and_parts, leb-true}
use Rattle.std.proofs.lemmas.List.{get_or-take, length-take, take-append-drop}
use Rattle.std.specs.Prelude.{◌==◌, ◌||◌}
use Rattle.usb_descriptor.specs.Descriptor.{front_of, cut_after, descriptors_of, kind_of, least_length, is_whole, AllWhole, SplitsFirst}

-- a descriptor takes two bytes at least
pub least_two : (kind : ℕ) → 2 ≤ least_length kind
least_two kind =
    elim (kind == 2 || kind == 4 || kind == 33) as (λ b. 2 ≤ cond b 9 (cond (kind == 5) 7 2)) [
      | true ↦ omega arith
      | false ↦ elim (kind == 5) as (λ b. 2 ≤ cond b 7 2) [ true ↦ omega arith | false ↦ omega arith ]
    ]

pub whole_parts : (d : List ℕ) → is_whole d ≡ true → (least_length (kind_of d) ≤ get_or d 0 0) × (get_or d 0 0 ≤ length d)
whole_parts d whole =
    let parts = and_parts (leb (least_length (kind_of d)) (get_or d 0 0)) (leb (get_or d 0 0) (length d)) whole in
    (leb-true (least_length (kind_of d)) (get_or d 0 0) parts.0, leb-true (get_or d 0 0) (length d) parts.1)

pub kind-front : (bytes : List ℕ) → kind_of (front_of bytes) ≡ kind_of bytes
kind-front bytes = get_or-take (max 2 (get_or bytes 0 0)) bytes 1 0 (omega arith)

first-front : (bytes : List ℕ) → get_or (front_of bytes) 0 0 ≡ get_or bytes 0 0
first-front bytes = get_or-take (max 2 (get_or bytes 0 0)) bytes 0 0 (omega arith)

-- where the first descriptor is whole it is as long as its first byte says
pub front_whole : (bytes : List ℕ) → is_whole (front_of bytes) ≡ true →
    (2 ≤ get_or bytes 0 0) × (least_length (kind_of bytes) ≤ get_or bytes 0 0) × (get_or bytes 0 0 ≤ length bytes) × (front_of bytes ≡ take (get_or bytes 0 0) bytes)
front_whole bytes whole =
    let size = get_or bytes 0 0 in
    let parts = whole_parts (front_of bytes) whole in
    let least : least_length (kind_of bytes) ≤ size = let P : ℕ → Type 0 = λ k. least_length k ≤ size in
    subst P (kind-front bytes) (let Q : ℕ → Type 0 = λ n. least_length (kind_of (front_of bytes)) ≤ n in subst Q (first-front bytes) parts.0) in
    let two : 2 ≤ size = omega (arith, least, least_two (kind_of bytes)) in
    let there : size ≤ length bytes = omega (arith, parts.1, first-front bytes, length-take (max 2 size) bytes) in
    let wide : max 2 size ≡ size = omega arith in
    (two, least, there, ap (λ n. take n bytes) wide)

cut_after-drop : (skip : ℕ) (bytes : List ℕ) → cut_after skip bytes ≡ descriptors_of (drop skip bytes)
unfolding cut_after
cut_after-drop zero bytes = refl
cut_after-drop (suc skip) [] = refl
cut_after-drop (suc skip) (b ∷ bytes) = cut_after-drop skip bytes

drop-positive : (n : ℕ) (b : ℕ) (bytes : List ℕ) → 1 ≤ n → drop n (b ∷ bytes) ≡ drop (n - 1) bytes
drop-positive zero b bytes h = absurd (omega arith)
drop-positive (suc n) b bytes h = ap (λ k. drop k bytes) (omega arith)

-- the first descriptor, and those in the bytes after it
pub descriptors-front : (bytes : List ℕ) → 0 < length bytes → descriptors_of bytes ≡ front_of bytes ∷ descriptors_of (drop (max 2 (get_or bytes 0 0)) bytes)
unfolding cut_after
descriptors-front [] h = absurd (omega arith)
descriptors-front (b ∷ bytes) h =
    ap (λ ds. front_of (b ∷ bytes) ∷ ds)
    (cut_after-drop (max 2 b - 1) bytes ∙ ap descriptors_of (sym (drop-positive (max 2 b) b bytes (omega arith))))

pub splits_front : (bytes : List ℕ) → is_whole (front_of bytes) ≡ true →
    SplitsFirst bytes (take (get_or bytes 0 0) bytes) (drop (get_or bytes 0 0) bytes)
splits_front bytes whole =
    let size = get_or bytes 0 0 in
    let facts = front_whole bytes whole in
    let some : 0 < length bytes = omega (arith, facts.0, facts.2) in
    let wide : max 2 size ≡ size = omega (arith, facts.0) in
    record {
      first = sym facts.3;
      whole = let P : List ℕ → Type 0 = λ d. IsTrue (is_whole d) in subst P facts.3 whole;
      joined = sym (take-append-drop size bytes);
      cut = descriptors-front bytes some ∙ ap (λ n. take n bytes ∷ descriptors_of (drop n bytes)) wide;
      least = let P : List ℕ → Type 0 = λ d. least_length (kind_of d) ≤ length d in
          subst P facts.3 (let parts = whole_parts (front_of bytes) whole in omega (arith, parts.0, parts.1));
    }

-- where all descriptors are whole the first is, and so are those after it
pub first_whole : (bytes : List ℕ) → 0 < length bytes → AllWhole (descriptors_of bytes) → IsTrue (is_whole (front_of bytes))
first_whole bytes some all =
    let P : List (List ℕ) → Type 0 = AllWhole in
    (subst P (descriptors-front bytes some) all).0

pub rest_whole : (bytes d rest : List ℕ) → SplitsFirst bytes d rest → AllWhole (descriptors_of bytes) → AllWhole (descriptors_of rest)
rest_whole bytes d rest split all =
    let P : List (List ℕ) → Type 0 = AllWhole in
    (subst P split.cut all).1

-- a descriptor takes some of the bytes
pub shorter : (bytes d rest : List ℕ) → SplitsFirst bytes d rest → length rest < length bytes
shorter bytes d rest split =
    omega (arith, ap length split.joined, length-append d rest, split.least, least_two (kind_of d))
