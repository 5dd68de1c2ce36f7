-- What one more descriptor at the end adds to the interfaces and endpoints.
use Rattle.std.proofs.Common.{◌≡◌, ℕ, ◌^◌, Bool, true, false, cond, not, ◌&&◌, ◌||◌, List, [], ◌∷◌, ◌++◌, map, filter, refl, sym, ◌∙◌, ap, arith, append-nil, max, bit_or, ⊎_elim}
use Rattle.std.specs.List.{list_any, flat_map}
use Rattle.std.specs.Prelude.{◌==◌}
use Rattle.std.specs.Int.{bit_at}
use Rattle.std.proofs.lemmas.List.{map-append}
use Rattle.std.proofs.lemmas.List.Elements.{filter-append}
use Rattle.std.proofs.lemmas.Nat.Bits.{same_from_bits, bit_at_or, bit_at-zero, bit_at-pow_same, bit_at-pow_other}
use Rattle.std.proofs.lemmas.Bool.{cases_eq, eq-eqb, ne_eqb}
use Rattle.usb_descriptor.specs.declared.tally.Within.{Within}
use Rattle.usb_descriptor.specs.declared.tally.Within.TheVariants.{Configuration, Interface, Alternate}
use Rattle.usb_descriptor.specs.Descriptor.{is_interface, is_endpoint}
use Rattle.usb_descriptor.specs.Setting.{Setting, settings_of, up_to_interface, interfaces_of, numbers_of, endpoints_of, number_of, alternate_of, begins_interface}
use Rattle.usb_descriptor.specs.Endpoint.{bit_set, endpoint_number}
use Rattle.usb_descriptor.specs.Tally.{within_next, within_after}

-- a choice before what follows
cond-append : {X : Type 0} (b : Bool) (xs ys zs : List X) → cond b (xs ++ zs) (ys ++ zs) ≡ cond b xs ys ++ zs
cond-append true xs ys zs = refl
cond-append false xs ys zs = refl

-- the number that d adds
abbrev pub number_added : List ℕ → List ℕ
number_added d = cond (begins_interface d) (number_of d ∷ []) []

numbers-cons : (d : List ℕ) (ds : List (List ℕ)) → numbers_of (d ∷ ds) ≡ cond (begins_interface d) (number_of d ∷ numbers_of ds) (numbers_of ds)
unfolding settings_of
numbers-cons d ds =
    let s : Setting = record { interface = d; others = up_to_interface ds } in
    elim (is_interface d) as (λ b.
    map (λ t. number_of t.interface) (filter (λ t. alternate_of t.interface == 0) (cond b (s ∷ settings_of ds) (settings_of ds)))
    ≡ cond (b && alternate_of d == 0) (number_of d ∷ numbers_of ds) (numbers_of ds)) [
      | true ↦ elim (alternate_of d == 0) as (λ a.
          map (λ t. number_of t.interface) (cond a (s ∷ interfaces_of ds) (interfaces_of ds))
          ≡ cond a (number_of d ∷ numbers_of ds) (numbers_of ds)) [ true ↦ refl | false ↦ refl ]
      | false ↦ refl
    ]

pub numbers-push : (ds : List (List ℕ)) (d : List ℕ) → numbers_of (ds ++ d ∷ []) ≡ numbers_of ds ++ number_added d
unfolding settings_of
numbers-push [] d = numbers-cons d []
numbers-push (x ∷ ds) d =
    numbers-cons x (ds ++ d ∷ [])
    ∙ ap (λ ns. cond (begins_interface x) (number_of x ∷ ns) ns) (numbers-push ds d)
    ∙ cond-append (begins_interface x) (number_of x ∷ numbers_of ds) (numbers_of ds) (number_added d)
    ∙ ap (λ ns. ns ++ number_added d) (sym (numbers-cons x ds))

-- what follows belongs to an interface
abbrev pub is_counted : Within → Bool
is_counted Configuration = false
is_counted Interface = true
is_counted Alternate = false

-- d is an endpoint descriptor of an interface
abbrev pub counts_endpoint : Within → List ℕ → Bool
counts_endpoint w d = not (is_interface d) && (is_counted w && is_endpoint d)

-- the endpoint descriptors among ds, where w says what the first of them belong to
endpoints_within : Within → List (List ℕ) → List (List ℕ)
endpoints_within w ds = cond (is_counted w) (filter is_endpoint (up_to_interface ds)) [] ++ endpoints_of ds

after_interface : (d : List ℕ) (ds : List (List ℕ)) →
    flat_map (λ s. filter is_endpoint s.others) (cond (alternate_of d == 0) (record { interface = d; others = up_to_interface ds } ∷ interfaces_of ds) (interfaces_of ds))
    ≡ endpoints_within (cond (alternate_of d == 0) Interface Alternate) ds
unfolding endpoints_within
after_interface d ds =
    let s : Setting = record { interface = d; others = up_to_interface ds } in
    elim (alternate_of d == 0) as (λ a.
    flat_map (λ s. filter is_endpoint s.others) (cond a (s ∷ interfaces_of ds) (interfaces_of ds))
    ≡ endpoints_within (cond a Interface Alternate) ds) [ true ↦ refl | false ↦ refl ]

filtered_before : {X : Type 0} (e : Bool) (x : X) (xs ys : List X) → cond e (x ∷ xs) xs ++ ys ≡ cond e (x ∷ (xs ++ ys)) (xs ++ ys)
filtered_before true x xs ys = refl
filtered_before false x xs ys = refl

endpoints_within-cons : (w : Within) (d : List ℕ) (ds : List (List ℕ)) →
    endpoints_within w (d ∷ ds) ≡ cond (counts_endpoint w d) (d ∷ endpoints_within (within_next w d) ds) (endpoints_within (within_next w d) ds)
unfolding endpoints_within settings_of up_to_interface
endpoints_within-cons w d ds =
    let s : Setting = record { interface = d; others = up_to_interface ds } in
    elim (is_interface d) as (λ b.
    cond (is_counted w) (filter is_endpoint (cond b [] (d ∷ up_to_interface ds))) []
    ++ flat_map (λ s. filter is_endpoint s.others) (filter (λ t. alternate_of t.interface == 0) (cond b (s ∷ settings_of ds) (settings_of ds)))
    ≡ cond (not b && (is_counted w && is_endpoint d))
    (d ∷ endpoints_within (cond b (cond (alternate_of d == 0) Interface Alternate) w) ds)
    (endpoints_within (cond b (cond (alternate_of d == 0) Interface Alternate) w) ds)) [
      | true ↦ elim w as (λ v. cond (is_counted v) [] []
          ++ flat_map (λ s. filter is_endpoint s.others) (cond (alternate_of d == 0) (s ∷ interfaces_of ds) (interfaces_of ds))
          ≡ endpoints_within (cond (alternate_of d == 0) Interface Alternate) ds) [
            | Configuration ↦ after_interface d ds
            | Interface ↦ after_interface d ds
            | Alternate ↦ after_interface d ds
          ]
      | false ↦ elim w as (λ v. cond (is_counted v) (cond (is_endpoint d) (d ∷ filter is_endpoint (up_to_interface ds)) (filter is_endpoint (up_to_interface ds))) []
          ++ endpoints_of ds
          ≡ cond (is_counted v && is_endpoint d) (d ∷ endpoints_within v ds) (endpoints_within v ds)) [
            | Configuration ↦ refl
            | Interface ↦ filtered_before (is_endpoint d) d (filter is_endpoint (up_to_interface ds)) (endpoints_of ds)
            | Alternate ↦ refl
          ]
    ]

endpoints_within-nil : (w : Within) → endpoints_within w [] ≡ []
unfolding endpoints_within settings_of up_to_interface
endpoints_within-nil Configuration = refl
endpoints_within-nil Interface = refl
endpoints_within-nil Alternate = refl

-- the endpoint descriptor that d adds
abbrev pub endpoint_added : Within → List ℕ → List (List ℕ)
endpoint_added w d = cond (counts_endpoint w d) (d ∷ []) []

endpoints_within-push : (w : Within) (ds : List (List ℕ)) (d : List ℕ) →
    endpoints_within w (ds ++ d ∷ []) ≡ endpoints_within w ds ++ endpoint_added (within_after w ds) d
unfolding within_after
endpoints_within-push w [] d =
    endpoints_within-cons w d []
    ∙ ap (λ es. cond (counts_endpoint w d) (d ∷ es) es) (endpoints_within-nil (within_next w d))
    ∙ ap (λ es. es ++ endpoint_added w d) (sym (endpoints_within-nil w))
endpoints_within-push w (x ∷ ds) d =
    let next = within_next w x in
    endpoints_within-cons w x (ds ++ d ∷ [])
    ∙ ap (λ es. cond (counts_endpoint w x) (x ∷ es) es) (endpoints_within-push (within_next w x) ds d)
    ∙ cond-append (counts_endpoint w x) (x ∷ endpoints_within (within_next w x) ds) (endpoints_within (within_next w x) ds) (endpoint_added (within_after (within_next w x) ds) d)
    ∙ ap (λ es. es ++ endpoint_added (within_after (within_next w x) ds) d) (sym (endpoints_within-cons w x ds))

pub endpoints-push : (ds : List (List ℕ)) (d : List ℕ) →
    endpoints_of (ds ++ d ∷ []) ≡ endpoints_of ds ++ endpoint_added (within_after Configuration ds) d
unfolding endpoints_within
endpoints-push ds d = endpoints_within-push Configuration ds d

pub within-push : (w : Within) (ds : List (List ℕ)) (d : List ℕ) → within_after w (ds ++ d ∷ []) ≡ within_next (within_after w ds) d
unfolding within_after
within-push w [] d = refl
within-push w (x ∷ ds) d = within-push (within_next w x) ds d

-- an interface descriptor came
abbrev pub has_begun : Within → Bool
has_begun Configuration = false
has_begun Interface = true
has_begun Alternate = true

has_begun-next : (w : Within) (d : List ℕ) → has_begun (within_next w d) ≡ (has_begun w || is_interface d)
has_begun-next w d =
    elim (is_interface d) as (λ b. has_begun (cond b (cond (alternate_of d == 0) Interface Alternate) w) ≡ (has_begun w || b)) [
      | true ↦ elim (alternate_of d == 0) as (λ a. has_begun (cond a Interface Alternate) ≡ (has_begun w || true)) [
        | true ↦ elim w as (λ v. true ≡ (has_begun v || true)) [ Configuration ↦ refl | Interface ↦ refl | Alternate ↦ refl ]
        | false ↦ elim w as (λ v. true ≡ (has_begun v || true)) [ Configuration ↦ refl | Interface ↦ refl | Alternate ↦ refl ]
      ]
      | false ↦ elim w as (λ v. has_begun v ≡ (has_begun v || false)) [ Configuration ↦ refl | Interface ↦ refl | Alternate ↦ refl ]
    ]

or_assoc : (a b c : Bool) → (a || b || c) ≡ (a || (b || c))
or_assoc true b c = refl
or_assoc false b c = refl

pub has_begun-after : (w : Within) (ds : List (List ℕ)) → has_begun (within_after w ds) ≡ (has_begun w || list_any is_interface ds)
unfolding within_after
has_begun-after w [] = elim w as (λ v. has_begun v ≡ (has_begun v || false)) [ Configuration ↦ refl | Interface ↦ refl | Alternate ↦ refl ]
has_begun-after w (d ∷ ds) =
    has_begun-after (within_next w d) ds
    ∙ ap (λ b. b || list_any is_interface ds) (has_begun-next w d)
    ∙ or_assoc (has_begun w) (is_interface d) (list_any is_interface ds)

pub list_any-push : (test : List ℕ → Bool) (ds : List (List ℕ)) (d : List ℕ) → list_any test ds ≡ true → list_any test (ds ++ d ∷ []) ≡ true
list_any-push test [] d h = absurd (cc)
list_any-push test (x ∷ ds) d h =
    elim (test x) as (λ b. (b || list_any test ds) ≡ true → (b || list_any test (ds ++ d ∷ [])) ≡ true) [
      | true ↦ λ _. refl
      | false ↦ λ k. list_any-push test ds d k
    ] h

pub bit_set-push : (ns : List ℕ) (n : ℕ) → bit_set (ns ++ n ∷ []) ≡ bit_or (bit_set ns) (2 ^ n)
unfolding bit_set
bit_set-push [] n = same_from_bits (bit_or (2 ^ n) 0) (bit_or 0 (2 ^ n)) (λ i. omega (arith, bit_at_or (2 ^ n) 0 i, bit_at_or 0 (2 ^ n) i))
bit_set-push (m ∷ ns) n =
    ap (λ k. bit_or (2 ^ m) k) (bit_set-push ns n)
    ∙ same_from_bits (bit_or (2 ^ m) (bit_or (bit_set ns) (2 ^ n))) (bit_or (bit_or (2 ^ m) (bit_set ns)) (2 ^ n))
    (λ i. omega (arith, bit_at_or (2 ^ m) (bit_or (bit_set ns) (2 ^ n)) i, bit_at_or (bit_set ns) (2 ^ n) i, bit_at_or (bit_or (2 ^ m) (bit_set ns)) (2 ^ n) i, bit_at_or (2 ^ m) (bit_set ns) i))

-- the bits are those of the numbers
pub bit_set-bit : (ns : List ℕ) (n : ℕ) → bit_at (bit_set ns) n ≡ cond (list_any (λ k. k == n) ns) 1 0
unfolding bit_set
bit_set-bit [] n = bit_at-zero n
bit_set-bit (m ∷ ns) n =
    bit_at_or (2 ^ m) (bit_set ns) n
    ∙ ⊎_elim
    (λ is. ap (λ b. max b (bit_at (bit_set ns) n)) (ap (bit_at (2 ^ m)) (sym is) ∙ bit_at-pow_same m)
    ∙ one_most (list_any (λ k. k == n) ns) (bit_at (bit_set ns) n) (bit_set-bit ns n)
    ∙ ap (λ b. cond (b || list_any (λ k. k == n) ns) 1 0) (sym (eq-eqb m n is)))
    (λ other. ap (λ b. max b (bit_at (bit_set ns) n)) (bit_at-pow_other m n (λ is. other (sym is)))
    ∙ ap (max 0) (bit_set-bit ns n) ∙ none_most (list_any (λ k. k == n) ns)
    ∙ ap (λ b. cond (b || list_any (λ k. k == n) ns) 1 0) (sym (ne_eqb m n other)))
    (cases_eq m n)
  where
    one_most : (b : Bool) (x : ℕ) → x ≡ cond b 1 0 → max 1 x ≡ 1
    one_most true x is = omega arith
    one_most false x is = omega arith

    none_most : (b : Bool) → max 0 (cond b 1 0) ≡ cond b 1 0
    none_most true = refl
    none_most false = refl

-- the bits of the endpoint numbers that pass a test, with one endpoint more
pub bits-push : (test : List ℕ → Bool) (ds : List (List ℕ)) (added : Bool) (d : List ℕ) →
    bit_set (map endpoint_number (filter test (ds ++ cond added (d ∷ []) [])))
    ≡ cond (added && test d) (bit_or (bit_set (map endpoint_number (filter test ds))) (2 ^ endpoint_number d)) (bit_set (map endpoint_number (filter test ds)))
bits-push test ds false d = ap (λ es. bit_set (map endpoint_number (filter test es))) (append-nil ds)
bits-push test ds true d =
    ap (λ es. bit_set (map endpoint_number es)) (filter-append test ds (d ∷ []))
    ∙ elim (test d) as (λ b. bit_set (map endpoint_number (filter test ds ++ cond b (d ∷ []) []))
    ≡ cond b (bit_or (bit_set (map endpoint_number (filter test ds))) (2 ^ endpoint_number d)) (bit_set (map endpoint_number (filter test ds)))) [
      | true ↦ ap bit_set (map-append endpoint_number (filter test ds) (d ∷ [])) ∙ bit_set-push (map endpoint_number (filter test ds)) (endpoint_number d)
      | false ↦ ap (λ es. bit_set (map endpoint_number es)) (append-nil (filter test ds))
    ]
