-- What a tally knows of the next descriptor: whether something is wrong with it, and what it adds.
use Rattle.std.proofs.Common.{◌≡◌, ℕ, ◌+◌, ◌^◌, ◌≤◌, Bool, true, false, cond, not, ltb, ◌&&◌, ◌||◌, List, [], ◌∷◌, ◌++◌, length, map, filter, refl, sym, ◌∙◌, ap, arith, length-append, bit_or, Option, Some, None}
use Rattle.std.specs.List.{list_any}
use Rattle.std.specs.Prelude.{◌==◌}
use Rattle.std.proofs.lemmas.Bool.{or_parts, ltb-false}
use Rattle.std.proofs.lemmas.List.{length-map}
use Rattle.usb_descriptor.specs.declared.fault.DescWhy.{DescWhy}
use Rattle.usb_descriptor.specs.declared.fault.DescWhy.TheVariants.{Length, Order, TooMany}
use Rattle.usb_descriptor.specs.declared.tally.Within.{Within}
use Rattle.usb_descriptor.specs.declared.tally.Within.TheVariants.{Configuration}
use Rattle.usb_descriptor.specs.declared.tally.Tally.{Tally}
use Rattle.usb_descriptor.specs.Descriptor.{is_configuration, is_interface, is_endpoint, is_hid, is_whole}
use Rattle.usb_descriptor.specs.Setting.{begins_interface, interfaces_of, numbers_of, endpoints_of, number_of, alternate_of}
use Rattle.usb_descriptor.specs.Endpoint.{bit_set, endpoint_number, is_usable, is_in}
use Rattle.usb_descriptor.specs.Fault.{fault_of, is_misplaced, are_too_many}
use Rattle.usb_descriptor.specs.Tally.{Tallies, within_next, within_after}
use Rattle.usb_descriptor.proofs.Pushes.{number_added, numbers-push, counts_endpoint, endpoint_added, endpoints-push, within-push, has_begun, has_begun-after, list_any-push, bits-push}

-- the test of is_misplaced, by what the tally keeps
abbrev pub is_misplaced_in : Within → List ℕ → List ℕ → Bool
is_misplaced_in w numbers d =
    (is_endpoint d || is_hid d) && not (has_begun w)
    || is_configuration d && true
    || is_interface d && alternate_of d == 0 && list_any (λ n. n == number_of d) numbers

-- the test of are_too_many, by what the tally keeps
abbrev pub are_too_many_in : Within → List ℕ → ℕ → List ℕ → Bool
are_too_many_in w numbers endpoints d =
    ltb 8 (length numbers + cond (begins_interface d) 1 0) || ltb 16 (endpoints + cond (counts_endpoint w d) 1 0)

abbrev pub fault_in : Within → List ℕ → ℕ → List ℕ → Option DescWhy
fault_in w numbers endpoints d =
    cond (is_misplaced_in w numbers d) (Some Order) (cond (are_too_many_in w numbers endpoints d) (Some TooMany) None)

fault_after : (ds : List (List ℕ)) (d : List ℕ) → list_any is_configuration ds ≡ true → is_whole d ≡ true →
    fault_of ds d ≡ cond (is_misplaced ds d) (Some Order) (cond (are_too_many (ds ++ d ∷ [])) (Some TooMany) None)
unfolding fault_of
fault_after [] d some whole = absurd (cc)
fault_after (x ∷ ds) d some whole =
    ap (λ b. cond (not b) (Some Length) (cond (is_misplaced (x ∷ ds) d) (Some Order) (cond (are_too_many ((x ∷ ds) ++ d ∷ [])) (Some TooMany) None))) whole

length-choice : {X : Type 0} (b : Bool) (x : X) → length (cond b (x ∷ []) []) ≡ cond b 1 0
length-choice true x = refl
length-choice false x = refl

interfaces-numbers : (ds : List (List ℕ)) → length (interfaces_of ds) ≡ length (numbers_of ds)
interfaces-numbers ds = sym (length-map (interfaces_of ds) (λ s. number_of s.interface))

numbers_more : (ds : List (List ℕ)) (d : List ℕ) → length (numbers_of (ds ++ d ∷ [])) ≡ length (numbers_of ds) + cond (begins_interface d) 1 0
numbers_more ds d =
    ap length (numbers-push ds d) ∙ length-append (numbers_of ds) (number_added d)
    ∙ ap (λ n. length (numbers_of ds) + n) (length-choice (begins_interface d) (number_of d))

endpoints_more : (ds : List (List ℕ)) (d : List ℕ) → length (endpoints_of (ds ++ d ∷ [])) ≡ length (endpoints_of ds) + cond (counts_endpoint (within_after Configuration ds) d) 1 0
endpoints_more ds d =
    ap length (endpoints-push ds d) ∙ length-append (endpoints_of ds) (endpoint_added (within_after Configuration ds) d)
    ∙ ap (λ n. length (endpoints_of ds) + n) (length-choice (counts_endpoint (within_after Configuration ds) d) d)

-- what is wrong with d, by what the tally keeps
pub fault_is : (ds : List (List ℕ)) (d : List ℕ) (t : Tally) → Tallies ds t → is_whole d ≡ true →
    fault_of ds d ≡ fault_in t.within t.numbers.items t.endpoints d
fault_is ds d t h whole =
    let begun : list_any is_interface ds ≡ has_begun t.within = sym (ap has_begun h.within ∙ has_begun-after Configuration ds) in
    let interfaces : length (interfaces_of (ds ++ d ∷ [])) ≡ length t.numbers.items + cond (begins_interface d) 1 0
    = interfaces-numbers (ds ++ d ∷ []) ∙ numbers_more ds d ∙ ap (λ ns. length ns + cond (begins_interface d) 1 0) (sym h.numbers) in
    let endpoints : length (endpoints_of (ds ++ d ∷ [])) ≡ t.endpoints + cond (counts_endpoint t.within d) 1 0
    = endpoints_more ds d ∙ ap (λ w. length (endpoints_of ds) + cond (counts_endpoint w d) 1 0) (sym h.within)
    ∙ ap (λ n. n + cond (counts_endpoint t.within d) 1 0) (sym h.endpoints) in
    let misplaced : is_misplaced ds d ≡ is_misplaced_in t.within t.numbers.items d
    = ap (λ b. (is_endpoint d || is_hid d) && not b || is_configuration d && list_any is_configuration ds || is_interface d && alternate_of d == 0 && list_any (λ n. n == number_of d) (numbers_of ds)) begun
    ∙ ap (λ b. (is_endpoint d || is_hid d) && not (has_begun t.within) || is_configuration d && b || is_interface d && alternate_of d == 0 && list_any (λ n. n == number_of d) (numbers_of ds)) h.configuration
    ∙ ap (λ ns. (is_endpoint d || is_hid d) && not (has_begun t.within) || is_configuration d && true || is_interface d && alternate_of d == 0 && list_any (λ n. n == number_of d) ns) (sym h.numbers) in
    let many : are_too_many (ds ++ d ∷ []) ≡ are_too_many_in t.within t.numbers.items t.endpoints d
    = ap (λ n. ltb 8 n || ltb 16 (length (endpoints_of (ds ++ d ∷ [])))) interfaces
    ∙ ap (λ n. ltb 8 (length t.numbers.items + cond (begins_interface d) 1 0) || ltb 16 n) endpoints in
    fault_after ds d h.configuration whole
    ∙ ap (λ b. cond b (Some Order) (cond (are_too_many (ds ++ d ∷ [])) (Some TooMany) None)) misplaced
    ∙ ap (λ b. cond (is_misplaced_in t.within t.numbers.items d) (Some Order) (cond b (Some TooMany) None)) many

-- the tally after d, which has no fault
pub record Advances (old : Tally) (d : List ℕ) (new : Tally) : Type 0 where
  pub numbers : new.numbers.items ≡ old.numbers.items ++ number_added d
  pub endpoints : new.endpoints ≡ old.endpoints + cond (counts_endpoint old.within d) 1 0
  pub within : new.within ≡ within_next old.within d
  pub ins : new.ins ≡ cond (counts_endpoint old.within d && (is_usable d && is_in d)) (bit_or old.ins (2 ^ endpoint_number d)) old.ins
  pub outs : new.outs ≡ cond (counts_endpoint old.within d && (is_usable d && not (is_in d))) (bit_or old.outs (2 ^ endpoint_number d)) old.outs

few_of : (w : Within) (numbers : List ℕ) (endpoints : ℕ) (d : List ℕ) → fault_in w numbers endpoints d ≡ None →
    (length numbers + cond (begins_interface d) 1 0 ≤ 8) × (endpoints + cond (counts_endpoint w d) 1 0 ≤ 16)
few_of w numbers endpoints d none =
    let few : are_too_many_in w numbers endpoints d ≡ false
    = elim (is_misplaced_in w numbers d) as (λ b. cond b (Some Order) (cond (are_too_many_in w numbers endpoints d) (Some TooMany) None) ≡ None → are_too_many_in w numbers endpoints d ≡ false) [
      | true ↦ λ k. absurd (cc)
      | false ↦ elim (are_too_many_in w numbers endpoints d) as (λ b. cond b (Some TooMany) None ≡ None → b ≡ false) [
        | true ↦ λ k. absurd (cc)
        | false ↦ λ _. refl
      ]
    ] none in
    let parts = or_parts (ltb 8 (length numbers + cond (begins_interface d) 1 0)) (ltb 16 (endpoints + cond (counts_endpoint w d) 1 0)) few in
    (ltb-false _ _ parts.0, ltb-false _ _ parts.1)

pub advanced : (ds : List (List ℕ)) (d : List ℕ) (old new : Tally) → Tallies ds old → is_whole d ≡ true →
    fault_of ds d ≡ None → Advances old d new → Tallies (ds ++ d ∷ []) new
advanced ds d old new h whole none a =
    let few = few_of old.within old.numbers.items old.endpoints d (sym (fault_is ds d old h whole) ∙ none) in
    let bits : (test : List ℕ → Bool) (kept : ℕ) → kept ≡ bit_set (map endpoint_number (filter test (endpoints_of ds))) →
    cond (counts_endpoint old.within d && test d) (bit_or kept (2 ^ endpoint_number d)) kept
    ≡ bit_set (map endpoint_number (filter test (endpoints_of (ds ++ d ∷ []))))
    = λ test kept is.
    ap (λ k. cond (counts_endpoint old.within d && test d) (bit_or k (2 ^ endpoint_number d)) k) is
    ∙ sym (bits-push test (endpoints_of ds) (counts_endpoint old.within d) d)
    ∙ ap (λ w. bit_set (map endpoint_number (filter test (endpoints_of ds ++ endpoint_added w d)))) h.within
    ∙ ap (λ es. bit_set (map endpoint_number (filter test es))) (sym (endpoints-push ds d)) in
    let numbers : new.numbers.items ≡ numbers_of (ds ++ d ∷ [])
    = a.numbers ∙ ap (λ ns. ns ++ number_added d) h.numbers ∙ sym (numbers-push ds d) in
    let endpoints : new.endpoints ≡ length (endpoints_of (ds ++ d ∷ []))
    = a.endpoints ∙ ap (λ n. n + cond (counts_endpoint old.within d) 1 0) h.endpoints
    ∙ ap (λ w. length (endpoints_of ds) + cond (counts_endpoint w d) 1 0) h.within ∙ sym (endpoints_more ds d) in
    record {
      configuration = list_any-push is_configuration ds d h.configuration;
      numbers = numbers;
      endpoints = endpoints;
      within = a.within ∙ ap (λ w. within_next w d) h.within ∙ sym (within-push Configuration ds d);
      ins = a.ins ∙ bits (λ e. is_usable e && is_in e) old.ins h.ins;
      outs = a.outs ∙ bits (λ e. is_usable e && not (is_in e)) old.outs h.outs;
      few_interfaces = omega (arith, few.0, numbers_more ds d, ap length h.numbers);
      few_endpoints = omega (arith, few.1, endpoints, a.endpoints);
    }
