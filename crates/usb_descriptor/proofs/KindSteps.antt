-- What a tally does at each kind of descriptor.
use Rattle.std.proofs.Common.{◌≡◌, ℕ, ◌+◌, ◌^◌, ◌<◌, ◌≤◌, Bool, true, false, cond, not, ltb, eqb, ◌&&◌, ◌||◌, List, [], ◌∷◌, ◌++◌, length, refl, sym, ◌∙◌, ap, arith, append-nil, bit_or, Some, None}
use Rattle.std.specs.List.{list_any}
use Rattle.std.specs.Prelude.{◌==◌}
use Rattle.std.proofs.lemmas.Nat.Bits.{same_from_bits, bit_at_or, bit_at-zero}
use Rattle.std.proofs.lemmas.Bool.{le-ltb, lt-ltb, or_from, or_left, or_right, and_right}
use Rattle.usb_descriptor.specs.declared.fault.DescWhy.TheVariants.{Order, TooMany}
use Rattle.usb_descriptor.specs.declared.tally.Within.{Within}
use Rattle.usb_descriptor.specs.declared.tally.Within.TheVariants.{Configuration, Interface, Alternate}
use Rattle.usb_descriptor.specs.declared.tally.Tally.{Tally}
use Rattle.usb_descriptor.specs.declared.descriptor.TheConstants.{CONFIGURATION, INTERFACE, ENDPOINT, HID}
use Rattle.usb_descriptor.specs.Descriptor.{kind_of, is_whole, is_interface, is_endpoint}
use Rattle.usb_descriptor.specs.Setting.{begins_interface, number_of, alternate_of}
use Rattle.usb_descriptor.specs.Endpoint.{endpoint_number, is_usable, is_in}
use Rattle.usb_descriptor.specs.Fault.{fault_of}
use Rattle.usb_descriptor.specs.Tally.{Tallies, within_next}
use Rattle.usb_descriptor.proofs.Pushes.{has_begun, is_counted, counts_endpoint}
use Rattle.usb_descriptor.proofs.Steps.{is_misplaced_in, are_too_many_in, fault_is, advanced}

-- what a tally makes of d after ds, where nothing is wrong
abbrev pub Follows : List (List ℕ) → List ℕ → Tally → Type 0
Follows ds d new = (fault_of ds d ≡ None) × Tallies (ds ++ d ∷ []) new

few_numbers : (ds : List (List ℕ)) (t : Tally) → Tallies ds t → length t.numbers.items ≤ 8
few_numbers ds t h = omega (arith, ap length h.numbers, h.few_interfaces)

few_endpoints : (ds : List (List ℕ)) (t : Tally) → Tallies ds t → t.endpoints ≤ 16
few_endpoints ds t h = omega (arith, h.endpoints, h.few_endpoints)

abbrev one_if : Bool → ℕ
one_if b = cond b 1 0

-- the limits aren't passed
within_limits : (numbers endpoints : ℕ) → numbers ≤ 8 → endpoints ≤ 16 → (ltb 8 numbers || ltb 16 endpoints) ≡ false
within_limits numbers endpoints h k = or_from (ltb 8 numbers) (ltb 16 endpoints) (le-ltb 8 numbers h) (le-ltb 16 endpoints k)

misplaced_interface : (w : Within) (numbers d : List ℕ) → kind_of d ≡ INTERFACE → begins_interface d ≡ true →
    is_misplaced_in w numbers d ≡ list_any (λ n. n == number_of d) numbers
misplaced_interface w numbers d kind begun =
    let repeated = list_any (λ n. n == number_of d) numbers in
    let placed : is_misplaced_in w numbers d ≡ (alternate_of d == 0 && repeated) = rw kind refl in
    let first_setting : eqb (alternate_of d) 0 ≡ true = rw kind at begun in
    placed ∙ ap (λ b. b && repeated) first_setting

counts_other : (w : Within) (d : List ℕ) → eqb (kind_of d) ENDPOINT ≡ false → counts_endpoint w d ≡ false
counts_other w d other = and_right (not (is_interface d)) (is_counted w && is_endpoint d) (and_right (is_counted w) (is_endpoint d) other)

or_zero : (x : ℕ) → bit_or x 0 ≡ x
or_zero x = same_from_bits (bit_or x 0) x (λ i. omega (arith, bit_at_or x 0 i, bit_at-zero i))

-- the sets with the bit of an endpoint, which is 0 where it isn't usable
in_bits : (usable in_side : Bool) (set bit place : ℕ) → bit ≡ cond usable place 0 →
    cond in_side (bit_or set bit) set ≡ cond (usable && in_side) (bit_or set place) set
in_bits true in_side set bit place is = ap (λ b. cond in_side (bit_or set b) set) is
in_bits false true set bit place is = ap (bit_or set) is ∙ or_zero set
in_bits false false set bit place is = refl

out_bits : (usable in_side : Bool) (set bit place : ℕ) → bit ≡ cond usable place 0 →
    cond in_side set (bit_or set bit) ≡ cond (usable && not in_side) (bit_or set place) set
out_bits true true set bit place is = refl
out_bits true false set bit place is = ap (bit_or set) is
out_bits false true set bit place is = refl
out_bits false false set bit place is = ap (bit_or set) is ∙ or_zero set

module _ (ds : List (List ℕ)) (d : List ℕ) (t : Tally) (h : Tallies ds t) (whole : is_whole d ≡ true) where
  out_of_order : is_misplaced_in t.within t.numbers.items d ≡ true → fault_of ds d ≡ Some Order
  out_of_order misplaced =
      fault_is ds d t h whole
      ∙ ap (λ b. cond b (Some Order) (cond (are_too_many_in t.within t.numbers.items t.endpoints d) (Some TooMany) None)) misplaced

  one_too_many : is_misplaced_in t.within t.numbers.items d ≡ false → are_too_many_in t.within t.numbers.items t.endpoints d ≡ true →
      fault_of ds d ≡ Some TooMany
  one_too_many placed many =
      fault_is ds d t h whole
      ∙ ap (λ b. cond b (Some Order) (cond (are_too_many_in t.within t.numbers.items t.endpoints d) (Some TooMany) None)) placed
      ∙ ap (λ b. cond b (Some TooMany) None) many

  no_fault : is_misplaced_in t.within t.numbers.items d ≡ false → are_too_many_in t.within t.numbers.items t.endpoints d ≡ false →
      fault_of ds d ≡ None
  no_fault placed few =
      fault_is ds d t h whole
      ∙ ap (λ b. cond b (Some Order) (cond (are_too_many_in t.within t.numbers.items t.endpoints d) (Some TooMany) None)) placed
      ∙ ap (λ b. cond b (Some TooMany) None) few

  -- a descriptor that adds no interface and no endpoint
  passed_over : (w : Within) → is_misplaced_in t.within t.numbers.items d ≡ false → begins_interface d ≡ false →
      counts_endpoint t.within d ≡ false → within_next t.within d ≡ w → Follows ds d (record t { within = w })
  passed_over w placed interface endpoint next =
      let few : are_too_many_in t.within t.numbers.items t.endpoints d ≡ false
      = within_limits (length t.numbers.items + cond (begins_interface d) 1 0) (t.endpoints + cond (counts_endpoint t.within d) 1 0)
      (omega (arith, ap one_if interface, few_numbers ds t h))
      (omega (arith, ap one_if endpoint, few_endpoints ds t h)) in
      let none = no_fault placed few in (
        none,
        advanced ds d t (record t { within = w }) h whole none (record {
          numbers = sym (append-nil t.numbers.items) ∙ ap (λ b. t.numbers.items ++ cond b (number_of d ∷ []) []) (sym interface);
          endpoints = omega (arith, ap one_if endpoint);
          within = sym next;
          ins = ap (λ b. cond (b && (is_usable d && is_in d)) (bit_or t.ins (2 ^ endpoint_number d)) t.ins) (sym endpoint);
          outs = ap (λ b. cond (b && (is_usable d && not (is_in d))) (bit_or t.outs (2 ^ endpoint_number d)) t.outs) (sym endpoint);
        }),
      )

  pub second_configuration : kind_of d ≡ CONFIGURATION → fault_of ds d ≡ Some Order
  second_configuration kind = out_of_order (rw kind refl)

  -- a kind that is passed over
  pub other_kind : eqb (kind_of d) CONFIGURATION ≡ false → eqb (kind_of d) INTERFACE ≡ false →
      eqb (kind_of d) ENDPOINT ≡ false → eqb (kind_of d) HID ≡ false → Follows ds d t
  other_kind configuration interface endpoint hid =
      passed_over t.within (rw (interface, endpoint, hid, configuration) refl) (rw interface refl) (counts_other t.within d endpoint) (rw interface refl)

  pub alternate_setting : kind_of d ≡ INTERFACE → begins_interface d ≡ false → Follows ds d (record t { within = Alternate })
  alternate_setting kind other =
      let no : eqb (alternate_of d) 0 ≡ false = rw kind at other in
      passed_over Alternate (rw (kind, no) refl) (rw (kind, no) refl) (counts_other t.within d (rw kind refl)) (rw (kind, no) refl)

  pub repeated_interface : kind_of d ≡ INTERFACE → begins_interface d ≡ true → list_any (λ n. n == number_of d) t.numbers.items ≡ true →
      fault_of ds d ≡ Some Order
  repeated_interface kind begun repeated = out_of_order (misplaced_interface t.within t.numbers.items d kind begun ∙ repeated)

  pub ninth_interface : kind_of d ≡ INTERFACE → begins_interface d ≡ true → list_any (λ n. n == number_of d) t.numbers.items ≡ false →
      8 ≤ length t.numbers.items → fault_of ds d ≡ Some TooMany
  ninth_interface kind begun fresh full =
      one_too_many (misplaced_interface t.within t.numbers.items d kind begun ∙ fresh)
      (or_left (ltb 8 (length t.numbers.items + cond (begins_interface d) 1 0)) (ltb 16 (t.endpoints + cond (counts_endpoint t.within d) 1 0))
      (lt-ltb 8 (length t.numbers.items + cond (begins_interface d) 1 0) (omega (arith, ap one_if begun))))

  pub new_interface : (new : Tally) → kind_of d ≡ INTERFACE → begins_interface d ≡ true → list_any (λ n. n == number_of d) t.numbers.items ≡ false →
      length t.numbers.items < 8 → new.numbers.items ≡ t.numbers.items ++ number_of d ∷ [] → new.endpoints ≡ t.endpoints →
      new.within ≡ Interface → new.ins ≡ t.ins → new.outs ≡ t.outs → Follows ds d new
  new_interface new kind begun fresh room numbers endpoints within ins outs =
      let yes = begun in
      let no : counts_endpoint t.within d ≡ false = counts_other t.within d (rw kind refl) in
      let none = no_fault (misplaced_interface t.within t.numbers.items d kind begun ∙ fresh)
      (within_limits (length t.numbers.items + cond (begins_interface d) 1 0) (t.endpoints + cond (counts_endpoint t.within d) 1 0)
      (omega (arith, ap one_if yes))
      (omega (arith, ap one_if no, few_endpoints ds t h))) in (
        none,
        advanced ds d t new h whole none (record {
          numbers = numbers ∙ ap (λ b. t.numbers.items ++ cond b (number_of d ∷ []) []) (sym yes);
          endpoints = omega (arith, endpoints, ap one_if no);
          within = let first_setting : eqb (alternate_of d) 0 ≡ true = rw kind at begun in within ∙ (rw (kind, first_setting) refl);
          ins = ins ∙ ap (λ b. cond (b && (is_usable d && is_in d)) (bit_or t.ins (2 ^ endpoint_number d)) t.ins) (sym no);
          outs = outs ∙ ap (λ b. cond (b && (is_usable d && not (is_in d))) (bit_or t.outs (2 ^ endpoint_number d)) t.outs) (sym no);
        }),
      )

  -- an endpoint or HID descriptor before any interface
  pub endpoint_first : kind_of d ≡ ENDPOINT → t.within ≡ Configuration → fault_of ds d ≡ Some Order
  endpoint_first kind first = out_of_order (rw (first, kind) refl)

  pub hid_first : kind_of d ≡ HID → t.within ≡ Configuration → fault_of ds d ≡ Some Order
  hid_first kind first = out_of_order (rw (first, kind) refl)

  pub hid_passed : kind_of d ≡ HID → has_begun t.within ≡ true → Follows ds d t
  hid_passed kind begun =
      passed_over t.within (ap (λ k. (eqb k ENDPOINT || eqb k HID) && not (has_begun t.within) || eqb k CONFIGURATION && true || eqb k INTERFACE && alternate_of d == 0 && list_any (λ n. n == number_of d) t.numbers.items) kind ∙ ap (λ b. not b || false || false) begun) (rw kind refl)
      (counts_other t.within d (rw kind refl)) (rw kind refl)

  pub endpoint_alternate : kind_of d ≡ ENDPOINT → t.within ≡ Alternate → Follows ds d t
  endpoint_alternate kind alternate =
      passed_over t.within (rw (alternate, kind) refl) (rw kind refl) (rw (alternate, kind) refl) (rw kind refl)

  pub seventeenth_endpoint : kind_of d ≡ ENDPOINT → t.within ≡ Interface → 16 ≤ t.endpoints → fault_of ds d ≡ Some TooMany
  seventeenth_endpoint kind within full =
      let yes : counts_endpoint t.within d ≡ true = rw (within, kind) refl in
      one_too_many (rw (within, kind) refl)
      (or_right (ltb 8 (length t.numbers.items + cond (begins_interface d) 1 0)) (ltb 16 (t.endpoints + cond (counts_endpoint t.within d) 1 0))
      (lt-ltb 16 (t.endpoints + cond (counts_endpoint t.within d) 1 0) (omega (arith, ap one_if yes))))

  pub new_endpoint : (new : Tally) (bit : ℕ) → bit ≡ cond (is_usable d) (2 ^ endpoint_number d) 0 → kind_of d ≡ ENDPOINT → t.within ≡ Interface → t.endpoints < 16 →
      new.numbers.items ≡ t.numbers.items → new.endpoints ≡ t.endpoints + 1 → new.within ≡ Interface →
      new.ins ≡ cond (is_in d) (bit_or t.ins bit) t.ins → new.outs ≡ cond (is_in d) t.outs (bit_or t.outs bit) → Follows ds d new
  new_endpoint new bit is kind within room numbers endpoints next ins outs =
      let yes : counts_endpoint t.within d ≡ true = rw (within, kind) refl in
      let no : begins_interface d ≡ false = rw kind refl in
      let none = no_fault (rw (within, kind) refl)
      (within_limits (length t.numbers.items + cond (begins_interface d) 1 0) (t.endpoints + cond (counts_endpoint t.within d) 1 0)
      (omega (arith, ap one_if no, few_numbers ds t h))
      (omega (arith, ap one_if yes))) in (
        none,
        advanced ds d t new h whole none (record {
          numbers = numbers ∙ sym (append-nil t.numbers.items) ∙ ap (λ b. t.numbers.items ++ cond b (number_of d ∷ []) []) (sym no);
          endpoints = omega (arith, endpoints, ap one_if yes);
          within = next ∙ sym (rw kind within);
          ins = ins ∙ in_bits (is_usable d) (is_in d) t.ins bit (2 ^ endpoint_number d) is ∙ ap (λ b. cond (b && (is_usable d && is_in d)) (bit_or t.ins (2 ^ endpoint_number d)) t.ins) (sym yes);
          outs = outs ∙ out_bits (is_usable d) (is_in d) t.outs bit (2 ^ endpoint_number d) is ∙ ap (λ b. cond (b && (is_usable d && not (is_in d))) (bit_or t.outs (2 ^ endpoint_number d)) t.outs) (sym yes);
        }),
      )
