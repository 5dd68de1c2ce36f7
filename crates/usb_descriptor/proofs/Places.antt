-- The fault that is named stands where it is said to, and no other comes before it.
use Rattle.std.proofs.Common.{◌≡◌, ℕ, zero, suc, ◌+◌, ◌-◌, ◌<◌, ◌≤◌, ◌≢◌, ◌⊎◌, max, Bool, true, false, cond, not, eqb, List, [], ◌∷◌, ◌++◌, length, drop, get_or, refl, sym, ◌∙◌, ap, subst, inl, inr, ⊎_elim, arith, append_assoc, append-nil, length-append, length-take, Option, Some, None, Ok, Err, IfErr, OnOk}
use Rattle.std.specs.List.{concat, AllByRecursion}
use Rattle.std.proofs.lemmas.Bool.{cases_lt, cases_eq, lt-ltb, ne_eqb, eq-eqb, eqb-true}
use Rattle.usb_descriptor.specs.declared.fault.DescWhy.{DescWhy}
use Rattle.usb_descriptor.specs.declared.fault.DescWhy.TheVariants.{Short, Length, Kind, Total, Order, TooMany}
use Rattle.usb_descriptor.specs.declared.fault.DescFault.{DescFault}
use Rattle.usb_descriptor.specs.Device.{word_at}
use Rattle.usb_descriptor.specs.Descriptor.{descriptors_of, cut_after, front_of, kind_of, is_whole, least_length}
use Rattle.usb_descriptor.specs.Fault.{is_misplaced, are_too_many, fault_of, first_fault, first_of, total_fault, config_fault, config_verdict}
use Rattle.usb_descriptor.specs.Place.{is_faulty, IsOfDescriptor, StandsAt, rank, ComesFirst}
use Rattle.usb_descriptor.proofs.Cuts.{descriptors-front, whole_parts}
use Rattle.usb_descriptor.proofs.Faults.{fault_at, first_fault-none, first_fault-some, config_fault-head, config_fault-short, whole_from_none}

-- ---- one descriptor

-- the order of judging at one descriptor
ladder : Bool → Bool → Bool → Bool → Option DescWhy
ladder kind short placed many = cond kind (Some Kind) (cond short (Some Length) (cond placed (Some Order) (cond many (Some TooMany) None)))

fault_of-ladder : (earlier : List (List ℕ)) (d : List ℕ) →
    fault_of earlier d ≡ ladder (is_faulty Kind earlier d) (is_faulty Length earlier d) (is_faulty Order earlier d) (is_faulty TooMany earlier d)
unfolding fault_of ladder
fault_of-ladder earlier d = refl

-- the fault that is named, where this one stands
record RanksIn (o : Option DescWhy) (why : DescWhy) : Type 0 where
  named : DescWhy
  is : o ≡ Some named
  ranked : rank named ≤ rank why

at_kind : (b c e : Bool) → RanksIn (ladder true b c e) Kind
unfolding ladder
at_kind b c e = record { named = Kind; is = refl; ranked = omega arith }

at_length : (a c e : Bool) → RanksIn (ladder a true c e) Length
unfolding ladder
at_length true c e = record { named = Kind; is = refl; ranked = omega arith }
at_length false c e = record { named = Length; is = refl; ranked = omega arith }

at_order : (a b e : Bool) → RanksIn (ladder a b true e) Order
unfolding ladder
at_order true b e = record { named = Kind; is = refl; ranked = omega arith }
at_order false true e = record { named = Length; is = refl; ranked = omega arith }
at_order false false e = record { named = Order; is = refl; ranked = omega arith }

at_many : (a b c : Bool) → RanksIn (ladder a b c true) TooMany
unfolding ladder
at_many true b c = record { named = Kind; is = refl; ranked = omega arith }
at_many false true c = record { named = Length; is = refl; ranked = omega arith }
at_many false false true = record { named = Order; is = refl; ranked = omega arith }
at_many false false false = record { named = TooMany; is = refl; ranked = omega arith }

ranks : (why : DescWhy) (earlier : List (List ℕ)) (d : List ℕ) → is_faulty why earlier d ≡ true → RanksIn (fault_of earlier d) why
ranks Short earlier d h = absurd (cc)
ranks Length earlier d h =
    let P : Option DescWhy → Type 0 = λ o. RanksIn o Length in
    subst P (sym (fault_of-ladder earlier d)) (let Q : Bool → Type 0 = λ b. RanksIn (ladder (is_faulty Kind earlier d) b (is_faulty Order earlier d) (is_faulty TooMany earlier d)) Length in
    subst Q (sym h) (at_length (is_faulty Kind earlier d) (is_faulty Order earlier d) (is_faulty TooMany earlier d)))
ranks Kind earlier d h =
    let P : Option DescWhy → Type 0 = λ o. RanksIn o Kind in
    subst P (sym (fault_of-ladder earlier d)) (let Q : Bool → Type 0 = λ b. RanksIn (ladder b (is_faulty Length earlier d) (is_faulty Order earlier d) (is_faulty TooMany earlier d)) Kind in
    subst Q (sym h) (at_kind (is_faulty Length earlier d) (is_faulty Order earlier d) (is_faulty TooMany earlier d)))
ranks Total earlier d h = absurd (cc)
ranks Order earlier d h =
    let P : Option DescWhy → Type 0 = λ o. RanksIn o Order in
    subst P (sym (fault_of-ladder earlier d)) (let Q : Bool → Type 0 = λ b. RanksIn (ladder (is_faulty Kind earlier d) (is_faulty Length earlier d) b (is_faulty TooMany earlier d)) Order in
    subst Q (sym h) (at_order (is_faulty Kind earlier d) (is_faulty Length earlier d) (is_faulty TooMany earlier d)))
ranks TooMany earlier d h =
    let P : Option DescWhy → Type 0 = λ o. RanksIn o TooMany in
    subst P (sym (fault_of-ladder earlier d)) (let Q : Bool → Type 0 = λ b. RanksIn (ladder (is_faulty Kind earlier d) (is_faulty Length earlier d) (is_faulty Order earlier d) b) TooMany in
    subst Q (sym h) (at_many (is_faulty Kind earlier d) (is_faulty Length earlier d) (is_faulty Order earlier d)))

-- what the ladder names is true
is_named : DescWhy → Bool → Bool → Bool → Bool → Bool
is_named Short a b c e = false
is_named Length a b c e = b
is_named Kind a b c e = a
is_named Total a b c e = false
is_named Order a b c e = c
is_named TooMany a b c e = e

ladder_true : (a b c e : Bool) (why : DescWhy) → ladder a b c e ≡ Some why → is_named why a b c e ≡ true
unfolding ladder is_named
ladder_true true b c e why h = let w : Kind ≡ why = cc in let P : DescWhy → Type 0 = λ y. is_named y true b c e ≡ true in subst P w refl
ladder_true false true c e why h = let w : Length ≡ why = cc in let P : DescWhy → Type 0 = λ y. is_named y false true c e ≡ true in subst P w refl
ladder_true false false true e why h = let w : Order ≡ why = cc in let P : DescWhy → Type 0 = λ y. is_named y false false true e ≡ true in subst P w refl
ladder_true false false false true why h = let w : TooMany ≡ why = cc in let P : DescWhy → Type 0 = λ y. is_named y false false false true ≡ true in subst P w refl
ladder_true false false false false why h = absurd (cc)

faulty_named : (why : DescWhy) (earlier : List (List ℕ)) (d : List ℕ) →
    is_named why (is_faulty Kind earlier d) (is_faulty Length earlier d) (is_faulty Order earlier d) (is_faulty TooMany earlier d) ≡ is_faulty why earlier d
unfolding is_named
faulty_named Short earlier d = refl
faulty_named Length earlier d = refl
faulty_named Kind earlier d = refl
faulty_named Total earlier d = refl
faulty_named Order earlier d = refl
faulty_named TooMany earlier d = refl

named_faulty : (earlier : List (List ℕ)) (d : List ℕ) (why : DescWhy) → fault_of earlier d ≡ Some why → is_faulty why earlier d ≡ true
named_faulty earlier d why h =
    sym (faulty_named why earlier d)
    ∙ ladder_true (is_faulty Kind earlier d) (is_faulty Length earlier d) (is_faulty Order earlier d) (is_faulty TooMany earlier d) why (sym (fault_of-ladder earlier d) ∙ h)

-- ---- a list of descriptors

-- no fault stands before the first one, where there is one
abbrev pub Leads : Option DescFault → DescWhy → ℕ → Type 0
Leads None why at = ⊥
Leads (Some f) why at = ComesFirst f why at

leads_by : (o : Option DescFault) (f : DescFault) (why : DescWhy) (at : ℕ) → o ≡ Some f → ComesFirst f why at → Leads o why at
leads_by o f why at is h = let P : Option DescFault → Type 0 = λ p. Leads p why at in subst P (sym is) h

-- each descriptor has bytes
abbrev pub HaveBytes : List (List ℕ) → Type 0
HaveBytes ds = AllByRecursion (λ d. 0 < length d) ds

length-concat : (xs ys : List (List ℕ)) → length (concat (xs ++ ys)) ≡ length (concat xs) + length (concat ys)
length-concat [] ys = omega arith
length-concat (x ∷ xs) ys = omega (arith, length-append x (concat (xs ++ ys)), length-concat xs ys, length-append x (concat xs))

pub first_leads : (earlier ds mid : List (List ℕ)) (d : List ℕ) (later : List (List ℕ)) (why : DescWhy) → HaveBytes ds → ds ≡ mid ++ d ∷ later →
    is_faulty why (earlier ++ mid) d ≡ true → Leads (first_fault earlier ds) why (length (concat (earlier ++ mid)))
first_leads earlier [] [] d later why some cut faulty = absurd (cc)
first_leads earlier [] (m ∷ mid) d later why some cut faulty = absurd (cc)
first_leads earlier (x ∷ xs) [] d later why some cut faulty =
    let same : x ≡ d = cc in
    let here : is_faulty why earlier x ≡ true = ap (λ e. is_faulty why e x) (sym (append-nil earlier)) ∙ ap (is_faulty why (earlier ++ [])) same ∙ faulty in
    let r = ranks why earlier x here in
    leads_by (first_fault earlier (x ∷ xs)) (record { at = length (concat earlier); why = r.named }) why (length (concat (earlier ++ [])))
    (first_fault-some earlier x xs r.named r.is)
    (inr (ap (λ e. length (concat e)) (sym (append-nil earlier)), r.ranked))
first_leads earlier (x ∷ xs) (m ∷ mid) d later why some cut faulty =
    let same : x ≡ m = cc in
    let rest : xs ≡ mid ++ d ∷ later = cc in
    let onward : (earlier ++ x ∷ []) ++ mid ≡ earlier ++ m ∷ mid = append_assoc earlier (x ∷ []) mid ∙ ap (λ y. earlier ++ y ∷ mid) same in
    elim (fault_of earlier x) as (λ o. fault_of earlier x ≡ o → Leads (first_fault earlier (x ∷ xs)) why (length (concat (earlier ++ m ∷ mid)))) [
      | Some w ↦ λ is. leads_by (first_fault earlier (x ∷ xs)) (record { at = length (concat earlier); why = w }) why (length (concat (earlier ++ m ∷ mid)))
          (first_fault-some earlier x xs w is)
          (inl (omega (arith, some.0, ap length same, length-concat earlier (m ∷ mid), length-append m (concat mid))))
      | None ↦ λ is.
          let P : Option DescFault → Type 0 = λ o. Leads o why (length (concat (earlier ++ m ∷ mid))) in
          let Q : List (List ℕ) → Type 0 = λ e. Leads (first_fault (earlier ++ x ∷ []) xs) why (length (concat e)) in
          subst P (sym (first_fault-none earlier x xs is))
          (subst Q onward (first_leads (earlier ++ x ∷ []) xs mid d later why some.1 rest (ap (λ e. is_faulty why e d) onward ∙ faulty)))
    ] refl

same_fault : {f g : DescFault} → ◌≡◌ {A = Option DescFault} (Some f) (Some g) → f ≡ g
same_fault is = cc

nothing_found : (earlier : List (List ℕ)) (f : DescFault) → first_fault earlier [] ≡ Some f → ⊥
unfolding first_fault
nothing_found earlier f h = cc

configuration_from_none : (d : List ℕ) → fault_of [] d ≡ None → kind_of d ≡ 2
unfolding fault_of
configuration_from_none d none =
    eqb-true (kind_of d) 2
    (elim (eqb (kind_of d) 2) as (λ b. cond (not b) (Some Kind) (cond (not (is_whole d)) (Some Length) (cond (is_misplaced [] d) (Some Order) (cond (are_too_many (d ∷ [])) (Some TooMany) None))) ≡ None → b ≡ true) [
      | true ↦ λ _. refl
      | false ↦ λ k. absurd (cc)
    ] none)

-- the fault of a descriptor, which isn't Short or Total
stands_of : (why : DescWhy) (bytes : List ℕ) (at : ℕ) → IsOfDescriptor bytes why at → StandsAt bytes why at
stands_of Short bytes at h = let no_test = h.faulty in absurd (cc)
stands_of Length bytes at h = h
stands_of Kind bytes at h = h
stands_of Total bytes at h = let no_test = h.faulty in absurd (cc)
stands_of Order bytes at h = h
stands_of TooMany bytes at h = h

-- where the first fault of a list stands
pub record Found (earlier ds : List (List ℕ)) (f : DescFault) : Type 0 where
  pub mid : List (List ℕ)
  pub descriptor : List ℕ
  pub later : List (List ℕ)
  pub cut : ds ≡ mid ++ descriptor ∷ later
  pub faulty : is_faulty f.why (earlier ++ mid) descriptor ≡ true
  pub place : f.at ≡ length (concat (earlier ++ mid))

pub first_found : (earlier ds : List (List ℕ)) (f : DescFault) → first_fault earlier ds ≡ Some f → Found earlier ds f
first_found earlier [] f h = absurd (nothing_found earlier f h)
first_found earlier (x ∷ xs) f h =
    elim (fault_of earlier x) as (λ o. fault_of earlier x ≡ o → Found earlier (x ∷ xs) f) [
      | Some w ↦ λ is.
          let same : record { at = length (concat earlier); why = w } ≡ f = same_fault (sym (first_fault-some earlier x xs w is) ∙ h) in
          let P : DescFault → Type 0 = Found earlier (x ∷ xs) in
          subst P same (record {
            mid = [];
            descriptor = x;
            later = xs;
            cut = refl;
            faulty = ap (λ e. is_faulty w e x) (append-nil earlier) ∙ named_faulty earlier x w is;
            place = ap (λ e. length (concat e)) (sym (append-nil earlier));
          })
      | None ↦ λ is.
          let found = first_found (earlier ++ x ∷ []) xs f (sym (first_fault-none earlier x xs is) ∙ h) in
          let onward : (earlier ++ x ∷ []) ++ found.mid ≡ earlier ++ x ∷ found.mid = append_assoc earlier (x ∷ []) found.mid in
          record {
            mid = x ∷ found.mid;
            descriptor = found.descriptor;
            later = found.later;
            cut = ap (λ ds. x ∷ ds) found.cut;
            faulty = ap (λ e. is_faulty f.why e found.descriptor) (sym onward) ∙ found.faulty;
            place = found.place ∙ ap (λ e. length (concat e)) onward;
          }
    ] refl

-- ---- the bytes

front_some : (bytes : List ℕ) → 0 < length bytes → 0 < length (front_of bytes)
front_some bytes some = omega (arith, length-take (max 2 (get_or bytes 0 0)) bytes)

cut_some : (skip : ℕ) (bytes : List ℕ) → HaveBytes (cut_after skip bytes)
unfolding cut_after
cut_some skip [] = tt
cut_some zero (b ∷ bytes) = (front_some (b ∷ bytes) (omega arith), cut_some (max 2 b - 1) bytes)
cut_some (suc skip) (b ∷ bytes) = cut_some skip bytes

-- the first descriptor is a configuration descriptor and whole, so it has nine bytes
nine : (d : List ℕ) → fault_of [] d ≡ None → 9 ≤ length d
nine d none =
    let parts = whole_parts d (whole_from_none [] d none) in
    let kind : kind_of d ≡ 2 = configuration_from_none d none in
    let least : least_length 2 ≤ get_or d 0 0 = let P : ℕ → Type 0 = λ k. least_length k ≤ get_or d 0 0 in subst P kind parts.0 in
    omega (arith, least, parts.1)

total_stands : (bytes : List ℕ) → (word_at bytes 2 ≢ length bytes) → total_fault bytes ≡ Some (record { at = 2; why = Total })
unfolding total_fault
total_stands bytes other = ap (λ b. cond b None (Some (record { at = 2; why = Total }))) (ne_eqb (word_at bytes 2) (length bytes) other)

total_cases : (bytes : List ℕ) → ((word_at bytes 2 ≢ length bytes) × (total_fault bytes ≡ Some (record { at = 2; why = Total }))) ⊎ (total_fault bytes ≡ None)
unfolding total_fault
total_cases bytes = ⊎_elim
    (λ is. inr (ap (λ b. cond b None (Some (record { at = 2; why = Total }))) (eq-eqb (word_at bytes 2) (length bytes) is)))
    (λ other. inl (other, ap (λ b. cond b None (Some (record { at = 2; why = Total }))) (ne_eqb (word_at bytes 2) (length bytes) other)))
    (cases_eq (word_at bytes 2) (length bytes))

module _ (bytes d : List ℕ) (ds : List (List ℕ)) (long : 9 ≤ length bytes) (cut : descriptors_of bytes ≡ d ∷ ds) (some : HaveBytes (d ∷ ds)) where
  head_named : (w : DescWhy) → fault_of [] d ≡ Some w → config_fault bytes ≡ Some (record { at = 0; why = w })
  head_named w is =
      config_fault-head bytes d ds long cut ∙ ap (λ o. first_of (fault_at [] o) (first_of (total_fault bytes) (first_fault (d ∷ []) ds))) is

  total_named : fault_of [] d ≡ None → total_fault bytes ≡ Some (record { at = 2; why = Total }) → config_fault bytes ≡ Some (record { at = 2; why = Total })
  total_named none is =
      config_fault-head bytes d ds long cut ∙ ap (λ o. first_of (fault_at [] o) (first_of (total_fault bytes) (first_fault (d ∷ []) ds))) none
      ∙ ap (λ o. first_of o (first_fault (d ∷ []) ds)) is

  others_named : fault_of [] d ≡ None → total_fault bytes ≡ None → config_fault bytes ≡ first_fault (d ∷ []) ds
  others_named none is =
      config_fault-head bytes d ds long cut ∙ ap (λ o. first_of (fault_at [] o) (first_of (total_fault bytes) (first_fault (d ∷ []) ds))) none
      ∙ ap (λ o. first_of o (first_fault (d ∷ []) ds)) is

  total_leads : word_at bytes 2 ≢ length bytes → Leads (config_fault bytes) Total 2
  total_leads other =
      elim (fault_of [] d) as (λ o. fault_of [] d ≡ o → Leads (config_fault bytes) Total 2) [
        | Some w ↦ λ is. leads_by (config_fault bytes) (record { at = 0; why = w }) Total 2 (head_named w is) (inl (omega arith))
        | None ↦ λ is. leads_by (config_fault bytes) (record { at = 2; why = Total }) Total 2 (total_named is (total_stands bytes other)) (inr (refl, omega arith))
      ] refl

  descriptor_leads : (earlier : List (List ℕ)) (e : List ℕ) (later : List (List ℕ)) (why : DescWhy) → d ∷ ds ≡ earlier ++ e ∷ later →
      is_faulty why earlier e ≡ true → Leads (config_fault bytes) why (length (concat earlier))
  descriptor_leads [] e later why split faulty =
      let same : d ≡ e = cc in
      let r = ranks why [] d (ap (is_faulty why []) same ∙ faulty) in
      leads_by (config_fault bytes) (record { at = 0; why = r.named }) why 0 (head_named r.named r.is) (inr (refl, r.ranked))
  descriptor_leads (x ∷ earlier) e later why split faulty =
      let same : d ≡ x = cc in
      let rest : ds ≡ earlier ++ e ∷ later = cc in
      elim (fault_of [] d) as (λ o. fault_of [] d ≡ o → Leads (config_fault bytes) why (length (concat (x ∷ earlier)))) [
        | Some w ↦ λ is. leads_by (config_fault bytes) (record { at = 0; why = w }) why (length (concat (x ∷ earlier))) (head_named w is)
            (inl (omega (arith, some.0, ap length same, length-append x (concat earlier))))
        | None ↦ λ is. ⊎_elim
            (λ total. leads_by (config_fault bytes) (record { at = 2; why = Total }) why (length (concat (x ∷ earlier))) (total_named is total.1)
            (inl (omega (arith, nine d is, ap length same, length-append x (concat earlier)))))
            (λ total.
            let P : Option DescFault → Type 0 = λ o. Leads o why (length (concat (x ∷ earlier))) in
            let Q : List ℕ → Type 0 = λ y. Leads (first_fault (d ∷ []) ds) why (length (concat (y ∷ earlier))) in
            subst P (sym (others_named is total))
            (subst Q same (first_leads (d ∷ []) ds earlier e later why some.1 rest (ap (λ y. is_faulty why (y ∷ earlier) e) same ∙ faulty))))
            (total_cases bytes)
      ] refl

  stands_long : (f : DescFault) → config_fault bytes ≡ Some f → StandsAt bytes f.why f.at
  stands_long f h =
      elim (fault_of [] d) as (λ o. fault_of [] d ≡ o → StandsAt bytes f.why f.at) [
        | Some w ↦ λ is.
            let P : DescFault → Type 0 = λ g. StandsAt bytes g.why g.at in
            subst P (same_fault (sym (head_named w is) ∙ h))
            (stands_of w bytes 0 (record { earlier = []; descriptor = d; later = ds; cut = cut; faulty = named_faulty [] d w is; place = refl }))
        | None ↦ λ is. ⊎_elim
            (λ total. let P : DescFault → Type 0 = λ g. StandsAt bytes g.why g.at in
            subst P (same_fault (sym (total_named is total.1) ∙ h)) (total.0, refl))
            (λ total.
            let found = first_found (d ∷ []) ds f (sym (others_named is total) ∙ h) in
            stands_of f.why bytes f.at (record {
              earlier = d ∷ found.mid;
              descriptor = found.descriptor;
              later = found.later;
              cut = cut ∙ ap (λ es. d ∷ es) found.cut;
              faulty = found.faulty;
              place = found.place;
            }))
            (total_cases bytes)
      ] refl

-- the fault that is named stands where it is said to
pub named_stands : (bytes : List ℕ) (f : DescFault) → config_fault bytes ≡ Some f → StandsAt bytes f.why f.at
named_stands bytes f h = ⊎_elim
    (λ short. let P : DescFault → Type 0 = λ g. StandsAt bytes g.why g.at in
    subst P (same_fault (sym (config_fault-short bytes (lt-ltb (length bytes) 9 short)) ∙ h)) (short, refl))
    (λ long. stands_long bytes (front_of bytes) (descriptors_of (drop (max 2 (get_or bytes 0 0)) bytes)) long (descriptors-front bytes (omega arith))
    (front_some bytes (omega arith), cut_some 0 (drop (max 2 (get_or bytes 0 0)) bytes)) f h)
    (cases_lt (length bytes) 9)

-- no fault stands before it
pub all_lead : (bytes : List ℕ) (why : DescWhy) (at : ℕ) → StandsAt bytes why at → Leads (config_fault bytes) why at
all_lead bytes why at h = ⊎_elim
    (λ short. leads_by (config_fault bytes) (record { at = 0; why = Short }) why at (config_fault-short bytes (lt-ltb (length bytes) 9 short)) (zero_first at why))
    (λ long. leads_long bytes (front_of bytes) (descriptors_of (drop (max 2 (get_or bytes 0 0)) bytes)) long (descriptors-front bytes (omega arith))
    (front_some bytes (omega arith), cut_some 0 (drop (max 2 (get_or bytes 0 0)) bytes)) why at h)
    (cases_lt (length bytes) 9)
  where
    zero_first : (at : ℕ) (why : DescWhy) → ComesFirst (record { at = 0; why = Short }) why at
    zero_first zero why = inr (refl, omega arith)
    zero_first (suc n) why = inl (omega arith)

    leads_long : (bytes d : List ℕ) (ds : List (List ℕ)) (long : 9 ≤ length bytes) (cut : descriptors_of bytes ≡ d ∷ ds) (some : HaveBytes (d ∷ ds)) →
        (why : DescWhy) (at : ℕ) → StandsAt bytes why at → Leads (config_fault bytes) why at
    leads_long bytes d ds long cut some why at h =
        let by_descriptor : IsOfDescriptor bytes why at → Leads (config_fault bytes) why at = λ k.
        let P : ℕ → Type 0 = λ n. Leads (config_fault bytes) why n in
        subst P (sym k.place) (descriptor_leads bytes d ds long cut some k.earlier k.descriptor k.later why (sym cut ∙ k.cut) k.faulty) in
        elim why as (λ w. (IsOfDescriptor bytes w at → Leads (config_fault bytes) w at) → StandsAt bytes w at → Leads (config_fault bytes) w at) [
          | Short ↦ λ by k. absurd (omega (arith, k.0, long))
          | Length ↦ λ by k. by k
          | Kind ↦ λ by k. by k
          | Total ↦ λ by k. let P : ℕ → Type 0 = λ n. Leads (config_fault bytes) Total n in subst P (sym k.1) (total_leads bytes d ds long cut some k.0)
          | Order ↦ λ by k. by k
          | TooMany ↦ λ by k. by k
        ] by_descriptor h

-- what the verdict says, in these words
pub verdict_stands : (bytes : List ℕ) → IfErr (config_verdict bytes) (λ f. StandsAt bytes f.why f.at)
verdict_stands bytes = elim (config_fault bytes) as (λ o. config_fault bytes ≡ o →
    IfErr (elim o [ None ↦ Ok bytes | Some fault ↦ Err fault ]) (λ f. StandsAt bytes f.why f.at)) [
      | None ↦ λ _. tt
      | Some f ↦ λ is. named_stands bytes f is
    ] refl

pub verdict_first : (bytes : List ℕ) → IfErr (config_verdict bytes) (λ f. (why : DescWhy) (at : ℕ) → StandsAt bytes why at → ComesFirst f why at)
verdict_first bytes = elim (config_fault bytes) as (λ o. config_fault bytes ≡ o →
    IfErr (elim o [ None ↦ Ok bytes | Some fault ↦ Err fault ]) (λ f. (why : DescWhy) (at : ℕ) → StandsAt bytes why at → ComesFirst f why at)) [
      | None ↦ λ _. tt
      | Some f ↦ λ is why at h. let P : Option DescFault → Type 0 = λ o. Leads o why at in subst P is (all_lead bytes why at h)
    ] refl

pub verdict_faultless : (bytes : List ℕ) → OnOk (config_verdict bytes) ((why : DescWhy) (at : ℕ) → StandsAt bytes why at → ⊥)
verdict_faultless bytes = elim (config_fault bytes) as (λ o. config_fault bytes ≡ o →
    OnOk (elim o [ None ↦ Ok bytes | Some fault ↦ Err fault ]) ((why : DescWhy) (at : ℕ) → StandsAt bytes why at → ⊥)) [
      | None ↦ λ is why at h. let P : Option DescFault → Type 0 = λ o. Leads o why at in subst P is (all_lead bytes why at h)
      | Some f ↦ λ _. tt
    ] refl
