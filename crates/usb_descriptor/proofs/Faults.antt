-- The first fault, as the descriptors are taken in turn.
use Rattle.std.proofs.Common.{◌≡◌, ℕ, ◌≤◌, Bool, true, false, cond, not, ltb, eqb, List, [], ◌∷◌, ◌++◌, length, take, drop, get_or, refl, sym, ◌∙◌, ap, subst, arith, Option, Some, None, ⊎_elim, max}
use Rattle.std.specs.List.{list_any, concat}
use Rattle.std.proofs.lemmas.Bool.{le-ltb, lt-ltb, cases_lt}
use Rattle.usb_descriptor.specs.declared.fault.DescWhy.{DescWhy}
use Rattle.usb_descriptor.specs.declared.fault.DescWhy.TheVariants.{Short, Length, Kind, Order, TooMany}
use Rattle.usb_descriptor.specs.declared.fault.DescFault.{DescFault}
use Rattle.usb_descriptor.specs.declared.descriptor.TheConstants.{CONFIGURATION}
use Rattle.usb_descriptor.specs.Descriptor.{descriptors_of, front_of, kind_of, is_configuration, is_whole, AllWhole, SplitsFirst}
use Rattle.usb_descriptor.specs.Setting.{settings_of}
use Rattle.usb_descriptor.specs.Fault.{has_wrong_kind, is_misplaced, are_too_many, fault_of, first_fault, first_of, total_fault, config_fault, IsHeadedBy}
use Rattle.usb_descriptor.proofs.Cuts.{descriptors-front}

-- a fault of the descriptor after the earlier ones, where it stands
abbrev pub fault_at : List (List ℕ) → Option DescWhy → Option DescFault
fault_at earlier None = None
fault_at earlier (Some why) = Some (record { at = length (concat earlier); why = why })

pub first_fault-none : (earlier : List (List ℕ)) (d : List ℕ) (ds : List (List ℕ)) → fault_of earlier d ≡ None →
    first_fault earlier (d ∷ ds) ≡ first_fault (earlier ++ d ∷ []) ds
unfolding first_fault
first_fault-none earlier d ds none =
    ap (λ o. elim o [ Some why ↦ Some (record { at = length (concat earlier); why = why }) | None ↦ first_fault (earlier ++ d ∷ []) ds ]) none

pub first_fault-some : (earlier : List (List ℕ)) (d : List ℕ) (ds : List (List ℕ)) (why : DescWhy) → fault_of earlier d ≡ Some why →
    first_fault earlier (d ∷ ds) ≡ Some (record { at = length (concat earlier); why = why })
unfolding first_fault
first_fault-some earlier d ds why is =
    ap (λ o. elim o [ Some why ↦ Some (record { at = length (concat earlier); why = why }) | None ↦ first_fault (earlier ++ d ∷ []) ds ]) is

-- a descriptor that comes after others and isn't whole
pub cut_short : (earlier : List (List ℕ)) (d : List ℕ) → list_any is_configuration earlier ≡ true → is_whole d ≡ false → fault_of earlier d ≡ Some Length
unfolding fault_of
cut_short [] d some short = absurd (cc)
cut_short (x ∷ ds) d some short =
    ap (λ b. cond (not b) (Some Length) (cond (is_misplaced (x ∷ ds) d) (Some Order) (cond (are_too_many ((x ∷ ds) ++ d ∷ [])) (Some TooMany) None))) short

-- what is wrong with the first descriptor
pub head_kind : (d : List ℕ) → eqb (kind_of d) CONFIGURATION ≡ false → fault_of [] d ≡ Some Kind
unfolding fault_of
head_kind d other = rw other refl

pub head_length : (d : List ℕ) → kind_of d ≡ CONFIGURATION → is_whole d ≡ false → fault_of [] d ≡ Some Length
unfolding fault_of
head_length d kind short =
    ap (λ k. cond (not (eqb k CONFIGURATION)) (Some Kind) (cond (not (is_whole d)) (Some Length) (cond (is_misplaced [] d) (Some Order) (cond (are_too_many (d ∷ [])) (Some TooMany) None)))) kind
    ∙ ap (λ b. cond (not b) (Some Length) (cond (is_misplaced [] d) (Some Order) (cond (are_too_many (d ∷ [])) (Some TooMany) None))) short

head_order : (d : List ℕ) → kind_of d ≡ CONFIGURATION → is_misplaced [] d ≡ false
unfolding settings_of
head_order d kind = rw kind refl

head_many : (d : List ℕ) → kind_of d ≡ CONFIGURATION → are_too_many (d ∷ []) ≡ false
unfolding settings_of
head_many d kind = rw kind refl

pub head_fine : (d : List ℕ) → kind_of d ≡ CONFIGURATION → is_whole d ≡ true → fault_of [] d ≡ None
unfolding fault_of
head_fine d kind whole =
    ap (λ k. cond (not (eqb k CONFIGURATION)) (Some Kind) (cond (not (is_whole d)) (Some Length) (cond (is_misplaced [] d) (Some Order) (cond (are_too_many (d ∷ [])) (Some TooMany) None)))) kind
    ∙ ap (λ b. cond (not b) (Some Length) (cond (is_misplaced [] d) (Some Order) (cond (are_too_many (d ∷ [])) (Some TooMany) None))) whole
    ∙ ap (λ b. cond b (Some Order) (cond (are_too_many (d ∷ [])) (Some TooMany) None)) (head_order d kind)
    ∙ ap (λ b. cond b (Some TooMany) None) (head_many d kind)

first_fault-one : (d : List ℕ) → first_fault [] (d ∷ []) ≡ fault_at [] (fault_of [] d)
unfolding first_fault
first_fault-one d = elim (fault_of [] d) as (λ o. elim o [ Some why ↦ Some (record { at = 0; why = why }) | None ↦ None ] ≡ fault_at [] o) [
  | Some why ↦ refl
  | None ↦ refl
]

-- the faults of bytes that aren't too few, by the first descriptor
pub config_fault-head : (bytes d : List ℕ) (ds : List (List ℕ)) → 9 ≤ length bytes → descriptors_of bytes ≡ d ∷ ds →
    config_fault bytes ≡ first_of (fault_at [] (fault_of [] d)) (first_of (total_fault bytes) (first_fault (d ∷ []) ds))
unfolding config_fault
config_fault-head bytes d ds long cut =
    ap (λ b. cond b (Some (record { at = 0; why = Short })) (first_of (first_fault [] (take 1 (descriptors_of bytes))) (first_of (total_fault bytes) (first_fault (take 1 (descriptors_of bytes)) (drop 1 (descriptors_of bytes)))))) (le-ltb (length bytes) 9 long)
    ∙ ap (λ all. first_of (first_fault [] (take 1 all)) (first_of (total_fault bytes) (first_fault (take 1 all) (drop 1 all)))) cut
    ∙ ap (λ f. first_of f (first_of (total_fault bytes) (first_fault (d ∷ []) ds))) (first_fault-one d)

pub config_fault-short : (bytes : List ℕ) → ltb (length bytes) 9 ≡ true → config_fault bytes ≡ Some (record { at = 0; why = Short })
unfolding config_fault
config_fault-short bytes short =
    ap (λ b. cond b (Some (record { at = 0; why = Short })) (first_of (first_fault [] (take 1 (descriptors_of bytes))) (first_of (total_fault bytes) (first_fault (take 1 (descriptors_of bytes)) (drop 1 (descriptors_of bytes)))))) short

-- without a fault there are nine bytes, and each descriptor is whole
pub faultless_long : (bytes : List ℕ) → config_fault bytes ≡ None → 9 ≤ length bytes
faultless_long bytes none =
    ⊎_elim (λ short. let known = config_fault-short bytes (lt-ltb (length bytes) 9 short) in absurd (cc)) (λ long. long) (cases_lt (length bytes) 9)

pub whole_from_none : (earlier : List (List ℕ)) (d : List ℕ) → fault_of earlier d ≡ None → is_whole d ≡ true
unfolding fault_of
whole_from_none earlier d =
    let rest = λ (b : Bool). cond (not b) (Some Length) (cond (is_misplaced earlier d) (Some Order) (cond (are_too_many (earlier ++ d ∷ [])) (Some TooMany) None)) in
    elim (has_wrong_kind earlier d) as (λ b. cond b (Some Kind) (rest (is_whole d)) ≡ None → is_whole d ≡ true) [
      | true ↦ λ k. absurd (cc)
      | false ↦ elim (is_whole d) as (λ b. rest b ≡ None → b ≡ true) [ true ↦ λ _. refl | false ↦ λ k. absurd (cc) ]
    ]

some_none : (f : DescFault) → ◌≡◌ {A = Option DescFault} (Some f) None → ⊥
some_none f is = cc

whole_from_faultless : (earlier ds : List (List ℕ)) → first_fault earlier ds ≡ None → AllWhole ds
unfolding first_fault
whole_from_faultless earlier [] none = tt
whole_from_faultless earlier (d ∷ ds) none =
    elim (fault_of earlier d) as (λ o. fault_of earlier d ≡ o →
    ◌≡◌ {A = Option DescFault} (elim o [ Some why ↦ Some (record { at = length (concat earlier); why = why }) | None ↦ first_fault (earlier ++ d ∷ []) ds ]) None → AllWhole (d ∷ ds)) [
      | Some why ↦ λ is k. absurd (some_none (record { at = length (concat earlier); why = why }) k)
      | None ↦ λ is k. (whole_from_none earlier d is, whole_from_faultless (earlier ++ d ∷ []) ds k)
    ] refl none

first_of-none : (a b : Option DescFault) → first_of a b ≡ None → (a ≡ None) × (b ≡ None)
first_of-none None b h = (refl, h)
first_of-none (Some f) b h = absurd (cc)

fault_at-none : (o : Option DescWhy) → fault_at [] o ≡ None → o ≡ None
fault_at-none None h = refl
fault_at-none (Some why) h = absurd (cc)

pub faultless_whole : (bytes : List ℕ) → config_fault bytes ≡ None → AllWhole (descriptors_of bytes)
faultless_whole bytes none =
    let d = front_of bytes in
    let ds = descriptors_of (drop (max 2 (get_or bytes 0 0)) bytes) in
    let long = faultless_long bytes none in
    let cut = descriptors-front bytes (omega arith) in
    let parts = first_of-none (fault_at [] (fault_of [] d)) (first_of (total_fault bytes) (first_fault (d ∷ []) ds))
    (sym (config_fault-head bytes d ds long cut) ∙ none) in
    let others = first_of-none (total_fault bytes) (first_fault (d ∷ []) ds) parts.1 in
    let P : List (List ℕ) → Type 0 = AllWhole in
    subst P (sym cut) (whole_from_none [] d (fault_at-none (fault_of [] d) parts.0), whole_from_faultless (d ∷ []) ds others.1)

-- what is wrong with the first descriptor is the first fault of the bytes
pub head_fault : (bytes : List ℕ) (why : DescWhy) → 9 ≤ length bytes → fault_of [] (front_of bytes) ≡ Some why →
    config_fault bytes ≡ Some (record { at = 0; why = why })
head_fault bytes why long is =
    let ds = descriptors_of (drop (max 2 (get_or bytes 0 0)) bytes) in
    config_fault-head bytes (front_of bytes) ds long (descriptors-front bytes (omega arith))
    ∙ ap (λ o. first_of (fault_at [] o) (first_of (total_fault bytes) (first_fault (front_of bytes ∷ []) ds))) is

-- nothing is wrong with the first descriptor
pub headed : (bytes first others : List ℕ) → SplitsFirst bytes first others → 9 ≤ length bytes → kind_of first ≡ CONFIGURATION →
    IsHeadedBy bytes first others
headed bytes first others split long kind = record {
  joined = split.joined;
  cut = split.cut;
  kind = kind;
  long = long;
  same =
      config_fault-head bytes first (descriptors_of others) long split.cut
      ∙ ap (λ o. first_of (fault_at [] o) (first_of (total_fault bytes) (first_fault (first ∷ []) (descriptors_of others)))) (head_fine first kind split.whole);
}
