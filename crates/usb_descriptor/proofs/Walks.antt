-- What a walk along the descriptors keeps true.
use Rattle.std.proofs.Common.{◌≡◌, ℕ, zero, suc, ◌+◌, ◌-◌, ◌<◌, true, false, cond, ◌&&◌, List, [], ◌∷◌, ◌++◌, length, filter, refl, sym, ◌∙◌, ap, subst, arith, append_assoc, append-nil, length-append, Option, Some, None, find}
use Rattle.std.specs.List.{concat}
use Rattle.std.specs.Prelude.{◌==◌, slice_get}
use Rattle.std.proofs.lemmas.Option.{get_or_from_slice_get}
use Rattle.usb_descriptor.specs.declared.fault.DescWhy.{DescWhy}
use Rattle.usb_descriptor.specs.declared.tally.Tally.{Tally}
use Rattle.usb_descriptor.specs.Descriptor.{descriptors_of, cut_after, front_of, is_interface, is_hid, AllWhole, SplitsFirst}
use Rattle.usb_descriptor.specs.Setting.{begins_interface, Setting, settings_of, interfaces_of, up_to_interface, alternate_of}
use Rattle.usb_descriptor.specs.View.{setting_at}
use Rattle.usb_descriptor.specs.Fault.{fault_of, first_fault}
use Rattle.usb_descriptor.specs.Tally.{Tallies, TakesFirst}
use Rattle.usb_descriptor.proofs.Cuts.{descriptors-front, rest_whole}
use Rattle.usb_descriptor.proofs.Faults.{first_fault-none, first_fault-some}

concat-push : (ds : List (List ℕ)) (d : List ℕ) → concat (ds ++ d ∷ []) ≡ concat ds ++ d
concat-push [] d = append-nil d
concat-push (x ∷ ds) d = ap (λ xs. x ++ xs) (concat-push ds d) ∙ sym (append_assoc x (concat ds) d)

-- the tally took the first descriptor and the others up to the rest, and nothing was wrong
pub record Walked (first others rest : List ℕ) (t : Tally) : Type 0 where
  pub earlier : List (List ℕ)
  pub tallies : Tallies earlier t
  pub joined : first ++ others ≡ concat earlier ++ rest
  pub all : first ∷ descriptors_of others ≡ earlier ++ descriptors_of rest
  pub same : first_fault (first ∷ []) (descriptors_of others) ≡ first_fault earlier (descriptors_of rest)

pub walked_none : (first others : List ℕ) (t : Tally) → Tallies (first ∷ []) t → Walked first others others t
walked_none first others t h = record {
  earlier = first ∷ [];
  tallies = h;
  joined = ap (λ xs. xs ++ others) (sym (append-nil first));
  all = refl;
  same = refl;
}

pub walked_more : (first others rest after : List ℕ) (t new : Tally) (h : Walked first others rest t) →
    TakesFirst h.earlier rest after new → Walked first others after new
walked_more first others rest after t new h step =
    let d = front_of rest in record {
      earlier = h.earlier ++ d ∷ [];
      tallies = step.tallies;
      joined = h.joined ∙ ap (λ xs. concat h.earlier ++ xs) step.split.joined ∙ sym (append_assoc (concat h.earlier) d after)
          ∙ ap (λ xs. xs ++ after) (sym (concat-push h.earlier d));
      all = h.all ∙ ap (λ ds. h.earlier ++ ds) step.split.cut ∙ sym (append_assoc h.earlier (d ∷ []) (descriptors_of after));
      same = h.same ∙ ap (first_fault h.earlier) step.split.cut ∙ first_fault-none h.earlier d (descriptors_of after) step.none;
    }

pub walked_fault : (first others rest : List ℕ) (t : Tally) (why : DescWhy) (h : Walked first others rest t) → 0 < length rest →
    fault_of h.earlier (front_of rest) ≡ Some why →
    first_fault (first ∷ []) (descriptors_of others) ≡ Some (record { at = length first + length others - length rest; why = why })
walked_fault first others rest t why h some is =
    let place : length (concat h.earlier) ≡ length first + length others - length rest
    = omega (arith, length-append first others, ap length h.joined, length-append (concat h.earlier) rest) in
    h.same ∙ ap (first_fault h.earlier) (descriptors-front rest some)
    ∙ first_fault-some h.earlier (front_of rest) _ why is
    ∙ ap (λ n. Some (record { at = n; why = why })) place

pub walked_all : (first others : List ℕ) (t : Tally) → Walked first others [] t →
    (first_fault (first ∷ []) (descriptors_of others) ≡ None) × Tallies (first ∷ descriptors_of others) t
unfolding first_fault cut_after
walked_all first others t h =
    let P : List (List ℕ) → Type 0 = λ ds. Tallies ds t in
    (h.same, subst P (sym (h.all ∙ append-nil h.earlier)) h.tallies)

-- the interfaces, by the first descriptor
interfaces-cons : (d : List ℕ) (ds : List (List ℕ)) →
    interfaces_of (d ∷ ds) ≡ cond (begins_interface d) (record { interface = d; others = up_to_interface ds } ∷ interfaces_of ds) (interfaces_of ds)
unfolding settings_of
interfaces-cons d ds =
    let s : Setting = record { interface = d; others = up_to_interface ds } in
    elim (is_interface d) as (λ b.
    filter (λ t. alternate_of t.interface == 0) (cond b (s ∷ settings_of ds) (settings_of ds))
    ≡ cond (b && alternate_of d == 0) (s ∷ interfaces_of ds) (interfaces_of ds)) [
      | true ↦ refl
      | false ↦ refl
    ]

pub interfaces_passed : (bytes d rest : List ℕ) → SplitsFirst bytes d rest → begins_interface d ≡ false →
    interfaces_of (descriptors_of bytes) ≡ interfaces_of (descriptors_of rest)
interfaces_passed bytes d rest split is_not =
    let s : Setting = record { interface = d; others = up_to_interface (descriptors_of rest) } in
    ap interfaces_of split.cut ∙ interfaces-cons d (descriptors_of rest)
    ∙ ap (λ b. cond b (s ∷ interfaces_of (descriptors_of rest)) (interfaces_of (descriptors_of rest))) is_not

pub interfaces_here : (bytes d rest : List ℕ) → SplitsFirst bytes d rest → begins_interface d ≡ true →
    interfaces_of (descriptors_of bytes) ≡ record { interface = d; others = up_to_interface (descriptors_of rest) } ∷ interfaces_of (descriptors_of rest)
interfaces_here bytes d rest split is_so =
    let s : Setting = record { interface = d; others = up_to_interface (descriptors_of rest) } in
    ap interfaces_of split.cut ∙ interfaces-cons d (descriptors_of rest)
    ∙ ap (λ b. cond b (s ∷ interfaces_of (descriptors_of rest)) (interfaces_of (descriptors_of rest))) is_so

-- the rest has the interface in place i as the one in place left
pub record Reaches (bytes : List ℕ) (i : ℕ) (rest : List ℕ) (left : ℕ) : Type 0 where
  pub whole : AllWhole (descriptors_of rest)
  pub within : left < length (interfaces_of (descriptors_of rest))
  pub same : slice_get (interfaces_of (descriptors_of rest)) left ≡ slice_get (interfaces_of (descriptors_of bytes)) i

-- where there is an interface there are bytes
pub some_bytes : (bytes : List ℕ) (n : ℕ) → n < length (interfaces_of (descriptors_of bytes)) → 0 < length bytes
unfolding cut_after settings_of
some_bytes [] n h = absurd (omega arith)
some_bytes (b ∷ bytes) n h = omega arith

pub reaches_passed : (bytes : List ℕ) (i : ℕ) (rest : List ℕ) (left : ℕ) (d after : List ℕ) → Reaches bytes i rest left →
    SplitsFirst rest d after → begins_interface d ≡ false → Reaches bytes i after left
reaches_passed bytes i rest left d after h split is_not =
    let e = interfaces_passed rest d after split is_not in record {
      whole = rest_whole rest d after split h.whole;
      within = omega (arith, h.within, ap length e);
      same = ap (λ ss. slice_get ss left) (sym e) ∙ h.same;
    }

tail_at : (s : Setting) (ss : List Setting) (left : ℕ) → (left ≡ 0 → ⊥) → slice_get (s ∷ ss) left ≡ slice_get ss (left - 1)
tail_at s ss zero h = absurd (h refl)
tail_at s ss (suc n) h = ap (slice_get ss) (omega arith)

pub reaches_more : (bytes : List ℕ) (i : ℕ) (rest : List ℕ) (left : ℕ) (d after : List ℕ) → Reaches bytes i rest left →
    SplitsFirst rest d after → begins_interface d ≡ true → (left ≡ 0 → ⊥) → Reaches bytes i after (left - 1)
reaches_more bytes i rest left d after h split is_so more =
    let s : Setting = record { interface = d; others = up_to_interface (descriptors_of after) } in
    let e = interfaces_here rest d after split is_so in record {
      whole = rest_whole rest d after split h.whole;
      within = omega (arith, h.within, ap length e, more);
      same = sym (tail_at s (interfaces_of (descriptors_of after)) left more) ∙ ap (λ ss. slice_get ss left) (sym e) ∙ h.same;
    }

pub reached : (bytes : List ℕ) (i : ℕ) (rest : List ℕ) (left : ℕ) (d after : List ℕ) → Reaches bytes i rest left →
    SplitsFirst rest d after → begins_interface d ≡ true → left ≡ 0 →
    slice_get (interfaces_of (descriptors_of bytes)) i ≡ Some (record { interface = d; others = up_to_interface (descriptors_of after) })
reached bytes i rest left d after h split is_so none_left =
    sym h.same ∙ ap (slice_get (interfaces_of (descriptors_of rest))) none_left ∙ ap (λ ss. slice_get ss 0) (interfaces_here rest d after split is_so)

-- the first HID descriptor before the next interface descriptor
abbrev pub hid_in : List ℕ → Option (List ℕ)
hid_in bytes = find is_hid (up_to_interface (descriptors_of bytes))

hid-cons : (bytes d rest : List ℕ) → SplitsFirst bytes d rest →
    hid_in bytes ≡ cond (is_interface d) None (cond (is_hid d) (Some d) (hid_in rest))
unfolding up_to_interface
hid-cons bytes d rest split =
    ap (λ ds. find is_hid (up_to_interface ds)) split.cut
    ∙ elim (is_interface d) as (λ b. find is_hid (cond b [] (d ∷ up_to_interface (descriptors_of rest))) ≡ cond b None (cond (is_hid d) (Some d) (hid_in rest))) [ true ↦ refl | false ↦ refl ]

pub hid_at_interface : (bytes d rest : List ℕ) → SplitsFirst bytes d rest → is_interface d ≡ true → hid_in bytes ≡ None
hid_at_interface bytes d rest split is_so = hid-cons bytes d rest split ∙ ap (λ b. cond b None (cond (is_hid d) (Some d) (hid_in rest))) is_so

pub hid_here : (bytes d rest : List ℕ) → SplitsFirst bytes d rest → is_interface d ≡ false → is_hid d ≡ true → hid_in bytes ≡ Some d
hid_here bytes d rest split is_not is_so =
    hid-cons bytes d rest split ∙ ap (λ b. cond b None (cond (is_hid d) (Some d) (hid_in rest))) is_not ∙ ap (λ b. cond b (Some d) (hid_in rest)) is_so

pub hid_passed : (bytes d rest : List ℕ) → SplitsFirst bytes d rest → is_interface d ≡ false → is_hid d ≡ false → hid_in bytes ≡ hid_in rest
hid_passed bytes d rest split is_not other =
    hid-cons bytes d rest split ∙ ap (λ b. cond b None (cond (is_hid d) (Some d) (hid_in rest))) is_not ∙ ap (λ b. cond b (Some d) (hid_in rest)) other

pub hid_nowhere : hid_in [] ≡ None
unfolding up_to_interface cut_after
hid_nowhere = refl

-- the interface in place i, where it was found
pub setting_found : (bytes : List ℕ) (i : ℕ) (s : Setting) → slice_get (interfaces_of (descriptors_of bytes)) i ≡ Some s → setting_at i bytes ≡ s
setting_found bytes i s found = get_or_from_slice_get (interfaces_of (descriptors_of bytes)) i s (record { interface = []; others = [] }) found
