-- Lists of ports that stand for their views.
use Rattle.std.proofs.Common.{◌≡◌, ◌≢◌, ℕ, Bool, zero, suc, ◌+◌, ◌<◌, ◌⊎◌, inl, inr, List, [], ◌∷◌, ◌++◌, length, Some, slice_get, slice_set, slice_index_or, refl, subst, sym, ap, ◌∙◌, arith}
use Rattle.std.proofs.lemmas.Option.{slice_get-get_or}
use Rattle.port_model.specs.Concerns.{Item}
use Rattle.switch_core.specs.declared.slot.Slot.{Slot}
use Rattle.switch_core.specs.SlotStands.{SlotStands, AllStand}
use Rattle.switch_core.specs.Wired.{AreWired, IsSlot}

-- an element of a list that got one more is an element of the list, or the new one
pub slice_get-push : {X : Type 0} (xs : List X) (y : X) (place : ℕ) (x : X)
    → slice_get (xs ++ y ∷ []) place ≡ Some x → (slice_get xs place ≡ Some x) ⊎ ((length xs ≡ place) × (y ≡ x))
slice_get-push [] y zero x is = inr (refl, cc)
slice_get-push [] y (suc place) x is = absurd (cc)
slice_get-push (z ∷ zs) y zero x is = inl is
slice_get-push (z ∷ zs) y (suc place) x is =
    elim (slice_get-push zs y place x is) [ inl before ↦ inl before | inr new ↦ inr (ap suc new.0, new.1) ]

-- an element of a list of which one was written is the one written, or another one as it was
pub slice_get-set : {X : Type 0} (xs : List X) (i : ℕ) (y : X) (place : ℕ) (x : X)
    → slice_get (slice_set xs i y) place ≡ Some x → ((i ≡ place) × (y ≡ x)) ⊎ ((i ≢ place) × (slice_get xs place ≡ Some x))
slice_get-set [] i y place x is = absurd (cc)
slice_get-set (z ∷ zs) zero y zero x is = inl (refl, cc)
slice_get-set (z ∷ zs) zero y (suc place) x is = inr (λ e. absurd (omega arith), is)
slice_get-set (z ∷ zs) (suc i) y zero x is = inr (λ e. absurd (omega arith), is)
slice_get-set (z ∷ zs) (suc i) y (suc place) x is =
    elim (slice_get-set zs i y place x is) [
      | inl same ↦ inl (ap suc same.0, same.1)
      | inr other ↦ inr ((λ e. other.0 (omega arith)), other.1)
    ]

-- one more port that stands for its view
pub AllStand-push : (ports : List Slot) (port : Slot) (views : ℕ → List Item) → AllStand ports views → ((number : ℕ) → SlotStands port (views number)) → AllStand (ports ++ port ∷ []) views
AllStand-push ports port views each stands place other is =
    elim (slice_get-push ports port place other is) [
      | inl before ↦ each place other before
      | inr new ↦ subst (λ (p : Slot). SlotStands p (views (place + 1))) new.1 (stands (place + 1))
    ]

-- the port at a place stands for its view
pub AllStand-at : (ports : List Slot) (place : ℕ) (d : Slot) (views : ℕ → List Item) → place < length ports → AllStand ports views
    → SlotStands (slice_index_or ports place d) (views (place + 1))
AllStand-at ports place d views within each = each place (slice_index_or ports place d) (slice_get-get_or ports place d within)

-- what concerns one port leaves the others as they were
pub AllStand-set : (ports : List Slot) (place : ℕ) (new : Slot) (views after : ℕ → List Item) → AllStand ports views → SlotStands new (after (place + 1))
    → ((number : ℕ) → number ≢ place + 1 → after number ≡ views number) → AllStand (slice_set ports place new) after
AllStand-set ports place new views after each stands same at other is =
    elim (slice_get-set ports place new at other is) [
      | inl here ↦
          subst (λ (p : Slot). SlotStands p (after (at + 1))) here.1
          (subst (λ (k : ℕ). SlotStands new (after (k + 1))) here.0 stands)
      | inr apart ↦
          subst (λ (v : List Item). SlotStands other v) (sym (same (at + 1) (λ e. apart.0 (omega arith)))) (each at other apart.1)
    ]

-- each port stands for its view whatever name that has
pub AllStand-same : (ports : List Slot) (views after : ℕ → List Item) → AllStand ports views → ((number : ℕ) → after number ≡ views number) → AllStand ports after
AllStand-same ports views after each same place port is = subst (λ (v : List Item). SlotStands port v) (sym (same (place + 1))) (each place port is)

-- an element stands within its list
pub slice_get-within : {X : Type 0} (xs : List X) (place : ℕ) (x : X) → slice_get xs place ≡ Some x → place < length xs
slice_get-within [] place x is = absurd (cc)
slice_get-within (y ∷ ys) zero x is = omega arith
slice_get-within (y ∷ ys) (suc place) x is = let within = slice_get-within ys place x is in omega arith

-- one more port, of the next number
pub AreWired-push : (ports : List Slot) (port : Slot) (owner : ℕ → Bool) → AreWired ports owner → IsSlot (owner (length ports + 1)) (length ports + 1) port → AreWired (ports ++ port ∷ []) owner
AreWired-push ports port owner wired slot place other is =
    elim (slice_get-push ports port place other is) [
      | inl before ↦ wired place other before
      | inr new ↦
          subst (λ (n : ℕ). IsSlot (owner (n + 1)) (n + 1) other) new.0
          (subst (λ (p : Slot). IsSlot (owner (length ports + 1)) (length ports + 1) p) new.1 slot)
    ]

-- the port at a place
pub AreWired-at : (ports : List Slot) (place : ℕ) (d : Slot) (owner : ℕ → Bool) → place < length ports → AreWired ports owner
    → IsSlot (owner (place + 1)) (place + 1) (slice_index_or ports place d)
AreWired-at ports place d owner within wired = wired place (slice_index_or ports place d) (slice_get-get_or ports place d within)

-- a port that changes alone
pub AreWired-set : (ports : List Slot) (place : ℕ) (new : Slot) (owner after : ℕ → Bool) → AreWired ports owner → IsSlot (after (place + 1)) (place + 1) new
    → ((number : ℕ) → number ≢ place + 1 → after number ≡ owner number) → AreWired (slice_set ports place new) after
AreWired-set ports place new owner after wired slot same at other is =
    elim (slice_get-set ports place new at other is) [
      | inl here ↦
          subst (λ (n : ℕ). IsSlot (after (n + 1)) (n + 1) other) here.0
          (subst (λ (p : Slot). IsSlot (after (place + 1)) (place + 1) p) here.1 slot)
      | inr apart ↦
          subst (λ (b : Bool). IsSlot b (at + 1) other) (sym (same (at + 1) (λ e. apart.0 (omega arith)))) (wired at other apart.1)
    ]

-- nothing but the name of the owner changes
pub AreWired-same : (ports : List Slot) (owner after : ℕ → Bool) → AreWired ports owner → ((number : ℕ) → after number ≡ owner number) → AreWired ports after
AreWired-same ports owner after wired same place port is = subst (λ (b : Bool). IsSlot b (place + 1) port) (sym (same (place + 1))) (wired place port is)

-- the same by the number of the port

pub AllStand-number : (ports : List Slot) (place number : ℕ) (d : Slot) (views : ℕ → List Item) → place + 1 ≡ number → place < length ports → AllStand ports views
    → SlotStands (slice_index_or ports place d) (views number)
AllStand-number ports place number d views numbered within each =
    subst (λ (n : ℕ). SlotStands (slice_index_or ports place d) (views n)) numbered (AllStand-at ports place d views within each)

pub AllStand-put : (ports : List Slot) (place number : ℕ) (new : Slot) (views after : ℕ → List Item) → place + 1 ≡ number → AllStand ports views
    → SlotStands new (after number) → ((other : ℕ) → other ≢ number → after other ≡ views other) → AllStand (slice_set ports place new) after
AllStand-put ports place number new views after numbered each stands same =
    AllStand-set ports place new views after each (subst (λ (n : ℕ). SlotStands new (after n)) (sym numbered) stands) (λ other apart. same other (λ is. apart (is ∙ sym numbered)))

pub AreWired-number : (ports : List Slot) (place number : ℕ) (d : Slot) (owner : ℕ → Bool) → place + 1 ≡ number → place < length ports → AreWired ports owner
    → IsSlot (owner number) number (slice_index_or ports place d)
AreWired-number ports place number d owner numbered within wired =
    subst (λ (n : ℕ). IsSlot (owner n) n (slice_index_or ports place d)) numbered (AreWired-at ports place d owner within wired)

pub AreWired-put : (ports : List Slot) (place number : ℕ) (new : Slot) (owner after : ℕ → Bool) → place + 1 ≡ number → AreWired ports owner
    → IsSlot (after number) number new → ((other : ℕ) → other ≢ number → after other ≡ owner other) → AreWired (slice_set ports place new) after
AreWired-put ports place number new owner after numbered wired slot same =
    AreWired-set ports place new owner after wired (subst (λ (n : ℕ). IsSlot (after n) n new) (sym numbered) slot) (λ other apart. same other (λ is. apart (is ∙ sym numbered)))
