-- The console goes from one port to another, and each port is told.
use Rattle.std.proofs.Common.{◌≡◌, ◌≢◌, ℕ, ◌+◌, ◌<◌, ◌≤◌, ◌∷◌, Bool, true, false, IsTrue, nat_eq, nat_le, List, length, length-set, Option, None, Some, slice_set, slice_index_or, refl, sym, subst, ap, ◌∙◌, inl, inr, arith}
use Rattle.std.proofs.lemmas.Bool.{false≢true}
use Rattle.std.proofs.lemmas.Bool.Decides.{leb_tells}
use Rattle.port_model.specs.Concerns.{Item, Leaves, Selects, is_live, item}
use Rattle.km_port.specs.ConsoleStands.{IsApart}
use Rattle.port_model.specs.OnePort.{parts_of}
use Rattle.km_port.specs.declared.console.Console.{Console}
use Rattle.km_port.specs.declared.console.Owned.{Owned}
use Rattle.port_model.specs.Chosen.{is_at}
use Rattle.switch_core.specs.SeatStands.{CanHave}
use Rattle.switch_core.specs.Shown.{shown_concerns}
use Rattle.port_model.specs.View.{only_if, stamped}
use Rattle.switch_core.specs.SlotStands.{AllStand, SlotStands}
use Rattle.switch_core.specs.Views.{given_to, left_by, shown_to}
use Rattle.switch_core.specs.Wired.{AreWired, IsSlot, IsTold, IsWired, is_owner, is_seated}
use Rattle.switch_core.specs.declared.seat.Seat.{Seat}
use Rattle.switch_core.specs.declared.seat.Seat.TheVariants as seat
use Rattle.switch_core.specs.declared.shown.Shown.{Shown}
use Rattle.switch_core.specs.declared.slot.Slot.{Slot}
use Rattle.switch_core.specs.declared.slot.Slot.TheVariants as slot
use Rattle.switch_core.proofs.Handing.{given_to-other, given_to-own, left_by-other, left_by-own}
use Rattle.port_model.proofs.Numbers.{other_number, same_number}
use Rattle.switch_core.proofs.PortLists.{AllStand-put, AreWired-number, AreWired-put, AreWired-same}
use Rattle.switch_core.proofs.Views.{SlotStands-shown}

pub is_within : (place count : ℕ) → IsTrue (nat_le place count) → place ≤ count
is_within place count holds = elim (leb_tells place count) [ inl is ↦ is.1 | inr above ↦ absurd (false≢true (subst IsTrue above.0 holds)) ]

-- the port that has the console is there, and knows it
module _ (ports : List Slot) (console : Console Owned) (place port : ℕ) (numbered : place + 1 ≡ port) (owner : port ≡ console.state.port) (wired : IsWired ports (seat.Owned console)) where
  pub owner-within : place < length ports
  owner-within = let within = is_within console.state.port (length ports) wired.seated in omega (arith, within, numbered, owner)

  pub owner-told : (d : Slot) → IsSlot true port (slice_index_or ports place d)
  owner-told d =
      subst (λ (own : Bool). IsSlot own port (slice_index_or ports place d)) (ap (λ (n : ℕ). nat_eq n port) (sym owner) ∙ same_number port)
      (AreWired-number ports place port d (is_owner (seat.Owned console)) numbered owner-within wired.wired)

  -- where it loses the console, no port has it
  pub AreWired-left : (new : Slot) → IsSlot false port new → AreWired (slice_set ports place new) (λ number. false)
  AreWired-left new slot =
      AreWired-put ports place port new (is_owner (seat.Owned console)) (λ number. false) numbered wired.wired slot
      (λ other apart. sym (other_number console.state.port other (λ same. apart (sym same ∙ sym owner))))

  pub AllStand-left : (new : Slot) (tick : ℕ) (chosen : Option ℕ) (views : ℕ → List Item) → AllStand ports views → chosen ≡ Some console.state.port
      → SlotStands new (item tick Leaves ∷ views port) → AllStand (slice_set ports place new) (left_by tick chosen views)
  AllStand-left new tick chosen views each is stands =
      subst (λ (at : Option ℕ). AllStand (slice_set ports place new) (left_by tick at views)) (ap Some owner ∙ sym is)
      (AllStand-put ports place port new views (left_by tick (Some port) views) numbered each
      (subst (λ (past : List Item). SlotStands new past) (sym (left_by-own tick port views)) stands)
      (λ other apart. left_by-other tick port other views apart))

-- a console that no port has, or that is given to a port
pub IsWired-given : (ports : List Slot) (place port : ℕ) (new : Slot) (at : Seat) → place + 1 ≡ port → AreWired ports (λ number. false)
    → IsSlot (is_owner at port) port new → ((number : ℕ) → number ≢ port → is_owner at number ≡ false) → IsTrue (is_seated (length ports) at)
    → IsWired (slice_set ports place new) at
IsWired-given ports place port new at numbered wired slot others seated = record {
  seated = subst (λ (count : ℕ). IsTrue (is_seated count at)) (sym (length-set ports place new)) seated;
  wired = AreWired-put ports place port new (λ number. false) (is_owner at) numbered wired slot others;
}

pub AllStand-given : (ports : List Slot) (place port : ℕ) (new : Slot) (tick : ℕ) (views : ℕ → List Item) → place + 1 ≡ port → AllStand ports views
    → SlotStands new (item tick Selects ∷ views port) → AllStand (slice_set ports place new) (given_to tick (Some port) views)
AllStand-given ports place port new tick views numbered each stands =
    AllStand-put ports place port new views (given_to tick (Some port) views) numbered each
    (subst (λ (past : List Item). SlotStands new past) (sym (given_to-own tick port views)) stands)
    (λ other apart. given_to-other tick port other views apart)

-- nothing but the name of the owner changes
pub IsWired-same : (ports : List Slot) (before after : Seat) → ((number : ℕ) → is_owner after number ≡ is_owner before number)
    → ((count : ℕ) → is_seated count after ≡ is_seated count before) → IsWired ports before → IsWired ports after
IsWired-same ports before after owner seated wired = record {
  seated = subst IsTrue (sym (seated (length ports))) wired.seated;
  wired = AreWired-same ports (is_owner before) (is_owner after) wired.wired owner;
}

-- a port that isn't told that it is selected can be given the console
pub apart : (port : Slot) (past : List Item) → is_live past ≡ true → IsTold false port → SlotStands port past → IsApart (parts_of past)
apart (slot.Dark port) past live told stands = absurd (false≢true (sym stands ∙ live))
apart (slot.Live port) past live told stands = record {
  keyboard = sym stands.parts.keyboard.entered ∙ told.keyboard;
  mouse = sym stands.parts.mouse.entered ∙ told.mouse;
}

-- a port that is left stays awake
pub is_live-left : (tick : ℕ) (before : Option ℕ) (views : ℕ → List Item) (number : ℕ) → is_live (left_by tick before views number) ≡ is_live (views number)
is_live-left tick before views number = by (is_at number before) where
  by : (own : Bool) → is_live (stamped tick (only_if own Leaves) (views number)) ≡ is_live (views number)
  by true = refl
  by false = refl

pub CanHave-left : (count after tick : ℕ) (before chosen : Option ℕ) (views : ℕ → List Item) → after ≡ count → CanHave count views chosen
    → CanHave after (left_by tick before views) chosen
CanHave-left count after tick before None views same can = tt
CanHave-left count after tick before (Some port) views same can = (omega (arith, same, can.0), is_live-left tick before views port ∙ can.1)

-- what the console shows leaves each port as it is
pub AllStand-shown : (ports : List Slot) (tick : ℕ) (chosen : Option ℕ) (shown : Shown) (views : ℕ → List Item) → AllStand ports views
    → AllStand ports (shown_to tick chosen (shown_concerns shown) views)
AllStand-shown ports tick chosen shown views each place port is = SlotStands-shown port (place + 1) tick chosen shown (views (place + 1)) (each place port is)
