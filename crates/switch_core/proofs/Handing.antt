-- What an event makes of the view of each port, case by case.
use Rattle.std.proofs.Common.{◌≡◌, ◌≢◌, ℕ, ◌+◌, Bool, true, false, not, ◌&&◌, nat_eq, List, ◌∷◌, ◌++◌, Option, Some, None, refl, sym, subst, ap, ◌∙◌, inl, inr}
use Rattle.std.proofs.lemmas.Bool.Decides.{eqb_tells}
use Rattle.psd_base.specs.declared.act.Act.{Act}
use Rattle.psd_base.specs.declared.act.Side.{Side}
use Rattle.psd_base.specs.declared.act.Side.TheVariants.{Ua}
use Rattle.port_model.specs.Concerns.{Concern, Own, Selects, Leaves, Item, item}
use Rattle.km_port.specs.ConsoleStands.{OwnedStands}
use Rattle.port_model.specs.Chosen.{is_at}
use Rattle.switch_core.specs.PortsStand.{PortsStand}
use Rattle.switch_core.specs.SeatStands.{SeatStands}
use Rattle.switch_core.specs.declared.ports.Ports.{Ports}
use Rattle.port_model.specs.View.{stamped, only_if}
use Rattle.port_model.proofs.Numbers.{other_number, same_number}
use Rattle.switch_core.specs.Views.{acted, given_to, left_by, selected_to, shown_to}
use Rattle.switch_core.specs.SlotStands.{AllStand, SlotStands}
use Rattle.switch_core.specs.declared.slot.Slot.{Slot}
use Rattle.switch_core.specs.declared.slot.Slot.TheVariants as slot
use Rattle.switch_core.specs.declared.seat.Seat.{Seat}
use Rattle.switch_core.specs.declared.seat.Seat.TheVariants as seat

-- an act concerns its own port alone
pub acted-own : (tick port : ℕ) (side : Side) (act : Act) (views : ℕ → List Item) → acted tick port side act views port ≡ item tick (Own side act) ∷ views port
acted-own tick port side act views = rw (same_number port) refl

pub acted-other : (tick port number : ℕ) (side : Side) (act : Act) (views : ℕ → List Item) → number ≢ port → acted tick port side act views number ≡ views number
acted-other tick port number side act views apart = rw (other_number port number (λ same. apart (sym same))) refl

-- a deselection concerns the port that is left
pub left_by-own : (tick port : ℕ) (views : ℕ → List Item) → left_by tick (Some port) views port ≡ item tick Leaves ∷ views port
left_by-own tick port views = rw (same_number port) refl

pub left_by-other : (tick port number : ℕ) (views : ℕ → List Item) → number ≢ port → left_by tick (Some port) views number ≡ views number
left_by-other tick port number views apart = rw (other_number port number (λ same. apart (sym same))) refl

-- a selection concerns the port that is selected
pub given_to-own : (tick port : ℕ) (views : ℕ → List Item) → given_to tick (Some port) views port ≡ item tick Selects ∷ views port
given_to-own tick port views = rw (same_number port) refl

pub given_to-other : (tick port number : ℕ) (views : ℕ → List Item) → number ≢ port → given_to tick (Some port) views number ≡ views number
given_to-other tick port number views apart = rw (other_number port number (λ same. apart (sym same))) refl

-- what is shown concerns the selected port
pub shown_to-own : (tick port : ℕ) (concerns : List Concern) (views : ℕ → List Item) → shown_to tick (Some port) concerns views port ≡ stamped tick concerns (views port)
shown_to-own tick port concerns views = rw (same_number port) refl

-- where the selection stays, nothing concerns a port
pub selected_to-same : (tick : ℕ) (chosen : Option ℕ) (views : ℕ → List Item) (number : ℕ) → selected_to tick chosen chosen views number ≡ views number
selected_to-same tick chosen views number = by (is_at number chosen) where
  by : (own : Bool) → stamped tick (only_if (own && not own) Leaves ++ only_if (own && not own) Selects) (views number) ≡ views number
  by true = refl
  by false = refl

-- where it changes, it leaves one port and comes to another
pub selected_to-other : (tick : ℕ) (before after : Option ℕ) (views : ℕ → List Item) → before ≢ after → (number : ℕ)
    → selected_to tick before after views number ≡ given_to tick after (left_by tick before views) number
selected_to-other tick before after views apart number = by (is_at number before) (is_at number after) (not_both before after apart) where
  not_both : (before after : Option ℕ) → before ≢ after → is_at number before ≡ true → is_at number after ≡ true → ⊥
  not_both None after apart left given = absurd (cc)
  not_both (Some first) None apart left given = absurd (cc)
  not_both (Some first) (Some second) apart left given =
      let one = at_number first left in
      let two = at_number second given in
      apart (ap Some (one ∙ sym two)) where
        at_number : (port : ℕ) → nat_eq port number ≡ true → port ≡ number
        at_number port is = elim (eqb_tells port number) [ inl same ↦ same.1 | inr other ↦ absurd (cc) ]

  by : (left given : Bool) → (left ≡ true → given ≡ true → ⊥)
      → stamped tick (only_if (left && not given) Leaves ++ only_if (given && not left) Selects) (views number)
      ≡ stamped tick (only_if given Selects) (stamped tick (only_if left Leaves) (views number))
  by true true both = absurd (both refl refl)
  by true false both = refl
  by false true both = refl
  by false false both = refl

-- the console stands for the view of its port, whatever name that has
pub SeatStands-same : (at : Seat) (chosen : Option ℕ) (views after : ℕ → List Item) → ((number : ℕ) → after number ≡ views number) → SeatStands at chosen views → SeatStands at chosen after
SeatStands-same (seat.Vacant console) chosen views after same stands = stands
SeatStands-same (seat.Owned console) chosen views after same stands =
    record { owner = stands.owner; stands = subst (λ (v : List Item). OwnedStands console v) (sym (same console.state.port)) stands.stands }
SeatStands-same seat.Between chosen views after same stands = absurd stands

-- an act at the token's connector leaves its port as it is
SlotStands-token : (port : Slot) (tick : ℕ) (act : Act) (past : List Item) → SlotStands port past → SlotStands port (item tick (Own Ua act) ∷ past)
SlotStands-token (slot.Dark port) tick act past stands = stands
SlotStands-token (slot.Live port) tick act past stands = record { live = stands.live; parts = stands.parts }

AllStand-token : (tick port : ℕ) (act : Act) (ports : List Slot) (views : ℕ → List Item) → AllStand ports views → AllStand ports (acted tick port Ua act views)
AllStand-token tick port act ports views each place other is = by (nat_eq port (place + 1)) where
  by : (own : Bool) → SlotStands other (stamped tick (only_if own (Own Ua act)) (views (place + 1)))
  by true = SlotStands-token other tick act (views (place + 1)) (each place other is)
  by false = each place other is

SeatStands-token : (tick port : ℕ) (act : Act) (at : Seat) (chosen : Option ℕ) (views : ℕ → List Item) → SeatStands at chosen views → SeatStands at chosen (acted tick port Ua act views)
SeatStands-token tick port act (seat.Vacant console) chosen views stands = stands
SeatStands-token tick port act (seat.Owned console) chosen views stands = record { owner = stands.owner; stands = by (nat_eq port console.state.port) } where
  by : (own : Bool) → OwnedStands console (stamped tick (only_if own (Own Ua act)) (views console.state.port))
  by true = stands.stands
  by false = stands.stands
SeatStands-token tick port act seat.Between chosen views stands = absurd stands

pub PortsStand-token : (ports : Ports) (tick port : ℕ) (act : Act) (chosen : Option ℕ) (views : ℕ → List Item) → PortsStand ports chosen views
    → PortsStand ports chosen (acted tick port Ua act views)
PortsStand-token ports tick port act chosen views stands = record {
  slots = AllStand-token tick port act ports.slots.items views stands.slots;
  seat = SeatStands-token tick port act ports.seat chosen views stands.seat;
}
