-- What a port hears of the token leaves its keyboard and mouse as they are.
use Rattle.std.proofs.Common.{◌≡◌, ℕ, ◌+◌, List, [], ◌∷◌, ◌++◌, Option, refl, sym, subst}
use Rattle.port_model.specs.Concerns.{TokenNews, Token, Item, item, is_live}
use Rattle.km_port.specs.ConsoleStands.{LatchesStand}
use Rattle.port_model.specs.OnePort.{Parts, one_port_lines, parts_of}
use Rattle.port_model.specs.TokenConnector.{bridge_past, with_news}
use Rattle.auth_router.specs.Bridge.{BridgePast}
use Rattle.switch_core.specs.PortsStand.{PortsStand}
use Rattle.switch_core.specs.SeatStands.{SeatStands}
use Rattle.switch_core.specs.SlotStands.{SlotStands}
use Rattle.port_model.specs.View.{heard}
use Rattle.switch_core.specs.Views.{heard_by}
use Rattle.switch_core.specs.declared.ports.Ports.{Ports}
use Rattle.switch_core.specs.declared.seat.Seat.{Seat}
use Rattle.switch_core.specs.declared.seat.Seat.TheVariants as seat
use Rattle.switch_core.specs.declared.slot.Slot.{Slot}
use Rattle.switch_core.specs.declared.slot.Slot.TheVariants as slot

pub is_live-heard : (tick : ℕ) (news : List TokenNews) (past : List Item) → is_live (heard tick news past) ≡ is_live past
is_live-heard tick [] past = refl
is_live-heard tick (told ∷ news) past = is_live-heard tick news (item tick (Token told) ∷ past)

pub parts_of-heard : (tick : ℕ) (news : List TokenNews) (past : List Item) → parts_of (heard tick news past) ≡ parts_of past
parts_of-heard tick [] past = refl
parts_of-heard tick (told ∷ news) past = parts_of-heard tick news (item tick (Token told) ∷ past)

pub one_port_lines-heard : (tick : ℕ) (news : List TokenNews) (past : List Item) → one_port_lines (heard tick news past) ≡ one_port_lines past
one_port_lines-heard tick [] past = refl
one_port_lines-heard tick (told ∷ news) past = one_port_lines-heard tick news (item tick (Token told) ∷ past)

SlotStands-told : (port : Slot) (tick : ℕ) (told : TokenNews) (past : List Item) → SlotStands port past → SlotStands port (item tick (Token told) ∷ past)
SlotStands-told (slot.Dark port) tick told past stands = stands
SlotStands-told (slot.Live port) tick told past stands = record { live = stands.live; parts = stands.parts }

SlotStands-heard : (port : Slot) (tick : ℕ) (news : List TokenNews) (past : List Item) → SlotStands port past → SlotStands port (heard tick news past)
SlotStands-heard port tick [] past stands = stands
SlotStands-heard port tick (told ∷ news) past stands = SlotStands-heard port tick news (item tick (Token told) ∷ past) (SlotStands-told port tick told past stands)

SeatStands-heard : (at : Seat) (tick : ℕ) (news : ℕ → List TokenNews) (chosen : Option ℕ) (views : ℕ → List Item)
    → SeatStands at chosen views → SeatStands at chosen (heard_by tick news views)
SeatStands-heard (seat.Vacant console) tick news chosen views stands = stands
SeatStands-heard (seat.Owned console) tick news chosen views stands = record {
  owner = stands.owner;
  stands = subst (λ (parts : Parts). LatchesStand console parts) (sym (parts_of-heard tick (news console.state.port) (views console.state.port))) stands.stands;
}
SeatStands-heard seat.Between tick news chosen views stands = absurd stands

pub PortsStand-heard : (ports : Ports) (tick : ℕ) (news : ℕ → List TokenNews) (chosen : Option ℕ) (views : ℕ → List Item)
    → PortsStand ports chosen views → PortsStand ports chosen (heard_by tick news views)
PortsStand-heard ports tick news chosen views stands = record {
  slots = λ place port is. SlotStands-heard port tick (news (place + 1)) (views (place + 1)) (stands.slots place port is);
  seat = SeatStands-heard ports.seat tick news chosen views stands.seat;
}

-- what a port hears, one word after another
pub heard-append : (tick : ℕ) (first second : List TokenNews) (past : List Item) → heard tick (first ++ second) past ≡ heard tick second (heard tick first past)
heard-append tick [] second past = refl
heard-append tick (told ∷ first) second past = heard-append tick first second (item tick (Token told) ∷ past)

-- what it makes of a bridge
abbrev pub told_over : List TokenNews → BridgePast → BridgePast
told_over [] bridge = bridge
told_over (told ∷ news) bridge = told_over news (with_news told bridge)

pub bridge_past-heard : (tick : ℕ) (news : List TokenNews) (past : List Item) → bridge_past (heard tick news past) ≡ told_over news (bridge_past past)
bridge_past-heard tick [] past = refl
bridge_past-heard tick (told ∷ news) past = bridge_past-heard tick news (item tick (Token told) ∷ past)

pub told_over-append : (first second : List TokenNews) (bridge : BridgePast) → told_over (first ++ second) bridge ≡ told_over second (told_over first bridge)
told_over-append [] second bridge = refl
told_over-append (told ∷ first) second bridge = told_over-append first second (with_news told bridge)
