-- The port that has the console loses it.
use Rattle.std.proofs.Common.{◌≡◌, ◌+◌, ◌-◌, subst, arith}
use Rattle.switch_core.specs.SeatStands.{SeatStands}
use Rattle.switch_core.specs.Wired.{IsWired}
use Rattle.switch_core.specs.declared.seat.Seat.{Seat}
use Rattle.switch_core.proofs.PortLists.{AllStand-number}
use Rattle.switch_core.proofs.Wiring.{owner-within, owner-told, AllStand-left, AreWired-left}
use Rattle.switch_core.proofs.ports.vacated.Goals as goal

pub part-requires : goal.part-requires
part-requires c =
    let numbered : c.number.result - 1 + 1 ≡ c.leave-console.result.1.port = omega arith in
    owner-told _ c.in-Owned.console _ _ numbered c.leave-console.ensures.names (subst (IsWired _) c.in-Owned.is c.requires) _

pub returns-in-Vacant-clause-wired : goal.returns-in-Vacant-clause-wired
returns-in-Vacant-clause-wired c = (subst (IsWired _) c.in-Vacant.is c.requires).wired

pub returns-in-Owned-clause-wired : goal.returns-in-Owned-clause-wired
returns-in-Owned-clause-wired c =
    let numbered : c.number.result - 1 + 1 ≡ c.leave-console.result.1.port = omega arith in
    AreWired-left _ c.in-Owned.console _ _ numbered c.leave-console.ensures.names (subst (IsWired _) c.in-Owned.is c.requires) _ c.part.ensures.slot

pub returns-in-Owned-clause-slots : goal.returns-in-Owned-clause-slots
returns-in-Owned-clause-slots c = λ tick chosen views each stands.
    let numbered : c.number.result - 1 + 1 ≡ c.leave-console.result.1.port = omega arith in
    let wired = subst (IsWired _) c.in-Owned.is c.requires in
    let within = owner-within _ c.in-Owned.console _ _ numbered c.leave-console.ensures.names wired in
    AllStand-left _ c.in-Owned.console _ _ numbered c.leave-console.ensures.names wired _ tick chosen views each
    (subst (λ (at : Seat). SeatStands at chosen views) c.in-Owned.is stands).owner
    (c.part.ensures.stands tick _ (AllStand-number _ _ _ _ views numbered within each))
