-- The console is given to the port of this number.
use Rattle.std.proofs.Common.{◌≡◌, ◌+◌, ◌-◌, ◌<◌, false, length, arith}
use Rattle.switch_core.proofs.PortLists.{AllStand-number, AreWired-number}
use Rattle.switch_core.proofs.Wiring.{AllStand-given, IsWired-given}
use Rattle.switch_core.proofs.ports.given.Goals as goal

pub given_at-requires-clause-slot : goal.given_at-requires-clause-slot
given_at-requires-clause-slot c =
    let numbered : c.number.result - 1 + 1 ≡ c.args.port = omega arith in
    let within : c.number.result - 1 < length c.args.slots.now = omega arith in
    AreWired-number _ _ _ _ (λ number. false) numbered within c.requires.wired

pub returns-clause-wired : goal.returns-clause-wired
returns-clause-wired c =
    let numbered : c.number.result - 1 + 1 ≡ c.args.port = omega arith in
    IsWired-given _ _ _ _ _ numbered c.requires.wired c.given_at.ensures.slot c.given_at.ensures.others (c.given_at.ensures.seated _ (omega arith))

pub returns-clause-slots : goal.returns-clause-slots
returns-clause-slots c = λ views can each.
    let numbered : c.number.result - 1 + 1 ≡ c.args.port = omega arith in
    let within : c.number.result - 1 < length c.args.slots.now = omega arith in
    AllStand-given _ _ _ _ c.args.tick views numbered each (c.given_at.ensures.stands _ can.1 (AllStand-number _ _ _ _ views numbered within each))

pub returns-clause-seat : goal.returns-clause-seat
returns-clause-seat c = λ views can each vacant.
    let numbered : c.number.result - 1 + 1 ≡ c.args.port = omega arith in
    let within : c.number.result - 1 < length c.args.slots.now = omega arith in
    c.given_at.ensures.seat views can.1 (AllStand-number _ _ _ _ views numbered within each) vacant

pub returns-clause-gives : goal.returns-clause-gives
returns-clause-gives c = λ views can each.
    let numbered : c.number.result - 1 + 1 ≡ c.args.port = omega arith in
    let within : c.number.result - 1 < length c.args.slots.now = omega arith in
    c.given_at.ensures.gives _ can.1 (AllStand-number _ _ _ _ views numbered within each)
