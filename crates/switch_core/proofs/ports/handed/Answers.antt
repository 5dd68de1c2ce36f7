-- The console is taken from one port, and then given to another.
use Rattle.std.proofs.Common.{◌≡◌, ◌+◌, ℕ, Option, ap, length, subst, ◌∙◌, arith}
use Rattle.switch_core.specs.SeatStands.{CanHave}
use Rattle.switch_core.specs.Views.{left_by}
use Rattle.switch_core.proofs.Wiring.{CanHave-left}
use Rattle.switch_core.proofs.ports.handed.Goals as goal

pub returns-in-Some-clause-slots : goal.returns-in-Some-clause-slots
returns-in-Some-clause-slots c = λ before views can each at.
    let same : length c.vacated-console.new.slots ≡ length c.args.slots.now = omega arith in
    let left = left_by c.args.tick before views in
    let there = subst (λ (chosen : Option ℕ). CanHave (length c.vacated-console.new.slots) left chosen) c.in-Some.is (CanHave-left _ _ c.args.tick before c.args.chosen views same can) in
    rw c.in-Some.is (c.given.ensures.slots left there (c.vacated-console.ensures.slots c.args.tick before views each at))

pub returns-in-Some-clause-seat : goal.returns-in-Some-clause-seat
returns-in-Some-clause-seat c = λ before views can each at.
    let same : length c.vacated-console.new.slots ≡ length c.args.slots.now = omega arith in
    let left = left_by c.args.tick before views in
    let there = subst (λ (chosen : Option ℕ). CanHave (length c.vacated-console.new.slots) left chosen) c.in-Some.is (CanHave-left _ _ c.args.tick before c.args.chosen views same can) in
    rw c.in-Some.is (c.given.ensures.seat left there (c.vacated-console.ensures.slots c.args.tick before views each at) (c.vacated-console.ensures.vacant before views at))

pub returns-in-Some-clause-gives : goal.returns-in-Some-clause-gives
returns-in-Some-clause-gives c = λ before views can each at.
    let same : length c.vacated-console.new.slots ≡ length c.args.slots.now = omega arith in
    let left = left_by c.args.tick before views in
    let there = subst (λ (chosen : Option ℕ). CanHave (length c.vacated-console.new.slots) left chosen) c.in-Some.is (CanHave-left _ _ c.args.tick before c.args.chosen views same can) in
    let given = c.given.ensures.gives left there (c.vacated-console.ensures.slots c.args.tick before views each at) in
    rw c.in-Some.is (given ∙ ap (λ (n : ℕ). n + 1) c.vacated-console.ensures.gives)
