-- The port that acts goes on with its view, and the others stay.
use Rattle.std.proofs.Common.{◌≡◌, ◌+◌, ◌-◌, ◌<◌, List, length, length-set, sym, subst, arith}
use Rattle.psd_base.specs.declared.act.Side.TheVariants.{Km}
use Rattle.port_model.specs.Concerns.{Item}
use Rattle.switch_core.specs.SlotStands.{SlotStands}
use Rattle.switch_core.specs.Wired.{is_owner}
use Rattle.switch_core.proofs.Handing.{acted-other, acted-own}
use Rattle.switch_core.proofs.PortLists.{AllStand-number, AllStand-put, AreWired-number, AreWired-put}
use Rattle.switch_core.proofs.answers.answer_act.Goals as goal

pub answer_km-requires : goal.answer_km-requires
answer_km-requires c =
    let numbered : c.number.result - 1 + 1 ≡ c.args.port = omega arith in
    let within : c.number.result - 1 < length c.args.slots.now = omega arith in
    AreWired-number _ _ _ _ (is_owner c.args.seat.now) numbered within c.requires.wired.wired

pub returns-clause-wired : goal.returns-clause-wired
returns-clause-wired c =
    let numbered : c.number.result - 1 + 1 ≡ c.args.port = omega arith in
    record {
      seated = rw (length-set c.args.slots.now (c.number.result - 1) c.answer_km.new.slot, c.answer_km.ensures.seated (length c.args.slots.now)) c.requires.wired.seated;
      wired = AreWired-put _ _ _ _ _ _ numbered c.requires.wired.wired c.answer_km.ensures.slot (λ other apart. c.answer_km.ensures.owner other);
    }

pub returns-clause-slots : goal.returns-clause-slots
returns-clause-slots c = λ chosen views each seat.
    let numbered : c.number.result - 1 + 1 ≡ c.args.port = omega arith in
    let within : c.number.result - 1 < length c.args.slots.now = omega arith in
    let after = c.answer_km.ensures.stands chosen views (AllStand-number _ _ _ _ views numbered within each) seat in
    AllStand-put _ _ _ _ _ _ numbered each
    (subst (λ (past : List Item). SlotStands c.answer_km.new.slot past) (sym (acted-own c.args.tick c.args.port Km c.args.act.now views)) after)
    (λ other apart. acted-other c.args.tick c.args.port other Km c.args.act.now views apart)

pub returns-clause-seat : goal.returns-clause-seat
returns-clause-seat c = λ chosen views each seat.
    let numbered : c.number.result - 1 + 1 ≡ c.args.port = omega arith in
    let within : c.number.result - 1 < length c.args.slots.now = omega arith in
    c.answer_km.ensures.seat chosen views (AllStand-number _ _ _ _ views numbered within each) seat

pub returns-clause-answer : goal.returns-clause-answer
returns-clause-answer c = λ chosen views each seat.
    let numbered : c.number.result - 1 + 1 ≡ c.args.port = omega arith in
    let within : c.number.result - 1 < length c.args.slots.now = omega arith in
    c.answer_km.ensures.answer chosen views (AllStand-number _ _ _ _ views numbered within each) seat
