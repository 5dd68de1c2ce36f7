-- An event more, the end, or a stop.
use Rattle.std.proofs.Common.{◌≡◌, ℕ, List, Option, Ok, Some, IfSome, IsSomeAnd, option_map, inl, inr, subst, sym, ap}
use Rattle.std.proofs.lemmas.Result.{err_from_is_err_and}
use Rattle.psd_base.specs.Event.{HappensWithin, Seen, seen}
use Rattle.capture_reader.specs.Schedule.{in_front}
use Rattle.capture_reader.specs.Reader.{IsInOrder, rest_told, StopsBecause}
use Rattle.capture_reader.specs.Taken.{FailsBehind}
use Rattle.psd_base.specs.declared.outlet.Input.TheVariants as input
use Rattle.psd_base.specs.Desk.{IsAppendedPart}
use Rattle.kvm_program.specs.Outlets.{Grew}
use Rattle.kvm_program.specs.Texts.{step_text}
use Rattle.kvm_program.proofs.Serving.{OnlyServes-event, PortsAboveStay-step, Progress-more, Progress-broken, WroteAtStop-advance, ServingStops-advance}
use Rattle.kvm_program.proofs.TakenSince.{TookSince-next, TookSince-none}
use Rattle.kvm_program.proofs.replay.Server.serve_next.Goals as goal
use Rattle.kvm_program.proofs.replay.Server.serve_next.Goals.{After-event-event, In_err-advance}
use Rattle.kvm_program.proofs.replay.Server.serve_next.Given as given

-- the reader had not stopped before
because : (g : given.Over) (c : In_err-advance g)
    → StopsBecause c.advance.new.self (rest_told c.args.reader.now (g.D.Desk.told c.args.desk.now))
    (g.D.Desk.told c.args.desk.now) (g.D.Desk.told c.advance.new.desk) c.in_err-advance.field-0.0
because g c = elim c.in_err-advance.ensures.cause [
  | inl before ↦ absurd (cc (c.requires.going, before))
  | inr now ↦ now
]

-- a read that failed comes behind the event that was given before
behind_given : (g : given.Over) (c : In_err-advance g) → FailsBehind c.args.reader.now.given c.in_err-advance.field-0.0
behind_given g c = elim c.in_err-advance.ensures.behind [
  | inl before ↦ absurd (cc (c.requires.going, before))
  | inr now ↦ now
]

pub returns-in_err-advance-clause-written : goal.returns-in_err-advance-clause-written
returns-in_err-advance-clause-written g c =
    let p = err_from_is_err_and c.from_residual.result c.from_residual.ensures.1 in
    rw (p.1, p.2) (λ rules schedule sent to so_far.
    let at = (goal.at.returns-in_err-advance-clause-written g c).In_err-advance in
    WroteAtStop-advance rules _ c.args.reader.now c.advance.new.self schedule sent (g.D.Desk.told c.args.desk.now) (g.D.Desk.told c.advance.new.desk) _ _ to so_far
    (c.in_err-advance.ensures.desk.outlets to (λ e. e)) (because g at) (behind_given g at)
    (TookSince-none sent (g.D.Desk.told c.args.desk.now) (g.D.Desk.told c.advance.new.desk) c.args.reader.now c.advance.new.self so_far.past
    (c.in_err-advance.ensures.stays (λ e. absurd (cc))).0 (λ met. (c.in_err-advance.ensures.unread_capture met).0) (λ met. (c.in_err-advance.ensures.unread_script met).0)
    so_far.took c.in_err-advance.ensures.took))

pub returns-in_err-advance-clause-stop : goal.returns-in_err-advance-clause-stop
returns-in_err-advance-clause-stop g c =
    let p = err_from_is_err_and c.from_residual.result c.from_residual.ensures.1 in
    rw (p.1, p.2) (λ rules coming sent so_far.
    ServingStops-advance rules _ c.args.reader.now c.advance.new.self coming sent (g.D.Desk.told c.args.desk.now) (g.D.Desk.told c.advance.new.desk) _ _ so_far (because g (goal.at.returns-in_err-advance-clause-stop g c).In_err-advance))

-- what the reader had to come begins with the event that was served
next_is : (g : given.Over) (c : After-event-event g)
    → rest_told c.args.reader.now (g.D.Desk.told c.args.desk.now)
    ≡ option_map (in_front (seen c.event-event.result)) (rest_told c.advance.new.self (g.D.Desk.told c.advance.new.desk))
next_is g c =
    let gives = c.in_ok-advance.ensures.next (ap Ok c.if-not-branch.false) in
    subst (λ (given : Option Seen). IsSomeAnd given (λ event. rest_told c.args.reader.now (g.D.Desk.told c.args.desk.now)
    ≡ option_map (in_front event) (rest_told c.advance.new.self (g.D.Desk.told c.advance.new.desk)))) (sym c.event-event.ensures) gives

pub returns-in_err-serve-clause-written : goal.returns-in_err-serve-clause-written
returns-in_err-serve-clause-written g c =
    let p = err_from_is_err_and c.from_residual-in_err-serve.result c.from_residual-in_err-serve.ensures.1 in
    let stop = c.in_err-serve.ensures.stop in
    rw (p.1, p.2, stop.1) (λ rules schedule sent to so_far.
    let wrote = c.in_err-serve.ensures.wrote rules so_far.past so_far.stands to in
    let part = subst (λ (mid : Option (List ℕ)). IsAppendedPart mid ((g.D.Desk.told c.serve.new.desk).sent to) (step_text rules to (seen c.event-event.result) so_far.past))
    (c.in_ok-advance.ensures.desk.outlets to (λ e. e)) wrote in
    Progress-broken rules schedule _ sent c.args.reader.now (g.D.Desk.told c.args.desk.now) (g.D.Desk.told c.serve.new.desk) _ _ (seen c.event-event.result) to so_far (next_is g (goal.at.returns-in_err-serve-clause-written g c).After-event-event) part)

pub returns-clause-going : goal.returns-clause-going
returns-clause-going g c = λ true_is rules coming sent so_far.
    let next = next_is g (goal.at.returns-clause-going g c).After-event-event in
    let past = so_far.past in
    let event = seen c.event-event.result in
    let same = c.in_ok-serve.ensures.only.inputs in
    let gives : c.advance.new.self.given ≡ Some event = sym c.event-event.ensures in
    Progress-more rules coming sent c.args.reader.now c.advance.new.self (g.D.Desk.told c.args.desk.now) (g.D.Desk.told c.advance.new.desk) (g.D.Desk.told c.serve.new.desk) _ _ _ _ event so_far
    next (same input.Capture (λ e. e)) (same input.Script (λ e. e))
    (c.in_ok-serve.ensures.stands rules past so_far.stands)
    (λ to. subst (λ (mid : Option (List ℕ)). Grew mid ((g.D.Desk.told c.serve.new.desk).sent to) (step_text rules to event past))
    (c.in_ok-advance.ensures.desk.outlets to (λ e. e)) (c.in_ok-serve.ensures.wrote rules past so_far.stands to))
    (c.in_ok-serve.ensures.counted rules past so_far.stands so_far.counted)
    c.in_ok-serve.ensures.served gives
    (TookSince-next sent (g.D.Desk.told c.args.desk.now) (g.D.Desk.told c.advance.new.desk) c.args.reader.now c.advance.new.self event past gives
    (λ met. (c.in_ok-advance.ensures.unread_capture met).0) (λ met. (c.in_ok-advance.ensures.unread_script met).0) so_far.took c.in_ok-advance.ensures.took)
    (c.in_ok-advance.ensures.ends so_far.ends)

pub returns-then-not-branch-clause-drained : goal.returns-then-not-branch-clause-drained
returns-then-not-branch-clause-drained g c = λ none ends.
    let met = c.in_ok-advance.ensures.met (ap Ok c.if-not-branch.true) in
    let after = c.in_ok-advance.ensures.ends ends in
    record { capture = after.capture met.0; script = after.script met.1 }

-- the event is at one of the capture's ports
within_ports : (g : given.Over) (c : After-event-event g) → HappensWithin c.args.reader.now.ports (seen c.event-event.result).happening
within_ports g c =
    let order = c.in_ok-advance.ensures.order (ap Ok c.if-not-branch.false) in
    let is = subst (λ (given : Option Seen). IfSome given (IsInOrder c.args.reader.now.tick c.advance.new.self.tick c.advance.new.self.ports)) (sym c.event-event.ensures) order in
    subst (λ (ports : ℕ). HappensWithin ports (seen c.event-event.result).happening) c.advance.ensures.counts.1 is.2

pub returns-in_err-serve-clause-above : goal.returns-in_err-serve-clause-above
returns-in_err-serve-clause-above g c = λ rules coming sent so_far.
    PortsAboveStay-step rules c.args.reader.now.ports (seen c.event-event.result) so_far.past c.serve.result (g.D.Desk.told c.args.desk.now) (g.D.Desk.told c.advance.new.desk) (g.D.Desk.told c.serve.new.desk)
    (within_ports g (goal.at.returns-in_err-serve-clause-above g c).After-event-event) (λ to. c.in_ok-advance.ensures.desk.outlets to (λ e. e))
    (c.serve.ensures.wrote rules so_far.past so_far.stands)

pub returns-clause-above : goal.returns-clause-above
returns-clause-above g c = λ rules coming sent so_far.
    PortsAboveStay-step rules c.args.reader.now.ports (seen c.event-event.result) so_far.past c.serve.result (g.D.Desk.told c.args.desk.now) (g.D.Desk.told c.advance.new.desk) (g.D.Desk.told c.serve.new.desk)
    (within_ports g (goal.at.returns-clause-above g c).After-event-event) (λ to. c.in_ok-advance.ensures.desk.outlets to (λ e. e))
    (c.serve.ensures.wrote rules so_far.past so_far.stands)

pub returns-in_err-serve-clause-only : goal.returns-in_err-serve-clause-only
returns-in_err-serve-clause-only g c =
    OnlyServes-event (g.D.Desk.told c.args.desk.now) (g.D.Desk.told c.advance.new.desk) (g.D.Desk.told c.serve.new.desk) c.in_ok-advance.ensures.desk c.serve.ensures.only

pub returns-clause-only : goal.returns-clause-only
returns-clause-only g c =
    OnlyServes-event (g.D.Desk.told c.args.desk.now) (g.D.Desk.told c.advance.new.desk) (g.D.Desk.told c.serve.new.desk) c.in_ok-advance.ensures.desk c.serve.ensures.only
