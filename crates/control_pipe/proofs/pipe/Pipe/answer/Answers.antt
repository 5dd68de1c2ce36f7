-- The exact step keeps what the pipe stands for, and answers by the history.
use Rattle.std.proofs.Common.{ap, ◌∙◌}
use Rattle.control_pipe.specs.Control.{offer_at}
use Rattle.control_pipe.proofs.Histories.{stands_after, answer_after, effect_after, function_after}
use Rattle.control_pipe.specs.PipeStep.{completed_by}
use Rattle.control_pipe.proofs.Histories.{completed-keeps}
use Rattle.control_pipe.proofs.pipe.Pipe.answer.Goals as goal

pub returns-clause-stands : goal.returns-clause-stands
returns-clause-stands g c = λ past stands.
    stands_after c.args.self.now past stands c.step.new.self c.args.act.now
    (offer_at (g.F.Function.descriptor_of c.args.self.now.function) (g.F.Function.class_input_of c.args.self.now.function) g.F.Function.takes_class c.args.act.now)
    c.step.ensures.registers c.step.ensures.progress

pub returns-clause-answer : goal.returns-clause-answer
returns-clause-answer g c = λ past stands. c.step.ensures.answer ∙ answer_after c.args.self.now past stands c.args.act.now

pub returns-clause-effect : goal.returns-clause-effect
returns-clause-effect g c = λ past stands.
    c.step.ensures.effect ∙ effect_after c.args.self.now past stands c.args.act.now
    (offer_at (g.F.Function.descriptor_of c.args.self.now.function) (g.F.Function.class_input_of c.args.self.now.function) g.F.Function.takes_class c.args.act.now)

pub returns-clause-function : goal.returns-clause-function
returns-clause-function g c = λ past stands.
    c.step.ensures.function ∙ function_after c.args.self.now past stands g.F.Function.after_class c.args.tick c.args.act.now

pub returns-clause-keeps : goal.returns-clause-keeps
returns-clause-keeps g c = λ test kept.
    ap test c.step.ensures.function ∙ completed-keeps g.F.Function.after_class test kept c.args.tick (completed_by c.args.self.now.registers c.args.self.now.progress c.args.act.now) c.args.self.now.function
