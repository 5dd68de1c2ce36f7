-- The room is as large as what is read at most.
use Rattle.std.proofs.Common.{◌≡◌, ℕ, take, subst}
use Rattle.std.specs.Prelude.{IfOk, IfSome}
use Rattle.psd_base.specs.declared.outlet.Input.TheVariants as input
use Rattle.kvm_program.specs.Rules.{TakesAtMost, front_of}
use Rattle.kvm_program.proofs.Taking.{taken_none}
use Rattle.kvm_program.proofs.rules.read_rule_file.Goals as goal

pub returns-in-Ok-clause-bytes : goal.returns-in-Ok-clause-bytes
unfolding front_of
returns-in-Ok-clause-bytes g c =
    subst (λ (n : ℕ). IfOk c.read_into.result (λ bytes. IfSome ((g.D.Desk.told c.args.desk.now).left input.Rules) (λ all. bytes.items ≡ take n all))) c.in-Ok.ensures c.read_into.ensures.bytes

pub returns-in-Ok-clause-few : goal.returns-in-Ok-clause-few
returns-in-Ok-clause-few g c =
    subst (λ (n : ℕ). TakesAtMost n ((g.D.Desk.told c.args.desk.now).left input.Rules) ((g.D.Desk.told c.read_into.new.desk).left input.Rules)) c.in-Ok.ensures c.read_into.ensures.few

pub returns-in-Err-clause-few : goal.returns-in-Err-clause-few
returns-in-Err-clause-few g c = taken_none _ _
