-- The bytes that were read say what all bytes say.
use Rattle.std.proofs.Common.{◌≡◌, List, ℕ, Ok, sym, subst}
use Rattle.std.specs.Prelude.{IfSome}
use Rattle.std.proofs.lemmas.Result.{IfOk-weaker, IfErr-weaker}
use Rattle.psd_base.specs.declared.outlet.Input.TheVariants as input
use Rattle.admin_rules.specs.RuleFile.{lists_of}
use Rattle.kvm_program.specs.Rules.{front_of}
use Rattle.kvm_program.proofs.Taking.{rules_told, RulesStop-judged}
use Rattle.kvm_program.proofs.rules.take_rules.Goals as goal

pub returns-clause-rules : goal.returns-clause-rules
returns-clause-rules g c =
    let left = (g.D.Desk.told c.args.desk.now).left input.Rules in
    let read = subst (λ (items : List ℕ). IfSome left (λ all. items ≡ front_of all)) (sym c.as_slice.ensures.value) c.in_ok-bytes.ensures.bytes in
    IfOk-weaker c.judge.result _ _ (λ rules is. rules_told left c.as_slice.result.now (Ok (lists_of rules)) read is) c.judge.ensures.rules

pub returns-clause-stop : goal.returns-clause-stop
returns-clause-stop g c =
    let left = (g.D.Desk.told c.args.desk.now).left input.Rules in
    let read = subst (λ (items : List ℕ). IfSome left (λ all. items ≡ front_of all)) (sym c.as_slice.ensures.value) c.in_ok-bytes.ensures.bytes in
    IfErr-weaker c.judge.result _ _ (λ stop is. RulesStop-judged (g.D.Desk.told c.args.desk.now) (g.D.Desk.told c.read_rule_file.new.desk) c.as_slice.result.now stop read is) c.judge.ensures.stop
