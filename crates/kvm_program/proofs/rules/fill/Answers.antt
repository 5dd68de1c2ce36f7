-- A piece more, or all.
use Rattle.std.proofs.Common.{◌≡◌, ℕ, false, nat_lt, length, refl, ap, ◌∙◌, Ok, arith}
use Rattle.std.proofs.lemmas.Bool.Decides.{nat_tests}
use Rattle.psd_base.specs.declared.outlet.Input.TheVariants as input
use Rattle.kvm_program.proofs.Taking.{told_more, ended_more, taken_few, taken_whole}
use Rattle.kvm_program.proofs.rules.fill.Goals as goal
use Rattle.kvm_program.proofs.rules.fill.Goals.{then-reads-test+else-count-into, else-reads-test}

no_more : (more : ℕ) → nat_lt 0 more ≡ false → more ≡ 0
no_more more is = grind (arith, nat_tests)

pub reads-preserved : goal.reads-preserved
reads-preserved g c =
    let before = c.reads.invariant in
    let now = c.read_behind.ensures in
    record {
      within = omega (arith, c.in-Ok.ensures.within, c.read_behind.auto.buffer);
      told = told_more c.reads.into c.read_behind.new.buffer c.reads.count c.in-Ok.more ((g.D.Desk.told c.args.desk.now).left input.Rules) ((g.D.Desk.told c.reads.desk).left input.Rules) ((g.D.Desk.told c.read_behind.new.desk).left input.Rules)
          before.told now.kept c.in-Ok.ensures.moved;
      ended = λ over. ended_more c.read_behind.new.buffer c.reads.count c.in-Ok.more ((g.D.Desk.told c.reads.desk).left input.Rules) ((g.D.Desk.told c.read_behind.new.desk).left input.Rules)
          c.in-Ok.ensures.moved (c.in-Ok.ensures.ended (ap Ok (no_more c.in-Ok.more over)));
      only = record {
        inputs = λ other apart. now.only.inputs other apart ∙ before.only.inputs other apart;
        outlets = λ outlet apart. now.only.outlets outlet apart ∙ before.only.outlets outlet apart;
        read_counts = λ other. omega (arith, now.only.read_counts other, before.only.read_counts other);
        write_counts = λ outlet. omega (arith, now.only.write_counts outlet, before.only.write_counts outlet);
        other_reads = λ other apart. now.only.other_reads other apart ∙ before.only.other_reads other apart;
        other_writes = λ outlet apart. now.only.other_writes outlet apart ∙ before.only.other_writes outlet apart;
      };
    }

pub returns-clause-bytes : goal.returns-clause-bytes
returns-clause-bytes g c =
    taken_whole c.reads.into c.reads.count (length c.args.into.now) _ _ c.reads.auto.into (omega arith) c.reads.invariant.told
    (elim c.reads-test.branch [
      | then-reads-test+else-count-into w ↦ λ apart. absurd (apart (omega arith))
      | else-reads-test w ↦ λ apart. c.reads.invariant.ended w.reads-test.false
    ])

pub returns-clause-few : goal.returns-clause-few
returns-clause-few g c =
    taken_few c.reads.into c.reads.count (length c.args.into.now) _ _ _ c.reads.auto.into (omega arith) c.reads.invariant.told refl

pub returns-in-Err-clause-few : goal.returns-in-Err-clause-few
returns-in-Err-clause-few g c =
    taken_few c.reads.into c.reads.count (length c.args.into.now) _ _ _ c.reads.auto.into (omega arith) c.reads.invariant.told c.in-Err.ensures.stays
