-- What was read, and then what is left, is what there was. The measure is the room, and a turn more while the end wasn't met.
use Rattle.std.proofs.Common.{◌≡◌, ◌+◌, ◌-◌, ◌≤◌, false, [], ◌++◌, length, take, option_map, IfSome, if◌then◌else◌}
use Rattle.psd_base.specs.declared.outlet.Input.TheVariants as input
use Rattle.psd_base.specs.Desk.{OnlyReads}
use Rattle.kvm_program.proofs.rules.fill.Given as goal

abbrev pub invariant-reads : goal.invariant-reads
invariant-reads g l = record {
  within : l.count ≤ length l.into;
  told : option_map (λ rest. take l.count l.into ++ rest) ((g.D.Desk.told l.desk).left input.Rules) ≡ (g.D.Desk.told l.fn.desk).left input.Rules;
  ended : l.going ≡ false → IfSome ((g.D.Desk.told l.desk).left input.Rules) (λ rest. rest ≡ []);
  only : OnlyReads input.Rules (g.D.Desk.told l.fn.desk) (g.D.Desk.told l.desk);
}

abbrev pub decreases-reads : goal.decreases-reads
decreases-reads g l = (if l.going then 1 else 0) + (length l.initial.into - l.count)
