-- What comes stays the same, and what is held grows, up to one byte more than the most of a line.
use Rattle.std.proofs.Common.{true, ◌≡◌, ◌+◌, ◌-◌, length, if◌then◌else◌}
use Rattle.capture_reader.specs.declared.line.TheConstants.{LINE_MAX}
use Rattle.psd_base.specs.Desk.{OnlyReads}
use Rattle.capture_reader.specs.Window.{EndIsTrue, HeldMore, still}
use Rattle.capture_reader.proofs.window.Window.hold_line.Given as goal

abbrev pub invariant-reads : goal.invariant-reads
invariant-reads g l = record {
  still : still l.self ((g.D.Desk.told l.desk).left l.from) ≡ still l.initial.self ((g.D.Desk.told l.initial.desk).left l.from);
  took : HeldMore l.initial.self l.self ((g.D.Desk.told l.initial.desk).left l.from) ((g.D.Desk.told l.desk).left l.from);
  unread : l.initial.self.ended ≡ true → (l.self ≡ l.initial.self) × (l.desk ≡ l.initial.desk);
  ends : EndIsTrue l.initial.self ((g.D.Desk.told l.initial.desk).left l.from) → EndIsTrue l.self ((g.D.Desk.told l.desk).left l.from);
  only : OnlyReads l.from (g.D.Desk.told l.initial.desk) (g.D.Desk.told l.desk);
}

abbrev pub decreases-reads : goal.decreases-reads
decreases-reads g l = if l.self.ended then 0 else 1 + (LINE_MAX + 1 - length l.self.bytes)
