-- Behind the end of the input nothing comes.
use Rattle.std.proofs.Common.{◌≡◌, ◌<◌, length, sym, subst, arith}
use Rattle.std.proofs.lemmas.List.{nil_from_length}
use Rattle.capture_reader.specs.declared.fault.RecordFault.{RecordFault}
use Rattle.capture_reader.specs.Source.{LookFailed}
use Rattle.capture_reader.proofs.Looks.{ends_empty, ends_short}
use Rattle.capture_reader.proofs.source.CaptureSource.end.Goals as goal

pub returns-then-len-eq0-clause-ok : goal.returns-then-len-eq0-clause-ok
returns-then-len-eq0-clause-ok c =
    let now = c.args.self.now in
    let none : length now.window.bytes ≡ 0 = omega arith in
    ends_empty now.ports now.tick now.offset now.window c.requires.ended (nil_from_length now.window.bytes none)

pub returns-clause-err : goal.returns-clause-err
returns-clause-err c before after =
    let now = c.args.self.now in
    let some : 0 < length now.window.bytes = omega arith in
    subst (λ (fault : RecordFault). LookFailed now.ports now.tick now.offset now.window before after fault) (sym c.fault.ensures)
    (ends_short now.ports now.tick now.offset now.window c.requires.ended some c.requires.short)
