-- A whole line, whatever comes behind it.
use Rattle.std.proofs.Common.{◌≡◌, ℕ, ◌+◌, ◌<◌, ◌≤◌, Option, None, IfNone, List, length, length-take, take, refl, sym, ap, ◌∙◌, subst, arith}
use Rattle.capture_reader.specs.Source.{Ends}
use Rattle.capture_reader.specs.declared.fault.LineFault.{LineFault}
use Rattle.capture_reader.specs.declared.form.Said.{Said}
use Rattle.capture_reader.specs.Ahead.{line_of, said_seen}
use Rattle.capture_reader.specs.Schedule.{in_front}
use Rattle.capture_reader.specs.Lines.{LineLookFailed}
use Rattle.capture_reader.specs.Script.{line_at, lines}
use Rattle.capture_reader.specs.Window.{Held, coming}
use Rattle.capture_reader.proofs.ScriptLines.{lines_end-empty, lines_end-faulty, line_moves_on}
use Rattle.capture_reader.proofs.Counting.{nothing_counted, line_counted}
use Rattle.capture_reader.proofs.script.ScriptSource.take_line.Goals as goal

pub returns-then-len-eq0-clause-end : goal.returns-then-len-eq0-clause-end
returns-then-len-eq0-clause-end c =
    let now = c.args.self.now in
    let none : length now.window.bytes ≡ 0 = omega arith in
    subst (λ (ahead : Option Said). IfNone (line_of ahead) (Ends (lines now.ports now.tick now.line 0) now.window None)) (sym c.requires.none)
    (lines_end-empty now.ports now.tick now.line now.window c.args.size c.requires.front none)

pub returns-in-Ok-clause-read : goal.returns-in-Ok-clause-read
returns-in-Ok-clause-read c left =
    let now = c.args.self.now in
    let some : 0 < length now.window.bytes = omega arith in
    let event = said_seen c.in-Ok.said in
    let line = ap (λ (bytes : List ℕ). take c.args.size bytes) (sym c.bytes.ensures) in
    line_moves_on now.ports now.tick now.line now.window c.args.size event c.requires.front some
    (subst (λ (bytes : List ℕ). length (take c.args.size bytes) ≤ 64) c.bytes.ensures c.in-Ok.ensures.short)
    (ap (line_at now.ports now.tick) line ∙ c.in-Ok.ensures.ok) left
    ∙ ap (λ (held : Held). in_front event (lines now.ports event.tick (now.line + 1) 0 (coming held left))) (sym c.drop_line.ensures)

pub returns-in-Err-clause-err : goal.returns-in-Err-clause-err
returns-in-Err-clause-err c before after =
    let now = c.args.self.now in
    let some : 0 < length now.window.bytes = omega arith in
    let line = ap (λ (bytes : List ℕ). take c.args.size bytes) (sym c.bytes.ensures) in
    subst (λ (fault : LineFault). LineLookFailed now.ports now.tick now.line now.window before after fault) (sym c.fault.ensures)
    (lines_end-faulty now.ports now.tick now.line now.window c.args.size c.in-Err.why c.requires.front some (ap (line_at now.ports now.tick) line ∙ c.in-Err.ensures.err))

pub returns-then-len-eq0-clause-counted : goal.returns-then-len-eq0-clause-counted
returns-then-len-eq0-clause-counted c unmet more =
    let now = c.args.self.now in
    nothing_counted now now more c.requires.none refl

pub returns-in-Ok-clause-counted : goal.returns-in-Ok-clause-counted
returns-in-Ok-clause-counted c unmet more =
    let now = c.args.self.now in
    let fits : c.args.size ≤ 64 = omega (
      arith,
      length-take c.args.size now.window.bytes,
      c.requires.front.within,
      subst (λ (bytes : List ℕ). length (take c.args.size bytes) ≤ 64) c.bytes.ensures c.in-Ok.ensures.short,
    ) in
    line_counted now _ c.args.size c.in-Ok.said more (c.requires.front.feed unmet fits) (ap (λ (held : Held). held.bytes) c.drop_line.ensures) refl
