-- A whole record, whatever comes behind it.
use Rattle.std.proofs.Common.{◌≡◌, List, ℕ, slice_range, Ok, IsSomeAnd, sym, ap, ◌∙◌, subst}
use Rattle.capture_reader.specs.declared.fault.RecordFault.{RecordFault}
use Rattle.capture_reader.specs.Ahead.{ahead_of}
use Rattle.capture_reader.specs.Capture.{size_of, happening_in}
use Rattle.capture_reader.specs.Source.{LookFailed}
use Rattle.capture_reader.proofs.Looks.{ends_field, record_taken}
use Rattle.capture_reader.proofs.source.CaptureSource.take_record.Goals as goal

pub returns-in-Ok-clause-ahead : goal.returns-in-Ok-clause-ahead
returns-in-Ok-clause-ahead c =
    let now = c.args.self.now in
    let head = c.args.head.now in
    let place = ahead_of c.read_record.new.into in
    record_taken place now.ports now.tick now.offset now.window c.drop_front.new.self head c.args.form c.requires.sound c.requires.enough c.drop_front.ensures
    (subst (λ (bytes : List ℕ). IsSomeAnd place (λ event. (event.tick ≡ head.tick) × (happening_in c.args.form (slice_range bytes 8 (size_of head)) ≡ Ok event.happening)))
    c.bytes.ensures c.in-Ok.ensures.ok)
    (c.in-Ok.ensures.within now.ports c.requires.sound.port_is_within) c.in-Ok.ensures.capture

pub returns-in-Err-clause-err : goal.returns-in-Err-clause-err
returns-in-Err-clause-err c before after =
    let now = c.args.self.now in
    let payload = ap (λ bytes. happening_in c.args.form (slice_range bytes 8 (size_of c.args.head.now))) (sym c.bytes.ensures) in
    subst (λ (fault : RecordFault). LookFailed now.ports now.tick now.offset now.window before after fault) (sym c.fault.ensures)
    (ends_field now.ports now.tick now.offset now.window c.args.head.now c.args.form c.in-Err.why c.requires.sound c.requires.enough (payload ∙ c.in-Err.ensures.err))
