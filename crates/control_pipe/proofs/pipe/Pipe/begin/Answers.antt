-- A standard request has no more data from the host than one packet.
use Rattle.std.proofs.Common.{Some, sym, ap, ◌∙◌}
use Rattle.control_pipe.specs.declared.request.Request.{Request}
use Rattle.control_pipe.proofs.Requests.{standard_is_short}
use Rattle.control_pipe.proofs.pipe.Pipe.begin.Goals as goal

pub begin-requires-in-Some-Standard-clause-writes_little : goal.begin-requires-in-Some-Standard-clause-writes_little
begin-requires-in-Some-Standard-clause-writes_little g c = λ _ _ h.
    standard_is_short c.args.setup.now c.in-Some-Standard.request
    (sym c.in-Some-Standard.ensures ∙ ap (λ (r : Request). Some r) c.in-Some-Standard.field-0-is) h
