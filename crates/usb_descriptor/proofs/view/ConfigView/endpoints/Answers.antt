-- The bits of the sets are those of the numbers.
use Rattle.std.proofs.Common.{◌∙◌, ap, cond}
use Rattle.std.specs.List.{list_any}
use Rattle.std.specs.Prelude.{◌==◌}
use Rattle.std.specs.Int.{bit_at}
use Rattle.usb_descriptor.specs.Descriptor.{descriptors_of}
use Rattle.usb_descriptor.specs.Endpoint.{in_numbers, out_numbers}
use Rattle.usb_descriptor.proofs.Pushes.{bit_set-bit}
use Rattle.usb_descriptor.proofs.view.ConfigView.endpoints.Goals as goal

pub returns-clause-ins : goal.returns-clause-ins
returns-clause-ins c = λ n.
    ap (λ s. bit_at s n) c.self.invariant.ins ∙ bit_set-bit (in_numbers (descriptors_of c.self.inside.bytes.now)) n
    ∙ ap (λ bytes. cond (list_any (λ k. k == n) (in_numbers (descriptors_of bytes))) 1 0) c.self.view_is

pub returns-clause-outs : goal.returns-clause-outs
returns-clause-outs c = λ n.
    ap (λ s. bit_at s n) c.self.invariant.outs ∙ bit_set-bit (out_numbers (descriptors_of c.self.inside.bytes.now)) n
    ∙ ap (λ bytes. cond (list_any (λ k. k == n) (out_numbers (descriptors_of bytes))) 1 0) c.self.view_is
