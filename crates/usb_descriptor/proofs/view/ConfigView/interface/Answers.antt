-- The fields of the interface descriptor that was found.
use Rattle.std.proofs.Common.{◌∙◌, ap, sym}
use Rattle.usb_descriptor.specs.Descriptor.{descriptors_of}
use Rattle.usb_descriptor.specs.Setting.{Setting, up_to_interface}
use Rattle.usb_descriptor.specs.View.{interface_at, interface_fields}
use Rattle.usb_descriptor.proofs.Faults.{faultless_whole}
use Rattle.usb_descriptor.proofs.Walks.{setting_found}
use Rattle.usb_descriptor.proofs.view.ConfigView.interface.Goals as goal

pub interface_from-requires-clause-whole : goal.interface_from-requires-clause-whole
interface_from-requires-clause-whole c = faultless_whole c.self.inside.bytes.now c.self.invariant.faultless

pub returns : goal.returns
returns c =
    let bytes = c.self.inside.bytes.now in
    let s : Setting = record { interface = c.interface_from.result.0.now; others = up_to_interface (descriptors_of c.interface_from.result.1.now) } in
    ap (λ (t : Setting). interface_fields t.interface) (sym (setting_found bytes c.args.i s c.interface_from.ensures.place))
    ∙ ap (interface_at c.args.i) c.self.view_is
