-- The first HID descriptor after the interface descriptor that was found.
use Rattle.std.proofs.Common.{◌∙◌, ap, sym, find}
use Rattle.usb_descriptor.specs.Descriptor.{descriptors_of, is_hid}
use Rattle.usb_descriptor.specs.Setting.{Setting, up_to_interface}
use Rattle.usb_descriptor.specs.View.{hid_of}
use Rattle.usb_descriptor.proofs.Faults.{faultless_whole}
use Rattle.usb_descriptor.proofs.Walks.{setting_found}
use Rattle.usb_descriptor.proofs.view.ConfigView.hid.Goals as goal

pub interface_from-requires-clause-whole : goal.interface_from-requires-clause-whole
interface_from-requires-clause-whole c = faultless_whole c.self.inside.bytes.now c.self.invariant.faultless

pub returns-clause-value : goal.returns-clause-value
returns-clause-value c =
    let bytes = c.self.inside.bytes.now in
    let s : Setting = record { interface = c.interface_from.result.0.now; others = up_to_interface (descriptors_of c.interface_from.result.1.now) } in
    c.first_hid.ensures.value
    ∙ ap (λ (t : Setting). find is_hid t.others) (sym (setting_found bytes c.args.i s c.interface_from.ensures.place))
    ∙ ap (hid_of c.args.i) c.self.view_is
