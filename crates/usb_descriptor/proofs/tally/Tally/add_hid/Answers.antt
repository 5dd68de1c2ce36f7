-- A HID descriptor is out of order before any interface, and adds nothing after one.
use Rattle.std.proofs.Common.{ap, ⊎_elim}
use Rattle.usb_descriptor.proofs.Pushes.{has_begun}
use Rattle.usb_descriptor.proofs.KindSteps.{hid_first, hid_passed}
use Rattle.usb_descriptor.proofs.tally.Tally.add_hid.Goals as goal

pub returns-in-Configuration : goal.returns-in-Configuration
returns-in-Configuration c = λ ds h. hid_first ds c.args.descriptor.now c.args.self.now h c.requires.whole c.requires.kind c.in-Configuration.is

pub returns-in-Interface : goal.returns-in-Interface
returns-in-Interface c = λ ds h.
    hid_passed ds c.args.descriptor.now c.args.self.now h c.requires.whole c.requires.kind
    (⊎_elim (λ is. ap has_begun is) (λ is. ap has_begun is) c.in-Interface.is)
