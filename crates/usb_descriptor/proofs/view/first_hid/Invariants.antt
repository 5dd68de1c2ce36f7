-- The rest is whole, and has the first HID descriptor if there is one.
use Rattle.std.proofs.Common.{◌≡◌, length}
use Rattle.usb_descriptor.specs.Descriptor.{descriptors_of, AllWhole}
use Rattle.usb_descriptor.proofs.Walks.{hid_in}
use Rattle.usb_descriptor.proofs.view.first_hid.Given as goal

abbrev pub invariant-loop-rest : goal.invariant-loop-rest
invariant-loop-rest l = record {
  whole : AllWhole (descriptors_of l.rest);
  same : hid_in l.rest ≡ hid_in l.bytes;
}

abbrev pub decreases-loop-rest : goal.decreases-loop-rest
decreases-loop-rest l = length l.rest
