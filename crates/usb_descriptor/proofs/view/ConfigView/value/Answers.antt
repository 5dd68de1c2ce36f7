-- Bytes without a fault are nine at least.
use Rattle.std.proofs.Common.{arith}
use Rattle.usb_descriptor.proofs.Faults.{faultless_long}
use Rattle.usb_descriptor.proofs.view.ConfigView.value.Goals as goal

pub bounds-self-inside-5 : goal.bounds-self-inside-5
bounds-self-inside-5 c = omega (arith, faultless_long c.self.inside.bytes.now c.self.invariant.faultless)
