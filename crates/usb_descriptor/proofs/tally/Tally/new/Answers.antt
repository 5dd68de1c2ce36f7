-- A configuration descriptor alone has no interface and no endpoint.
use Rattle.std.proofs.Common.{refl, arith}
use Rattle.usb_descriptor.specs.Setting.{settings_of}
use Rattle.usb_descriptor.specs.Endpoint.{bit_set}
use Rattle.usb_descriptor.specs.Tally.{within_after}
use Rattle.usb_descriptor.proofs.tally.Tally.new.Goals as goal

pub returns : goal.returns
unfolding settings_of bit_set within_after
returns c = λ d kind. record {
  configuration = rw kind refl;
  numbers = rw kind c.new.ensures;
  endpoints = rw kind refl;
  within = rw kind refl;
  ins = rw kind refl;
  outs = rw kind refl;
  few_interfaces = rw kind (omega arith);
  few_endpoints = rw kind (omega arith);
}
