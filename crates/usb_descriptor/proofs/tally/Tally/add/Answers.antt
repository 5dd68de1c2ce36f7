-- A second configuration descriptor is out of order, and a kind of no meaning here is passed over.
use Rattle.std.proofs.Common.{arith}
use Rattle.std.proofs.lemmas.Bool.{ne_eqb}
use Rattle.usb_descriptor.specs.Descriptor.{kind_of}
use Rattle.usb_descriptor.proofs.KindSteps.{second_configuration, other_kind}
use Rattle.usb_descriptor.proofs.tally.Tally.add.Goals as goal

pub returns-in-2 : goal.returns-in-2
returns-in-2 c = λ ds h. second_configuration ds c.args.descriptor.now c.args.self.now h c.requires c.in-2.is

pub returns-in_default : goal.returns-in_default
returns-in_default c = λ ds h.
    let kind = kind_of c.args.descriptor.now in
    other_kind ds c.args.descriptor.now c.args.self.now h c.requires
    (ne_eqb kind 2 (λ is. omega arith)) (ne_eqb kind 4 (λ is. omega arith)) (ne_eqb kind 5 (λ is. omega arith)) (ne_eqb kind 33 (λ is. omega arith))
