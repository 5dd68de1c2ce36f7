-- The packets of the answer lie within it.
use Rattle.auth_router.proofs.Settles.{sound_supplied}
use Rattle.auth_router.proofs.control.Control.settle.Goals as goal

pub invariant_of-self-in-DataIn : goal.invariant_of-self-in-DataIn
invariant_of-self-in-DataIn c = record {
  some = c.self.invariant.some;
  fits = c.self.invariant.fits;
  sound =
      rw (c.supply.ensures.stage, c.supply.ensures.bytes)
      (let before = rw c.in-DataIn.is at c.self.invariant.sound in
      sound_supplied c.self.inside.setup c.args.bytes.now c.self.inside.maximum c.self.invariant.some before.2 before.3);
}
