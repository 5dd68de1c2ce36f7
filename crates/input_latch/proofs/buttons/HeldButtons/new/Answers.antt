-- No flag is set.
use Rattle.std.proofs.Common.{refl}
use Rattle.psd_base.specs.KeySet.{keys_from}
use Rattle.input_latch.specs.Buttons.{no_buttons}
use Rattle.input_latch.proofs.buttons.HeldButtons.new.Goals as goal

pub invariant_of-result : goal.invariant_of-result
unfolding keys_from
invariant_of-result c = record { one_each = refl; number = refl }

pub returns : goal.returns
unfolding no_buttons
returns c = refl
