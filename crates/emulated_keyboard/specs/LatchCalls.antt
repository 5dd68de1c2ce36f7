-- What a poll does at the key latch.
use Rattle.std.specs.Prelude.{List, ◌∷◌, Some, None}
use Rattle.input_latch.specs.KeyHistory.{KeyEntry, Took}
use Rattle.emulated_keyboard.specs.declared.given.Given.{Given}
use Rattle.emulated_keyboard.specs.declared.given.Given.TheVariants.{Again, Due, Next, Repeated, Nothing}

-- the latch is asked for its next change where no report is open and no release is due
abbrev pub latch_after : Given → List KeyEntry → List KeyEntry
latch_after Again keys = keys
latch_after Due keys = keys
latch_after (Next change) keys = Took (Some change) ∷ keys
latch_after Repeated keys = Took None ∷ keys
latch_after Nothing keys = Took None ∷ keys
