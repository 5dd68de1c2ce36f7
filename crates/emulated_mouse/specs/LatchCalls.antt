-- What a poll does at the pointer latch.
use Rattle.std.specs.Prelude.{List, ◌∷◌, Some, None}
use Rattle.input_latch.specs.PointerHistory.{PointerEntry, Took}
use Rattle.emulated_mouse.specs.declared.given.Given.{Given}
use Rattle.emulated_mouse.specs.declared.given.Given.TheVariants.{Again, Due, Rest, Next, Nothing}

-- the latch is asked for its next change where no report is open, no release is due and no piece is left
abbrev pub latch_after : Given → List PointerEntry → List PointerEntry
latch_after Again entries = entries
latch_after Due entries = entries
latch_after Rest entries = entries
latch_after (Next change) entries = Took (Some change) ∷ entries
latch_after Nothing entries = Took None ∷ entries
