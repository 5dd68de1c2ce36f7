-- What becomes of a change that a latch is offered, and how that is counted.
use Rattle.std.specs.Prelude.{◌+◌, List, [], ◌∷◌, ◌++◌}
use Rattle.input_latch.specs.declared.offered.Offered.{Offered}

-- it is delivered; it never is; there is nothing to say
pub data Verdict : Type 0 where
  Taken : Verdict
  Refused : Verdict
  PassedOver : Verdict

abbrev pub counted : Verdict → Offered → Offered
counted Taken counts = record counts { taken = counts.taken + 1 }
counted Refused counts = record counts { refused = counts.refused + 1 }
counted PassedOver counts = counts

abbrev pub nothing_offered : Offered
nothing_offered = record { taken = 0; refused = 0 }

-- a list with what was taken at its end
abbrev pub appended : {C : Type 0} → Verdict → C → List C → List C
appended Taken change changes = changes ++ change ∷ []
appended Refused change changes = changes
appended PassedOver change changes = changes
