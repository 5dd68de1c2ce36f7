-- What the console shows anew at an event, as the front says it.
use Rattle.std.specs.Prelude.{List, [], ◌∷◌}
use Rattle.console_plug.specs.Given.{IsSample}
use Rattle.port_model.specs.Concerns.{Concern, Keys, Pointer}
use Rattle.switch_core.specs.declared.shown.Shown.{Shown}
use Rattle.switch_core.specs.declared.shown.Shown.TheVariants as shown

-- what is shown as a concern of the selected port
abbrev pub shown_concerns : Shown → List Concern
shown_concerns shown.Nothing = []
shown_concerns (shown.Keys keys) = Keys keys ∷ []
shown_concerns (shown.Pointer sample) = Pointer sample ∷ []

-- a sample that the pointer latch takes
abbrev pub IsShown : Shown → Type 0
IsShown shown.Nothing = Unit {0}
IsShown (shown.Keys keys) = Unit {0}
IsShown (shown.Pointer sample) = IsSample sample
