-- What the console shows anew at an event, to whichever port is selected.
use Rattle.std.specs.Prelude.{Bool, List, [], ◌∷◌, ◌++◌, Option, Some, None}
use Rattle.psd_base.specs.declared.console.Plug.TheVariants.{Keyboard, Mouse}
use Rattle.psd_base.specs.declared.sample.Sample.{Sample}
use Rattle.peripheral_filter.specs.declared.rule.RuleSet.{RuleSet}
use Rattle.console_plug.specs.Moments.{Moment}
use Rattle.console_plug.specs.Given.{keys_given, sample_given}
use Rattle.port_model.specs.Concerns.{Concern, Keys, Pointer}
use Rattle.port_model.specs.FrontEvents.{FrontEvent}
use Rattle.port_model.specs.Peripherals.{moment_at, plug_history}

-- the keys that the keyboard shows after a moment at its plug, if it says anything of them; and what the mouse says
abbrev pub keys_at : RuleSet → Option Moment → List Moment → Option (List Bool)
keys_at rules None past = None
keys_at rules (Some moment) past = keys_given rules moment past

abbrev pub sample_at : RuleSet → Option Moment → List Moment → Option Sample
sample_at rules None past = None
sample_at rules (Some moment) past = sample_given rules moment past

abbrev pub keys_concern : Option (List Bool) → List Concern
keys_concern None = []
keys_concern (Some keys) = Keys keys ∷ []

abbrev pub pointer_concern : Option Sample → List Concern
pointer_concern None = []
pointer_concern (Some sample) = Pointer sample ∷ []

-- what is shown where a moment comes at the keyboard's plug, or at the mouse's
abbrev pub shown_by : RuleSet → Option Moment → Option Moment → List Moment → List Moment → List Concern
shown_by rules at_keyboard at_mouse keyboard mouse =
    keys_concern (keys_at rules at_keyboard keyboard) ++ pointer_concern (sample_at rules at_mouse mouse)

abbrev pub shown_at : RuleSet → FrontEvent → List FrontEvent → List Concern
shown_at rules event past =
    shown_by rules (moment_at Keyboard event past) (moment_at Mouse event past) (plug_history Keyboard past) (plug_history Mouse past)
