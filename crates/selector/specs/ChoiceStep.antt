-- What one clock event makes of the choice, step by step.
use Rattle.std.specs.Prelude.{ℕ, Bool, ◌==◌, Option, Some, None, if◌then◌else◌}
use Rattle.selector.specs.declared.choice.Choice.{Choice}
use Rattle.selector.specs.declared.choice.Choice.TheVariants.{Nobody, Target, Selected}

-- an ask for the selected port changes nothing; any other makes its port the target
abbrev pub asked_for : ℕ → Choice → Choice
asked_for port Nobody = Target port
asked_for port (Target waiting) = Target port
asked_for port (Selected selected) = if selected == port then Selected selected else Target port

abbrev pub after_ask : Option ℕ → Choice → Choice
after_ask None choice = choice
after_ask (Some port) choice = asked_for port choice

-- a target is selected where nothing is pressed
abbrev pub after_look : Bool → Choice → Choice
after_look all_up Nobody = Nobody
after_look all_up (Target port) = if all_up then Selected port else Target port
after_look all_up (Selected port) = Selected port
