-- What the sets so far have, and then the others.
use Rattle.std.proofs.Common.{◌≡◌, drop}
use Rattle.console_plug.specs.Shown.{all_buttons}
use Rattle.console_plug.proofs.shown_buttons.all_buttons.Given as goal

abbrev pub invariant-loop-set : goal.invariant-loop-set
invariant-loop-set l = all_buttons l.buttons (drop l.set-index l.sets) ≡ all_buttons 0 l.sets
