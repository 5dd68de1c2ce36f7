-- How each command is spelled.
use Rattle.std.specs.Prelude.{ℕ, List, [], ◌∷◌, codes}
use Rattle.kvm_program.specs.declared.command.Command.{Command}
use Rattle.kvm_program.specs.declared.command.Command.TheVariants.{Replay, Check}

abbrev pub words_of : Command → List (List ℕ)
words_of Replay = codes "replay" ∷ []
words_of Check = codes "check" ∷ []
