-- What a pipe ends as, where its function is lent to be changed.
use Rattle.std.specs.Borrow.{Lends, Fml, RattleType, MutBor}
use Rattle.control_pipe.specs.PipeStands.{PipeValue}
use Rattle.control_pipe.specs.contracts.pipe.Pipe.{the_row}

-- once the borrow ends, the function is what was written last, and the rest is as it was
abbrev pub LendsFunction : (F : RattleType) → MutBor (PipeValue F.Denot) → MutBor F.Denot → Fml
LendsFunction F pipe function =
    Lends (the_row F) F pipe function (λ written. record pipe.now { function = written })
