-- What happens at one plug of the console.
use Rattle.std.specs.Prelude.{ℕ, List}
use Rattle.console_host.specs.Replies.{Reply}

-- A peripheral is attached at a tick, or taken off; it replies, with a life, a number and a tick; it sends a report of an
-- interface; time passes; the switch becomes alive at a tick, or dark. Lists of them are newest first. Nothing that a computer
-- does is among them.
pub data Moment : Type 0 where
  Attached : ℕ → Moment
  Detached : Moment
  Replied : ℕ → ℕ → ℕ → Reply → Moment
  Reported : ℕ → List ℕ → Moment
  Ticked : ℕ → Moment
  Woke : ℕ → Moment
  Darkened : Moment
