-- What happens to the token.
use Rattle.std.specs.Prelude.{ℕ}
use Rattle.console_host.specs.Replies.{Reply}

-- A token is attached or taken off, at a tick; it replies, with a life, a number and a tick; time passes; the switch becomes
-- alive, or dark; the selected port is left, at a tick; a port is selected. Lists of them are newest first. Nothing that a
-- computer does is among them.
pub data Moment : Type 0 where
  Attached : ℕ → Moment
  Detached : ℕ → Moment
  Replied : ℕ → ℕ → ℕ → Reply → Moment
  Ticked : ℕ → Moment
  Woke : ℕ → Moment
  Darkened : ℕ → Moment
  Left : ℕ → Moment
  Selected : ℕ → Moment
