-- What the token's slot is told. Lists of it are newest first.
use Rattle.std.specs.Prelude.{ℕ}
use Rattle.psd_base.specs.declared.console.RuleName.{RuleName}

-- a token is attached; time passes; the token is detached, its computer is left, or it is refused by a rule, at a tick;
-- it is accepted; it is routed to a port
pub data SlotCall : Type 0 where
  Attach : SlotCall
  Clock : ℕ → SlotCall
  Detach : ℕ → SlotCall
  Leave : ℕ → SlotCall
  Bar : ℕ → RuleName → SlotCall
  Check : SlotCall
  Route : ℕ → SlotCall
