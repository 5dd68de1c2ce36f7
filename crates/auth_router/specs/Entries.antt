-- What happens at the bridge since it was brought up, and what came of it. Lists of it are newest first.
use Rattle.std.specs.Prelude.{ℕ, Bool, List, Option}
use Rattle.psd_base.specs.declared.setup.Setup.{Setup}
use Rattle.psd_base.specs.declared.act.Act.{Act}
use Rattle.psd_base.specs.declared.act.Answer.{Answer}
use Rattle.psd_base.specs.declared.console.JobKind.{JobKind}

-- an act of the computer; the token says that the job of a number is done, with a status and bytes
pub data BridgeItem : Type 0 where
  Acted : Act → BridgeItem
  Done : ℕ → ℕ → List ℕ → BridgeItem

-- a request that was taken, and whether the bridge lets it pass
pub record Request : Type 0 where
  pub setup : Setup
  pub supported : Bool

-- An item with what came of it: the answer to an act, the request of a setup that was taken, the job that was made,
-- the request that was completed, whether a transfer to the host ended, and the job that a token's word answers.
pub record Entry : Type 0 where
  pub item : BridgeItem
  pub answer : Answer
  pub request : Option Request
  pub job : Option JobKind
  pub completed : Option Setup
  pub ends_reading : Bool
  pub settled : Option JobKind
