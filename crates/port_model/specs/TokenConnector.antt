-- The token's connector of a computer, by the view of its port.
use Rattle.std.specs.Prelude.{ℕ, List, [], ◌∷◌, Option}
use Rattle.psd_base.specs.declared.act.Act.{Act}
use Rattle.psd_base.specs.declared.act.Side.TheVariants.{Km, Ua}
use Rattle.psd_base.specs.declared.console.Job.{Job}
use Rattle.auth_router.specs.declared.up.Up.{Up}
use Rattle.auth_router.specs.Entries.{Done}
use Rattle.auth_router.specs.Bridge.{BridgePast, IsDown, IsUp, bridge_made, after_act}
use Rattle.port_model.specs.Concerns.{TokenShape, TokenNews, Comes, Goes, Finishes, Concern, Own, Token, Item}

-- what a bridge is told of a token, in a life of this number
abbrev pub up_of : ℕ → TokenShape → Up
up_of life shape = record { life = life; value = shape.value; max0 = shape.max0; ins = shape.ins; outs = shape.outs }

-- the number that stands for the token's life, which the port isn't told
abbrev pub NO_LIFE : ℕ
NO_LIFE = 0

-- a job of the present life is done
abbrev pub with_done : ℕ → ℕ → List ℕ → BridgePast → BridgePast
with_done number status bytes IsDown = IsDown
with_done number status bytes (IsUp up items) = IsUp up (Done number status bytes ∷ items)

abbrev pub with_news : TokenNews → BridgePast → BridgePast
with_news (Comes shape) past = IsUp (up_of NO_LIFE shape) []
with_news Goes past = IsDown
with_news (Finishes number status bytes) past = with_done number status bytes past

-- what happened at the bridge of a port since the token came to it
abbrev pub bridge_past : List Item → BridgePast
bridge_past [] = IsDown
bridge_past (item ∷ past) = with_concern item.concern (bridge_past past) where
  with_concern : Concern → BridgePast → BridgePast
  with_concern (Own Km act) past = past
  with_concern (Own Ua act) past = after_act act past
  with_concern (Token news) past = with_news news past
  with_concern _ past = past

-- the job for the token that an act at the token's connector makes after a view
abbrev pub job_to : List Item → Act → Option Job
job_to past act = bridge_made (bridge_past past) act
