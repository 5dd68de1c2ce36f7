-- What concerns one port of a switch: its own acts, the results of the self-test, the moments at which it is selected, what
-- the console shows in these, and what it hears of the token. Views are newest first.
use Rattle.std.specs.Prelude.{ℕ, Bool, true, false, List, [], ◌∷◌}
use Rattle.psd_base.specs.declared.act.Act.{Act}
use Rattle.psd_base.specs.declared.act.Side.{Side}
use Rattle.psd_base.specs.declared.sample.Sample.{Sample}

-- What a token shows of itself where it is routed to a port: the value of its configuration, the most bytes of a packet at
-- endpoint 0, and its IN and OUT endpoints as bits. The number of its life isn't told: it counts what other ports did too.
pub record TokenShape : Type 0 where
  pub value : ℕ
  pub max0 : ℕ
  pub ins : ℕ
  pub outs : ℕ

-- what a port hears of the token: it is routed to the port; it isn't any more; it has done the job of a number, with a status
-- and bytes
pub data TokenNews : Type 0 where
  Comes : TokenShape → TokenNews
  Goes : TokenNews
  Finishes : ℕ → ℕ → List ℕ → TokenNews

-- What concerns a port: an act of its computer; that the switch is alive, or dark; that the port is selected, or left; while it
-- is selected, the keys that the keyboard at the console shows, and what a report of the mouse there says; and what it hears of
-- the token.
pub data Concern : Type 0 where
  Own : Side → Act → Concern
  Wakes : Concern
  Darkens : Concern
  Selects : Concern
  Leaves : Concern
  Keys : List Bool → Concern
  Pointer : Sample → Concern
  Token : TokenNews → Concern

-- what concerns a port, with the tick
pub record Item : Type 0 where
  pub tick : ℕ
  pub concern : Concern

abbrev pub item : ℕ → Concern → Item
item tick concern = record { tick = tick; concern = concern }

-- whether the port answers: the switch is alive
abbrev pub is_live : List Item → Bool
is_live [] = false
is_live (item ∷ past) = with_concern item.concern (is_live past) where
  with_concern : Concern → Bool → Bool
  with_concern Wakes live = true
  with_concern Darkens live = false
  with_concern _ live = live
