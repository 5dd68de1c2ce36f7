-- What a selector stands for: the moments that it was told, newest first.
use Rattle.std.specs.Prelude.{◌≡◌, ℕ, Bool, List, Option}
use Rattle.selector.specs.Moments.{Moment}
use Rattle.selector.specs.Buttons.{ButtonsStand}
use Rattle.selector.specs.Panel.{is_guard_down, pair_after, pair_since}
use Rattle.selector.specs.declared.choice.Choice.{Choice}
use Rattle.selector.specs.Choice.{choice_after}

-- a selector as plain data; the buttons are those of the ports from 1 on
pub record SelectorValue : Type 0 where
  pub guard : Bool
  pub buttons : List Bool
  pub pair : Option ℕ
  pub held_since : ℕ
  pub choice : Choice

pub record SelectorStands (selector : SelectorValue) (past : List Moment) : Type 0 where
  pub guard : selector.guard ≡ is_guard_down past
  pub buttons : ButtonsStand selector.buttons past
  pub pair : selector.pair ≡ pair_after past
  pub held_since : selector.held_since ≡ pair_since past
  pub choice : selector.choice ≡ choice_after past
