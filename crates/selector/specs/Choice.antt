-- Which port is selected, or waits to be.
use Rattle.std.specs.Prelude.{ℕ, ◌+◌, Bool, false, not, ◌&&◌, ◌||◌, ◌==◌, nat_le, List, [], ◌∷◌, Option, Some, None, if◌then◌else◌}
use Rattle.std.specs.List.{list_any}
use Rattle.psd_base.specs.History.{newest, since}
use Rattle.selector.specs.declared.choice.Choice.{Choice}
use Rattle.selector.specs.declared.choice.Choice.TheVariants.{Nobody, Target, Selected}
use Rattle.selector.specs.declared.selector.Move.{Move}
use Rattle.selector.specs.declared.selector.Move.TheVariants as move
use Rattle.selector.specs.declared.selector.TheConstants.{HOLD}
use Rattle.selector.specs.Moments.{Moment, Moved, Ticked}
use Rattle.selector.specs.Panel.{pair_after, pair_since}

-- a clock event: the port that it asks for, if one, and whether the console shows nothing pressed
pub record Look : Type 0 where
  pub ask : Option ℕ
  pub all_up : Bool

-- a pair that stands for so long asks for its port
abbrev pub ask_of : Option ℕ → ℕ → ℕ → Option ℕ
ask_of None held_since tick = None
ask_of (Some port) held_since tick = if nat_le (held_since + HOLD) tick then Some port else None

-- the clock events, each with what it asks for by the moves before it
abbrev pub looks_in : List Moment → List Look
looks_in [] = []
looks_in (Moved tick panel ∷ past) = looks_in past
looks_in (Ticked tick all_up ∷ past) =
    record { ask = ask_of (pair_after past) (pair_since past) tick; all_up = all_up } ∷ looks_in past

-- whether an ask is one for the port, or one for another
abbrev pub names : ℕ → Option ℕ → Bool
names port None = false
names port (Some asked) = asked == port

abbrev pub names_other : ℕ → Option ℕ → Bool
names_other port None = false
names_other port (Some asked) = not (asked == port)

abbrev pub asks_for : ℕ → Look → Bool
asks_for port look = names port look.ask

abbrev pub asks_for_other : ℕ → Look → Bool
asks_for_other port look = names_other port look.ask

-- whether the console showed nothing pressed at an ask for the port or at a clock event after one
abbrev pub is_settled : ℕ → List Look → Bool
is_settled port [] = false
is_settled port (look ∷ looks) =
    (look.all_up && list_any (asks_for port) (look ∷ looks)) || is_settled port looks

-- the last port that was asked for, selected or waiting by its run: what came after the last ask for another port
abbrev pub chosen_of : Option ℕ → List Look → Choice
chosen_of None looks = Nobody
chosen_of (Some port) looks =
    if is_settled port (since (asks_for_other port) looks) then Selected port else Target port

-- The last port that was asked for. It is selected as soon as the console showed nothing pressed at the first ask of
-- its run or later.
unfoldable pub chosen : List Look → Choice
chosen looks = chosen_of (newest (λ look. look.ask) looks) looks

abbrev pub choice_after : List Moment → Choice
choice_after past = chosen (looks_in past)

abbrev pub selected_in : Choice → Option ℕ
selected_in Nobody = None
selected_in (Target port) = None
selected_in (Selected port) = Some port

-- what changes from one choice to the next
abbrev pub move_of : Choice → Choice → Move
move_of Nobody (Selected port) = move.Enter port
move_of (Target waiting) (Selected port) = move.Enter port
move_of (Selected left) (Selected port) = if left == port then move.Stay else move.LeaveEnter left port
move_of (Selected left) (Target port) = move.Leave left port
move_of (Selected left) Nobody = move.Stay
move_of Nobody Nobody = move.Stay
move_of Nobody (Target port) = move.Stay
move_of (Target waiting) Nobody = move.Stay
move_of (Target waiting) (Target port) = move.Stay
