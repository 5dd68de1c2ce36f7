-- What an event makes of the views of all ports, by their numbers.
use Rattle.std.specs.Prelude.{ℕ, ◌==◌, List, ◌∷◌, Option}
use Rattle.psd_base.specs.declared.act.Act.{Act}
use Rattle.psd_base.specs.declared.act.Side.{Side}
use Rattle.port_model.specs.Concerns.{Concern, Own, Selects, Leaves, TokenNews, Item, item}
use Rattle.port_model.specs.View.{stamped, heard, only_if, only_at, handed}
use Rattle.port_model.specs.Chosen.{is_at}

-- the computer of a port acts
abbrev pub acted : ℕ → ℕ → Side → Act → (ℕ → List Item) → ℕ → List Item
acted tick port side act views number = stamped tick (only_if (port == number) (Own side act)) (views number)

-- the console shows something to the selected port
abbrev pub shown_to : ℕ → Option ℕ → List Concern → (ℕ → List Item) → ℕ → List Item
shown_to tick chosen concerns views number = stamped tick (only_at number chosen concerns) (views number)

-- the selection goes from one port to another
abbrev pub selected_to : ℕ → Option ℕ → Option ℕ → (ℕ → List Item) → ℕ → List Item
selected_to tick before after views number = stamped tick (handed number before after Leaves Selects) (views number)

-- it leaves a port, or comes to one
abbrev pub left_by : ℕ → Option ℕ → (ℕ → List Item) → ℕ → List Item
left_by tick before views number = stamped tick (only_if (is_at number before) Leaves) (views number)

abbrev pub given_to : ℕ → Option ℕ → (ℕ → List Item) → ℕ → List Item
given_to tick after views number = stamped tick (only_if (is_at number after) Selects) (views number)

-- all ports wake, or go dark
abbrev pub to_all : ℕ → Concern → (ℕ → List Item) → ℕ → List Item
to_all tick concern views number = item tick concern ∷ views number

-- each port hears of the token
abbrev pub heard_by : ℕ → (ℕ → List TokenNews) → (ℕ → List Item) → ℕ → List Item
heard_by tick news views number = heard tick (news number) (views number)
