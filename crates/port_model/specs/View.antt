-- The view of one port: what concerns it of all that happens. Views and histories are newest first.
use Rattle.std.specs.Prelude.{ℕ, Bool, true, false, ◌==◌, ◌&&◌, not, List, [], ◌∷◌, ◌++◌, Option, if◌then◌else◌}
use Rattle.psd_base.specs.Event.{Doing, TimePasses, PanelMoves, Detaches, Reports, Happening, PortActs, AtFront, Seen}
use Rattle.fail_secure.specs.declared.health_change.HealthChange.{HealthChange}
use Rattle.fail_secure.specs.declared.health_change.HealthChange.TheVariants as change
use Rattle.fail_secure.specs.HealthChange.{change_of}
use Rattle.peripheral_filter.specs.declared.rule.RuleSet.{RuleSet}
use Rattle.port_model.specs.Concerns.{Concern, Own, Wakes, Darkens, Selects, Leaves, Token, TokenNews, Item, item}
use Rattle.port_model.specs.FrontEvents.{FrontEvent, front_event, front_of}
use Rattle.port_model.specs.FrontHealth.{health_at}
use Rattle.port_model.specs.Chosen.{selected_at, is_at}
use Rattle.port_model.specs.Shown.{shown_at}
use Rattle.port_model.specs.Token.{token_news}

-- the concerns of one event, in their order, each with the event's tick
abbrev pub stamped : ℕ → List Concern → List Item → List Item
stamped tick [] view = view
stamped tick (concern ∷ concerns) view = stamped tick concerns (item tick concern ∷ view)

abbrev pub only_if : Bool → Concern → List Concern
only_if true concern = concern ∷ []
only_if false concern = []

-- what goes from one port to another: it is taken from the first before it is given to the second
abbrev pub handed : ℕ → Option ℕ → Option ℕ → Concern → Concern → List Concern
handed port before after taken given =
    only_if (is_at port before && not (is_at port after)) taken
    ++ only_if (is_at port after && not (is_at port before)) given

-- a change of health concerns each port; at Dark no port is left
abbrev pub change_concerns : HealthChange → List Concern
change_concerns change.Stays = []
change_concerns change.Wakes = Wakes ∷ []
change_concerns change.Darkens = Darkens ∷ []

-- what concerns the selected port alone
abbrev pub only_at : ℕ → Option ℕ → List Concern → List Concern
only_at port chosen concerns = if is_at port chosen then concerns else []

-- What of an event at the front concerns a port, by what happened there before it. What the console shows anew concerns the
-- selected port.
abbrev pub front_concerns : RuleSet → ℕ → ℕ → Doing → List FrontEvent → List Concern
front_concerns rules port tick TimePasses front =
    handed port (selected_at rules front) (selected_at rules (front_event tick TimePasses ∷ front)) Leaves Selects
front_concerns rules port tick (PanelMoves move) front =
    change_concerns (change_of (health_at front) (health_at (front_event tick (PanelMoves move) ∷ front)))
front_concerns rules port tick (Detaches plug) front =
    only_at port (selected_at rules front) (shown_at rules (front_event tick (Detaches plug)) front)
front_concerns rules port tick (Reports plug interface bytes) front =
    only_at port (selected_at rules front) (shown_at rules (front_event tick (Reports plug interface bytes)) front)
front_concerns rules port tick _ front = []

abbrev pub concerns : RuleSet → ℕ → ℕ → Happening → List FrontEvent → List Concern
concerns rules port tick (PortActs other side act) front = only_if (other == port) (Own side act)
concerns rules port tick (AtFront doing) front = front_concerns rules port tick doing front

-- what a port hears of the token, each with the event's tick
abbrev pub heard : ℕ → List TokenNews → List Item → List Item
heard tick [] view = view
heard tick (told ∷ news) view = heard tick news (item tick (Token told) ∷ view)

-- what a port hears of the token at an event
abbrev pub news_at : RuleSet → ℕ → ℕ → Happening → List FrontEvent → List TokenNews
news_at rules port tick (PortActs other side act) front = []
news_at rules port tick (AtFront doing) front = token_news rules port (front_event tick doing) front

-- What concerns this port after a history of events. Of one event the port is told of the token last: that it goes comes after
-- the port was left or the switch went dark, and that it comes after the port was selected.
abbrev pub view : RuleSet → ℕ → List Seen → List Item
view rules port [] = []
view rules port (event ∷ past) =
    heard event.tick (news_at rules port event.tick event.happening (front_of past))
    (stamped event.tick (concerns rules port event.tick event.happening (front_of past)) (view rules port past))
