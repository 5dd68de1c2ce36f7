-- The keyboard and the mouse at the console, by what happened at the front.
use Rattle.std.specs.Prelude.{ℕ, Bool, true, false, ◌&&◌, ◌==◌, List, [], ◌∷◌, ◌++◌, Option, Some, None, if◌then◌else◌}
use Rattle.psd_base.specs.declared.console.Note.{Note}
use Rattle.psd_base.specs.declared.console.Order.{Order}
use Rattle.psd_base.specs.declared.console.Plug.{Plug}
use Rattle.psd_base.specs.declared.console.Plug.TheVariants.{Keyboard, Mouse, Token}
use Rattle.psd_base.specs.Event.{Doing, TimePasses, PanelMoves, Attaches, Detaches, Replies, Reports, Finishes}
use Rattle.psd_base.specs.KeySet.{has_no_key}
use Rattle.fail_secure.specs.declared.health_change.HealthChange.{HealthChange}
use Rattle.fail_secure.specs.declared.health_change.HealthChange.TheVariants as change
use Rattle.fail_secure.specs.HealthChange.{change_of}
use Rattle.peripheral_filter.specs.declared.rule.RuleSet.{RuleSet}
use Rattle.console_host.specs.Replies.{reply_of}
use Rattle.console_plug.specs.Moments.{Moment, Attached, Detached, Replied, Reported, Ticked, Woke, Darkened}
use Rattle.console_plug.specs.PlugGives as plug
use Rattle.console_plug.specs.Shown.{shown_keys, shown_buttons}
use Rattle.port_model.specs.FrontEvents.{FrontEvent}
use Rattle.port_model.specs.FrontHealth.{health_at}

abbrev pub is_same_plug : Plug → Plug → Bool
is_same_plug Keyboard Keyboard = true
is_same_plug Mouse Mouse = true
is_same_plug Token Token = true
is_same_plug _ _ = false

abbrev pub if_same_plug : Plug → Plug → Moment → Option Moment
if_same_plug own other moment = if is_same_plug own other then Some moment else None

-- the switch becomes alive, or dark
abbrev pub change_moment : ℕ → HealthChange → Option Moment
change_moment tick change.Stays = None
change_moment tick change.Wakes = Some (Woke tick)
change_moment tick change.Darkens = Some Darkened

-- what happens at the plug, where something does at the front and the health changes so
abbrev pub plug_moment : Plug → ℕ → Doing → HealthChange → Option Moment
plug_moment own tick TimePasses health = Some (Ticked tick)
plug_moment own tick (PanelMoves move) health = change_moment tick health
plug_moment own tick (Attaches other) health = if_same_plug own other (Attached tick)
plug_moment own tick (Detaches other) health = if_same_plug own other Detached
plug_moment own tick (Replies other life number status bytes) health = if_same_plug own other (Replied life number tick (reply_of status bytes))
plug_moment own tick (Reports other interface bytes) health = if_same_plug own other (Reported interface bytes)
plug_moment own tick (Finishes life number status bytes) health = None

abbrev pub moment_at : Plug → FrontEvent → List FrontEvent → Option Moment
moment_at own event past = plug_moment own event.tick event.doing (change_of (health_at past) (health_at (event ∷ past)))

abbrev pub with_moment : Option Moment → List Moment → List Moment
with_moment None moments = moments
with_moment (Some moment) moments = moment ∷ moments

-- what happened at the plug
abbrev pub plug_history : Plug → List FrontEvent → List Moment
plug_history own [] = []
plug_history own (event ∷ past) = with_moment (moment_at own event past) (plug_history own past)

-- what the plug gives at a moment, where something happens at it
abbrev pub plug_notes : Plug → RuleSet → Option Moment → List Moment → List Note
plug_notes own rules None past = []
plug_notes own rules (Some moment) past = plug.notes_at own rules moment past

abbrev pub plug_orders : Plug → RuleSet → Option Moment → List Moment → List Order
plug_orders own rules None past = []
plug_orders own rules (Some moment) past = plug.orders_at own rules moment past

-- what the log says of the keyboard, and then of the mouse
unfoldable pub peripheral_notes : RuleSet → FrontEvent → List FrontEvent → List Note
peripheral_notes rules event past =
    plug_notes Keyboard rules (moment_at Keyboard event past) (plug_history Keyboard past)
    ++ plug_notes Mouse rules (moment_at Mouse event past) (plug_history Mouse past)

-- what the keyboard is told, and then the mouse
unfoldable pub peripheral_orders : RuleSet → FrontEvent → List FrontEvent → List Order
peripheral_orders rules event past =
    plug_orders Keyboard rules (moment_at Keyboard event past) (plug_history Keyboard past)
    ++ plug_orders Mouse rules (moment_at Mouse event past) (plug_history Mouse past)

-- whether no key of the keyboard and no button of the mouse is down, by the moments at their plugs
unfoldable pub shows_none : RuleSet → List Moment → List Moment → Bool
shows_none rules keyboard mouse = has_no_key (shown_keys rules keyboard) && (shown_buttons rules mouse == 0)

-- whether the console shows nothing pressed
abbrev pub shows_nothing : RuleSet → List FrontEvent → Bool
shows_nothing rules past = shows_none rules (plug_history Keyboard past) (plug_history Mouse past)
