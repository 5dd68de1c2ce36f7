-- The token at the console, by what happened at the front: the moments at its plug, and what they give.
use Rattle.std.specs.Prelude.{ℕ, ◌==◌, ◌&&◌, List, [], ◌∷◌, ◌++◌, Option, Some, None, if◌then◌else◌}
use Rattle.psd_base.specs.declared.console.Note.{Note}
use Rattle.psd_base.specs.declared.console.Order.{Order}
use Rattle.psd_base.specs.declared.console.Plug.{Plug}
use Rattle.psd_base.specs.declared.console.Plug.TheVariants.{Keyboard, Mouse, Token}
use Rattle.psd_base.specs.Event.{Doing, TimePasses, PanelMoves, Attaches, Detaches, Replies, Reports, Finishes}
use Rattle.fail_secure.specs.declared.health_change.HealthChange.{HealthChange}
use Rattle.fail_secure.specs.declared.health_change.HealthChange.TheVariants as change
use Rattle.fail_secure.specs.HealthChange.{change_of}
use Rattle.peripheral_filter.specs.declared.rule.RuleSet.{RuleSet}
use Rattle.selector.specs.declared.selector.Move.{Move}
use Rattle.selector.specs.declared.selector.Move.TheVariants as move
use Rattle.console_host.specs.Replies.{reply_of}
use Rattle.console_host.specs.Lives.{shape_of_life}
use Rattle.console_host.specs.declared.descriptors.Shape.{Shape}
use Rattle.auth_router.specs.Slot.{lives}
use Rattle.token_plug.specs.Moments.{Moment, Attached, Detached, Replied, Ticked, Woke, Darkened, Left, Selected}
use Rattle.token_plug.specs.Lives.{slot_calls, life_at}
use Rattle.token_plug.specs.Routing.{routed_at}
use Rattle.token_plug.specs.TokenGives as token
use Rattle.port_model.specs.Concerns.{TokenShape, TokenNews, Comes, Goes}
use Rattle.port_model.specs.Concerns as news
use Rattle.port_model.specs.Chosen.{selected_at, is_at}
use Rattle.port_model.specs.FrontEvents.{FrontEvent}
use Rattle.port_model.specs.FrontHealth.{health_at}

abbrev pub if_token : Plug → Moment → List Moment
if_token Token moment = moment ∷ []
if_token Keyboard moment = []
if_token Mouse moment = []

abbrev pub change_moments : ℕ → HealthChange → List Moment
change_moments tick change.Stays = []
change_moments tick change.Wakes = Woke tick ∷ []
change_moments tick change.Darkens = Darkened tick ∷ []

-- What happens at the token's plug first: all but what the selection does. Moments are newest first.
abbrev pub early_moments : ℕ → Doing → HealthChange → List Moment
early_moments tick TimePasses health = Ticked tick ∷ []
early_moments tick (PanelMoves move) health = change_moments tick health
early_moments tick (Attaches plug) health = if_token plug (Attached tick)
early_moments tick (Detaches plug) health = if_token plug (Detached tick)
early_moments tick (Replies plug life number status bytes) health = if_token plug (Replied life number tick (reply_of status bytes))
early_moments tick (Reports plug interface bytes) health = []
early_moments tick (Finishes life number status bytes) health = []

-- the selected port is left, and then a port is selected
abbrev pub left_moments : ℕ → Option ℕ → Option ℕ → List Moment
left_moments tick None after = []
left_moments tick (Some port) after = if is_at port after then [] else Left tick ∷ []

abbrev pub chosen_moments : Option ℕ → Option ℕ → List Moment
chosen_moments before None = []
chosen_moments before (Some port) = if is_at port before then [] else Selected port ∷ []

abbrev pub selection_moments : ℕ → Option ℕ → Option ℕ → List Moment
selection_moments tick before after = chosen_moments before after ++ left_moments tick before after

-- the same by the move of the selection
abbrev pub move_moments : ℕ → Move → List Moment
move_moments tick move.Stay = []
move_moments tick (move.Leave left port) = Left tick ∷ []
move_moments tick (move.Enter port) = Selected port ∷ []
move_moments tick (move.LeaveEnter left port) = Selected port ∷ Left tick ∷ []

-- What the selection does to the token comes last.
abbrev pub late_moments : ℕ → Doing → Option ℕ → Option ℕ → List Moment
late_moments tick TimePasses before after = selection_moments tick before after
late_moments tick _ before after = []

abbrev pub early_at : FrontEvent → List FrontEvent → List Moment
early_at event past = early_moments event.tick event.doing (change_of (health_at past) (health_at (event ∷ past)))

abbrev pub late_at : RuleSet → FrontEvent → List FrontEvent → List Moment
late_at rules event past = late_moments event.tick event.doing (selected_at rules past) (selected_at rules (event ∷ past))

abbrev pub moments_at : RuleSet → FrontEvent → List FrontEvent → List Moment
moments_at rules event past = late_at rules event past ++ early_at event past

-- what happened at the token's plug
abbrev pub token_history : RuleSet → List FrontEvent → List Moment
token_history rules [] = []
token_history rules (event ∷ past) = moments_at rules event past ++ token_history rules past

-- what moments give one after another; they are newest first, and what they give is oldest first
abbrev pub given_over : {A : Type 0} → (Moment → List Moment → List A) → List Moment → List Moment → List A
given_over gives [] past = []
given_over gives (moment ∷ moments) past = given_over gives moments past ++ gives moment (moments ++ past)

-- what the token is told
unfoldable pub token_orders : RuleSet → FrontEvent → List FrontEvent → List Order
token_orders rules event past = given_over (token.orders_at rules) (moments_at rules event past) (token_history rules past)

-- what the log says of the token before it says what becomes of the selection, and after it
unfoldable pub early_token_notes : RuleSet → FrontEvent → List FrontEvent → List Note
early_token_notes rules event past = given_over (token.notes_at rules) (early_at event past) (token_history rules past)

unfoldable pub late_token_notes : RuleSet → FrontEvent → List FrontEvent → List Note
late_token_notes rules event past = given_over (token.notes_at rules) (late_at rules event past) (early_at event past ++ token_history rules past)

-- the port to which the token is routed, and the number of its last life
abbrev pub token_port : RuleSet → List FrontEvent → Option ℕ
token_port rules past = routed_at rules (token_history rules past)

abbrev pub token_life : RuleSet → List FrontEvent → ℕ
token_life rules past = lives (slot_calls rules (token_history rules past))

-- what the token shows of itself
abbrev pub shown_shape : Shape → TokenShape
shown_shape shape = record { value = shape.value; max0 = shape.max0; ins = shape.ins; outs = shape.outs }

abbrev pub comes_with : Option Shape → List TokenNews
comes_with None = []
comes_with (Some shape) = Comes (shown_shape shape) ∷ []

-- What a port hears where the token was routed to one port, and now is to another: it comes where it was routed to none, and
-- goes where it is routed to none any more.
abbrev pub news_between : ℕ → Option ℕ → Option ℕ → Option Shape → List TokenNews
news_between port None None shape = []
news_between port None (Some routed) shape = if routed == port then comes_with shape else []
news_between port (Some routed) None shape = if routed == port then Goes ∷ [] else []
news_between port (Some before) (Some after) shape = []

abbrev pub moment_news : RuleSet → ℕ → Moment → List Moment → List TokenNews
moment_news rules port moment past =
    news_between port (routed_at rules past) (routed_at rules (moment ∷ past)) (shape_of_life Token rules (life_at rules (moment ∷ past)))

-- the token has done a job of its present life: the port to which it is routed hears of it
abbrev pub done_news : ℕ → Option ℕ → ℕ → Doing → List TokenNews
done_news port routed life (Finishes done number status bytes) =
    if is_at port routed && (done == life) then news.Finishes number status bytes ∷ [] else []
done_news port routed life _ = []

-- what a port hears of the token at an event at the front
unfoldable pub token_news : RuleSet → ℕ → FrontEvent → List FrontEvent → List TokenNews
token_news rules port event past =
    given_over (moment_news rules port) (moments_at rules event past) (token_history rules past)
    ++ done_news port (token_port rules past) (token_life rules past) event.doing
