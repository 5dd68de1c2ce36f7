-- A clock event is told to the plugs, and then to the selection.
use Rattle.std.proofs.Common.{◌≡◌, Bool, true, false, List, [], ◌∷◌, ◌++◌, sym, ap, subst, ◌∙◌, if◌then◌else◌}
use Rattle.std.proofs.lemmas.List.{append_assoc}
use Rattle.psd_base.specs.declared.console.Note.{Note}
use Rattle.psd_base.specs.declared.console.Order.{Order}
use Rattle.psd_base.specs.Event.{TimePasses}
use Rattle.auth_router.specs.Bridge.{BridgePast}
use Rattle.token_plug.specs.Moments as token
use Rattle.token_plug.specs.Routing.{bridge_at}
use Rattle.token_plug.specs.TokenGives as gives
use Rattle.token_plug.specs.TokenStands.{TokenStands}
use Rattle.token_plug.specs.declared.plug.TokenPlug.{TokenPlug}
use Rattle.switch_core.specs.Bridges.{bridge_front, bridge_over}
use Rattle.port_model.specs.Token.{early_token_notes, given_over, late_at, late_token_notes, move_moments, token_history, token_orders}
use Rattle.psd_base.specs.declared.console.Plug.TheVariants.{Keyboard, Mouse}
use Rattle.fail_secure.specs.declared.health.Health.{Health}
use Rattle.fail_secure.specs.HealthChange.{is_alive}
use Rattle.selector.specs.Choice.{choice_after, move_of}
use Rattle.selector.specs.declared.selector.Move.TheVariants as moves
use Rattle.selector.specs.declared.selector.Move.{Move}
use Rattle.selector.specs.Moments.{Moment, Ticked}
use Rattle.selector.specs.SelectorStands.{SelectorStands}
use Rattle.console_plug.specs.Moments as at_plug
use Rattle.console_plug.specs.PlugGives as plug
use Rattle.peripheral_filter.specs.declared.rule.RuleSet.{RuleSet}
use Rattle.port_model.specs.Chosen.{moments_in, move_at}
use Rattle.port_model.specs.FrontEvents.{FrontEvent, front_event}
use Rattle.switch_core.specs.FrontStands.{FrontStands}
use Rattle.switch_core.specs.Notes.{move_notes, selector_notes}
use Rattle.port_model.specs.Peripherals.{peripheral_notes, peripheral_orders, plug_history, shows_nothing}
use Rattle.switch_core.specs.PeripheralsStand.{PeripheralsStand}
use Rattle.switch_core.specs.declared.peripherals.Peripherals.{Peripherals}
use Rattle.switch_core.proofs.Bridging.{bridge_over-behind, given_over-behind}
use Rattle.switch_core.proofs.Choices.{move_moments-at, move_notes-at}
use Rattle.switch_core.proofs.front.Front.clock.Goals as goal

-- where the switch isn't alive, nothing is asked
asked_alike : (alive : Bool) (result : Move) (moments asked : List Moment)
    → result ≡ (if alive then move_of (choice_after moments) (choice_after asked) else moves.Stay)
    → result ≡ (if alive then move_of (choice_after moments) (choice_after (if alive then asked else moments)) else moves.Stay)
asked_alike true result moments asked is = is
asked_alike false result moments asked is = is

moved_as : (c : goal.After-self-4-1) → (rules : RuleSet) (past : List FrontEvent) (bridge : BridgePast) → FrontStands rules c.args.self.now past bridge → c.look-moved.result ≡ move_at rules c.args.tick past
moved_as c = λ rules past bridge g.
    let shown_at = subst (λ (p : Peripherals). PeripheralsStand rules p (plug_history Keyboard past) (plug_history Mouse past)) (sym c.deref.ensures) g.peripherals in
    let shown = c.shows_nothing-all_up.ensures rules _ _ shown_at in
    let moments = moments_in rules past in
    subst (λ (h : Health). c.look-moved.result ≡ (if is_alive h then move_of (choice_after moments) (choice_after (if is_alive h then Ticked c.args.tick (shows_nothing rules past) ∷ moments else moments)) else moves.Stay)) g.health
    (subst (λ (up : Bool). c.look-moved.result ≡ (if is_alive c.args.self.now.health then move_of (choice_after moments) (choice_after (if is_alive c.args.self.now.health then Ticked c.args.tick up ∷ moments else moments)) else moves.Stay)) shown
    (asked_alike (is_alive c.args.self.now.health) _ moments _ (c.look-moved.ensures.answer moments g.selector)))

-- the token is told of the clock event first, and then of the selection
token_inside : (c : goal.After-self-4-1) → (rules : RuleSet) (past : List FrontEvent) (bridge : BridgePast) → FrontStands rules c.args.self.now past bridge
    → TokenStands rules c.deref_mut-2.result.now (token_history rules past) bridge
token_inside c = λ rules past bridge g. subst (λ (t : TokenPlug). TokenStands rules t (token_history rules past) bridge) (sym c.deref_mut-2.ensures.value) g.token

ticked_token : (c : goal.After-self-4-1) → (rules : RuleSet) (past : List FrontEvent) (bridge : BridgePast) → FrontStands rules c.args.self.now past bridge
    → TokenStands rules c.deref_mut-3.result.now (token.Ticked c.args.tick ∷ token_history rules past) (bridge_at rules (token.Ticked c.args.tick) (token_history rules past) bridge)
ticked_token c = λ rules past bridge g.
    subst (λ (t : TokenPlug). TokenStands rules t (token.Ticked c.args.tick ∷ token_history rules past) (bridge_at rules (token.Ticked c.args.tick) (token_history rules past) bridge)) (sym c.deref_mut-3.ensures.value)
    (c.clock-2.ensures.stands rules _ _ (token_inside c rules past bridge g))

token_moved : (c : goal.After-self-4-1) → (rules : RuleSet) (past : List FrontEvent) (bridge : BridgePast) → FrontStands rules c.args.self.now past bridge
    → move_moments c.args.tick c.look-moved.result ≡ late_at rules (front_event c.args.tick TimePasses) past
token_moved c = λ rules past bridge g. ap (move_moments c.args.tick) (moved_as c rules past bridge g) ∙ move_moments-at rules past c.args.tick

selecting_token : (c : goal.After-self-4-1) → (rules : RuleSet) (past : List FrontEvent) (bridge : BridgePast) → FrontStands rules c.args.self.now past bridge
    → TokenStands rules c.select_token.new.token (token_history rules (front_event c.args.tick TimePasses ∷ past)) (bridge_front rules (front_event c.args.tick TimePasses) past bridge)
selecting_token c = λ rules past bridge g.
    let tick = c.args.tick in
    let history = token_history rules past in
    let late = late_at rules (front_event tick TimePasses) past in
    let told = subst (λ (moments : List token.Moment). TokenStands rules c.select_token.new.token (moments ++ token.Ticked tick ∷ history) (bridge_over rules moments (token.Ticked tick ∷ history) (bridge_at rules (token.Ticked tick) history bridge)))
    (token_moved c rules past bridge g) (c.select_token.ensures.stands rules _ _ (ticked_token c rules past bridge g)) in
    subst (λ (b : BridgePast). TokenStands rules c.select_token.new.token ((late ++ token.Ticked tick ∷ []) ++ history) b) (sym (bridge_over-behind rules late (token.Ticked tick) history bridge))
    (subst (λ (moments : List token.Moment). TokenStands rules c.select_token.new.token moments (bridge_over rules late (token.Ticked tick ∷ history) (bridge_at rules (token.Ticked tick) history bridge)))
    (sym (append_assoc late (token.Ticked tick ∷ []) history)) told)

pub returns-clause-stands : goal.returns-clause-stands
returns-clause-stands c = λ rules past bridge g.
    let shown_at = subst (λ (p : Peripherals). PeripheralsStand rules p (plug_history Keyboard past) (plug_history Mouse past)) (sym c.deref.ensures) g.peripherals in
    let inside = subst (λ (p : Peripherals). PeripheralsStand rules p (plug_history Keyboard past) (plug_history Mouse past)) (sym c.deref_mut.ensures.value) g.peripherals in
    let shown = c.shows_nothing-all_up.ensures rules _ _ shown_at in
    let moments = moments_in rules past in
    record {
      rules_are = g.rules_are;
      health = g.health;
      selector = subst (λ (h : Health). SelectorStands c.look-moved.new.selector (if is_alive h then Ticked c.args.tick (shows_nothing rules past) ∷ moments else moments)) g.health
          (subst (λ (up : Bool). SelectorStands c.look-moved.new.selector (if is_alive c.args.self.now.health then Ticked c.args.tick up ∷ moments else moments)) shown
          (c.look-moved.ensures.stands moments g.selector));
      peripherals = c.clock.ensures.stands rules _ _ inside;
      token = selecting_token c rules past bridge g;
    }

pub returns-clause-orders : goal.returns-clause-orders
unfolding peripheral_orders token_orders
returns-clause-orders c = λ rules past bridge g.
    let tick = c.args.tick in
    let inside = subst (λ (p : Peripherals). PeripheralsStand rules p (plug_history Keyboard past) (plug_history Mouse past)) (sym c.deref_mut.ensures.value) g.peripherals in
    let history = token_history rules past in
    let first = gives.orders_at rules (token.Ticked tick) history in
    let peripherals = plug.orders_at Keyboard rules (at_plug.Ticked tick) (plug_history Keyboard past) ++ plug.orders_at Mouse rules (at_plug.Ticked tick) (plug_history Mouse past) in
    c.select_token.ensures.orders rules _ _ (ticked_token c rules past bridge g)
    ∙ ap (λ (orders : List Order). orders ++ given_over (gives.orders_at rules) (move_moments tick c.look-moved.result) (token.Ticked tick ∷ history))
    (c.clock-2.ensures.orders rules _ _ (token_inside c rules past bridge g) ∙ ap (λ (orders : List Order). orders ++ first) (c.clock.ensures.orders rules _ _ inside))
    ∙ append_assoc peripherals first (given_over (gives.orders_at rules) (move_moments tick c.look-moved.result) (token.Ticked tick ∷ history))
    ∙ ap (λ (moments : List token.Moment). peripherals ++ (first ++ given_over (gives.orders_at rules) moments (token.Ticked tick ∷ history))) (token_moved c rules past bridge g)
    ∙ ap (λ (orders : List Order). peripherals ++ orders) (sym (given_over-behind (gives.orders_at rules) (late_at rules (front_event tick TimePasses) past) (token.Ticked tick) history))

pub returns-clause-notes : goal.returns-clause-notes
unfolding peripheral_notes early_token_notes late_token_notes
returns-clause-notes c = λ rules past bridge g.
    let tick = c.args.tick in
    let inside = subst (λ (p : Peripherals). PeripheralsStand rules p (plug_history Keyboard past) (plug_history Mouse past)) (sym c.deref_mut.ensures.value) g.peripherals in
    let history = token_history rules past in
    let first = gives.notes_at rules (token.Ticked tick) history in
    let peripherals = plug.notes_at Keyboard rules (at_plug.Ticked tick) (plug_history Keyboard past) ++ plug.notes_at Mouse rules (at_plug.Ticked tick) (plug_history Mouse past) in
    let selection = selector_notes rules tick TimePasses past in
    let moved = ap move_notes (moved_as c rules past bridge g) ∙ move_notes-at rules past tick in
    c.select_token.ensures.notes rules _ _ (ticked_token c rules past bridge g)
    ∙ ap (λ (notes : List Note). notes ++ given_over (gives.notes_at rules) (move_moments tick c.look-moved.result) (token.Ticked tick ∷ history))
    (c.note_move.ensures ∙ ap (λ (notes : List Note). notes ++ move_notes c.look-moved.result)
    (c.clock-2.ensures.notes rules _ _ (token_inside c rules past bridge g) ∙ ap (λ (notes : List Note). notes ++ first) (c.clock.ensures.notes rules _ _ inside))
    ∙ ap (λ (notes : List Note). (peripherals ++ first) ++ notes) moved)
    ∙ ap (λ (moments : List token.Moment). ((peripherals ++ first) ++ selection) ++ given_over (gives.notes_at rules) moments (token.Ticked tick ∷ history)) (token_moved c rules past bridge g)
    ∙ append_assoc (peripherals ++ first) selection (given_over (gives.notes_at rules) (late_at rules (front_event tick TimePasses) past) (token.Ticked tick ∷ history))
