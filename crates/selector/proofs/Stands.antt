-- A selector goes on to stand for the moments that it is told.
use Rattle.std.proofs.Common.{◌≡◌, ℕ, ◌-◌, Bool, false, not, List, [], ◌∷◌, Option, None, cond, length, refl, ap, sym, ◌∙◌, replicate, slice_index_or, ⊎_elim}
use Rattle.std.proofs.lemmas.List.{get_or-replicate, get_or_past}
use Rattle.std.proofs.lemmas.Bool.{cases_lt}
use Rattle.std.specs.Prelude.{◌&&◌}
use Rattle.psd_base.specs.declared.console.Panel.{Panel}
use Rattle.psd_base.specs.declared.port.TheConstants.{MAX_PORTS}
use Rattle.selector.specs.declared.selector.Move.{Move}
use Rattle.selector.specs.Moments.{Moment, Moved, Ticked}
use Rattle.selector.specs.Panel.{is_guard_down, is_empty, only_one, ports_down, are_buttons_up, pair_after, pair_since, is_same_pair}
use Rattle.selector.specs.Buttons.{ButtonsStand, ports_in, pair_in}
use Rattle.selector.specs.declared.choice.Choice.{Choice}
use Rattle.selector.specs.declared.choice.Choice.TheVariants.{Nobody}
use Rattle.selector.specs.Choice.{ask_of, looks_in, chosen, choice_after, move_of}
use Rattle.selector.specs.ChoiceStep.{after_ask, after_look}
use Rattle.selector.specs.SelectorStands.{SelectorValue, SelectorStands}
use Rattle.selector.proofs.Choices.{chosen-look}
use Rattle.selector.proofs.PortsDown.{ports_down-is}

pair_in-is : (guard : Bool) (buttons : List Bool) (past : List Moment) → length buttons ≡ MAX_PORTS → guard ≡ is_guard_down past → ButtonsStand buttons past
    → pair_in guard buttons ≡ pair_after past
pair_in-is guard buttons past each is stand =
    ap (λ (b : Bool). pair_in b buttons) is
    ∙ ap (λ (ports : List ℕ). cond (is_guard_down past) (only_one ports) None) (sym (ports_down-is buttons past each stand))

pub are_buttons_up-is : (selector : SelectorValue) (past : List Moment) → length selector.buttons ≡ MAX_PORTS → SelectorStands selector past
    → (not selector.guard && is_empty (ports_in 1 selector.buttons)) ≡ are_buttons_up past
are_buttons_up-is selector past each stands =
    ap (λ (b : Bool). not b && is_empty (ports_in 1 selector.buttons)) stands.guard
    ∙ ap (λ (ports : List ℕ). not (is_guard_down past) && is_empty ports) (sym (ports_down-is selector.buttons past each stands.buttons))

-- after a move at the panel
pub stands-moved : (old : SelectorValue) (past : List Moment) (tick : ℕ) (panel : Panel) (guard : Bool) (buttons : List Bool) (pair : Option ℕ) (held_since : ℕ)
    → SelectorStands old past → length buttons ≡ MAX_PORTS
    → guard ≡ is_guard_down (Moved tick panel ∷ past) → ButtonsStand buttons (Moved tick panel ∷ past)
    → pair ≡ pair_in guard buttons → held_since ≡ cond (is_same_pair old.pair pair) old.held_since tick
    → SelectorStands (record { guard = guard; buttons = buttons; pair = pair; held_since = held_since; choice = old.choice }) (Moved tick panel ∷ past)
stands-moved old past tick panel guard buttons pair held_since stands each guards flags pairs held =
    let now : pair ≡ pair_after (Moved tick panel ∷ past) = pairs ∙ pair_in-is guard buttons (Moved tick panel ∷ past) each guards flags in
    record {
      guard = guards;
      buttons = flags;
      pair = now;
      held_since =
          held
          ∙ ap (λ (p : Option ℕ). cond (is_same_pair old.pair p) old.held_since tick) now
          ∙ ap (λ (p : Option ℕ). cond (is_same_pair p (pair_after (Moved tick panel ∷ past))) old.held_since tick) stands.pair
          ∙ ap (λ (n : ℕ). cond (is_same_pair (pair_after past) (pair_after (Moved tick panel ∷ past))) n tick) stands.held_since;
      choice = stands.choice;
    }

-- after a clock event
choice-ticked : (old : SelectorValue) (past : List Moment) (tick : ℕ) (all_up : Bool) → SelectorStands old past
    → after_look all_up (after_ask (ask_of old.pair old.held_since tick) old.choice) ≡ choice_after (Ticked tick all_up ∷ past)
choice-ticked old past tick all_up stands =
    ap (λ (p : Option ℕ). after_look all_up (after_ask (ask_of p old.held_since tick) old.choice)) stands.pair
    ∙ ap (λ (n : ℕ). after_look all_up (after_ask (ask_of (pair_after past) n tick) old.choice)) stands.held_since
    ∙ ap (λ (c : Choice). after_look all_up (after_ask (ask_of (pair_after past) (pair_since past) tick) c)) stands.choice
    ∙ sym (chosen-look (ask_of (pair_after past) (pair_since past) tick) all_up (looks_in past))

pub stands-ticked : (old : SelectorValue) (past : List Moment) (tick : ℕ) (all_up : Bool) (choice : Choice) → SelectorStands old past
    → choice ≡ after_look all_up (after_ask (ask_of old.pair old.held_since tick) old.choice)
    → SelectorStands (record old { choice = choice }) (Ticked tick all_up ∷ past)
unfolding ports_down
stands-ticked old past tick all_up choice stands is = record {
  guard = stands.guard;
  buttons = stands.buttons;
  pair = stands.pair;
  held_since = stands.held_since;
  choice = is ∙ choice-ticked old past tick all_up stands;
}

pub move-ticked : (old : SelectorValue) (past : List Moment) (tick : ℕ) (all_up : Bool) (choice : Choice) (move : Move) → SelectorStands old past
    → choice ≡ after_look all_up (after_ask (ask_of old.pair old.held_since tick) old.choice) → move ≡ move_of old.choice choice
    → move ≡ move_of (choice_after past) (choice_after (Ticked tick all_up ∷ past))
move-ticked old past tick all_up choice move stands is made =
    made
    ∙ ap (λ (c : Choice). move_of c choice) stands.choice
    ∙ ap (λ (c : Choice). move_of (choice_after past) c) (is ∙ choice-ticked old past tick all_up stands)

-- at the start, with all buttons up
none_down : (port : ℕ) → slice_index_or (replicate MAX_PORTS false) port false ≡ false
none_down port =
    ⊎_elim (λ h. get_or-replicate MAX_PORTS port false false h) (λ h. get_or_past (replicate MAX_PORTS false) port false h) (cases_lt port MAX_PORTS)

pub stands-new : SelectorStands (record { guard = false; buttons = replicate MAX_PORTS false; pair = None; held_since = 0; choice = Nobody }) []
unfolding chosen
stands-new = record { guard = refl; buttons = λ port is. none_down (port - 1); pair = refl; held_since = refl; choice = refl }
