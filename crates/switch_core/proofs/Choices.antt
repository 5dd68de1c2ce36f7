-- What a clock event makes of the selection.
use Rattle.std.proofs.Common.{◌≡◌, ◌≢◌, ℕ, Bool, true, false, nat_eq, List, ◌∷◌, Option, Some, None, refl, sym, subst, cond, inl, inr}
use Rattle.std.proofs.lemmas.Bool.Decides.{eqb_tells}
use Rattle.psd_base.specs.History.{newest}
use Rattle.fail_secure.specs.HealthChange.{is_alive}
use Rattle.selector.specs.declared.choice.Choice.{Choice}
use Rattle.selector.specs.declared.choice.Choice.TheVariants.{Nobody, Target, Selected}
use Rattle.selector.specs.Choice.{Look, chosen, choice_after, move_of, selected_in}
use Rattle.selector.specs.Moments.{Ticked}
use Rattle.peripheral_filter.specs.declared.rule.RuleSet.{RuleSet}
use Rattle.psd_base.specs.Event.{TimePasses}
use Rattle.port_model.specs.FrontEvents.{FrontEvent, front_event}
use Rattle.port_model.specs.Peripherals.{shows_nothing}
use Rattle.port_model.specs.FrontHealth.{health_at}
use Rattle.port_model.specs.Chosen.{moments_in, selected_at, move_at}
use Rattle.switch_core.specs.Notes.{move_notes, selection_notes, selector_notes}
use Rattle.port_model.specs.Token.{late_at, move_moments, selection_moments}
use Rattle.port_model.proofs.Numbers.{other_number, same_number}

is_somebody : (port : ℕ) (settled : Bool) → cond settled (Selected port) (Target port) ≢ Nobody
is_somebody port true same = cc
is_somebody port false same = cc

-- once a port was asked for, somebody is chosen
pub chosen-stays : (look : Look) (looks : List Look) (port : ℕ) → chosen looks ≡ Selected port → chosen (look ∷ looks) ≢ Nobody
unfolding chosen
chosen-stays look looks port before after = by_last (newest (λ l. l.ask) looks) look.ask refl refl where
  by_last : (last asked : Option ℕ) → newest (λ l. l.ask) looks ≡ last → look.ask ≡ asked → ⊥
  by_last None asked was is = let nobody = rw was at before in cc
  by_last (Some other) None was is = let somebody = rw (is, was) at after in is_somebody other _ somebody
  by_last (Some other) (Some new) was is = let somebody = rw is at after in is_somebody new _ somebody

-- the notes of a move are those of the change from one selection to the next
pub move_notes-is : (before after : Choice) → ((port : ℕ) → before ≡ Selected port → after ≢ Nobody)
    → move_notes (move_of before after) ≡ selection_notes (selected_in before) (selected_in after)
move_notes-is Nobody Nobody stays = refl
move_notes-is Nobody (Target port) stays = refl
move_notes-is Nobody (Selected port) stays = refl
move_notes-is (Target waiting) Nobody stays = refl
move_notes-is (Target waiting) (Target port) stays = refl
move_notes-is (Target waiting) (Selected port) stays = refl
move_notes-is (Selected left) Nobody stays = absurd (stays left refl refl)
move_notes-is (Selected left) (Target port) stays = refl
move_notes-is (Selected left) (Selected port) stays = by_same (nat_eq left port) refl where
  by_same : (same : Bool) → nat_eq left port ≡ same
      → move_notes (move_of (Selected left) (Selected port)) ≡ selection_notes (Some left) (Some port)
  by_same true is = rw is refl
  by_same false is = rw is refl

-- and so are those of a clock event, which moves the selection while the switch is alive
pub move_notes-at : (rules : RuleSet) (past : List FrontEvent) (tick : ℕ)
    → move_notes (move_at rules tick past) ≡ selector_notes rules tick TimePasses past
move_notes-at rules past tick = by_alive (is_alive (health_at past)) refl where
  by_alive : (alive : Bool) → is_alive (health_at past) ≡ alive
      → move_notes (move_at rules tick past) ≡ selection_notes (selected_at rules past) (selected_at rules (front_event tick TimePasses ∷ past))
  by_alive false is = rw is refl
  by_alive true is =
      rw is (move_notes-is (choice_after (moments_in rules past)) (choice_after (Ticked tick (shows_nothing rules past) ∷ moments_in rules past))
      (λ port was. chosen-stays _ _ port was))

-- The same of what the token's plug is told

move_moments-is : (tick : ℕ) (before after : Choice) → ((port : ℕ) → before ≡ Selected port → after ≢ Nobody)
    → move_moments tick (move_of before after) ≡ selection_moments tick (selected_in before) (selected_in after)
move_moments-is tick Nobody Nobody stays = refl
move_moments-is tick Nobody (Target port) stays = refl
move_moments-is tick Nobody (Selected port) stays = refl
move_moments-is tick (Target waiting) Nobody stays = refl
move_moments-is tick (Target waiting) (Target port) stays = refl
move_moments-is tick (Target waiting) (Selected port) stays = refl
move_moments-is tick (Selected left) Nobody stays = absurd (stays left refl refl)
move_moments-is tick (Selected left) (Target port) stays = refl
move_moments-is tick (Selected left) (Selected port) stays = elim (eqb_tells left port) [
  | inl same ↦ rw (same.0, subst (λ (n : ℕ). nat_eq port n ≡ true) (sym same.1) (same_number port)) refl
  | inr apart ↦ rw (apart.0, other_number port left (λ same. apart.1 (sym same))) refl
]

pub move_moments-at : (rules : RuleSet) (past : List FrontEvent) (tick : ℕ)
    → move_moments tick (move_at rules tick past) ≡ late_at rules (front_event tick TimePasses) past
move_moments-at rules past tick = by_alive (is_alive (health_at past)) refl where
  by_alive : (alive : Bool) → is_alive (health_at past) ≡ alive
      → move_moments tick (move_at rules tick past) ≡ selection_moments tick (selected_at rules past) (selected_at rules (front_event tick TimePasses ∷ past))
  by_alive false is = rw is refl
  by_alive true is =
      rw is (move_moments-is tick (choice_after (moments_in rules past)) (choice_after (Ticked tick (shows_nothing rules past) ∷ moments_in rules past))
      (λ port was. chosen-stays _ _ port was))
