-- That what other computers do concerns no port but their own.
use Rattle.std.proofs.Common.{◌≡◌, ℕ, Bool, true, false, not, ◌==◌, List, [], ◌∷◌, if◌then◌else◌, refl, sym, ap, ◌∙◌}
use Rattle.psd_base.specs.declared.act.Act.{Act}
use Rattle.psd_base.specs.declared.act.Side.{Side}
use Rattle.psd_base.specs.Event.{Happening, PortActs, AtFront, Seen}
use Rattle.peripheral_filter.specs.declared.rule.RuleSet.{RuleSet}
use Rattle.port_model.specs.Concerns.{Item, Own, item}
use Rattle.port_model.specs.FrontEvents.{FrontEvent, front_event, front_of}
use Rattle.port_model.specs.Independence.{is_act, is_act_elsewhere, without, ActAddsItsItem, ActLeavesOtherLines, ActLeavesOtherViews, SameViewSameLines, ViewIgnoresOthers}
use Rattle.port_model.specs.OnePort.{one_port_lines}
use Rattle.port_model.specs.View.{view}
use Rattle.port_model.proofs.Numbers.{other_number, same_number}

-- One act

pub act_leaves_other_views : ActLeavesOtherViews
act_leaves_other_views rules port other tick side act past apart = rw (other_number port other (λ same. apart (sym same))) refl

pub act_leaves_other_lines : ActLeavesOtherLines
act_leaves_other_lines rules port other tick side act past apart = ap one_port_lines (act_leaves_other_views rules port other tick side act past apart)

pub act_adds_its_item : ActAddsItsItem
act_adds_its_item rules port tick side act past = rw (same_number port) refl

-- Whole schedules

-- the same happened at the front
pub front_without_acts : (past : List Seen) → front_of (without is_act past) ≡ front_of past
front_without_acts [] = refl
front_without_acts (event ∷ past) = by_happening event.tick event.happening (front_without_acts past) where
  by_happening : (tick : ℕ) (happening : Happening) → front_of (without is_act past) ≡ front_of past
      → front_of (without is_act (record { tick = tick; happening = happening } ∷ past)) ≡ front_of (record { tick = tick; happening = happening } ∷ past)
  by_happening tick (PortActs port side act) before = before
  by_happening tick (AtFront doing) before = ap (λ (front : List FrontEvent). front_event tick doing ∷ front) before

front_without_others : (port : ℕ) (past : List Seen) → front_of (without (is_act_elsewhere port) past) ≡ front_of past
front_without_others port [] = refl
front_without_others port (event ∷ past) = by_happening event.tick event.happening (front_without_others port past) where
  by_owner : (own : Bool) (kept left : List Seen) → front_of kept ≡ front_of left → (all : List FrontEvent) → front_of left ≡ all
      → front_of (if not own then left else kept) ≡ all
  by_owner true kept left same all is = same ∙ is
  by_owner false kept left same all is = is

  by_happening : (tick : ℕ) (happening : Happening) → front_of (without (is_act_elsewhere port) past) ≡ front_of past
      → front_of (without (is_act_elsewhere port) (record { tick = tick; happening = happening } ∷ past)) ≡ front_of (record { tick = tick; happening = happening } ∷ past)
  by_happening tick (PortActs other side act) before = by_owner (other == port) (record { tick = tick; happening = PortActs other side act } ∷ without (is_act_elsewhere port) past)
      (without (is_act_elsewhere port) past) refl (front_of past) before
  by_happening tick (AtFront doing) before = ap (λ (front : List FrontEvent). front_event tick doing ∷ front) before

view_without_others : (rules : RuleSet) (port : ℕ) (past : List Seen) → view rules port (without (is_act_elsewhere port) past) ≡ view rules port past
view_without_others rules port [] = refl
view_without_others rules port (event ∷ past) = by_happening event.tick event.happening (view_without_others rules port past) where
  same : front_of (without (is_act_elsewhere port) past) ≡ front_of past
  same = front_without_others port past

  by_owner : (tick other : ℕ) (side : Side) (act : Act) (own : Bool) → (other == port) ≡ own → view rules port (without (is_act_elsewhere port) past) ≡ view rules port past
      → view rules port (without (is_act_elsewhere port) (record { tick = tick; happening = PortActs other side act } ∷ past)) ≡ view rules port (record { tick = tick; happening = PortActs other side act } ∷ past)
  by_owner tick other side act true is before = rw is (rw is (ap (λ (items : List Item). item tick (Own side act) ∷ items) before))
  by_owner tick other side act false is before = rw is before

  by_happening : (tick : ℕ) (happening : Happening) → view rules port (without (is_act_elsewhere port) past) ≡ view rules port past
      → view rules port (without (is_act_elsewhere port) (record { tick = tick; happening = happening } ∷ past)) ≡ view rules port (record { tick = tick; happening = happening } ∷ past)
  by_happening tick (PortActs other side act) before = by_owner tick other side act (other == port) refl before
  by_happening tick (AtFront doing) before = rw (same, before) refl

pub view_ignores_others : ViewIgnoresOthers
view_ignores_others rules port past = view_without_others rules port past

pub same_view_same_lines : SameViewSameLines
same_view_same_lines rules others port past other same = ap one_port_lines same
