-- What events leave of a port's view.
use Rattle.std.proofs.Common.{◌≡◌, ℕ, Bool, true, false, not, ◌&&◌, nat_eq, List, [], ◌∷◌, ◌++◌, Option, Some, None, cond, refl, ◌∙◌}
use Rattle.psd_base.specs.declared.act.Act.{Act}
use Rattle.psd_base.specs.declared.act.Side.{Side}
use Rattle.psd_base.specs.Event.{Seen, Doing, TimePasses, PanelMoves, Attaches, Detaches, Replies, Reports, Finishes, Happening, PortActs, AtFront}
use Rattle.peripheral_filter.specs.declared.rule.RuleSet.{RuleSet}
use Rattle.fail_secure.specs.declared.health.Health.{Health}
use Rattle.fail_secure.specs.declared.health.Health.TheVariants.{Testing, Alive, Dark}
use Rattle.fail_secure.specs.Health.{health_after}
use Rattle.fail_secure.specs.declared.health_change.HealthChange.{HealthChange}
use Rattle.fail_secure.specs.declared.health_change.HealthChange.TheVariants as change
use Rattle.psd_base.specs.declared.console.Plug.TheVariants.{Keyboard, Mouse}
use Rattle.psd_base.specs.declared.sample.Sample.{Sample}
use Rattle.port_model.specs.Concerns.{Concern, Own, Wakes, Darkens, Selects, Leaves, Keys, Pointer, Item, item, is_live}
use Rattle.port_model.specs.OnePort.{one_port_lines}
use Rattle.km_port.proofs.Showing.{LiveStands-Keys, LiveStands-Pointer}
use Rattle.switch_core.specs.declared.slot.Slot.{Slot}
use Rattle.switch_core.specs.declared.slot.Slot.TheVariants as slot
use Rattle.fail_secure.specs.HealthChange.{is_alive, change_of}
use Rattle.port_model.specs.FrontEvents.{FrontEvent, front_event, front_of}
use Rattle.port_model.specs.FrontHealth.{health_at}
use Rattle.port_model.specs.Chosen.{selected_at, is_at}
use Rattle.port_model.specs.Peripherals.{moment_at, plug_history}
use Rattle.switch_core.specs.Shown.{shown_concerns}
use Rattle.port_model.specs.Shown.{keys_at, keys_concern, pointer_concern, sample_at, shown_at}
use Rattle.switch_core.specs.declared.shown.Shown.{Shown}
use Rattle.switch_core.specs.declared.shown.Shown.TheVariants as shown_as
use Rattle.port_model.specs.View.{stamped, only_if, only_at, handed, change_concerns, front_concerns, news_at, view}
use Rattle.switch_core.specs.SlotStands.{SlotStands}
use Rattle.switch_core.proofs.Hearing.{is_live-heard, one_port_lines-heard}

-- what two concerns keep, handing keeps
pub by_handing : (P : List Item → Type 0) (port tick : ℕ) (before after : Option ℕ) (taken given : Concern)
    → ((past : List Item) → P past → P (record { tick = tick; concern = taken } ∷ past))
    → ((past : List Item) → P past → P (record { tick = tick; concern = given } ∷ past))
    → (past : List Item) → P past → P (stamped tick (handed port before after taken given) past)
by_handing P port tick before after taken given leave enter past holds =
    by_both (is_at port before && not (is_at port after)) (is_at port after && not (is_at port before)) where
      by_both : (leaves enters : Bool) → P (stamped tick (only_if leaves taken ++ only_if enters given) past)
      by_both true true = enter (record { tick = tick; concern = taken } ∷ past) (leave past holds)
      by_both true false = leave past holds
      by_both false true = enter past holds
      by_both false false = holds

-- being selected or left changes no answer
pub is_live-selection : (port tick : ℕ) (before after : Option ℕ) (past : List Item)
    → is_live (stamped tick (handed port before after Leaves Selects) past) ≡ is_live past
is_live-selection port tick before after past =
    by_handing (λ v. is_live v ≡ is_live past) port tick before after Leaves Selects (λ v e. e) (λ v e. e) past refl

-- what the console shows leaves a port as it is
SlotStands-Keys : (port : Slot) (tick : ℕ) (keys : List Bool) (past : List Item) → SlotStands port past → SlotStands port (item tick (Keys keys) ∷ past)
SlotStands-Keys (slot.Dark port) tick keys past stands = stands
SlotStands-Keys (slot.Live port) tick keys past stands = LiveStands-Keys port tick keys past stands

SlotStands-Pointer : (port : Slot) (tick : ℕ) (sample : Sample) (past : List Item) → SlotStands port past → SlotStands port (item tick (Pointer sample) ∷ past)
SlotStands-Pointer (slot.Dark port) tick sample past stands = stands
SlotStands-Pointer (slot.Live port) tick sample past stands = LiveStands-Pointer port tick sample past stands

pub SlotStands-shown : (port : Slot) (number tick : ℕ) (chosen : Option ℕ) (shown : Shown) (past : List Item) → SlotStands port past
    → SlotStands port (stamped tick (only_at number chosen (shown_concerns shown)) past)
SlotStands-shown port number tick chosen shown past stands = by (is_at number chosen) shown where
  by : (own : Bool) (shown : Shown) → SlotStands port (stamped tick (cond own (shown_concerns shown) []) past)
  by false shown = stands
  by true shown_as.Nothing = stands
  by true (shown_as.Keys keys) = SlotStands-Keys port tick keys past stands
  by true (shown_as.Pointer sample) = SlotStands-Pointer port tick sample past stands

-- what keys and a sample keep, what the console shows keeps
by_showing : (P : List Item → Type 0) (port tick : ℕ) (chosen : Option ℕ) (keys : Option (List Bool)) (sample : Option Sample)
    → ((shown : List Bool) (past : List Item) → P past → P (item tick (Keys shown) ∷ past))
    → ((shown : Sample) (past : List Item) → P past → P (item tick (Pointer shown) ∷ past))
    → (past : List Item) → P past → P (stamped tick (only_at port chosen (keys_concern keys ++ pointer_concern sample)) past)
by_showing P port tick chosen keys sample with_keys with_sample past holds = by (is_at port chosen) keys sample where
  by : (own : Bool) (keys : Option (List Bool)) (sample : Option Sample) → P (stamped tick (cond own (keys_concern keys ++ pointer_concern sample) []) past)
  by false keys sample = holds
  by true None None = holds
  by true (Some shown) None = with_keys shown past holds
  by true None (Some shown) = with_sample shown past holds
  by true (Some first) (Some second) = with_sample second _ (with_keys first past holds)

is_live-shown : (rules : RuleSet) (port : ℕ) (event : FrontEvent) (front : List FrontEvent) (past : List Item)
    → is_live (stamped event.tick (only_at port (selected_at rules front) (shown_at rules event front)) past) ≡ is_live past
is_live-shown rules port event front past =
    by_showing (λ v. is_live v ≡ is_live past) port event.tick (selected_at rules front)
    (keys_at rules (moment_at Keyboard event front) (plug_history Keyboard front)) (sample_at rules (moment_at Mouse event front) (plug_history Mouse front))
    (λ keys v e. e) (λ sample v e. e) past refl

-- the ports are live where the health is alive
is_live-act : (port tick other : ℕ) (side : Side) (act : Act) (past : List Item)
    → is_live (stamped tick (only_if (nat_eq other port) (Own side act)) past) ≡ is_live past
is_live-act port tick other side act past = by_same (nat_eq other port) where
  by_same : (same : Bool) → is_live (stamped tick (only_if same (Own side act)) past) ≡ is_live past
  by_same true = refl
  by_same false = refl

is_live-change : (tick : ℕ) (before after : Health) (past : List Item) → is_live past ≡ is_alive before
    → is_live (stamped tick (change_concerns (change_of before after)) past) ≡ is_alive after
is_live-change tick (Testing passed) (Testing more) past is = is
is_live-change tick (Testing passed) Alive past is = refl
is_live-change tick (Testing passed) Dark past is = refl
is_live-change tick Alive (Testing more) past is = refl
is_live-change tick Alive Alive past is = is
is_live-change tick Alive Dark past is = refl
is_live-change tick Dark (Testing more) past is = is
is_live-change tick Dark Alive past is = refl
is_live-change tick Dark Dark past is = is

is_live-front : (rules : RuleSet) (port tick : ℕ) (doing : Doing) (front : List FrontEvent) (past : List Item) → is_live past ≡ is_alive (health_at front)
    → is_live (stamped tick (front_concerns rules port tick doing front) past) ≡ is_alive (health_at (front_event tick doing ∷ front))
is_live-front rules port tick TimePasses front past is =
    is_live-selection port tick (selected_at rules front) (selected_at rules (front_event tick TimePasses ∷ front)) past ∙ is
is_live-front rules port tick (PanelMoves move) front past is =
    is_live-change tick (health_at front) (health_at (front_event tick (PanelMoves move) ∷ front)) past is
is_live-front rules port tick (Attaches plug) front past is = is
is_live-front rules port tick (Detaches plug) front past is = is_live-shown rules port (front_event tick (Detaches plug)) front past ∙ is
is_live-front rules port tick (Replies plug life number status bytes) front past is = is
is_live-front rules port tick (Reports plug interface bytes) front past is = is_live-shown rules port (front_event tick (Reports plug interface bytes)) front past ∙ is
is_live-front rules port tick (Finishes life number status bytes) front past is = is

pub is_live-view : (rules : RuleSet) (port : ℕ) (past : List Seen) → is_live (view rules port past) ≡ is_alive (health_at (front_of past))
unfolding health_after
is_live-view rules port [] = refl
is_live-view rules port (event ∷ past) = by_happening (is_live-view rules port past) event.tick event.happening where
  by_happening : is_live (view rules port past) ≡ is_alive (health_at (front_of past)) → (tick : ℕ) (happening : Happening)
      → is_live (view rules port (record { tick = tick; happening = happening } ∷ past)) ≡ is_alive (health_at (front_of (record { tick = tick; happening = happening } ∷ past)))
  by_happening before tick (PortActs other side act) = is_live-act port tick other side act (view rules port past) ∙ before
  by_happening before tick (AtFront doing) =
      is_live-heard tick (news_at rules port tick (AtFront doing) (front_of past)) (stamped tick (front_concerns rules port tick doing (front_of past)) (view rules port past))
      ∙ is_live-front rules port tick doing (front_of past) (view rules port past) before

-- ports wake where the switch was not alive
pub wakes_from : (before after : Health) → change.Wakes ≡ change_of before after → is_alive before ≡ false
wakes_from (Testing passed) after is = refl
wakes_from Dark after is = refl
wakes_from Alive (Testing more) is = absurd (cc)
wakes_from Alive Alive is = absurd (cc)
wakes_from Alive Dark is = absurd (cc)

-- what each concern keeps of which a port is told by the front, but for the token
pub record Keeps (P : List Item → Type 0) : Type 0 where
  pub wakes : (tick : ℕ) (past : List Item) → P past → P (item tick Wakes ∷ past)
  pub darkens : (tick : ℕ) (past : List Item) → P past → P (item tick Darkens ∷ past)
  pub selects : (tick : ℕ) (past : List Item) → P past → P (item tick Selects ∷ past)
  pub leaves : (tick : ℕ) (past : List Item) → P past → P (item tick Leaves ∷ past)
  pub keys : (tick : ℕ) (shown : List Bool) (past : List Item) → P past → P (item tick (Keys shown) ∷ past)
  pub pointer : (tick : ℕ) (shown : Sample) (past : List Item) → P past → P (item tick (Pointer shown) ∷ past)

by_change : (P : List Item → Type 0) → Keeps P → (tick : ℕ) (to : HealthChange) (past : List Item) → P past → P (stamped tick (change_concerns to) past)
by_change P keeps tick change.Stays past holds = holds
by_change P keeps tick change.Wakes past holds = keeps.wakes tick past holds
by_change P keeps tick change.Darkens past holds = keeps.darkens tick past holds

by_shown : (P : List Item → Type 0) → Keeps P → (rules : RuleSet) (port : ℕ) (event : FrontEvent) (front : List FrontEvent) (past : List Item) → P past
    → P (stamped event.tick (only_at port (selected_at rules front) (shown_at rules event front)) past)
by_shown P keeps rules port event front past holds =
    by_showing P port event.tick (selected_at rules front)
    (keys_at rules (moment_at Keyboard event front) (plug_history Keyboard front)) (sample_at rules (moment_at Mouse event front) (plug_history Mouse front))
    (keeps.keys event.tick) (keeps.pointer event.tick) past holds

pub by_front : (P : List Item → Type 0) → Keeps P → (rules : RuleSet) (port tick : ℕ) (doing : Doing) (front : List FrontEvent) (past : List Item) → P past
    → P (stamped tick (front_concerns rules port tick doing front) past)
by_front P keeps rules port tick TimePasses front past holds =
    by_handing P port tick (selected_at rules front) (selected_at rules (front_event tick TimePasses ∷ front)) Leaves Selects (keeps.leaves tick) (keeps.selects tick) past holds
by_front P keeps rules port tick (PanelMoves move) front past holds =
    by_change P keeps tick (change_of (health_at front) (health_at (front_event tick (PanelMoves move) ∷ front))) past holds
by_front P keeps rules port tick (Attaches plug) front past holds = holds
by_front P keeps rules port tick (Detaches plug) front past holds = by_shown P keeps rules port (front_event tick (Detaches plug)) front past holds
by_front P keeps rules port tick (Replies plug life number status bytes) front past holds = holds
by_front P keeps rules port tick (Reports plug interface bytes) front past holds = by_shown P keeps rules port (front_event tick (Reports plug interface bytes)) front past holds
by_front P keeps rules port tick (Finishes life number status bytes) front past holds = holds

-- what happens at the front adds no line to any port
one_port_lines-doing : (rules : RuleSet) (port tick : ℕ) (doing : Doing) (front : List FrontEvent) (past : List Item)
    → one_port_lines (stamped tick (front_concerns rules port tick doing front) past) ≡ one_port_lines past
one_port_lines-doing rules port tick doing front past =
    by_front (λ v. one_port_lines v ≡ one_port_lines past)
    (record { wakes = λ at v e. e; darkens = λ at v e. e; selects = λ at v e. e; leaves = λ at v e. e; keys = λ at shown v e. e; pointer = λ at shown v e. e })
    rules port tick doing front past refl

pub one_port_lines-front : (rules : RuleSet) (port tick : ℕ) (doing : Doing) (past : List Seen)
    → one_port_lines (view rules port (record { tick = tick; happening = AtFront doing } ∷ past)) ≡ one_port_lines (view rules port past)
one_port_lines-front rules port tick doing past =
    one_port_lines-heard tick (news_at rules port tick (AtFront doing) (front_of past)) (stamped tick (front_concerns rules port tick doing (front_of past)) (view rules port past))
    ∙ one_port_lines-doing rules port tick doing (front_of past) (view rules port past)
