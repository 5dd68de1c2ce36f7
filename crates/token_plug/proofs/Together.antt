-- The slot and the enumeration agree after whatever happened to the token.
use Rattle.std.proofs.Common.{◌≡◌, ℕ, ◌+◌, Bool, true, false, not, ◌&&◌, List, [], ◌∷◌, length, Option, Some, None, refl, sym, ap, subst, ◌∙◌}
use Rattle.std.specs.Prelude.{◌==◌}
use Rattle.std.specs.Option.{option_map}
use Rattle.psd_base.specs.History.{or_else}
use Rattle.psd_base.specs.declared.console.Plug.TheVariants.{Token}
use Rattle.peripheral_filter.specs.declared.rule.RuleSet.{RuleSet}
use Rattle.console_host.specs.declared.next.Next.TheVariants as next
use Rattle.console_host.specs.declared.rules.TheConstants.{SILENT}
use Rattle.console_host.specs.Plan.{Plan, Asks, IsReady, Refuses}
use Rattle.console_host.specs.Replies.{Reply}
use Rattle.console_host.specs.Lives.{Life, Standing, plan_of, asks, is_ready, is_waiting, counts, with_reply, after_reply, after_tick, is_silent_in, next_in, next_by, notes_in, is_ready_in, standing}
use Rattle.auth_router.specs.SlotCalls.{SlotCall, Attach, Clock, Check}
use Rattle.auth_router.specs.Slot.{last_off, powers, times_on, is_rested}
use Rattle.auth_router.specs.declared.slot.SlotState.{SlotState}
use Rattle.auth_router.specs.declared.slot.SlotState.TheVariants as state
use Rattle.token_plug.specs.Moments.{Moment, Attached, Detached, Replied, Ticked, Woke, Darkened, Left, Selected}
use Rattle.token_plug.specs.Lives.{Told, waits_in, life_of, is_alive, is_attached, selected_at, powered, powered_if, left, judged, replied, waited, chosen, told_at, slot_calls, life_at, is_checked}
use Rattle.token_plug.proofs.SlotSteps.{StandsAs, none-told, checks, routes, bars, detaches, left_as, leaves, attaches, clocks}

-- What of a life goes with how the slot stands: none is there without power, but for what a refused token leaves; an order is
-- outstanding while it is being asked; once it is checked it is ready, and it is routed to the selected port.
abbrev pub Agree : RuleSet → SlotState → Option Life → Option ℕ → Type 0
Agree rules state.Absent life selected = life ≡ None
Agree rules (state.Off since) life selected = life ≡ None
Agree rules state.Asking life selected = waits_in rules life ≡ true
Agree rules state.Checked life selected = (is_ready_in Token rules life ≡ true) × (selected ≡ None)
Agree rules (state.Routed port) life selected = (is_ready_in Token rules life ≡ true) × (selected ≡ Some port)
Agree rules (state.Barred rule) life selected = (waits_in rules life ≡ false) × (is_ready_in Token rules life ≡ false)

pub record Together (rules : RuleSet) (slot : List SlotCall) (life : Option Life) (selected : Option ℕ) : Type 0 where
  pub now : SlotState
  pub stands : StandsAs slot now
  pub agree : Agree rules now life selected

-- lives

ready_asks : (plan : Plan) → is_ready plan ≡ true → asks plan ≡ false
ready_asks (Asks setup) ready = absurd (cc)
ready_asks IsReady ready = refl
ready_asks (Refuses rule) ready = refl

asks_ready : (plan : Plan) → asks plan ≡ true → is_ready plan ≡ false
asks_ready (Asks setup) asked = refl
asks_ready IsReady asked = absurd (cc)
asks_ready (Refuses rule) asked = absurd (cc)

and_false : (first second : Bool) → second ≡ false → (first && second) ≡ false
and_false true second is = is
and_false false second is = refl

and_second : (first second : Bool) → (first && second) ≡ true → second ≡ true
and_second true second both = both
and_second false second both = absurd (cc)

and_first : (first second : Bool) → (first && second) ≡ true → first ≡ true
and_first true second both = refl
and_first false second both = absurd (cc)

ready-waits : (rules : RuleSet) (life : Option Life) → is_ready_in Token rules life ≡ true → waits_in rules life ≡ false
ready-waits rules None ready = refl
ready-waits rules (Some life) ready = and_false (not life.is_given_up) _ (ready_asks (plan_of Token rules life) ready)

pub waits-ready : (rules : RuleSet) (life : Option Life) → waits_in rules life ≡ true → is_ready_in Token rules life ≡ false
waits-ready rules None waits = absurd (cc)
waits-ready rules (Some life) waits = asks_ready (plan_of Token rules life) (and_second (not life.is_given_up) _ waits)

-- whether the slot is asking
abbrev pub is_asking : SlotState → Bool
is_asking state.Asking = true
is_asking state.Absent = false
is_asking (state.Off since) = false
is_asking state.Checked = false
is_asking (state.Routed port) = false
is_asking (state.Barred rule) = false

pub waits-asking : (rules : RuleSet) (now : SlotState) (life : Option Life) (selected : Option ℕ) → Agree rules now life selected
    → waits_in rules life ≡ is_asking now
waits-asking rules state.Absent life selected agree = ap (waits_in rules) agree
waits-asking rules (state.Off since) life selected agree = ap (waits_in rules) agree
waits-asking rules state.Asking life selected agree = agree
waits-asking rules state.Checked life selected agree = ready-waits rules life agree.0
waits-asking rules (state.Routed port) life selected agree = ready-waits rules life agree.0
waits-asking rules (state.Barred rule) life selected agree = agree.0

-- a token of which no order is outstanding

counts-false : (rules : RuleSet) (life number : ℕ) (present : Life) → is_waiting Token rules present ≡ false → counts Token rules life number present ≡ false
counts-false rules life number present waits = and_false (present.number == life && length present.replies + 1 == number) _ waits

pub next-ignored : (rules : RuleSet) (life number tick : ℕ) (reply : Reply) (now : Option Life) → waits_in rules now ≡ false
    → next_in Token rules life number tick reply now ≡ next.Ignored
next-ignored rules life number tick reply None waits = refl
next-ignored rules life number tick reply (Some present) waits = rw (counts-false rules life number present waits) refl

pub notes-ignored : (rules : RuleSet) (life number : ℕ) (reply : Reply) (now : Option Life) → waits_in rules now ≡ false
    → notes_in Token rules life number reply now ≡ []
notes-ignored rules life number reply None waits = refl
notes-ignored rules life number reply (Some present) waits = rw (counts-false rules life number present waits) refl

pub standing-ignored : (rules : RuleSet) (life number tick : ℕ) (reply : Reply) (before : Standing) (now : Option Life) → waits_in rules now ≡ false
    → after_reply Token rules life number tick reply before now ≡ before
standing-ignored rules life number tick reply before None waits = refl
standing-ignored rules life number tick reply before (Some present) waits = rw (counts-false rules life number present waits) refl

pub silent-ignored : (rules : RuleSet) (tick : ℕ) (now : Option Life) → waits_in rules now ≡ false → is_silent_in Token rules tick now ≡ false
silent-ignored rules tick None waits = refl
silent-ignored rules tick (Some life) waits = rw waits refl

pub tick-ignored : (rules : RuleSet) (tick : ℕ) (now : Option Life) → is_silent_in Token rules tick now ≡ false
    → option_map (after_tick Token rules tick) now ≡ now
tick-ignored rules tick None quiet = refl
tick-ignored rules tick (Some life) quiet = rw quiet refl

-- the moments

abbrev TogetherAfter : RuleSet → Told → Option ℕ → Type 0
TogetherAfter rules told selected = Together rules told.slot (life_of rules told) selected

same_agree : (rules : RuleSet) (now : SlotState) (life : Option Life) (selected : Option ℕ) (port : ℕ) → Agree rules now life selected
    → is_checked now ≡ false → selected ≡ None → Agree rules now life (Some port)
same_agree rules state.Absent life selected port agree other none = agree
same_agree rules (state.Off since) life selected port agree other none = agree
same_agree rules state.Asking life selected port agree other none = agree
same_agree rules state.Checked life selected port agree other none = absurd (cc)
same_agree rules (state.Routed before) life selected port agree other none = absurd (let never : Some before ≡ None = sym agree.1 ∙ none in cc)
same_agree rules (state.Barred rule) life selected port agree other none = agree

arrived : (rules : RuleSet) (tick : ℕ) (told : Told) (selected : Option ℕ) → TogetherAfter rules told selected → TogetherAfter rules (powered tick Attach told) selected
arrived rules tick told selected g = by_state g.now g.stands g.agree where
  by_never : (never : Bool) → (times_on (powers told.slot) == 0) ≡ never → StandsAs told.slot state.Absent → life_of rules told ≡ None
      → TogetherAfter rules (powered tick Attach told) selected
  by_never true first stands none =
      let after = attaches told.slot state.Absent true first stands in
      record { now = state.Asking; stands = after.stands; agree = rw after.comes refl }
  by_never false first stands none =
      let after = attaches told.slot state.Absent false first stands in
      record { now = state.Off (last_off (powers told.slot)); stands = after.stands; agree = rw after.comes none }

  by_state : (now : SlotState) → StandsAs told.slot now → Agree rules now (life_of rules told) selected → TogetherAfter rules (powered tick Attach told) selected
  by_state state.Absent stands agree = by_never (times_on (powers told.slot) == 0) refl stands agree
  by_state (state.Off since) stands agree =
      let after = attaches told.slot (state.Off since) _ refl stands in record { now = state.Off since; stands = after.stands; agree = rw after.comes agree }
  by_state state.Asking stands agree =
      let after = attaches told.slot state.Asking _ refl stands in record { now = state.Asking; stands = after.stands; agree = rw after.comes agree }
  by_state state.Checked stands agree =
      let after = attaches told.slot state.Checked _ refl stands in record { now = state.Checked; stands = after.stands; agree = rw after.comes agree }
  by_state (state.Routed port) stands agree =
      let after = attaches told.slot (state.Routed port) _ refl stands in record { now = state.Routed port; stands = after.stands; agree = rw after.comes agree }
  by_state (state.Barred rule) stands agree =
      let after = attaches told.slot (state.Barred rule) _ refl stands in record { now = state.Barred rule; stands = after.stands; agree = rw after.comes agree }

rested : (rules : RuleSet) (tick : ℕ) (told : Told) (selected : Option ℕ) → TogetherAfter rules told selected → TogetherAfter rules (powered tick (Clock tick) told) selected
rested rules tick told selected g = by_state g.now g.stands g.agree where
  by_rested : (since : Option ℕ) (is : Bool) → is_rested since tick ≡ is → StandsAs told.slot (state.Off since) → life_of rules told ≡ None
      → TogetherAfter rules (powered tick (Clock tick) told) selected
  by_rested since true is stands none =
      let after = clocks tick told.slot (state.Off since) stands in
      record { now = state.Asking; stands = rw is at after.stands; agree = rw (after.comes, is) refl }
  by_rested since false is stands none =
      let after = clocks tick told.slot (state.Off since) stands in
      record { now = state.Off since; stands = rw is at after.stands; agree = rw (after.comes, is) none }

  by_state : (now : SlotState) → StandsAs told.slot now → Agree rules now (life_of rules told) selected → TogetherAfter rules (powered tick (Clock tick) told) selected
  by_state state.Absent stands agree =
      let after = clocks tick told.slot state.Absent stands in record { now = state.Absent; stands = after.stands; agree = rw after.comes agree }
  by_state (state.Off since) stands agree = by_rested since (is_rested since tick) refl stands agree
  by_state state.Asking stands agree =
      let after = clocks tick told.slot state.Asking stands in record { now = state.Asking; stands = after.stands; agree = rw after.comes agree }
  by_state state.Checked stands agree =
      let after = clocks tick told.slot state.Checked stands in record { now = state.Checked; stands = after.stands; agree = rw after.comes agree }
  by_state (state.Routed port) stands agree =
      let after = clocks tick told.slot (state.Routed port) stands in record { now = state.Routed port; stands = after.stands; agree = rw after.comes agree }
  by_state (state.Barred rule) stands agree =
      let after = clocks tick told.slot (state.Barred rule) stands in record { now = state.Barred rule; stands = after.stands; agree = rw after.comes agree }

departed : (rules : RuleSet) (tick : ℕ) (told : Told) (selected : Option ℕ) → TogetherAfter rules told selected → TogetherAfter rules (left tick told) None
departed rules tick told selected g = record { now = left_as tick g.now; stands = leaves tick told.slot g.now g.stands; agree = by_state g.now } where
  by_state : (now : SlotState) → Agree rules (left_as tick now) None None
  by_state state.Absent = refl
  by_state (state.Off since) = refl
  by_state state.Asking = refl
  by_state state.Checked = refl
  by_state (state.Routed port) = refl
  by_state (state.Barred rule) = (refl, refl)

given_up : (rules : RuleSet) (tick : ℕ) (now : Option Life) → is_silent_in Token rules tick now ≡ true → waits_in rules now ≡ true
    → (waits_in rules (option_map (after_tick Token rules tick) now) ≡ false) × (is_ready_in Token rules (option_map (after_tick Token rules tick) now) ≡ false)
given_up rules tick None silent waits = absurd (cc)
given_up rules tick (Some life) silent waits = rw silent (refl, asks_ready (plan_of Token rules life) (and_second (not life.is_given_up) _ waits))

pub silent-waits : (rules : RuleSet) (tick : ℕ) (now : Option Life) → is_silent_in Token rules tick now ≡ true → waits_in rules now ≡ true
silent-waits rules tick None silent = absurd (cc)
silent-waits rules tick (Some life) silent = and_first (is_waiting Token rules life) _ silent

pub judged-silent : (rules : RuleSet) (tick : ℕ) (told : Told) (selected : Option ℕ) → TogetherAfter rules told selected → TogetherAfter rules (waited rules tick told) selected
judged-silent rules tick told selected g = by_silent (is_silent_in Token rules tick (life_of rules told)) refl where
  asking : (now : SlotState) → StandsAs told.slot now → Agree rules now (life_of rules told) selected → waits_in rules (life_of rules told) ≡ true → StandsAs told.slot state.Asking
  asking state.Asking stands agree waits = stands
  asking state.Absent stands agree waits = absurd (let never : true ≡ false = sym waits ∙ waits-asking rules state.Absent (life_of rules told) selected agree in cc)
  asking (state.Off since) stands agree waits = absurd (let never : true ≡ false = sym waits ∙ waits-asking rules (state.Off since) (life_of rules told) selected agree in cc)
  asking state.Checked stands agree waits = absurd (let never : true ≡ false = sym waits ∙ waits-asking rules state.Checked (life_of rules told) selected agree in cc)
  asking (state.Routed port) stands agree waits = absurd (let never : true ≡ false = sym waits ∙ waits-asking rules (state.Routed port) (life_of rules told) selected agree in cc)
  asking (state.Barred rule) stands agree waits = absurd (let never : true ≡ false = sym waits ∙ waits-asking rules (state.Barred rule) (life_of rules told) selected agree in cc)

  by_silent : (silent : Bool) → is_silent_in Token rules tick (life_of rules told) ≡ silent → TogetherAfter rules (waited rules tick told) selected
  by_silent true silent =
      let waits = silent-waits rules tick (life_of rules told) silent in
      record {
        now = state.Barred SILENT;
        stands = rw silent (bars tick SILENT told.slot (asking g.now g.stands g.agree waits));
        agree = given_up rules tick (life_of rules told) silent waits;
      }
  by_silent false quiet = record {
    now = g.now;
    stands = rw quiet g.stands;
    agree = subst (λ (life : Option Life). Agree rules g.now life selected) (sym (tick-ignored rules tick (life_of rules told) quiet)) g.agree;
  }

-- What a reply to the outstanding order comes to. `before` are the enumeration's calls, and the present life is in them.
by_plan : (rules : RuleSet) (tick : ℕ) (selected : Option ℕ) (slot : List SlotCall) (reply : Reply) (present : Life) (plan : Plan)
    → plan_of Token rules (with_reply tick reply present) ≡ plan → present.is_given_up ≡ false → StandsAs slot state.Asking
    → Together rules (judged tick selected (next_by Token (with_reply tick reply present) plan) slot) (Some (with_reply tick reply present)) selected
by_plan rules tick selected slot reply present (Asks setup) plan kept stands =
    record { now = state.Asking; stands = stands; agree = rw (kept, plan) refl }
by_plan rules tick None slot reply present IsReady plan kept stands =
    record { now = state.Checked; stands = checks slot stands; agree = (rw plan refl, refl) }
by_plan rules tick (Some port) slot reply present IsReady plan kept stands =
    record { now = state.Routed port; stands = routes port (Check ∷ slot) (checks slot stands); agree = (rw plan refl, refl) }
by_plan rules tick selected slot reply present (Refuses rule) plan kept stands =
    record { now = state.Barred rule; stands = bars tick rule slot stands; agree = (rw plan (and_false (not present.is_given_up) false refl), rw plan refl) }

not_given_up : (given_up waits : Bool) → (not given_up && waits) ≡ true → given_up ≡ false
not_given_up false waits both = refl
not_given_up true waits both = absurd (cc)

answered : (rules : RuleSet) (life number tick : ℕ) (reply : Reply) (selected : Option ℕ) (slot : List SlotCall) (before : Standing) (now : Option Life)
    → before.life ≡ now → (state_is : SlotState) → StandsAs slot state_is → Agree rules state_is now selected
    → Together rules (judged tick selected (next_in Token rules life number tick reply now) slot) (after_reply Token rules life number tick reply before now).life selected
answered rules life number tick reply selected slot before None is state_is stands agree = rw is (record { now = state_is; stands = stands; agree = agree })
answered rules life number tick reply selected slot before (Some present) is state_is stands agree = by_counts (counts Token rules life number present) refl where
  asking : (s : SlotState) → StandsAs slot s → Agree rules s (Some present) selected → is_waiting Token rules present ≡ true → StandsAs slot state.Asking
  asking state.Asking stands agree waits = stands
  asking state.Absent stands agree waits = absurd (let never : true ≡ false = sym waits ∙ waits-asking rules state.Absent (Some present) selected agree in cc)
  asking (state.Off since) stands agree waits = absurd (let never : true ≡ false = sym waits ∙ waits-asking rules (state.Off since) (Some present) selected agree in cc)
  asking state.Checked stands agree waits = absurd (let never : true ≡ false = sym waits ∙ waits-asking rules state.Checked (Some present) selected agree in cc)
  asking (state.Routed port) stands agree waits = absurd (let never : true ≡ false = sym waits ∙ waits-asking rules (state.Routed port) (Some present) selected agree in cc)
  asking (state.Barred rule) stands agree waits = absurd (let never : true ≡ false = sym waits ∙ waits-asking rules (state.Barred rule) (Some present) selected agree in cc)

  by_counts : (count : Bool) → counts Token rules life number present ≡ count
      → Together rules (judged tick selected (next_in Token rules life number tick reply (Some present)) slot) (after_reply Token rules life number tick reply before (Some present)).life selected
  by_counts false uncounted = rw (uncounted, is) (record { now = state_is; stands = stands; agree = agree })
  by_counts true counted =
      let waits : is_waiting Token rules present ≡ true = and_second (present.number == life && length present.replies + 1 == number) (is_waiting Token rules present) counted in
      rw counted (by_plan rules tick selected slot reply present (plan_of Token rules (with_reply tick reply present)) refl (not_given_up present.is_given_up _ waits) (asking state_is stands agree waits))

after-replied : (rules : RuleSet) (life number tick : ℕ) (reply : Reply) (told : Told) (selected : Option ℕ) → TogetherAfter rules told selected
    → TogetherAfter rules (replied rules life number tick reply selected told) selected
after-replied rules life number tick reply told selected g =
    answered rules life number tick reply selected told.slot (standing Token rules told.host) (life_of rules told) refl g.now g.stands g.agree

after-chosen : (rules : RuleSet) (port : ℕ) (told : Told) (selected : Option ℕ) → TogetherAfter rules told selected
    → TogetherAfter rules (chosen selected port told) (or_else selected (Some port))
after-chosen rules port told (Some before) g = g
after-chosen rules port told None g = by_state g.now g.stands g.agree where
  apart : (now : SlotState) → StandsAs told.slot now → Agree rules now (life_of rules told) None → is_checked now ≡ false
      → TogetherAfter rules (chosen None port told) (Some port)
  apart now stands agree other = rw (stands.state_is, other) (record {
    now = now;
    stands = stands;
    agree = same_agree rules now (life_of rules told) None port agree other refl;
  })

  by_state : (now : SlotState) → StandsAs told.slot now → Agree rules now (life_of rules told) None → TogetherAfter rules (chosen None port told) (Some port)
  by_state state.Checked stands agree = rw stands.state_is (record {
    now = state.Routed port;
    stands = routes port told.slot stands;
    agree = (agree.0, refl);
  })
  by_state state.Absent stands agree = apart state.Absent stands agree refl
  by_state (state.Off since) stands agree = apart (state.Off since) stands agree refl
  by_state state.Asking stands agree = apart state.Asking stands agree refl
  by_state (state.Routed before) stands agree = apart (state.Routed before) stands agree refl
  by_state (state.Barred rule) stands agree = apart (state.Barred rule) stands agree refl

arrived-if : (rules : RuleSet) (may : Bool) (tick : ℕ) (told : Told) (selected : Option ℕ) → TogetherAfter rules told selected
    → TogetherAfter rules (powered_if may tick Attach told) selected
arrived-if rules true tick told selected g = arrived rules tick told selected g
arrived-if rules false tick told selected g = g

rested-if : (rules : RuleSet) (may : Bool) (tick : ℕ) (told : Told) (selected : Option ℕ) → TogetherAfter rules told selected
    → TogetherAfter rules (powered_if may tick (Clock tick) told) selected
rested-if rules true tick told selected g = rested rules tick told selected g
rested-if rules false tick told selected g = g

pub together : (rules : RuleSet) (past : List Moment) → Together rules (slot_calls rules past) (life_at rules past) (selected_at past)
together rules [] = record { now = state.Absent; stands = none-told; agree = refl }
together rules (Attached tick ∷ past) = arrived-if rules (is_alive past) tick (told_at rules past) (selected_at past) (together rules past)
together rules (Woke tick ∷ past) = arrived-if rules (is_attached past) tick (told_at rules past) (selected_at past) (together rules past)
together rules (Detached tick ∷ past) =
    let before = together rules past in
    record { now = state.Absent; stands = detaches tick (slot_calls rules past) before.now before.stands; agree = refl }
together rules (Darkened tick ∷ past) = departed rules tick (told_at rules past) (selected_at past) (together rules past)
together rules (Left tick ∷ past) = departed rules tick (told_at rules past) (selected_at past) (together rules past)
together rules (Replied life number tick reply ∷ past) = after-replied rules life number tick reply (told_at rules past) (selected_at past) (together rules past)
together rules (Ticked tick ∷ past) =
    rested-if rules (is_alive past) tick (waited rules tick (told_at rules past)) (selected_at past)
    (judged-silent rules tick (told_at rules past) (selected_at past) (together rules past))
together rules (Selected port ∷ past) = after-chosen rules port (told_at rules past) (selected_at past) (together rules past)
