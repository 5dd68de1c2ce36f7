-- What the reports of a selection show is what the latch accepted.
use Rattle.std.proofs.Common.{◌≡◌, ℕ, zero, suc, ◌-◌, ◌≤◌, Bool, true, false, List, [], ◌∷◌, ◌++◌, length, take, drop, slice_get, Option, Some, None, refl, sym, ap, ◌∙◌, arith, length-append, if◌then◌else◌}
use Rattle.std.proofs.lemmas.Bool.{false≢true}
use Rattle.std.proofs.lemmas.List.{take-append-le, take_all}
use Rattle.input_latch.specs.declared.key_latch.KeyChange.{KeyChange}
use Rattle.input_latch.specs.KeyHistory.{KeyEntry, Shown, last_shown, delivered, changes_between, held_after, verdict_on, Offering, offered_one, offered_all, accepted, next_change}
use Rattle.input_latch.specs.Verdict.{Verdict, Taken, Refused, PassedOver, appended, nothing_offered}
use Rattle.emulated_keyboard.specs.declared.given.Given.{Given}
use Rattle.emulated_keyboard.specs.declared.given.Given.TheVariants.{Again, Due, Next, Repeated, Nothing}
use Rattle.emulated_keyboard.specs.KeyboardHistory.{KeyboardEntry, Polled, is_unread, is_due, is_idle, is_entered, given_next, given_at}
use Rattle.emulated_keyboard.specs.LatchCalls.{latch_after}
use Rattle.emulated_keyboard.proofs.HostReadingLaws.{next_after}
use Rattle.emulated_keyboard.specs.Delivery.{Moment, Showed, Selected, Left, BusReset, SetUp, ToggleRestarted, Asked, Read, Sides, both, after, sides_of, ShowsAccepted, AllShown}

-- an offering keeps what was accepted before, and adds at the end
pub record Keeps (given : ℕ) (before now : List KeyChange) : Type 0 where
  pub same : take given now ≡ take given before
  pub within : given ≤ length now

keeps_verdict : (verdict : Verdict) (given : ℕ) (changes : List KeyChange) (change : KeyChange) → given ≤ length changes → Keeps given changes (appended verdict change changes)
keeps_verdict Taken given changes change within = record { same = take-append-le given changes (change ∷ []) within; within = omega (arith, length-append changes (change ∷ [])) }
keeps_verdict Refused given changes change within = record { same = refl; within = within }
keeps_verdict PassedOver given changes change within = record { same = refl; within = within }

keeps_all : (changes : List KeyChange) (given : ℕ) (offering : Offering) → given ≤ length offering.accepted → Keeps given offering.accepted (offered_all given offering changes).accepted
unfolding offered_all
keeps_all [] given offering within = record { same = refl; within = within }
keeps_all (change ∷ changes) given offering within =
    let one = keeps_verdict (verdict_on (length offering.accepted - given) (held_after offering.accepted) change) given offering.accepted change within in
    let rest = keeps_all changes given (offered_one given offering change) one.within in
    record { same = rest.same ∙ one.same; within = rest.within }

pub keeps_shown : (keys : List Bool) (latch : List KeyEntry) → delivered latch ≤ length (accepted latch) → Keeps (delivered latch) (accepted latch) (accepted (Shown keys ∷ latch))
unfolding accepted
keeps_shown keys latch within = keeps_all (changes_between (last_shown latch) keys) (delivered latch) (record { accepted = accepted latch; counts = nothing_offered }) within

pub none_left : (changes : List KeyChange) (given : ℕ) → slice_get (drop given changes) 0 ≡ None → length changes ≤ given
none_left [] given is = omega arith
none_left (first ∷ changes) zero is = absurd (cc)
none_left (first ∷ changes) (suc given) is = omega (arith, none_left changes given is)

pub nothing_at_none : (unread due : Bool) (next : Option KeyChange) (tick : ℕ) (past : List KeyboardEntry)
    → (if unread then Again else if due then Due else given_next next tick past) ≡ Nothing → next ≡ None
nothing_at_none true due next tick past is = absurd (cc)
nothing_at_none false true next tick past is = absurd (cc)
nothing_at_none false false None tick past is = refl
nothing_at_none false false (Some change) tick past is = absurd (cc)

-- a named change is the latch's next one
pub next_named : (unread due : Bool) (next : Option KeyChange) (tick : ℕ) (past : List KeyboardEntry) (change : KeyChange)
    → (if unread then Again else if due then Due else given_next next tick past) ≡ Next change → next ≡ Some change
next_named true due next tick past change is = absurd (cc)
next_named false true next tick past change is = absurd (cc)
next_named false false None tick past change is = absurd (by (is_idle tick past) is) where
  by : (b : Bool) → (if b then Repeated else Nothing) ≡ Next change → ⊥
  by true is = absurd (cc)
  by false is = absurd (cc)
next_named false false (Some first) tick past change is = cc

module _ (sides : Sides) (law : ShowsAccepted sides) where
  pub polled : (given : Given) (tick : ℕ) (acked : Bool) → is_entered sides.keyboard ≡ true → ((change : KeyChange) → given ≡ Next change → next_change sides.latch ≡ Some change)
      → ShowsAccepted (both (latch_after given sides.latch) (Polled tick given acked ∷ sides.keyboard))
  unfolding accepted
  polled Again tick acked entered named = record { shown_first = law.shown_first; none_apart = λ out. absurd (false≢true (sym out ∙ entered)); within = law.within }
  polled Due tick acked entered named = record { shown_first = law.shown_first; none_apart = λ out. absurd (false≢true (sym out ∙ entered)); within = law.within }
  polled (Next change) tick acked entered named =
      let next = next_after (accepted sides.latch) (delivered sides.latch) change (named change refl) in
      record {
        shown_first = λ e. ap (λ (changes : List KeyChange). changes ++ change ∷ []) (law.shown_first e) ∙ sym next.0;
        none_apart = λ out. absurd (false≢true (sym out ∙ entered));
        within = next.1;
      }
  polled Repeated tick acked entered named = record { shown_first = law.shown_first; none_apart = λ out. absurd (false≢true (sym out ∙ entered)); within = law.within }
  polled Nothing tick acked entered named = record { shown_first = law.shown_first; none_apart = λ out. absurd (false≢true (sym out ∙ entered)); within = law.within }

  -- while the port isn't selected, nothing is accepted
  pub none_given : is_entered sides.keyboard ≡ false → delivered sides.latch ≡ 0
  none_given out = omega (arith, law.within, ap (λ (changes : List KeyChange). length changes) (law.none_apart out))

  moved : (moment : Moment) (selected : Bool) → is_entered sides.keyboard ≡ selected → ShowsAccepted (after moment selected sides)
  unfolding accepted
  moved (Showed keys) true is =
      let keeps = keeps_shown keys sides.latch law.within in
      record { shown_first = λ e. law.shown_first e ∙ sym keeps.same; none_apart = λ out. absurd (false≢true (sym out ∙ is)); within = keeps.within }
  moved (Showed keys) false is = law
  moved (Selected tick) true is = law
  moved (Selected tick) false is = record {
    shown_first = λ _. rw (law.none_apart is, none_given is) refl;
    none_apart = λ out. absurd (false≢true (sym out));
    within = law.within;
  }
  moved Left true is = record { shown_first = λ e. absurd (false≢true e); none_apart = λ _. refl; within = omega arith }
  moved Left false is = law
  moved (BusReset tick) true is = record { shown_first = λ _. refl; none_apart = λ _. refl; within = omega arith }
  moved (BusReset tick) false is = record { shown_first = λ e. absurd (false≢true (sym is ∙ e)); none_apart = law.none_apart; within = law.within }
  moved SetUp true is = record { shown_first = λ _. refl; none_apart = λ _. refl; within = omega arith }
  moved SetUp false is = record { shown_first = λ e. absurd (false≢true (sym is ∙ e)); none_apart = law.none_apart; within = law.within }
  moved ToggleRestarted selected is = record { shown_first = law.shown_first; none_apart = law.none_apart; within = law.within }
  moved (Asked tick request bytes) selected is = record { shown_first = law.shown_first; none_apart = law.none_apart; within = law.within }
  moved (Read tick acked) true is =
      polled (given_at (next_change sides.latch) tick sides.keyboard) tick acked is
      (λ change named. next_named (is_unread sides.keyboard) (is_due sides.keyboard) (next_change sides.latch) tick sides.keyboard change named)
  moved (Read tick acked) false is = record { shown_first = λ e. absurd (false≢true (sym is ∙ e)); none_apart = law.none_apart; within = law.within }

pub shows_accepted-all : (past : List Moment) → ShowsAccepted (sides_of past)
unfolding sides_of accepted
shows_accepted-all [] = record { shown_first = λ e. absurd (false≢true e); none_apart = λ _. refl; within = omega arith }
shows_accepted-all (moment ∷ past) = moved (sides_of past) (shows_accepted-all past) moment (is_entered (sides_of past).keyboard) refl

pub all_shown-all : (tick : ℕ) (past : List Moment) → AllShown tick (sides_of past)
all_shown-all tick past =
    let sides = sides_of past in
    let law = shows_accepted-all past in
    let none = nothing_at_none (is_unread (sides_of past).keyboard) (is_due (sides_of past).keyboard) (next_change (sides_of past).latch) tick (sides_of past).keyboard in
    record {
      nothing_left = none;
      all_shown = λ entered nothing. law.shown_first entered ∙ take_all (delivered (sides_of past).latch) (accepted (sides_of past).latch) (none_left (accepted (sides_of past).latch) (delivered (sides_of past).latch) (none nothing));
    }
