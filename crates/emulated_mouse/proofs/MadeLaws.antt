-- What the mouse makes of a selection is what the latch accepted.
use Rattle.std.proofs.Common.{◌≡◌, Bool, true, false, List, [], ◌∷◌, ◌++◌, length, Option, Some, None, refl, sym, ap, ◌∙◌, arith, append_assoc, if◌then◌else◌}
use Rattle.std.proofs.lemmas.Bool.{false≢true}
use Rattle.std.proofs.lemmas.List.{append-nil}
use Rattle.input_latch.specs.declared.pointer_latch.PointerChange.{PointerChange}
use Rattle.input_latch.specs.Buttons.{no_buttons}
use Rattle.input_latch.specs.PointerHistory.{delivered, held_with, held_from, held_after, accepted, next_change}
use Rattle.input_latch.proofs.PointerGiven.{keeps_sampled, next_after}
use Rattle.input_latch.proofs.PointerLatchLaws.{held_from-append}
use Rattle.emulated_mouse.specs.declared.given.Given.{Given}
use Rattle.emulated_mouse.specs.declared.given.Given.TheVariants.{Again, Due, Rest, Next, Nothing}
use Rattle.emulated_mouse.specs.declared.motion.Motion.{Motion}
use Rattle.emulated_mouse.specs.declared.motion.Piece.{Piece}
use Rattle.emulated_mouse.specs.declared.report.Report.{Report}
use Rattle.emulated_mouse.specs.Motion.{still, is_still, piece_of, left_of, pieces, pieces_of, pieces_left}
use Rattle.emulated_mouse.specs.Report.{report}
use Rattle.emulated_mouse.specs.MouseHistory.{Polled, PolledApart, begun, motion_of, rest, is_unread, is_due, is_entered, given_next}
use Rattle.emulated_mouse.specs.LatchCalls.{latch_after}
use Rattle.emulated_mouse.specs.HostReading.{reports_with, reports_from, reports_of, made}
use Rattle.emulated_mouse.specs.Delivery.{Moment, Showed, Selected, Left, BusReset, SetUp, ToggleRestarted, Asked, Read, Sides, both, given_by, after, sides_of, MakesAccepted}
use Rattle.emulated_mouse.proofs.MotionLaws.{pieces_of-first, pieces_left-first, pieces_left-none}

-- reports of changes, one list after another
pub reports_from-append : (buttons : List Bool) (changes others : List PointerChange) → reports_from buttons (changes ++ others) ≡ reports_from buttons changes ++ reports_from (held_from buttons changes) others
unfolding reports_from held_from
reports_from-append buttons [] others = refl
reports_from-append buttons (change ∷ changes) others =
    ap (λ (reports : List Report). reports_with (held_with buttons change) (pieces_of (motion_of change)) ++ reports) (reports_from-append (held_with buttons change) changes others)
    ∙ sym (append_assoc (reports_with (held_with buttons change) (pieces_of (motion_of change))) (reports_from (held_with buttons change) changes) (reports_from (held_from (held_with buttons change) changes) others))

pub reports_of-last : (changes : List PointerChange) (change : PointerChange) → reports_of (changes ++ change ∷ []) ≡ reports_of changes ++ reports_with (held_after (changes ++ change ∷ [])) (pieces_of (motion_of change))
unfolding reports_from
reports_of-last changes change =
    reports_from-append no_buttons changes (change ∷ [])
    ∙ ap (λ (reports : List Report). reports_of changes ++ reports)
    (append-nil (reports_with (held_with (held_after changes) change) (pieces_of (motion_of change)))
    ∙ ap (λ (buttons : List Bool). reports_with buttons (pieces_of (motion_of change))) (sym (held_from-append no_buttons changes change)))

-- the first report of a change, and the next one of a motion
next_made : (before : List Report) (changes : List PointerChange) (change : PointerChange) → before ≡ reports_of changes
    → (before ++ report (held_after (changes ++ change ∷ [])) (piece_of (motion_of change)) ∷ []) ++ reports_with (held_after (changes ++ change ∷ [])) (pieces_left (left_of (motion_of change))) ≡ reports_of (changes ++ change ∷ [])
next_made before changes change is =
    let buttons = held_after (changes ++ change ∷ []) in
    append_assoc before (report (held_after (changes ++ change ∷ [])) (piece_of (motion_of change)) ∷ []) (reports_with (held_after (changes ++ change ∷ [])) (pieces_left (left_of (motion_of change))))
    ∙ ap (λ (reports : List Report). reports ++ reports_with (held_after (changes ++ change ∷ [])) (piece_of (motion_of change) ∷ pieces_left (left_of (motion_of change)))) is
    ∙ ap (λ (shown : List Piece). reports_of changes ++ reports_with (held_after (changes ++ change ∷ [])) shown) (sym (pieces_of-first (motion_of change)))
    ∙ sym (reports_of-last changes change)

rest_made : (before : List Report) (buttons : List Bool) (moved : Motion) → is_still moved ≡ false
    → (before ++ report buttons (piece_of moved) ∷ []) ++ reports_with buttons (pieces_left (left_of moved)) ≡ before ++ reports_with buttons (pieces_left moved)
rest_made before buttons moved some =
    append_assoc before (report buttons (piece_of moved) ∷ []) (reports_with buttons (pieces_left (left_of moved)))
    ∙ ap (λ (shown : List Piece). before ++ reports_with buttons shown) (sym (pieces_left-first moved some))

none_left : (before : List Report) (buttons : List Bool) (moved : Motion) → is_still moved ≡ true → before ++ reports_with buttons (pieces_left moved) ≡ before
none_left before buttons moved none =
    ap (λ (shown : List Piece). before ++ reports_with buttons shown) (pieces_left-none moved none) ∙ append-nil before

-- what a case says of the latch and of what is left
record NamesNext (next : Option PointerChange) (change : PointerChange) (left : Motion) : Type 0 where
  is_next : next ≡ Some change
  none_left : is_still left ≡ true

next_named : (unread due : Bool) (next : Option PointerChange) (left : Motion) (change : PointerChange)
    → (if unread then Again else if due then Due else given_next next left) ≡ Next change → NamesNext next change left
next_named true due next left change is = absurd (cc)
next_named false true next left change is = absurd (cc)
next_named false false None left change is = absurd (by (is_still left) is) where
  by : (b : Bool) → (if b then Nothing else Rest) ≡ Next change → ⊥
  by true is = absurd (cc)
  by false is = absurd (cc)
next_named false false (Some first) left change is = by (is_still left) refl is where
  by : (b : Bool) → is_still left ≡ b → (if b then Next first else Rest) ≡ Next change → NamesNext (Some first) change left
  by true e is = record { is_next = cc; none_left = e }
  by false e is = absurd (cc)

rest_named : (unread due : Bool) (next : Option PointerChange) (left : Motion) → (if unread then Again else if due then Due else given_next next left) ≡ Rest → is_still left ≡ false
rest_named true due next left is = absurd (cc)
rest_named false true next left is = absurd (cc)
rest_named false false None left is = by (is_still left) refl is where
  by : (b : Bool) → is_still left ≡ b → (if b then Nothing else Rest) ≡ Rest → is_still left ≡ false
  by true e is = absurd (cc)
  by false e is = e
rest_named false false (Some change) left is = by (is_still left) refl is where
  by : (b : Bool) → is_still left ≡ b → (if b then Next change else Rest) ≡ Rest → is_still left ≡ false
  by true e is = absurd (cc)
  by false e is = e

pub record NothingLeft (next : Option PointerChange) (left : Motion) : Type 0 where
  pub no_next : next ≡ None
  pub none_left : is_still left ≡ true

pub nothing_named : (unread due : Bool) (next : Option PointerChange) (left : Motion) → (if unread then Again else if due then Due else given_next next left) ≡ Nothing → NothingLeft next left
nothing_named true due next left is = absurd (cc)
nothing_named false true next left is = absurd (cc)
nothing_named false false None left is = by (is_still left) refl is where
  by : (b : Bool) → is_still left ≡ b → (if b then Nothing else Rest) ≡ Nothing → NothingLeft None left
  by true e is = record { no_next = refl; none_left = e }
  by false e is = absurd (cc)
nothing_named false false (Some change) left is = absurd (by (is_still left) is) where
  by : (b : Bool) → (if b then Next change else Rest) ≡ Nothing → ⊥
  by true is = absurd (cc)
  by false is = absurd (cc)

-- while the port isn't selected, nothing of a motion is left
pub record Makes (sides : Sides) : Type 0 where
  pub law : MakesAccepted sides
  pub calm : is_entered sides.mouse ≡ false → rest sides.mouse ≡ still

module _ (sides : Sides) (so_far : Makes sides) where
  law : MakesAccepted sides
  law = so_far.law

  polled : (given : Given) (acked : Bool) → is_entered sides.mouse ≡ true
      → ((change : PointerChange) → given ≡ Next change → NamesNext (next_change sides.latch) change (rest sides.mouse))
      → (given ≡ Rest → is_still (rest sides.mouse) ≡ false)
      → MakesAccepted (both (latch_after given sides.latch) (Polled given acked ∷ sides.mouse))
  unfolding accepted
  polled Again acked entered named left = record { begun_first = law.begun_first; all_made = law.all_made; none_apart = λ out. absurd (false≢true (sym out ∙ entered)); within = law.within }
  polled Due acked entered named left = record { begun_first = law.begun_first; all_made = law.all_made; none_apart = λ out. absurd (false≢true (sym out ∙ entered)); within = law.within }
  polled Rest acked entered named left = record {
    begun_first = law.begun_first;
    all_made = λ e. rest_made (made sides.mouse) (held_after (begun sides.mouse)) (rest sides.mouse) (left refl) ∙ law.all_made e;
    none_apart = λ out. absurd (false≢true (sym out ∙ entered));
    within = law.within;
  }
  polled (Next change) acked entered named left =
      let names = named change refl in
      let next = next_after (accepted sides.latch) (delivered sides.latch) change names.is_next in
      record {
        begun_first = λ e. ap (λ (changes : List PointerChange). changes ++ change ∷ []) (law.begun_first e) ∙ sym next.0;
        all_made = λ e.
            next_made (made sides.mouse) (begun sides.mouse) change
            (sym (none_left (made sides.mouse) (held_after (begun sides.mouse)) (rest sides.mouse) names.none_left) ∙ law.all_made e);
        none_apart = λ out. absurd (false≢true (sym out ∙ entered));
        within = next.1;
      }
  polled Nothing acked entered named left = record { begun_first = law.begun_first; all_made = law.all_made; none_apart = λ out. absurd (false≢true (sym out ∙ entered)); within = law.within }

  -- while the port isn't selected, nothing is accepted
  none_given : is_entered sides.mouse ≡ false → delivered sides.latch ≡ 0
  none_given out = omega (arith, law.within, ap (λ (changes : List PointerChange). length changes) (law.none_apart out))

  none_at : (moved : Motion) → moved ≡ still → [] ++ reports_with no_buttons (pieces_left moved) ≡ []
  unfolding pieces
  none_at moved is = rw is refl

  apart_polled : (unread due : Bool) (acked : Bool) → is_entered sides.mouse ≡ false
      → Makes (both sides.latch (PolledApart (if unread then Again else if due then Due else Nothing) acked ∷ sides.mouse))
  apart_polled unread due acked out = record {
    law = record { begun_first = λ e. absurd (false≢true (sym out ∙ e)); all_made = λ e. absurd (false≢true (sym out ∙ e)); none_apart = law.none_apart; within = law.within };
    calm = λ _. by unread due ∙ so_far.calm out;
  } where
    by : (unread due : Bool) → rest (PolledApart (if unread then Again else if due then Due else Nothing) acked ∷ sides.mouse) ≡ rest sides.mouse
    by true due = refl
    by false true = refl
    by false false = refl

  moved : (moment : Moment) (selected : Bool) → is_entered sides.mouse ≡ selected → Makes (after moment selected sides)
  unfolding accepted reports_from held_from pieces
  moved (Showed sample) true is =
      let keeps = keeps_sampled sample sides.latch law.within in
      record {
        law = record { begun_first = λ e. law.begun_first e ∙ sym keeps.same; all_made = law.all_made; none_apart = λ out. absurd (false≢true (sym out ∙ is)); within = keeps.within };
        calm = so_far.calm;
      }
  moved (Showed sample) false is = so_far
  moved Selected true is = so_far
  moved Selected false is = record {
    law = record {
      begun_first = λ _. rw (law.none_apart is, none_given is) refl;
      all_made = λ _. none_at (rest sides.mouse) (so_far.calm is);
      none_apart = λ out. absurd (false≢true (sym out));
      within = law.within;
    };
    calm = λ out. absurd (false≢true (sym out));
  }
  moved Left true is = record {
    law = record { begun_first = λ e. absurd (false≢true e); all_made = λ e. absurd (false≢true e); none_apart = λ _. refl; within = omega arith };
    calm = λ _. refl;
  }
  moved Left false is = so_far
  moved BusReset true is = record {
    law = record { begun_first = λ _. refl; all_made = λ _. refl; none_apart = λ _. refl; within = omega arith };
    calm = λ _. refl;
  }
  moved BusReset false is = record {
    law = record { begun_first = λ e. absurd (false≢true (sym is ∙ e)); all_made = λ e. absurd (false≢true (sym is ∙ e)); none_apart = law.none_apart; within = law.within };
    calm = λ _. refl;
  }
  moved SetUp true is = record {
    law = record { begun_first = λ _. refl; all_made = λ _. refl; none_apart = λ _. refl; within = omega arith };
    calm = λ _. refl;
  }
  moved SetUp false is = record {
    law = record { begun_first = λ e. absurd (false≢true (sym is ∙ e)); all_made = λ e. absurd (false≢true (sym is ∙ e)); none_apart = law.none_apart; within = law.within };
    calm = λ _. refl;
  }
  moved ToggleRestarted selected is = record {
    law = record { begun_first = law.begun_first; all_made = law.all_made; none_apart = law.none_apart; within = law.within };
    calm = so_far.calm;
  }
  moved (Asked request) selected is = record {
    law = record { begun_first = law.begun_first; all_made = law.all_made; none_apart = law.none_apart; within = law.within };
    calm = so_far.calm;
  }
  moved (Read acked) true is = record {
    law =
        polled (given_by sides) acked is
        (λ change named. next_named (is_unread sides.mouse) (is_due sides.mouse) (next_change sides.latch) (rest sides.mouse) change named)
        (λ named. rest_named (is_unread sides.mouse) (is_due sides.mouse) (next_change sides.latch) (rest sides.mouse) named);
    calm = λ out. absurd (false≢true (sym out ∙ is));
  }
  moved (Read acked) false is = apart_polled (is_unread sides.mouse) (is_due sides.mouse) acked is

pub makes : (past : List Moment) → Makes (sides_of past)
unfolding sides_of accepted
makes [] = record {
  law = record { begun_first = λ e. absurd (false≢true e); all_made = λ e. absurd (false≢true e); none_apart = λ _. refl; within = omega arith };
  calm = λ _. refl;
}
makes (moment ∷ past) = moved (sides_of past) (makes past) moment (is_entered (sides_of past).mouse) refl

pub makes_accepted-all : (past : List Moment) → MakesAccepted (sides_of past)
makes_accepted-all past = (makes past).law
