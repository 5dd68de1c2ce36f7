-- What an emulated mouse stands for after each call.
use Rattle.std.proofs.Common.{◌≡◌, ℕ, Bool, true, false, not, ◌&&◌, List, [], ◌∷◌, length, replicate, Option, Some, None, refl, sym, ap, ◌∙◌, length-set, if◌then◌else◌}
use Rattle.std.proofs.lemmas.Bool.{false≢true, and_parts}
use Rattle.psd_base.specs.KeySet.{has_no_key}
use Rattle.input_latch.specs.declared.pointer_latch.PointerChange.{PointerChange}
use Rattle.input_latch.specs.declared.pointer_latch.PointerChange.TheVariants.{Press, Release, Motion as Moved}
use Rattle.input_latch.specs.Buttons.{no_buttons}
use Rattle.input_latch.specs.PointerHistory.{held_with, held_from, held_after}
use Rattle.input_latch.proofs.PointerLatchLaws.{held_from-append}
use Rattle.emulated_mouse.specs.declared.given.Given.{Given}
use Rattle.emulated_mouse.specs.declared.given.Given.TheVariants.{Again, Due, Rest, Next, Nothing}
use Rattle.emulated_mouse.specs.declared.motion.Motion.{Motion}
use Rattle.emulated_mouse.specs.declared.report.Report.{Report}
use Rattle.emulated_mouse.specs.Motion.{still, is_still, piece_of}
use Rattle.emulated_mouse.specs.Report.{report, released}
use Rattle.emulated_mouse.specs.MouseHistory.{MouseEntry, Entered, Configured, Polled, PolledApart, begun, begun_by, motion_of, rest, rest_by, last_made, made_by, is_unread, unread_after, was_left, left_after, is_due, toggled, is_entered, given_apart, given_next, given_at}
use Rattle.emulated_mouse.specs.MouseStands.{MouseValue, MouseStands}
use Rattle.emulated_mouse.specs.MouseSteps.{case_apart, case_of, made_report, given_step}

-- sets of buttons
length-no_buttons : length no_buttons ≡ 5
unfolding no_buttons
length-no_buttons = refl

all_up : (buttons : List Bool) → has_no_key buttons ≡ true → buttons ≡ replicate (length buttons) false
all_up [] none = refl
all_up (true ∷ buttons) none = absurd (false≢true none)
all_up (false ∷ buttons) none = ap (λ (flags : List Bool). false ∷ flags) (all_up buttons none)

no_buttons-from_none : (buttons : List Bool) → length buttons ≡ 5 → has_no_key buttons ≡ true → buttons ≡ no_buttons
unfolding no_buttons
no_buttons-from_none buttons five none = all_up buttons none ∙ ap (λ (n : ℕ). replicate n false) five

length-held_with : (buttons : List Bool) (change : PointerChange) → length (held_with buttons change) ≡ length buttons
length-held_with buttons (Press button) = length-set buttons _ true
length-held_with buttons (Release button) = length-set buttons _ false
length-held_with buttons (Moved x y wheel) = refl

-- a report with no button down isn't due
nothing_due : (left : Bool) (buttons : List Bool) → left ≡ true → (left && not (has_no_key buttons)) ≡ false → has_no_key buttons ≡ true
nothing_due left buttons is none = by (has_no_key buttons) refl where
  by : (b : Bool) → has_no_key buttons ≡ b → has_no_key buttons ≡ true
  by true e = e
  by false e = absurd (false≢true (sym (rw (is, e) at none)))

cases_Bool : (b : Bool) (P : Type 0) → (b ≡ true → P) → (b ≡ false → P) → P
cases_Bool true P t f = t refl
cases_Bool false P t f = f refl

module _ (mouse : MouseValue) (past : List MouseEntry) (stands : MouseStands mouse past) where
  pub stands_entered : mouse.entered ≡ false → MouseStands (record mouse { entered = true }) (Entered ∷ past)
  unfolding held_from
  stands_entered apart = record {
    last = stands.last;
    rest = stands.rest;
    unread = stands.unread;
    left = stands.left;
    toggle = stands.toggle;
    set = stands.set;
    entered = refl;
    one_each = stands.one_each;
    shows = λ _ none.
        cases_Bool (was_left past) ((last_made past).buttons ≡ no_buttons)
        (λ left. no_buttons-from_none (last_made past).buttons stands.one_each (nothing_due (was_left past) (last_made past).buttons left none))
        (λ stayed. stands.apart (sym stands.entered ∙ apart) stayed);
    fresh = λ _ _. refl;
    apart = λ out. absurd (false≢true (sym out));
  }

  pub stands_configured : MouseStands (record mouse { last = released; rest = still; unread = false; toggle = false }) (Configured ∷ past)
  unfolding held_from
  stands_configured = record {
    last = refl;
    rest = refl;
    unread = refl;
    left = stands.left;
    toggle = refl;
    set = stands.set;
    entered = stands.entered;
    one_each = length-no_buttons;
    shows = λ _ _. refl;
    fresh = λ _ _. refl;
    apart = λ _ _. refl;
  }

-- whether a case makes a report of what the latch gave
abbrev pub shows_span : Given → Bool
shows_span Again = false
shows_span Due = false
shows_span Rest = true
shows_span (Next change) = true
shows_span Nothing = false

pub not_due : (unread due : Bool) (after : Given) → shows_span (if unread then Again else if due then Due else after) ≡ true → due ≡ false
not_due true due after is = absurd (cc)
not_due false true after is = absurd (cc)
not_due false false after is = refl

pub not_shown : (unread due : Bool) → shows_span (if unread then Again else if due then Due else Nothing) ≡ false
not_shown true due = refl
not_shown false true = refl
not_shown false false = refl

-- a release is due where the case says so, and where the port was left
abbrev is_release : Given → Bool
is_release Again = false
is_release Due = true
is_release Rest = false
is_release (Next change) = false
is_release Nothing = false

was_due : (unread due : Bool) (after : Given) → is_release after ≡ false → is_release (if unread then Again else if due then Due else after) ≡ true → due ≡ true
was_due true due after other is = absurd (cc)
was_due false true after other is = refl
was_due false false after other is = absurd (false≢true (sym other ∙ is))

no_release : (next : Option PointerChange) (left : Motion) → is_release (given_next next left) ≡ false
no_release None left = by (is_still left) where
  by : (b : Bool) → is_release (if b then Nothing else Rest) ≡ false
  by true = refl
  by false = refl
no_release (Some change) left = by (is_still left) where
  by : (b : Bool) → is_release (if b then Next change else Rest) ≡ false
  by true = refl
  by false = refl

pub left_where_due : (next : Option PointerChange) (past : List MouseEntry) (given : Given) → given ≡ given_at next past → given ≡ Due → was_left past ≡ true
left_where_due next past given is due =
    (and_parts (was_left past) (not (has_no_key (last_made past).buttons))
    (was_due (is_unread past) (is_due past) (given_next next (rest past)) (no_release next (rest past)) (ap (λ (g : Given). is_release g) (sym is ∙ due)))).0

module _ (mouse : MouseValue) (past : List MouseEntry) (stands : MouseStands mouse past) where
  -- the case by the value is that by the history
  pub case_of-is : (next : Option PointerChange) → case_of mouse next ≡ given_at next past
  case_of-is next = rw (stands.unread, stands.left, stands.last, stands.rest) refl

  pub case_apart-is : case_apart mouse ≡ given_apart past
  case_apart-is = rw (stands.unread, stands.left, stands.last) refl

  shown_buttons : is_entered past ≡ true → is_due past ≡ false → mouse.last.buttons ≡ held_after (begun past)
  shown_buttons entered none = ap (λ (made : Report). made.buttons) stands.last ∙ stands.shows entered none

  pub same_made : (given : Given) → is_entered past ≡ true → (shows_span given ≡ true → is_due past ≡ false) → made_report given mouse.rest mouse.last ≡ made_by given (begun past) (rest past) (last_made past)
  same_made Again entered ready = stands.last
  same_made Due entered ready = refl
  same_made Rest entered ready =
      ap (λ (buttons : List Bool). report buttons (piece_of mouse.rest)) (shown_buttons entered (ready refl))
      ∙ ap (λ (left : Motion). report (held_after (begun past)) (piece_of left)) stands.rest
  same_made (Next change) entered ready =
      ap (λ (buttons : List Bool). report buttons (piece_of (motion_of change)))
      (ap (λ (buttons : List Bool). held_with buttons change) (shown_buttons entered (ready refl)) ∙ sym (held_from-append no_buttons (begun past) change))
  same_made Nothing entered ready = stands.last

  pub same_made_apart : (given : Given) → shows_span given ≡ false → made_report given mouse.rest mouse.last ≡ made_by given (begun past) (rest past) (last_made past)
  same_made_apart Again none = stands.last
  same_made_apart Due none = refl
  same_made_apart Rest none = absurd (false≢true (sym none))
  same_made_apart (Next change) none = absurd (false≢true (sym none))
  same_made_apart Nothing none = stands.last

  made_form : (given : Given) → is_entered past ≡ true → (shows_span given ≡ true → is_due past ≡ false) → length (made_by given (begun past) (rest past) (last_made past)).buttons ≡ 5
  made_form Again entered ready = stands.one_each
  made_form Due entered ready = length-no_buttons
  made_form Rest entered ready = ap (λ (buttons : List Bool). length buttons) (sym (stands.shows entered (ready refl))) ∙ stands.one_each
  made_form (Next change) entered ready =
      ap (λ (buttons : List Bool). length buttons) (held_from-append no_buttons (begun past) change)
      ∙ length-held_with (held_after (begun past)) change
      ∙ ap (λ (buttons : List Bool). length buttons) (sym (stands.shows entered (ready refl))) ∙ stands.one_each
  made_form Nothing entered ready = stands.one_each

  made_shows : (given : Given) → is_entered past ≡ true → (shows_span given ≡ true → is_due past ≡ false)
      → (given ≡ Due → was_left past ≡ true)
      → (left_after given (was_left past) && not (has_no_key (made_by given (begun past) (rest past) (last_made past)).buttons)) ≡ false
      → (made_by given (begun past) (rest past) (last_made past)).buttons ≡ held_after (begun_by given (begun past))
  unfolding held_from
  made_shows Again entered ready left none = stands.shows entered none
  made_shows Due entered ready left none = rw (stands.fresh entered (left refl)) refl
  made_shows Rest entered ready left none = refl
  made_shows (Next change) entered ready left none = refl
  made_shows Nothing entered ready left none = stands.shows entered none

  made_fresh : (given : Given) → is_entered past ≡ true → left_after given (was_left past) ≡ true → begun_by given (begun past) ≡ []
  made_fresh Again entered left = stands.fresh entered left
  made_fresh Due entered left = absurd (false≢true left)
  made_fresh Rest entered left = absurd (false≢true left)
  made_fresh (Next change) entered left = absurd (false≢true left)
  made_fresh Nothing entered left = stands.fresh entered left

  pub stands_polled : (given : Given) (acked : Bool) → is_entered past ≡ true → (shows_span given ≡ true → is_due past ≡ false) → (given ≡ Due → was_left past ≡ true)
      → MouseStands (given_step given acked mouse) (Polled given acked ∷ past)
  stands_polled given acked entered ready left = record {
    last = same_made given entered ready;
    rest = ap (λ (motion : Motion). rest_by given motion) stands.rest;
    unread = ap (λ (b : Bool). unread_after given acked b) stands.unread;
    left = ap (λ (b : Bool). left_after given b) stands.left;
    toggle = ap (λ (b : Bool). toggled given acked b) stands.toggle;
    set = stands.set;
    entered = stands.entered;
    one_each = made_form given entered ready;
    shows = λ _ none. made_shows given entered ready left none;
    fresh = λ _ again. made_fresh given entered again;
    apart = λ out. absurd (false≢true (sym out ∙ entered));
  }

  apart_made : (given : Given) → shows_span given ≡ false → made_report given mouse.rest mouse.last ≡ made_by given (begun past) (rest past) (last_made past)
  apart_made Again other = stands.last
  apart_made Due other = refl
  apart_made Rest other = absurd (cc)
  apart_made (Next change) other = absurd (cc)
  apart_made Nothing other = stands.last

  apart_form : (given : Given) → shows_span given ≡ false → length (made_by given (begun past) (rest past) (last_made past)).buttons ≡ 5
  apart_form Again other = stands.one_each
  apart_form Due other = length-no_buttons
  apart_form Rest other = absurd (cc)
  apart_form (Next change) other = absurd (cc)
  apart_form Nothing other = stands.one_each

  apart_none : (given : Given) → shows_span given ≡ false → is_entered past ≡ false → left_after given (was_left past) ≡ false → (made_by given (begun past) (rest past) (last_made past)).buttons ≡ no_buttons
  apart_none Again other out stayed = stands.apart out stayed
  apart_none Due other out stayed = refl
  apart_none Rest other out stayed = absurd (cc)
  apart_none (Next change) other out stayed = absurd (cc)
  apart_none Nothing other out stayed = stands.apart out stayed

  pub stands_polled_apart : (given : Given) (acked : Bool) → is_entered past ≡ false → shows_span given ≡ false
      → MouseStands (given_step given acked mouse) (PolledApart given acked ∷ past)
  stands_polled_apart given acked out other = record {
    last = apart_made given other;
    rest = ap (λ (motion : Motion). rest_by given motion) stands.rest;
    unread = ap (λ (b : Bool). unread_after given acked b) stands.unread;
    left = ap (λ (b : Bool). left_after given b) stands.left;
    toggle = ap (λ (b : Bool). toggled given acked b) stands.toggle;
    set = stands.set;
    entered = stands.entered;
    one_each = apart_form given other;
    shows = λ entered. absurd (false≢true (sym out ∙ entered));
    fresh = λ entered. absurd (false≢true (sym out ∙ entered));
    apart = λ _ stayed. apart_none given other out stayed;
  }
