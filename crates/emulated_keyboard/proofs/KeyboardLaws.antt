-- What an emulated keyboard stands for after each call.
use Rattle.std.proofs.Common.{◌≡◌, ℕ, Bool, true, false, not, ◌&&◌, List, [], ◌∷◌, Option, Some, None, refl, sym, ap, ◌∙◌, if◌then◌else◌}
use Rattle.std.proofs.lemmas.Bool.{false≢true, and_parts}
use Rattle.psd_base.specs.KeySet.{no_keys, has_no_key, IsKeySet}
use Rattle.psd_base.proofs.KeySetLemmas.{no_keys-form, no_keys-from_has_no_key, with_key-form, without_key-form}
use Rattle.input_latch.specs.declared.key_latch.KeyChange.{KeyChange}
use Rattle.input_latch.specs.declared.key_latch.KeyChange.TheVariants.{Press, Release}
use Rattle.input_latch.specs.KeyHistory.{held_with, held_from, held_after}
use Rattle.input_latch.proofs.KeyLatchLaws.{held_from-append}
use Rattle.emulated_keyboard.specs.declared.given.Given.{Given}
use Rattle.emulated_keyboard.specs.declared.given.Given.TheVariants.{Again, Due, Next, Repeated, Nothing}
use Rattle.emulated_keyboard.specs.KeyboardHistory.{KeyboardEntry, Entered, Configured, Polled, PolledApart, is_report, shown, shown_by, last_made, made_by, is_unread, unread_after, was_left, left_after, is_due, toggled, is_idle, is_entered, given_apart, given_next, given_at}
use Rattle.emulated_keyboard.specs.KeyboardStands.{KeyboardValue, KeyboardStands}
use Rattle.emulated_keyboard.specs.KeyboardSteps.{IsPassedOn, case_apart, case_of, made_keys, given_step}

-- a set with nothing pressed isn't due
pub nothing_due : (left : Bool) (keys : List Bool) → left ≡ true → (left && not (has_no_key keys)) ≡ false → has_no_key keys ≡ true
nothing_due left keys is none = by (has_no_key keys) refl where
  by : (b : Bool) → has_no_key keys ≡ b → has_no_key keys ≡ true
  by true e = e
  by false e = absurd (false≢true (sym (rw (is, e) at none)))

pub cases_Bool : (b : Bool) (P : Type 0) → (b ≡ true → P) → (b ≡ false → P) → P
cases_Bool true P t f = t refl
cases_Bool false P t f = f refl

module _ (keyboard : KeyboardValue) (past : List KeyboardEntry) (stands : KeyboardStands keyboard past) where
  pub stands_entered : (tick : ℕ) → keyboard.entered ≡ false → KeyboardStands (record keyboard { entered = true; idle_since = tick }) (Entered tick ∷ past)
  unfolding held_from
  stands_entered tick apart = record {
    last = stands.last;
    unread = stands.unread;
    left = stands.left;
    toggle = stands.toggle;
    set = stands.set;
    lit = stands.lit;
    since = refl;
    entered = refl;
    form = stands.form;
    shows = λ _ none.
        cases_Bool (was_left past) (last_made past ≡ no_keys)
        (λ left. no_keys-from_has_no_key (last_made past) stands.form (nothing_due (was_left past) (last_made past) left none))
        (λ stayed. stands.apart (sym stands.entered ∙ apart) stayed);
    fresh = λ _ _. refl;
    apart = λ out. absurd (false≢true (sym out));
  }

  pub stands_configured : KeyboardStands (record keyboard { last = no_keys; unread = false; toggle = false }) (Configured ∷ past)
  unfolding held_from
  stands_configured = record {
    last = refl;
    unread = refl;
    left = stands.left;
    toggle = refl;
    set = stands.set;
    lit = stands.lit;
    since = stands.since;
    entered = stands.entered;
    form = no_keys-form;
    shows = λ _ _. refl;
    fresh = λ _ _. refl;
    apart = λ _ _. refl;
  }

-- whether a case makes a report that shows the span
abbrev pub shows_span : Given → Bool
shows_span Again = false
shows_span Due = false
shows_span (Next change) = true
shows_span Repeated = true
shows_span Nothing = false

pub not_due : (unread due : Bool) (rest : Given) → shows_span (if unread then Again else if due then Due else rest) ≡ true → due ≡ false
not_due true due rest is = absurd (cc)
not_due false true rest is = absurd (cc)
not_due false false rest is = refl

pub not_shown : (unread due : Bool) → shows_span (if unread then Again else if due then Due else Nothing) ≡ false
not_shown true due = refl
not_shown false true = refl
not_shown false false = refl

-- a release is due where the case says so, and where the port was left
abbrev is_release : Given → Bool
is_release Again = false
is_release Due = true
is_release (Next change) = false
is_release Repeated = false
is_release Nothing = false

was_due : (unread due : Bool) (rest : Given) → is_release rest ≡ false → is_release (if unread then Again else if due then Due else rest) ≡ true → due ≡ true
was_due true due rest other is = absurd (cc)
was_due false true rest other is = refl
was_due false false rest other is = absurd (false≢true (sym other ∙ is))

no_release : (next : Option KeyChange) (tick : ℕ) (past : List KeyboardEntry) → is_release (given_next next tick past) ≡ false
no_release None tick past = by (is_idle tick past) where
  by : (b : Bool) → is_release (if b then Repeated else Nothing) ≡ false
  by true = refl
  by false = refl
no_release (Some change) tick past = refl

pub left_where_due : (next : Option KeyChange) (tick : ℕ) (past : List KeyboardEntry) (given : Given) → given ≡ given_at next tick past → given ≡ Due → was_left past ≡ true
left_where_due next tick past given is due =
    (and_parts (was_left past) (not (has_no_key (last_made past)))
    (was_due (is_unread past) (is_due past) (given_next next tick past) (no_release next tick past) (ap (λ (g : Given). is_release g) (sym is ∙ due)))).0

if_same : (b : Bool) (n : ℕ) → (if b then n else n) ≡ n
if_same true n = refl
if_same false n = refl

-- the form of a set after a change of a key that is passed on
held_with-form : (keys : List Bool) (change : KeyChange) → IsKeySet keys → IsPassedOn (Next change) → IsKeySet (held_with keys change)
held_with-form keys (Press usage) form passed = with_key-form keys usage form passed
held_with-form keys (Release usage) form passed = without_key-form keys usage form

module _ (keyboard : KeyboardValue) (past : List KeyboardEntry) (stands : KeyboardStands keyboard past) where
  -- the case by the value is that by the history
  pub case_of-is : (next : Option KeyChange) (tick : ℕ) → case_of keyboard tick next ≡ given_at next tick past
  case_of-is None tick = rw (stands.unread, stands.left, stands.last, stands.set, stands.since) refl
  case_of-is (Some change) tick = rw (stands.unread, stands.left, stands.last) refl

  pub case_apart-is : case_apart keyboard ≡ given_apart past
  case_apart-is = rw (stands.unread, stands.left, stands.last) refl

  pub same_made : (given : Given) → is_entered past ≡ true → (shows_span given ≡ true → is_due past ≡ false) → made_keys given keyboard.last ≡ made_by given (shown past) (last_made past)
  same_made Again entered ready = stands.last
  same_made Due entered ready = refl
  same_made (Next change) entered ready =
      ap (λ (keys : List Bool). held_with keys change) (stands.last ∙ stands.shows entered (ready refl)) ∙ sym (held_from-append no_keys (shown past) change)
  same_made Repeated entered ready = stands.last
  same_made Nothing entered ready = stands.last

  pub same_made_apart : (given : Given) → shows_span given ≡ false → made_keys given keyboard.last ≡ made_by given (shown past) (last_made past)
  same_made_apart Again none = stands.last
  same_made_apart Due none = refl
  same_made_apart (Next change) none = absurd (false≢true (sym none))
  same_made_apart Repeated none = absurd (false≢true (sym none))
  same_made_apart Nothing none = stands.last

  made_form : (given : Given) → is_entered past ≡ true → (shows_span given ≡ true → is_due past ≡ false) → IsPassedOn given → IsKeySet (made_by given (shown past) (last_made past))
  made_form Again entered ready passed = stands.form
  made_form Due entered ready passed = no_keys-form
  made_form (Next change) entered ready passed =
      rw (held_from-append no_keys (shown past) change) (held_with-form (held_after (shown past)) change (rw (← stands.shows entered (ready refl)) stands.form) passed)
  made_form Repeated entered ready passed = stands.form
  made_form Nothing entered ready passed = stands.form

  made_shows : (given : Given) → is_entered past ≡ true → (shows_span given ≡ true → is_due past ≡ false)
      → (given ≡ Due → was_left past ≡ true)
      → (left_after given (was_left past) && not (has_no_key (made_by given (shown past) (last_made past)))) ≡ false
      → made_by given (shown past) (last_made past) ≡ held_after (shown_by given (shown past))
  unfolding held_from
  made_shows Again entered ready left none = stands.shows entered none
  made_shows Due entered ready left none = rw (stands.fresh entered (left refl)) refl
  made_shows (Next change) entered ready left none = refl
  made_shows Repeated entered ready left none = stands.shows entered (ready refl)
  made_shows Nothing entered ready left none = stands.shows entered none

  made_fresh : (given : Given) → is_entered past ≡ true → left_after given (was_left past) ≡ true → shown_by given (shown past) ≡ []
  made_fresh Again entered left = stands.fresh entered left
  made_fresh Due entered left = absurd (false≢true left)
  made_fresh (Next change) entered left = absurd (false≢true left)
  made_fresh Repeated entered left = absurd (false≢true left)
  made_fresh Nothing entered left = stands.fresh entered left

  pub stands_polled : (given : Given) (tick : ℕ) (acked : Bool) → is_entered past ≡ true → (shows_span given ≡ true → is_due past ≡ false) → (given ≡ Due → was_left past ≡ true) → IsPassedOn given
      → KeyboardStands (given_step given acked tick keyboard) (Polled tick given acked ∷ past)
  stands_polled given tick acked entered ready left passed = record {
    last = same_made given entered ready;
    unread = ap (λ (b : Bool). unread_after given acked b) stands.unread;
    left = ap (λ (b : Bool). left_after given b) stands.left;
    toggle = ap (λ (b : Bool). toggled given acked b) stands.toggle;
    set = stands.set;
    lit = stands.lit;
    since = ap (λ (since : ℕ). if is_report given && acked then tick else since) stands.since;
    entered = stands.entered;
    form = made_form given entered ready passed;
    shows = λ _ none. made_shows given entered ready left none;
    fresh = λ _ again. made_fresh given entered again;
    apart = λ out. absurd (false≢true (sym out ∙ entered));
  }

  apart_made : (given : Given) → shows_span given ≡ false → made_keys given keyboard.last ≡ made_by given (shown past) (last_made past)
  apart_made Again other = stands.last
  apart_made Due other = refl
  apart_made (Next change) other = absurd (cc)
  apart_made Repeated other = stands.last
  apart_made Nothing other = stands.last

  apart_form : (given : Given) → shows_span given ≡ false → IsKeySet (made_by given (shown past) (last_made past))
  apart_form Again other = stands.form
  apart_form Due other = no_keys-form
  apart_form (Next change) other = absurd (cc)
  apart_form Repeated other = stands.form
  apart_form Nothing other = stands.form

  apart_none : (given : Given) → shows_span given ≡ false → is_entered past ≡ false → left_after given (was_left past) ≡ false → made_by given (shown past) (last_made past) ≡ no_keys
  apart_none Again other out stayed = stands.apart out stayed
  apart_none Due other out stayed = refl
  apart_none (Next change) other out stayed = absurd (cc)
  apart_none Repeated other out stayed = absurd (cc)
  apart_none Nothing other out stayed = stands.apart out stayed

  pub stands_polled_apart : (given : Given) (acked : Bool) → is_entered past ≡ false → shows_span given ≡ false
      → KeyboardStands (given_step given acked keyboard.idle_since keyboard) (PolledApart given acked ∷ past)
  stands_polled_apart given acked out other = record {
    last = apart_made given other;
    unread = ap (λ (b : Bool). unread_after given acked b) stands.unread;
    left = ap (λ (b : Bool). left_after given b) stands.left;
    toggle = ap (λ (b : Bool). toggled given acked b) stands.toggle;
    set = stands.set;
    lit = stands.lit;
    since = if_same (is_report given && acked) keyboard.idle_since ∙ stands.since;
    entered = stands.entered;
    form = apart_form given other;
    shows = λ entered. absurd (false≢true (sym out ∙ entered));
    fresh = λ entered. absurd (false≢true (sym out ∙ entered));
    apart = λ _ stayed. apart_none given other out stayed;
  }
