-- What the host reads between a deselection and the next selection.
use Rattle.std.proofs.Common.{◌≡◌, ◌⊎◌, inl, inr, Bool, true, false, not, ◌&&◌, List, [], ◌∷◌, ◌++◌, refl, sym, ap, ◌∙◌, if◌then◌else◌}
use Rattle.std.proofs.lemmas.Bool.{false≢true}
use Rattle.std.proofs.lemmas.List.{append-nil}
use Rattle.psd_base.specs.KeySet.{no_keys, has_no_key}
use Rattle.psd_base.proofs.KeySetLemmas.{no_keys-from_has_no_key}
use Rattle.input_latch.specs.declared.key_latch.KeyChange.{KeyChange}
use Rattle.emulated_keyboard.specs.declared.given.Given.{Given}
use Rattle.emulated_keyboard.specs.declared.given.Given.TheVariants.{Again, Due, Next, Repeated, Nothing}
use Rattle.emulated_keyboard.specs.KeyboardHistory.{KeyboardEntry, Entered, Parted, Reset, Configured, Restarted, Requested, Polled, PolledApart, is_report, is_unread, unread_after, was_left, is_due, shown, last_made, made_by, is_entered}
use Rattle.emulated_keyboard.specs.HostReading.{unread_when_left, read_apart, last_read, read_after}
use Rattle.emulated_keyboard.specs.Delivery.{Moment, Showed, Selected, Left, BusReset, SetUp, ToggleRestarted, Asked, Read, Sides, after, sides_of, AtMostOwed, ReadsOwed, ReleaseRead}
use Rattle.emulated_keyboard.proofs.KeyboardLaws.{nothing_due, cases_Bool}
use Rattle.emulated_keyboard.proofs.SpanLaws.{told-all}

-- what was made last was read, unless it isn't acknowledged
read_by : (given : Given) (acked : Bool) (made before last : List Bool) (unread : Bool) → (is_report given ≡ false → made ≡ last)
    → (unread ≡ false → before ≡ last) → (if is_report given then not acked else unread) ≡ false → read_after given acked made before ≡ made
read_by Again true made before last unread kept settled now = refl
read_by Again false made before last unread kept settled now = absurd (false≢true (sym now))
read_by Due true made before last unread kept settled now = refl
read_by Due false made before last unread kept settled now = absurd (false≢true (sym now))
read_by (Next change) true made before last unread kept settled now = refl
read_by (Next change) false made before last unread kept settled now = absurd (false≢true (sym now))
read_by Repeated true made before last unread kept settled now = refl
read_by Repeated false made before last unread kept settled now = absurd (false≢true (sym now))
read_by Nothing acked made before last unread kept settled now = settled now ∙ sym (kept refl)

kept_by : (given : Given) (past : List KeyboardEntry) → is_report given ≡ false → made_by given (shown past) (last_made past) ≡ last_made past
kept_by Again past is = refl
kept_by Due past is = absurd (false≢true (sym is))
kept_by (Next change) past is = absurd (false≢true (sym is))
kept_by Repeated past is = refl
kept_by Nothing past is = refl

read_last : (past : List KeyboardEntry) → is_unread past ≡ false → last_read past ≡ last_made past
read_last [] is = refl
read_last (Entered tick ∷ past) is = read_last past is
read_last (Parted ∷ past) is = read_last past is
read_last (Reset tick ∷ past) is = refl
read_last (Configured ∷ past) is = refl
read_last (Restarted ∷ past) is = read_last past is
read_last (Requested tick request bytes ∷ past) is = read_last past is
read_last (Polled tick given acked ∷ past) is = read_by given acked (made_by given (shown past) (last_made past)) (last_read past) (last_made past) (is_unread past) (kept_by given past) (read_last past) is
read_last (PolledApart given acked ∷ past) is = read_by given acked (made_by given (shown past) (last_made past)) (last_read past) (last_made past) (is_unread past) (kept_by given past) (read_last past) is

-- a poll that finds nothing
not_unread : (unread due : Bool) → (if unread then Again else if due then Due else Nothing) ≡ Nothing → (unread ≡ false) × (due ≡ false)
not_unread true due is = absurd (cc)
not_unread false true is = absurd (cc)
not_unread false false is = (refl, refl)

pub release_read-all : (past : List Moment) → ReleaseRead (sides_of past)
release_read-all past apart nothing =
    let keyboard = (sides_of past).keyboard in
    let stands = told-all past in
    let none = not_unread (is_unread (sides_of past).keyboard) (is_due (sides_of past).keyboard) nothing in
    read_last (sides_of past).keyboard none.0
    ∙ cases_Bool (was_left (sides_of past).keyboard) (last_made (sides_of past).keyboard ≡ no_keys)
    (λ left. no_keys-from_has_no_key (last_made (sides_of past).keyboard) stands.form (nothing_due (was_left (sides_of past).keyboard) (last_made (sides_of past).keyboard) left none.1))
    (λ stayed. stands.apart apart stayed)

-- How far the host is with what it is owed: it hasn't read the report that it hadn't acknowledged; it has, or there was none;
-- the release was sent; or nothing is owed any more.
data Phase (owed reports : List (List Bool)) (unread : Bool) (last : List Bool) : Type 0 where
  untouched : reports ≡ [] → owed ≡ last ∷ [] → unread ≡ true → Phase owed reports unread last
  settled : (reports ≡ []) ⊎ (reports ≡ owed) → unread ≡ false → Phase owed reports unread last
  releasing : (reports ≡ []) ⊎ (reports ≡ owed) → unread ≡ true → last ≡ no_keys → Phase owed reports unread last
  released : AtMostOwed owed reports → unread ≡ false → last ≡ no_keys → Phase owed reports unread last

with_release : (owed reports : List (List Bool)) (last : List Bool) → (reports ≡ []) ⊎ (reports ≡ owed) → last ≡ no_keys → AtMostOwed owed (reports ++ last ∷ [])
with_release owed reports last read is = record {
  first = reports;
  second = no_keys ∷ [];
  in_order = ap (λ (keys : List Bool). reports ++ keys ∷ []) is;
  first_is = read;
  second_is = inr refl;
}

without_release : (owed reports : List (List Bool)) → (reports ≡ []) ⊎ (reports ≡ owed) → AtMostOwed owed reports
without_release owed reports read = record { first = reports; second = []; in_order = sym (append-nil reports); first_is = read; second_is = inl refl }

module _ (owed reports : List (List Bool)) (last : List Bool) (changes : List KeyChange) where
  at_most : (unread : Bool) → Phase owed reports unread last → AtMostOwed owed reports
  at_most unread (untouched none is u) = without_release owed reports (inl none)
  at_most unread (settled read u) = without_release owed reports read
  at_most unread (releasing read u is) = without_release owed reports read
  at_most unread (released most u is) = most

  -- a bus reset and a configuration drop what is owed
  dropped : (unread : Bool) → Phase owed reports unread last → Phase owed reports false no_keys
  dropped unread (untouched none is u) = settled (inl none) refl
  dropped unread (settled read u) = settled read refl
  dropped unread (releasing read u is) = settled read refl
  dropped unread (released most u is) = released most refl refl

  again_read : Phase owed reports true last → Phase owed (reports ++ last ∷ []) false last
  again_read (untouched none is u) = settled (inr (ap (λ (before : List (List Bool)). before ++ last ∷ []) none ∙ sym is)) refl
  again_read (settled read u) = absurd (false≢true (sym u))
  again_read (releasing read u is) = released (with_release owed reports last read is) refl is
  again_read (released most u is) = absurd (false≢true (sym u))

  release_read : Phase owed reports false last → (last ≡ no_keys → ⊥) → Phase owed (reports ++ no_keys ∷ []) false no_keys
  release_read (untouched none is u) some = absurd (false≢true u)
  release_read (settled read u) some = released (with_release owed reports no_keys read refl) refl refl
  release_read (releasing read u is) some = absurd (false≢true u)
  release_read (released most u is) some = absurd (some is)

  release_sent : Phase owed reports false last → (last ≡ no_keys → ⊥) → Phase owed reports true no_keys
  release_sent (untouched none is u) some = absurd (false≢true u)
  release_sent (settled read u) some = releasing read refl refl
  release_sent (releasing read u is) some = absurd (false≢true u)
  release_sent (released most u is) some = absurd (some is)

  polled_phase : (unread due acked : Bool) → Phase owed reports unread last → (due ≡ true → last ≡ no_keys → ⊥)
      → Phase owed (if is_report (if unread then Again else if due then Due else Nothing) && acked then reports ++ made_by (if unread then Again else if due then Due else Nothing) changes last ∷ [] else reports)
      (unread_after (if unread then Again else if due then Due else Nothing) acked unread)
      (made_by (if unread then Again else if due then Due else Nothing) changes last)
  polled_phase true due true phase some = again_read phase
  polled_phase true due false phase some = phase
  polled_phase false true true phase some = release_read phase (some refl)
  polled_phase false true false phase some = release_sent phase (some refl)
  polled_phase false false acked phase some = phase

-- where a release is due, something is pressed
due_shows : (left : Bool) (last : List Bool) → (left && not (has_no_key last)) ≡ true → last ≡ no_keys → ⊥
unfolding no_keys
due_shows left last due none =
    let empty : has_no_key last ≡ true = ap (λ (keys : List Bool). has_no_key keys) none in
    false≢true (sym (never left) ∙ ap (λ (b : Bool). left && not b) (sym empty) ∙ due)
  where
    never : (b : Bool) → (b && false) ≡ false
    never true = refl
    never false = refl

left_phase : (unread : Bool) (last : List Bool) → Phase (if unread then last ∷ [] else []) [] unread last
left_phase true last = untouched refl refl refl
left_phase false last = settled (inl refl) refl

abbrev phase_of : List KeyboardEntry → Type 0
phase_of past = Phase (unread_when_left past) (read_apart past) (is_unread past) (last_made past)

module _ (sides : Sides) (before : is_entered sides.keyboard ≡ false → phase_of sides.keyboard) where
  phase_moved : (moment : Moment) (selected : Bool) → is_entered sides.keyboard ≡ selected → is_entered (after moment selected sides).keyboard ≡ false → phase_of (after moment selected sides).keyboard
  phase_moved (Showed keys) true is out = before out
  phase_moved (Showed keys) false is out = before out
  phase_moved (Selected tick) true is out = before out
  phase_moved (Selected tick) false is out = absurd (false≢true (sym out))
  phase_moved Left true is out = left_phase (is_unread sides.keyboard) (last_made sides.keyboard)
  phase_moved Left false is out = before out
  phase_moved (BusReset tick) true is out = dropped (unread_when_left sides.keyboard) (read_apart sides.keyboard) (last_made sides.keyboard) [] (is_unread sides.keyboard) (before out)
  phase_moved (BusReset tick) false is out = dropped (unread_when_left sides.keyboard) (read_apart sides.keyboard) (last_made sides.keyboard) [] (is_unread sides.keyboard) (before out)
  phase_moved SetUp true is out = dropped (unread_when_left sides.keyboard) (read_apart sides.keyboard) (last_made sides.keyboard) [] (is_unread sides.keyboard) (before out)
  phase_moved SetUp false is out = dropped (unread_when_left sides.keyboard) (read_apart sides.keyboard) (last_made sides.keyboard) [] (is_unread sides.keyboard) (before out)
  phase_moved ToggleRestarted selected is out = before out
  phase_moved (Asked tick request bytes) selected is out = before out
  phase_moved (Read tick acked) true is out = absurd (false≢true (sym out ∙ is))
  phase_moved (Read tick acked) false is out =
      polled_phase (unread_when_left sides.keyboard) (read_apart sides.keyboard) (last_made sides.keyboard) (shown sides.keyboard) (is_unread sides.keyboard) (is_due sides.keyboard) acked (before out)
      (λ due none. due_shows (was_left sides.keyboard) (last_made sides.keyboard) due none)

phase-all : (past : List Moment) → is_entered (sides_of past).keyboard ≡ false → phase_of (sides_of past).keyboard
unfolding sides_of
phase-all [] out = settled (inl refl) refl
phase-all (moment ∷ past) out = phase_moved (sides_of past) (phase-all past) moment (is_entered (sides_of past).keyboard) refl out

pub reads_owed-all : (past : List Moment) → ReadsOwed (sides_of past)
reads_owed-all past out =
    at_most (unread_when_left (sides_of past).keyboard) (read_apart (sides_of past).keyboard) (last_made (sides_of past).keyboard) [] (is_unread (sides_of past).keyboard) (phase-all past out)
