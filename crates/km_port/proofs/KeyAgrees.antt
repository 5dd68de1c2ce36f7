-- What the reader of a keyboard sees is what the keyboard was told, moment by moment.
use Rattle.std.proofs.Common.{◌≡◌, ℕ, Bool, true, false, not, ◌&&◌, List, [], ◌∷◌, ◌++◌, Option, Some, None, refl, sym, ap, ◌∙◌, subst, append_assoc, if◌then◌else◌}
use Rattle.std.proofs.lemmas.Bool.{false≢true}
use Rattle.std.proofs.lemmas.List.{append-nil}
use Rattle.psd_base.specs.KeySet.{no_keys, has_no_key}
use Rattle.input_latch.specs.declared.key_latch.KeyChange.{KeyChange}
use Rattle.emulated_keyboard.specs.HostReading.{Origin, Earlier, ByChange, ByTime, origin, origin_by, ReadReport, fresh_with, fresh_reports}
use Rattle.emulated_keyboard.specs.HostReading as host
use Rattle.emulated_keyboard.specs.KeyboardHistory.{KeyboardEntry, Entered, Parted, Reset, Configured, Restarted as ToggleRestarted, Requested, Polled, PolledApart, last_made, made_by, was_left, toggle_of, is_idle, given_next, given_apart, answer_of}
use Rattle.emulated_keyboard.specs.KeyboardHistory as history
use Rattle.emulated_keyboard.specs.Report.{key_report}
use Rattle.emulated_keyboard.specs.declared.given.Given.{Given}
use Rattle.emulated_keyboard.specs.declared.given.Given.TheVariants.{Again, Due, Next, Repeated, Nothing}
use Rattle.km_port.specs.Reading.{Seen, Sent, Chosen, Left, Restarted, Dropped, keyboard, last_sent, last_read, is_unread, is_due, waiting, waiting_by, acknowledged, owed, BeginsWith, with_answer}
use Rattle.km_port.proofs.KeyReadable.{IsReadable}

-- what some reports show
abbrev pub shown_in : List ReadReport → List (List Bool)
shown_in [] = []
shown_in (report ∷ reports) = report.keys ∷ shown_in reports

pub shown_in-append : (reports : List ReadReport) (report : ReadReport) → shown_in (reports ++ report ∷ []) ≡ shown_in reports ++ report.keys ∷ []
shown_in-append [] report = refl
shown_in-append (first ∷ reports) report = ap (λ (shown : List (List Bool)). first.keys ∷ shown) (shown_in-append reports report)

-- whether the report that was made last was made in the span
abbrev pub made_here : Origin → Bool
made_here Earlier = false
made_here ByChange = true
made_here ByTime = true

-- what a history of the keyboard comes to, as far as its reader can know
pub record Told : Type 0 where
  pub entered : Bool
  pub unread : Bool
  pub sent : List Bool
  pub due : Bool
  pub read : List Bool
  pub origin : Origin
  pub fresh : List ReadReport

abbrev pub told_of : List KeyboardEntry → Told
told_of past = record {
  entered = history.is_entered past;
  unread = history.is_unread past;
  sent = last_made past;
  due = history.is_due past;
  read = host.last_read past;
  origin = origin past;
  fresh = fresh_reports past;
}

-- what its reader sees, and what the keyboard was told
pub record AgreesWith (selected : Bool) (seen : List (Seen (List Bool))) (told : Told) : Type 0 where
  pub entered : told.entered ≡ selected
  pub unread : is_unread seen ≡ told.unread
  pub sent : last_sent keyboard seen ≡ told.sent
  pub due : is_due keyboard seen ≡ told.due
  pub read : last_read keyboard seen ≡ told.read
  -- until the first report of the span is made, what it owed was read or waits; from then on, it was read before the others
  pub earlier : selected ≡ true → made_here told.origin ≡ false
      → (told.fresh ≡ []) × (acknowledged seen ++ waiting keyboard seen ≡ owed keyboard seen)
  pub here : selected ≡ true → made_here told.origin ≡ true
      → (is_due keyboard seen ≡ false) × (acknowledged seen ≡ owed keyboard seen ++ shown_in told.fresh)
  pub apart : selected ≡ false → BeginsWith (owed keyboard seen) (acknowledged seen ++ waiting keyboard seen)

abbrev pub Agrees : Bool → List (Seen (List Bool)) → List KeyboardEntry → Type 0
Agrees selected seen past = AgreesWith selected seen (told_of past)

-- what is acknowledged, with one more report
abbrev read_more : List (List Bool) → Bool → List Bool → List (List Bool)
read_more read acked report = if acked then read ++ report ∷ [] else read

if_none : (b d : Bool) → d ≡ false → (if b then d else false) ≡ false
if_none true d is = is
if_none false d is = refl

-- a report that is sent again, or a release, goes from what waits to what was read
again_waits : (read : List (List Bool)) (unread due acked : Bool) (report last : List Bool) → unread ≡ true → report ≡ last
    → read_more read acked report ++ waiting_by keyboard (not acked) (if unread then due else false) report ≡ read ++ waiting_by keyboard unread due last
again_waits read true due true report last is same =
    append_assoc read (report ∷ []) (if due then no_keys ∷ [] else [])
    ∙ ap (λ (keys : List Bool). read ++ keys ∷ (if due then no_keys ∷ [] else [])) same
again_waits read true due false report last is same = ap (λ (keys : List Bool). read ++ keys ∷ (if due then no_keys ∷ [] else [])) same
again_waits read false due acked report last is same = absurd (false≢true is)

release_waits : (read : List (List Bool)) (unread due acked : Bool) (last : List Bool) → unread ≡ false → due ≡ true
    → read_more read acked no_keys ++ waiting_by keyboard (not acked) (if unread then due else false) no_keys ≡ read ++ waiting_by keyboard unread due last
release_waits read true due acked last is is_due = absurd (false≢true (sym is))
release_waits read false true true last is is_due = append_assoc read (no_keys ∷ []) []
release_waits read false true false last is is_due = refl
release_waits read false false acked last is is_due = absurd (false≢true is_due)

nothing_waits : (read owing : List (List Bool)) (unread due : Bool) (last : List Bool) → unread ≡ false → due ≡ false
    → read ++ waiting_by keyboard unread due last ≡ owing → read ≡ owing
nothing_waits read owing true due last is none so_far = absurd (false≢true (sym is))
nothing_waits read owing false true last is none so_far = absurd (false≢true (sym none))
nothing_waits read owing false false last is none so_far = sym (append-nil read) ∙ so_far

-- the fresh reports, with one more
fresh_none : (o : Origin) (keys : List Bool) (reports : List ReadReport) (acked : Bool) → made_here o ≡ false → reports ≡ []
    → (if acked then fresh_with o keys reports else reports) ≡ []
fresh_none Earlier keys reports true is none = none
fresh_none Earlier keys reports false is none = none
fresh_none ByChange keys reports acked is none = absurd (false≢true (sym is))
fresh_none ByTime keys reports acked is none = absurd (false≢true (sym is))

fresh_grows : (o : Origin) (acked : Bool) (read owing : List (List Bool)) (keys : List Bool) (reports : List ReadReport) → made_here o ≡ true
    → read ≡ owing ++ shown_in reports
    → read_more read acked keys ≡ owing ++ shown_in (if acked then fresh_with o keys reports else reports)
fresh_grows o false read owing keys reports is so_far = so_far
fresh_grows Earlier true read owing keys reports is so_far = absurd (false≢true is)
fresh_grows ByChange true read owing keys reports is so_far =
    ap (λ (before : List (List Bool)). before ++ keys ∷ []) so_far
    ∙ append_assoc owing (shown_in reports) (keys ∷ [])
    ∙ ap (λ (shown : List (List Bool)). owing ++ shown) (sym (shown_in-append reports (record { keys = keys; by_change = true })))
fresh_grows ByTime true read owing keys reports is so_far =
    ap (λ (before : List (List Bool)). before ++ keys ∷ []) so_far
    ∙ append_assoc owing (shown_in reports) (keys ∷ [])
    ∙ ap (λ (shown : List (List Bool)). owing ++ shown) (sym (shown_in-append reports (record { keys = keys; by_change = false })))

-- a poll of the selected port
module _ (seen : List (Seen (List Bool))) (past : List KeyboardEntry) (before : Agrees true seen past) (tick : ℕ) (acked : Bool) where
  -- what is read already, where nothing waits
  settled : history.is_unread past ≡ false → history.is_due past ≡ false → acknowledged seen ≡ owed keyboard seen ++ shown_in (fresh_reports past)
  settled read none = by (made_here (origin past)) refl where
    by : (b : Bool) → made_here (origin past) ≡ b → acknowledged seen ≡ owed keyboard seen ++ shown_in (fresh_reports past)
    by true is = (before.here refl is).1
    by false is =
        let so_far = before.earlier refl is in
        nothing_waits (acknowledged seen) (owed keyboard seen) (is_unread seen) (is_due keyboard seen) (last_sent keyboard seen) (before.unread ∙ read) (before.due ∙ none) so_far.1
        ∙ sym (append-nil (owed keyboard seen))
        ∙ ap (λ (reports : List ReadReport). owed keyboard seen ++ shown_in reports) (sym so_far.0)

  sent_again : history.is_unread past ≡ true → Agrees true (Sent (last_made past) acked ∷ seen) (Polled tick Again acked ∷ past)
  sent_again is = record {
    entered = before.entered;
    unread = refl;
    sent = refl;
    due = ap (λ (b : Bool). if b then is_due keyboard seen else false) (before.unread ∙ is) ∙ before.due;
    read = ap (λ (keys : List Bool). if acked then last_made past else keys) before.read;
    earlier = λ s e.
        let so_far = before.earlier s e in (
          fresh_none (origin past) (last_made past) (fresh_reports past) acked e so_far.0,
          again_waits (acknowledged seen) (is_unread seen) (is_due keyboard seen) acked (last_made past) (last_sent keyboard seen) (before.unread ∙ is) (sym before.sent) ∙ so_far.1,
        );
    here = λ s h.
        let so_far = before.here s h in (
          if_none (is_unread seen) (is_due keyboard seen) so_far.0,
          fresh_grows (origin past) acked (acknowledged seen) (owed keyboard seen) (last_made past) (fresh_reports past) h so_far.1,
        );
    apart = λ out. absurd (false≢true (sym out));
  }

  sent_release : history.is_unread past ≡ false → history.is_due past ≡ true → Agrees true (Sent no_keys acked ∷ seen) (Polled tick Due acked ∷ past)
  sent_release is due = record {
    entered = before.entered;
    unread = refl;
    sent = refl;
    due = ap (λ (b : Bool). if b then is_due keyboard seen else false) (before.unread ∙ is);
    read = ap (λ (keys : List Bool). if acked then no_keys else keys) before.read;
    earlier = λ s e. by (made_here (origin past)) refl;
    here = λ s h. absurd (false≢true h);
    apart = λ out. absurd (false≢true (sym out));
  } where
    by : (b : Bool) → made_here (origin past) ≡ b
        → (fresh_reports (Polled tick Due acked ∷ past) ≡ []) × (acknowledged (Sent no_keys acked ∷ seen) ++ waiting keyboard (Sent no_keys acked ∷ seen) ≡ owed keyboard seen)
    by true here = absurd (false≢true (sym (before.here refl here).0 ∙ before.due ∙ due))
    by false earlier =
        let so_far = before.earlier refl earlier in (
          fresh_none Earlier no_keys (fresh_reports past) acked refl so_far.0,
          release_waits (acknowledged seen) (is_unread seen) (is_due keyboard seen) acked (last_sent keyboard seen) (before.unread ∙ is) (before.due ∙ due) ∙ so_far.1,
        )

  sent_change : (change : KeyChange) → history.is_unread past ≡ false → history.is_due past ≡ false
      → Agrees true (Sent (last_made (Polled tick (Next change) acked ∷ past)) acked ∷ seen) (Polled tick (Next change) acked ∷ past)
  sent_change change is none = record {
    entered = before.entered;
    unread = refl;
    sent = refl;
    due = ap (λ (b : Bool). if b then is_due keyboard seen else false) (before.unread ∙ is);
    read = ap (λ (keys : List Bool). if acked then last_made (Polled tick (Next change) acked ∷ past) else keys) before.read;
    earlier = λ s e. absurd (false≢true (sym e));
    here = λ s h. (
      ap (λ (b : Bool). if b then is_due keyboard seen else false) (before.unread ∙ is),
      fresh_grows ByChange acked (acknowledged seen) (owed keyboard seen) (last_made (Polled tick (Next change) acked ∷ past)) (fresh_reports past) refl (settled is none),
    );
    apart = λ out. absurd (false≢true (sym out));
  }

  sent_repeat : history.is_unread past ≡ false → history.is_due past ≡ false
      → Agrees true (Sent (last_made past) acked ∷ seen) (Polled tick Repeated acked ∷ past)
  sent_repeat is none = record {
    entered = before.entered;
    unread = refl;
    sent = refl;
    due = ap (λ (b : Bool). if b then is_due keyboard seen else false) (before.unread ∙ is);
    read = ap (λ (keys : List Bool). if acked then last_made past else keys) before.read;
    earlier = λ s e. absurd (false≢true (sym e));
    here = λ s h. (
      ap (λ (b : Bool). if b then is_due keyboard seen else false) (before.unread ∙ is),
      fresh_grows ByTime acked (acknowledged seen) (owed keyboard seen) (last_made past) (fresh_reports past) refl (settled is none),
    );
    apart = λ out. absurd (false≢true (sym out));
  }

  -- by its case, where its report can be read
  abbrev now : Given → Type 0
  now given =
      IsReadable (last_made (Polled tick given acked ∷ past))
      → Agrees true (with_answer keyboard (answer_of given (toggle_of past) (last_made (Polled tick given acked ∷ past))) acked seen) (Polled tick given acked ∷ past)

  read_back : (given : Given) → IsReadable (last_made (Polled tick given acked ∷ past))
      → Agrees true (Sent (last_made (Polled tick given acked ∷ past)) acked ∷ seen) (Polled tick given acked ∷ past)
      → Agrees true (Sent (keyboard.read (key_report (last_made (Polled tick given acked ∷ past)))) acked ∷ seen) (Polled tick given acked ∷ past)
  read_back given readable agrees =
      subst (λ (keys : List Bool). Agrees true (Sent keys acked ∷ seen) (Polled tick given acked ∷ past)) (sym readable) agrees

  next_answered : (next : Option KeyChange) → history.is_unread past ≡ false → history.is_due past ≡ false → now (given_next next tick past)
  next_answered None is none = by (is_idle tick past) where
    by : (b : Bool) → now (if b then Repeated else Nothing)
    by true = λ readable. read_back Repeated readable (sent_repeat is none)
    by false = λ readable. before
  next_answered (Some change) is none = λ readable. read_back (Next change) readable (sent_change change is none)

  pub answered : (next : Option KeyChange) (unread due : Bool) → history.is_unread past ≡ unread → history.is_due past ≡ due
      → now (if unread then Again else if due then Due else given_next next tick past)
  answered next true due is d = λ readable. read_back Again readable (sent_again is)
  answered next false true is d = λ readable. read_back Due readable (sent_release is d)
  answered next false false is d = next_answered next is d

-- a poll while the port isn't selected
module _ (seen : List (Seen (List Bool))) (past : List KeyboardEntry) (before : Agrees false seen past) (acked : Bool) where
  moved_on : (report : List Bool) → acknowledged (Sent report acked ∷ seen) ++ waiting keyboard (Sent report acked ∷ seen) ≡ acknowledged seen ++ waiting keyboard seen
      → BeginsWith (owed keyboard seen) (acknowledged (Sent report acked ∷ seen) ++ waiting keyboard (Sent report acked ∷ seen))
  moved_on report same =
      let so_far = before.apart refl in
      record { others = so_far.others; is = so_far.is ∙ ap (λ (reports : List (List Bool)). reports ++ so_far.others) (sym same) }

  again_apart : history.is_unread past ≡ true → Agrees false (Sent (last_made past) acked ∷ seen) (PolledApart Again acked ∷ past)
  again_apart is = record {
    entered = before.entered;
    unread = refl;
    sent = refl;
    due = ap (λ (b : Bool). if b then is_due keyboard seen else false) (before.unread ∙ is) ∙ before.due;
    read = ap (λ (keys : List Bool). if acked then last_made past else keys) before.read;
    earlier = λ s. absurd (false≢true s);
    here = λ s. absurd (false≢true s);
    apart = λ out.
        moved_on (last_made past)
        (again_waits (acknowledged seen) (is_unread seen) (is_due keyboard seen) acked (last_made past) (last_sent keyboard seen) (before.unread ∙ is) (sym before.sent));
  }

  release_apart : history.is_unread past ≡ false → history.is_due past ≡ true → Agrees false (Sent no_keys acked ∷ seen) (PolledApart Due acked ∷ past)
  release_apart is due = record {
    entered = before.entered;
    unread = refl;
    sent = refl;
    due = ap (λ (b : Bool). if b then is_due keyboard seen else false) (before.unread ∙ is);
    read = ap (λ (keys : List Bool). if acked then no_keys else keys) before.read;
    earlier = λ s. absurd (false≢true s);
    here = λ s. absurd (false≢true s);
    apart = λ out.
        moved_on no_keys
        (release_waits (acknowledged seen) (is_unread seen) (is_due keyboard seen) acked (last_sent keyboard seen) (before.unread ∙ is) (before.due ∙ due));
  }

  nothing_apart : Agrees false seen (PolledApart Nothing acked ∷ past)
  nothing_apart = record {
    entered = before.entered;
    unread = before.unread;
    sent = before.sent;
    due = before.due;
    read = before.read;
    earlier = λ s. absurd (false≢true s);
    here = λ s. absurd (false≢true s);
    apart = before.apart;
  }

  pub answered_apart : (unread due : Bool) → history.is_unread past ≡ unread → history.is_due past ≡ due
      → let given = if unread then Again else if due then Due else Nothing in
      IsReadable (last_made (PolledApart given acked ∷ past))
      → Agrees false (with_answer keyboard (answer_of given (toggle_of past) (last_made (PolledApart given acked ∷ past))) acked seen) (PolledApart given acked ∷ past)
  answered_apart true due is d readable =
      subst (λ (keys : List Bool). Agrees false (Sent keys acked ∷ seen) (PolledApart Again acked ∷ past)) (sym readable) (again_apart is)
  answered_apart false true is d readable =
      subst (λ (keys : List Bool). Agrees false (Sent keys acked ∷ seen) (PolledApart Due acked ∷ past)) (sym readable) (release_apart is d)
  answered_apart false false is d readable = nothing_apart

-- the other moments
none_due : (b : Bool) → false ≡ (b && not (has_no_key no_keys))
unfolding no_keys
none_due true = refl
none_due false = refl

pub agrees-new : Agrees false [] []
unfolding no_keys
agrees-new = record {
  entered = refl;
  unread = refl;
  sent = refl;
  due = refl;
  read = refl;
  earlier = λ s. absurd (false≢true s);
  here = λ s. absurd (false≢true s);
  apart = λ out. record { others = []; is = refl };
}

module _ (seen : List (Seen (List Bool))) (past : List KeyboardEntry) where
  pub chosen : (tick : ℕ) → Agrees false seen past → Agrees true (Chosen ∷ seen) (Entered tick ∷ past)
  chosen tick before = record {
    entered = refl;
    unread = before.unread;
    sent = before.sent;
    due = before.due;
    read = before.read;
    earlier = λ s e. (refl, refl);
    here = λ s h. absurd (false≢true h);
    apart = λ out. absurd (false≢true (sym out));
  }

  pub parted : Agrees true seen past → Agrees false (Left ∷ seen) (Parted ∷ past)
  parted before = record {
    entered = refl;
    unread = before.unread;
    sent = before.sent;
    due = ap (λ (keys : List Bool). not (has_no_key keys)) before.sent;
    read = before.read;
    earlier = λ s. absurd (false≢true s);
    here = λ s. absurd (false≢true s);
    apart = λ out. record { others = []; is = sym (append-nil (waiting keyboard (Left ∷ seen))) };
  }

  -- a bus reset and a configuration drop what waits
  dropped_owed : BeginsWith (owed keyboard seen) (acknowledged seen ++ waiting keyboard seen) → BeginsWith (owed keyboard seen) (acknowledged seen ++ waiting keyboard (Dropped ∷ seen))
  dropped_owed so_far = record {
    others = waiting keyboard seen ++ so_far.others;
    is =
        so_far.is ∙ append_assoc (acknowledged seen) (waiting keyboard seen) so_far.others
        ∙ ap (λ (reports : List (List Bool)). reports ++ (waiting keyboard seen ++ so_far.others)) (sym (append-nil (acknowledged seen)));
  }

  pub restarted : Agrees true seen past → Agrees true (Restarted ∷ seen) (Configured ∷ past)
  restarted before = record {
    entered = before.entered;
    unread = refl;
    sent = refl;
    due = none_due (was_left past);
    read = refl;
    earlier = λ s e. (refl, refl);
    here = λ s h. absurd (false≢true h);
    apart = λ out. absurd (false≢true (sym out));
  }

  pub dropped : Agrees false seen past → Agrees false (Dropped ∷ seen) (Configured ∷ past)
  dropped before = record {
    entered = before.entered;
    unread = refl;
    sent = refl;
    due = none_due (was_left past);
    read = refl;
    earlier = λ s. absurd (false≢true s);
    here = λ s. absurd (false≢true s);
    apart = λ out. dropped_owed (before.apart out);
  }
