-- The fresh reports of a keyboard that tell a change are those that were made by one.
use Rattle.std.proofs.Common.{◌≡◌, ℕ, suc, ◌+◌, ◌≤◌, Bool, true, false, List, [], ◌∷◌, ◌++◌, length, take, refl, sym, ap, ◌∙◌, arith, append_assoc, length-append, if◌then◌else◌}
use Rattle.std.proofs.lemmas.Bool.{false≢true}
use Rattle.std.proofs.lemmas.List.{append-nil, length-take-le}
use Rattle.psd_base.specs.KeySet.{no_keys}
use Rattle.input_latch.specs.KeyHistory.{changes_between, accepted, next_change}
use Rattle.input_latch.specs.declared.key_latch.KeyChange.{KeyChange}
use Rattle.emulated_keyboard.specs.Delivery.{Moment, Showed, Selected, Left, BusReset, SetUp, ToggleRestarted, Asked, Read, Sides, both, after, sides_of, ReadsAccepted}
use Rattle.emulated_keyboard.specs.HostReading as host
use Rattle.emulated_keyboard.specs.HostReading.{Origin, Earlier, ByChange, ByTime, origin, origin_by, ReadReport, fresh_with, fresh_reports, made_by_change}
use Rattle.emulated_keyboard.specs.KeyboardHistory.{Polled, is_entered, given_at, shown, last_made, made_by}
use Rattle.emulated_keyboard.specs.LatchCalls.{latch_after}
use Rattle.emulated_keyboard.specs.declared.given.Given.{Given}
use Rattle.emulated_keyboard.specs.declared.given.Given.TheVariants.{Again, Due, Next, Repeated, Nothing}
use Rattle.emulated_keyboard.proofs.HostReadingLaws.{made_by_change-append}
use Rattle.emulated_keyboard.proofs.ReadingLaws.{reads_accepted-all}
use Rattle.km_port.specs.Delivery.{changes_from, if_some, telling_from}
use Rattle.km_port.proofs.KeyAgrees.{shown_in, shown_in-append}

-- changes and telling reports, of the reports and of what they show
pub changes-shown : (keys : List Bool) (reports : List ReadReport) → changes_from keys (shown_in reports) ≡ host.changes_from keys reports
changes-shown keys [] = refl
changes-shown keys (report ∷ reports) = ap (λ (changes : List KeyChange). changes_between keys report.keys ++ changes) (changes-shown report.keys reports)

pub length-shown : (reports : List ReadReport) → length (shown_in reports) ≡ length reports
length-shown [] = refl
length-shown (report ∷ reports) = ap suc (length-shown reports)

-- one more report
abbrev last_of : List Bool → List ReadReport → List Bool
last_of keys [] = keys
last_of keys (report ∷ reports) = last_of report.keys reports

changes-append : (keys : List Bool) (reports : List ReadReport) (report : ReadReport)
    → host.changes_from keys (reports ++ report ∷ []) ≡ host.changes_from keys reports ++ changes_between (last_of keys reports) report.keys
changes-append keys [] report = append-nil (changes_between keys report.keys)
changes-append keys (first ∷ reports) report =
    ap (λ (changes : List KeyChange). changes_between keys first.keys ++ changes) (changes-append first.keys reports report)
    ∙ sym (append_assoc (changes_between keys first.keys) (host.changes_from first.keys reports) (changes_between (last_of first.keys reports) report.keys))

some-append : (changes : List KeyChange) (report : List Bool) (others more : List (List Bool))
    → if_some changes (report ∷ (others ++ more)) (others ++ more) ≡ if_some changes (report ∷ others) others ++ more
some-append [] report others more = refl
some-append (change ∷ changes) report others more = refl

telling-append : (keys : List Bool) (reports : List ReadReport) (report : ReadReport)
    → telling_from keys (shown_in (reports ++ report ∷ [])) ≡ telling_from keys (shown_in reports) ++ if_some (changes_between (last_of keys reports) report.keys) (report.keys ∷ []) []
telling-append keys [] report = refl
telling-append keys (first ∷ reports) report =
    ap (λ (others : List (List Bool)). if_some (changes_between keys first.keys) (first.keys ∷ others) others) (telling-append first.keys reports report)
    ∙ some-append (changes_between keys first.keys) first.keys (telling_from first.keys (shown_in reports)) (if_some (changes_between (last_of first.keys reports) report.keys) (report.keys ∷ []) [])

repeat-alone : (reports : List ReadReport) (keys : List Bool) → made_by_change (reports ++ record { keys = keys; by_change = false } ∷ []) ≡ made_by_change reports
repeat-alone [] keys = refl
repeat-alone (first ∷ reports) keys = by first.by_change (repeat-alone reports keys) where
  by : (b : Bool) → made_by_change (reports ++ record { keys = keys; by_change = false } ∷ []) ≡ made_by_change reports
      → (if b then first ∷ made_by_change (reports ++ record { keys = keys; by_change = false } ∷ []) else made_by_change (reports ++ record { keys = keys; by_change = false } ∷ []))
      ≡ (if b then first ∷ made_by_change reports else made_by_change reports)
  by true rest = ap (λ (rs : List ReadReport). first ∷ rs) rest
  by false rest = rest

-- the reports that tell a change are those made by one
abbrev Tells : List ReadReport → Type 0
Tells reports = telling_from no_keys (shown_in reports) ≡ shown_in (made_by_change reports)

-- some reports read the first of the accepted changes, as many as were made by one
record ReadsFirst (all : List KeyChange) (reports : List ReadReport) : Type 0 where
  read : host.changes_read reports ≡ take (length (made_by_change reports)) all
  within : length (made_by_change reports) ≤ length all

reads_many : (all : List KeyChange) (reports : List ReadReport) → ReadsFirst all reports → length (host.changes_read reports) ≡ length (made_by_change reports)
reads_many all reports reads =
    ap (λ (changes : List KeyChange). length changes) reads.read ∙ length-take-le (length (made_by_change reports)) all reads.within

some_told : (changes : List KeyChange) (report : List Bool) → 1 ≤ length changes → if_some changes (report ∷ []) [] ≡ report ∷ []
some_told [] report many = absurd (omega arith)
some_told (change ∷ changes) report many = refl

none_told : (changes : List KeyChange) (report : List Bool) → length changes ≡ 0 → if_some changes (report ∷ []) [] ≡ []
none_told [] report none = refl
none_told (change ∷ changes) report none = absurd (omega arith)

module _ (all : List KeyChange) (reports : List ReadReport) (before : ReadsFirst all reports) (tells : Tells reports) (keys : List Bool) where
  abbrev changes_now : List KeyChange
  changes_now = changes_between (last_of no_keys reports) keys

  number_now : (by_change : Bool) → ReadsFirst all (reports ++ record { keys = keys; by_change = by_change } ∷ [])
      → length (made_by_change (reports ++ record { keys = keys; by_change = by_change } ∷ [])) ≡ length (made_by_change reports) + length changes_now
  number_now by_change now =
      let report : ReadReport = record { keys = keys; by_change = by_change } in
      sym (reads_many all (reports ++ report ∷ []) now)
      ∙ ap (λ (changes : List KeyChange). length changes) (changes-append no_keys reports report)
      ∙ length-append (host.changes_read reports) changes_now
      ∙ ap (λ (n : ℕ). n + length changes_now) (reads_many all reports before)

  tells-change : ReadsFirst all (reports ++ record { keys = keys; by_change = true } ∷ []) → Tells (reports ++ record { keys = keys; by_change = true } ∷ [])
  tells-change now =
      let report : ReadReport = record { keys = keys; by_change = true } in
      let alone = made_by_change-append reports keys in
      let number : length (made_by_change reports) + 1 ≡ length (made_by_change reports) + length changes_now =
      sym (ap (λ (rs : List ReadReport). length rs) alone ∙ length-append (made_by_change reports) (report ∷ [])) ∙ number_now true now
      in
      telling-append no_keys reports report
      ∙ ap (λ (told : List (List Bool)). telling_from no_keys (shown_in reports) ++ told) (some_told changes_now keys (omega (arith, number)))
      ∙ ap (λ (told : List (List Bool)). told ++ keys ∷ []) tells
      ∙ sym (ap (λ (rs : List ReadReport). shown_in rs) alone ∙ shown_in-append (made_by_change reports) report)

  tells-repeat : ReadsFirst all (reports ++ record { keys = keys; by_change = false } ∷ []) → Tells (reports ++ record { keys = keys; by_change = false } ∷ [])
  tells-repeat now =
      let report : ReadReport = record { keys = keys; by_change = false } in
      let alone = repeat-alone reports keys in
      let number : length (made_by_change reports) ≡ length (made_by_change reports) + length changes_now =
      sym (ap (λ (rs : List ReadReport). length rs) alone) ∙ number_now false now
      in
      telling-append no_keys reports report
      ∙ ap (λ (told : List (List Bool)). telling_from no_keys (shown_in reports) ++ told) (none_told changes_now keys (omega (arith, number)))
      ∙ append-nil (telling_from no_keys (shown_in reports))
      ∙ tells
      ∙ sym (ap (λ (rs : List ReadReport). shown_in rs) alone)

  tells-sent : (o : Origin) (acked : Bool) → ReadsFirst all (if acked then fresh_with o keys reports else reports) → Tells (if acked then fresh_with o keys reports else reports)
  tells-sent o false now = tells
  tells-sent Earlier true now = tells
  tells-sent ByChange true now = tells-change now
  tells-sent ByTime true now = tells-repeat now

reads_first : (sides : Sides) → ReadsAccepted sides → is_entered sides.keyboard ≡ true → ReadsFirst (accepted sides.latch) (fresh_reports sides.keyboard)
reads_first sides law entered = record { read = law.read entered; within = law.within entered }

module _ (sides : Sides) (law : ReadsAccepted sides) (before : is_entered sides.keyboard ≡ true → Tells (fresh_reports sides.keyboard)) where
  tells-given : (given : Given) (tick : ℕ) (acked : Bool) → is_entered sides.keyboard ≡ true
      → ReadsAccepted (both (latch_after given sides.latch) (Polled tick given acked ∷ sides.keyboard)) → Tells (fresh_reports (Polled tick given acked ∷ sides.keyboard))
  unfolding accepted
  tells-given Again tick acked entered now =
      tells-sent (accepted sides.latch) (fresh_reports sides.keyboard) (reads_first sides law entered) (before entered) (last_made sides.keyboard) (origin sides.keyboard) acked
      (record { read = now.read entered; within = now.within entered })
  tells-given Due tick acked entered now =
      tells-sent (accepted sides.latch) (fresh_reports sides.keyboard) (reads_first sides law entered) (before entered) no_keys Earlier acked
      (record { read = now.read entered; within = now.within entered })
  tells-given (Next change) tick acked entered now =
      tells-sent (accepted sides.latch) (fresh_reports sides.keyboard) (reads_first sides law entered) (before entered) (made_by (Next change) (shown sides.keyboard) (last_made sides.keyboard)) ByChange acked
      (record { read = now.read entered; within = now.within entered })
  tells-given Repeated tick acked entered now =
      tells-sent (accepted sides.latch) (fresh_reports sides.keyboard) (reads_first sides law entered) (before entered) (last_made sides.keyboard) ByTime acked
      (record { read = now.read entered; within = now.within entered })
  tells-given Nothing tick acked entered now = before entered

  tells-moved : (moment : Moment) (selected : Bool) → is_entered sides.keyboard ≡ selected → ReadsAccepted (after moment selected sides)
      → is_entered (after moment selected sides).keyboard ≡ true → Tells (fresh_reports (after moment selected sides).keyboard)
  tells-moved (Showed keys) true is now entered = before entered
  tells-moved (Showed keys) false is now entered = before entered
  tells-moved (Selected tick) true is now entered = before entered
  tells-moved (Selected tick) false is now entered = refl
  tells-moved Left true is now entered = absurd (false≢true entered)
  tells-moved Left false is now entered = before entered
  tells-moved (BusReset tick) true is now entered = refl
  tells-moved (BusReset tick) false is now entered = refl
  tells-moved SetUp true is now entered = refl
  tells-moved SetUp false is now entered = refl
  tells-moved ToggleRestarted selected is now entered = before entered
  tells-moved (Asked tick request bytes) selected is now entered = before entered
  tells-moved (Read tick acked) true is now entered = tells-given (given_at (next_change sides.latch) tick sides.keyboard) tick acked is now
  tells-moved (Read tick acked) false is now entered = absurd (false≢true (sym is ∙ entered))

pub tells-all : (past : List Moment) → is_entered (sides_of past).keyboard ≡ true → telling_from no_keys (shown_in (fresh_reports (sides_of past).keyboard)) ≡ shown_in (made_by_change (fresh_reports (sides_of past).keyboard))
unfolding sides_of
tells-all [] entered = absurd (false≢true entered)
tells-all (moment ∷ past) entered =
    tells-moved (sides_of past) (reads_accepted-all past) (tells-all past) moment (is_entered (sides_of past).keyboard) refl (reads_accepted-all (moment ∷ past)) entered
