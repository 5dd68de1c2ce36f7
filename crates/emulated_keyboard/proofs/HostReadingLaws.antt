-- What the host reads, report by report.
use Rattle.std.proofs.Common.{◌≡◌, ℕ, zero, suc, ◌+◌, ◌≤◌, Bool, true, false, List, [], ◌∷◌, ◌++◌, length, take, drop, slice_get, Some, refl, sym, ap, ◌∙◌, arith, length-append, append_assoc, if◌then◌else◌}
use Rattle.std.proofs.lemmas.List.{append-nil}
use Rattle.psd_base.specs.KeySet.{no_keys}
use Rattle.input_latch.specs.declared.key_latch.KeyChange.{KeyChange}
use Rattle.input_latch.specs.KeyHistory.{KeyEntry, changes_between, held_with, held_from, held_after, accepted}
use Rattle.input_latch.proofs.AcceptedChanges.{change_shown}
use Rattle.input_latch.proofs.KeyLatchLaws.{held_from-append, changes_between-same}
use Rattle.emulated_keyboard.specs.HostReading.{ReadReport, made_by_change, changes_from, changes_read}

-- the next change follows those before it
pub next_after : (changes : List KeyChange) (given : ℕ) (change : KeyChange) → slice_get (drop given changes) 0 ≡ Some change → (take (given + 1) changes ≡ take given changes ++ change ∷ []) × (given + 1 ≤ length changes)
next_after [] zero change is = absurd (cc)
next_after [] (suc given) change is = absurd (cc)
next_after (first ∷ changes) zero change is =
    let same : first ≡ change = cc in
    (ap (λ (c : KeyChange). c ∷ []) same, omega arith)
next_after (first ∷ changes) (suc given) change is =
    let rest = next_after changes given change is in
    let n : suc given + 1 ≡ suc (given + 1) = omega arith in
    (rw n (ap (λ (cs : List KeyChange). first ∷ cs) rest.0), omega (arith, rest.1))

-- there is one where there are more
record NextOf (changes : List KeyChange) (given : ℕ) : Type 0 where
  change : KeyChange
  is : slice_get (drop given changes) 0 ≡ Some change

next_of : (changes : List KeyChange) (given : ℕ) → given + 1 ≤ length changes → NextOf changes given
next_of [] given more = absurd (omega arith)
next_of (first ∷ changes) zero more = record { change = first; is = refl }
next_of (first ∷ changes) (suc given) more =
    let rest = next_of changes given (omega arith) in
    record { change = rest.change; is = rest.is }

pub take-of_take : (n m : ℕ) (changes : List KeyChange) → n ≤ m → take n (take m changes) ≡ take n changes
take-of_take zero m changes within = refl
take-of_take (suc n) zero changes within = absurd (omega arith)
take-of_take (suc n) (suc m) [] within = refl
take-of_take (suc n) (suc m) (first ∷ changes) within = ap (λ (cs : List KeyChange). first ∷ cs) (take-of_take n m changes (omega arith))

-- what the last of some reports shows
abbrev last_keys : List Bool → List ReadReport → List Bool
last_keys keys [] = keys
last_keys keys (report ∷ reports) = last_keys report.keys reports

last_keys-append : (keys : List Bool) (reports : List ReadReport) (report : ReadReport) → last_keys keys (reports ++ report ∷ []) ≡ report.keys
last_keys-append keys [] report = refl
last_keys-append keys (first ∷ reports) report = last_keys-append first.keys reports report

changes_from-append : (keys : List Bool) (reports : List ReadReport) (report : ReadReport) → changes_from keys (reports ++ report ∷ []) ≡ changes_from keys reports ++ changes_between (last_keys keys reports) report.keys
changes_from-append keys [] report = append-nil (changes_between keys report.keys)
changes_from-append keys (first ∷ reports) report =
    ap (λ (changes : List KeyChange). changes_between keys first.keys ++ changes) (changes_from-append first.keys reports report)
    ∙ sym (append_assoc (changes_between keys first.keys) (changes_from first.keys reports) (changes_between (last_keys first.keys reports) report.keys))

pub made_by_change-append : (reports : List ReadReport) (keys : List Bool) → made_by_change (reports ++ record { keys = keys; by_change = true } ∷ []) ≡ made_by_change reports ++ record { keys = keys; by_change = true } ∷ []
made_by_change-append [] keys = refl
made_by_change-append (first ∷ reports) keys = by first.by_change (made_by_change-append reports keys) where
  by : (b : Bool) → made_by_change (reports ++ record { keys = keys; by_change = true } ∷ []) ≡ made_by_change reports ++ record { keys = keys; by_change = true } ∷ []
      → (if b then first ∷ made_by_change (reports ++ record { keys = keys; by_change = true } ∷ []) else made_by_change (reports ++ record { keys = keys; by_change = true } ∷ []))
      ≡ (if b then first ∷ made_by_change reports else made_by_change reports) ++ record { keys = keys; by_change = true } ∷ []
  by true rest = ap (λ (rs : List ReadReport). first ∷ rs) rest
  by false rest = rest

made_by_change-repeat : (reports : List ReadReport) (keys : List Bool) → made_by_change (reports ++ record { keys = keys; by_change = false } ∷ []) ≡ made_by_change reports
made_by_change-repeat [] keys = refl
made_by_change-repeat (first ∷ reports) keys = by first.by_change (made_by_change-repeat reports keys) where
  by : (b : Bool) → made_by_change (reports ++ record { keys = keys; by_change = false } ∷ []) ≡ made_by_change reports
      → (if b then first ∷ made_by_change (reports ++ record { keys = keys; by_change = false } ∷ []) else made_by_change (reports ++ record { keys = keys; by_change = false } ∷ []))
      ≡ (if b then first ∷ made_by_change reports else made_by_change reports)
  by true rest = ap (λ (rs : List ReadReport). first ∷ rs) rest
  by false rest = rest

-- some reports give the first n accepted changes
pub record ReadSoFar (accepted : List KeyChange) (n : ℕ) (reports : List ReadReport) : Type 0 where
  pub read : changes_read reports ≡ take n accepted
  pub shows : last_keys no_keys reports ≡ held_after (take n accepted)
  pub read_alone : changes_read (made_by_change reports) ≡ take n accepted
  pub shows_alone : last_keys no_keys (made_by_change reports) ≡ held_after (take n accepted)
  pub number : length (made_by_change reports) ≡ n

pub read_none : (accepted : List KeyChange) → ReadSoFar accepted 0 []
unfolding held_from
read_none accepted = record { read = refl; shows = refl; read_alone = refl; shows_alone = refl; number = refl }

-- one more report shows the next change
module _ (latch : List KeyEntry) (n : ℕ) (more : n + 1 ≤ length (accepted latch)) where
  abbrev next : NextOf (accepted latch) n
  next = next_of (accepted latch) n more

  one_more : held_after (take (n + 1) (accepted latch)) ≡ held_with (held_after (take n (accepted latch))) next.change
  one_more =
      ap (λ (changes : List KeyChange). held_after changes) (next_after (accepted latch) n next.change next.is).0
      ∙ held_from-append no_keys (take n (accepted latch)) next.change

  one_between : changes_between (held_after (take n (accepted latch))) (held_after (take (n + 1) (accepted latch))) ≡ next.change ∷ []
  one_between = ap (λ (keys : List Bool). changes_between (held_after (take n (accepted latch))) keys) one_more ∙ change_shown latch n next.change next.is

  one_read : (reports : List ReadReport) (report : ReadReport) → report.keys ≡ held_after (take (n + 1) (accepted latch))
      → changes_read reports ≡ take n (accepted latch) → last_keys no_keys reports ≡ held_after (take n (accepted latch))
      → changes_read (reports ++ report ∷ []) ≡ take (n + 1) (accepted latch)
  one_read reports report keys read shows =
      changes_from-append no_keys reports report
      ∙ ap (λ (changes : List KeyChange). changes ++ changes_between (last_keys no_keys reports) report.keys) read
      ∙ ap (λ (last : List Bool). take n (accepted latch) ++ changes_between last report.keys) shows
      ∙ ap (λ (now : List Bool). take n (accepted latch) ++ changes_between (held_after (take n (accepted latch))) now) keys
      ∙ ap (λ (changes : List KeyChange). take n (accepted latch) ++ changes) one_between
      ∙ sym (next_after (accepted latch) n next.change next.is).0

  pub read_change : (reports : List ReadReport) (keys : List Bool) → keys ≡ held_after (take (n + 1) (accepted latch)) → ReadSoFar (accepted latch) n reports
      → ReadSoFar (accepted latch) (n + 1) (reports ++ record { keys = keys; by_change = true } ∷ [])
  read_change reports keys is so_far =
      let alone = made_by_change-append reports keys in
      record {
        read = one_read reports (record { keys = keys; by_change = true }) is so_far.read so_far.shows;
        shows = last_keys-append no_keys reports (record { keys = keys; by_change = true }) ∙ is;
        read_alone =
            ap (λ (rs : List ReadReport). changes_read rs) alone
            ∙ one_read (made_by_change reports) (record { keys = keys; by_change = true }) is so_far.read_alone so_far.shows_alone;
        shows_alone =
            ap (λ (rs : List ReadReport). last_keys no_keys rs) alone
            ∙ last_keys-append no_keys (made_by_change reports) (record { keys = keys; by_change = true }) ∙ is;
        number =
            ap (λ (rs : List ReadReport). length rs) alone
            ∙ length-append (made_by_change reports) (record { keys = keys; by_change = true } ∷ [])
            ∙ ap (λ (m : ℕ). m + 1) so_far.number;
      }

-- and one that repeats the last gives no change
pub read_repeat : (accepted : List KeyChange) (n : ℕ) (reports : List ReadReport) (keys : List Bool) → keys ≡ held_after (take n accepted) → ReadSoFar accepted n reports
    → ReadSoFar accepted n (reports ++ record { keys = keys; by_change = false } ∷ [])
read_repeat accepted n reports keys is so_far =
    let alone = made_by_change-repeat reports keys in
    record {
      read =
          changes_from-append no_keys reports (record { keys = keys; by_change = false })
          ∙ ap (λ (changes : List KeyChange). changes ++ changes_between (last_keys no_keys reports) keys) so_far.read
          ∙ ap (λ (last : List Bool). take n accepted ++ changes_between last keys) (so_far.shows ∙ sym is)
          ∙ ap (λ (changes : List KeyChange). take n accepted ++ changes) (changes_between-same keys)
          ∙ append-nil (take n accepted);
      shows = last_keys-append no_keys reports (record { keys = keys; by_change = false }) ∙ is;
      read_alone = ap (λ (rs : List ReadReport). changes_read rs) alone ∙ so_far.read_alone;
      shows_alone = ap (λ (rs : List ReadReport). last_keys no_keys rs) alone ∙ so_far.shows_alone;
      number = ap (λ (rs : List ReadReport). length rs) alone ∙ so_far.number;
    }

-- more that is accepted leaves what was read
pub read_still : (before now : List KeyChange) (n : ℕ) (reports : List ReadReport) → take n now ≡ take n before → ReadSoFar before n reports → ReadSoFar now n reports
read_still before now n reports same so_far = record {
  read = so_far.read ∙ sym same;
  shows = so_far.shows ∙ ap (λ (changes : List KeyChange). held_after changes) (sym same);
  read_alone = so_far.read_alone ∙ sym same;
  shows_alone = so_far.shows_alone ∙ ap (λ (changes : List KeyChange). held_after changes) (sym same);
  number = so_far.number;
}
