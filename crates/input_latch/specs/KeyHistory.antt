-- What the calls on a key latch come to: the changes that it accepted, which of them are undelivered, and the keys
-- that are held.
use Rattle.std.specs.Prelude.{ℕ, ◌+◌, ◌-◌, Bool, ◌&&◌, ◌||◌, not, nat_le, nat_lt, List, [], ◌∷◌, ◌++◌, length, map, drop, slice_get, Option, Some, None, if◌then◌else◌}
use Rattle.psd_base.specs.KeySet.{is_ordinary, no_keys, has_key, with_key, without_key, difference}
use Rattle.input_latch.specs.declared.key_class.KeyClass.TheVariants.{Ordinary, Modifier}
use Rattle.input_latch.specs.declared.key_latch.KeyChange.{KeyChange}
use Rattle.input_latch.specs.declared.key_latch.KeyChange.TheVariants.{Press, Release}
use Rattle.input_latch.specs.declared.key_latch.TheConstants.{KEYS_MAX}
use Rattle.input_latch.specs.declared.offered.Offered.{Offered}
use Rattle.input_latch.specs.declared.offered.TheConstants.{PLACES}
use Rattle.input_latch.specs.KeyClass.{keys_of, number_in, number_of_keys}
use Rattle.input_latch.specs.Verdict.{Verdict, Taken, Refused, PassedOver, counted, appended, nothing_offered}

-- A call on the latch: it was shown a set of keys, it gave its oldest undelivered change or none, it was flushed,
-- or it was cleared. A history is newest first.
pub data KeyEntry : Type 0 where
  Shown : List Bool → KeyEntry
  Took : Option KeyChange → KeyEntry
  Flushed : KeyEntry
  Cleared : KeyEntry

-- the set that was shown last, since all was cleared
abbrev pub last_shown : List KeyEntry → List Bool
last_shown [] = no_keys
last_shown (Shown keys ∷ past) = keys
last_shown (Took given ∷ past) = last_shown past
last_shown (Flushed ∷ past) = last_shown past
last_shown (Cleared ∷ past) = no_keys

-- how many changes were given since the last flush or clearing
abbrev pub delivered : List KeyEntry → ℕ
delivered [] = 0
delivered (Shown keys ∷ past) = delivered past
delivered (Took None ∷ past) = delivered past
delivered (Took (Some change) ∷ past) = delivered past + 1
delivered (Flushed ∷ past) = 0
delivered (Cleared ∷ past) = 0

-- the changes from one set to the next, in the order in which they are offered
abbrev pub changes_between : List Bool → List Bool → List KeyChange
changes_between last now =
    map Release (keys_of Ordinary (difference last now)) ++ map Release (keys_of Modifier (difference last now))
    ++ map Press (keys_of Modifier (difference now last)) ++ map Press (keys_of Ordinary (difference now last))

-- the keys that are held after these changes, oldest first: pressed, and not released since
abbrev pub held_with : List Bool → KeyChange → List Bool
held_with keys (Press usage) = with_key keys usage
held_with keys (Release usage) = without_key keys usage

unfoldable pub held_from : List Bool → List KeyChange → List Bool
held_from keys [] = keys
held_from keys (change ∷ changes) = held_from (held_with keys change) changes

abbrev pub held_after : List KeyChange → List Bool
held_after changes = held_from no_keys changes

-- whether there is a place for a press and one for its release, and the key isn't a seventh ordinary one
abbrev pub can_press : ℕ → List Bool → ℕ → Bool
can_press undelivered held usage =
    nat_le (undelivered + number_of_keys held + 2) PLACES
    && (not (is_ordinary usage) || nat_lt (number_in Ordinary held) KEYS_MAX)

-- what becomes of a change, by how many are undelivered and which keys are held
abbrev pub verdict_on : ℕ → List Bool → KeyChange → Verdict
verdict_on undelivered held (Press usage) = if can_press undelivered held usage then Taken else Refused
verdict_on undelivered held (Release usage) = if has_key held usage then Taken else PassedOver

-- the changes accepted so far, oldest first, and what was counted
pub record Offering : Type 0 where
  pub accepted : List KeyChange
  pub counts : Offered

abbrev pub offered_one : ℕ → Offering → KeyChange → Offering
offered_one given offering change =
    let verdict = verdict_on (length offering.accepted - given) (held_after offering.accepted) change in
    record { accepted = appended verdict change offering.accepted; counts = counted verdict offering.counts }

unfoldable pub offered_all : ℕ → Offering → List KeyChange → Offering
offered_all given offering [] = offering
offered_all given offering (change ∷ changes) = offered_all given (offered_one given offering change) changes

-- the changes accepted since the last flush or clearing, oldest first
unfoldable pub accepted : List KeyEntry → List KeyChange
accepted [] = []
accepted (Shown keys ∷ past) =
    (offered_all (delivered past) (record { accepted = accepted past; counts = nothing_offered }) (changes_between (last_shown past) keys)).accepted
accepted (Took given ∷ past) = accepted past
accepted (Flushed ∷ past) = []
accepted (Cleared ∷ past) = []

-- what is counted where this set is shown
abbrev pub counts_of : List Bool → List KeyEntry → Offered
counts_of keys past =
    (offered_all (delivered past) (record { accepted = accepted past; counts = nothing_offered }) (changes_between (last_shown past) keys)).counts

-- the accepted changes that weren't given yet, oldest first, and the next one
abbrev pub undelivered : List KeyEntry → List KeyChange
undelivered past = drop (delivered past) (accepted past)

abbrev pub next_change : List KeyEntry → Option KeyChange
next_change past = slice_get (undelivered past) 0

-- the keys that are held
abbrev pub held : List KeyEntry → List Bool
held past = held_after (accepted past)
