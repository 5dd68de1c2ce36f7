-- What the calls on a pointer latch come to: the changes that it accepted, which of them are undelivered, and the
-- buttons that are held.
use Rattle.std.specs.Prelude.{ℕ, ◌+◌, ◌-◌, ℤ, Bool, ◌&&◌, nat_le, List, [], ◌∷◌, ◌++◌, length, map, drop, slice_get, Option, Some, None, if◌then◌else◌}
use Rattle.psd_base.specs.KeySet.{has_key, with_key, without_key}
use Rattle.psd_base.specs.declared.sample.Sample.{Sample}
use Rattle.input_latch.specs.declared.motion.Join.{Join}
use Rattle.input_latch.specs.declared.motion.Join.TheVariants.{Apart, TooFar, Sum}
use Rattle.input_latch.specs.declared.offered.Offered.{Offered}
use Rattle.input_latch.specs.declared.offered.TheConstants.{PLACES}
use Rattle.input_latch.specs.declared.pointer_latch.PointerChange.{PointerChange}
use Rattle.input_latch.specs.declared.pointer_latch.PointerChange.TheVariants.{Press, Release, Motion}
use Rattle.input_latch.specs.Buttons.{only_in, no_buttons, number_of_buttons}
use Rattle.input_latch.specs.Motion.{is_zero, join_of}
use Rattle.input_latch.specs.Verdict.{Taken, Refused, counted, nothing_offered}

-- A call on the latch: it was shown a sample, it gave its oldest undelivered change or none, it was flushed, or it was
-- cleared. A history is newest first.
pub data PointerEntry : Type 0 where
  Sampled : Sample → PointerEntry
  Took : Option PointerChange → PointerEntry
  Flushed : PointerEntry
  Cleared : PointerEntry

-- the buttons of the last sample, since all was cleared
abbrev pub last_shown : List PointerEntry → ℕ
last_shown [] = 0
last_shown (Sampled sample ∷ past) = sample.buttons
last_shown (Took given ∷ past) = last_shown past
last_shown (Flushed ∷ past) = last_shown past
last_shown (Cleared ∷ past) = 0

-- how many changes were given since the last flush or clearing
abbrev pub delivered : List PointerEntry → ℕ
delivered [] = 0
delivered (Sampled sample ∷ past) = delivered past
delivered (Took None ∷ past) = delivered past
delivered (Took (Some change) ∷ past) = delivered past + 1
delivered (Flushed ∷ past) = 0
delivered (Cleared ∷ past) = 0

-- a sample's motion, if it isn't zero
abbrev pub motion_in : Sample → List PointerChange
motion_in sample =
    if is_zero sample.x && is_zero sample.y && is_zero sample.wheel then [] else Motion sample.x sample.y sample.wheel ∷ []

-- the changes of a sample against the buttons before it, in the order in which they are offered
abbrev pub changes_of : ℕ → Sample → List PointerChange
changes_of last sample =
    map Release (only_in last sample.buttons) ++ map Press (only_in sample.buttons last) ++ motion_in sample

-- the buttons that are held after these changes, oldest first: pressed, and not released since
abbrev pub held_with : List Bool → PointerChange → List Bool
held_with buttons (Press button) = with_key buttons (button - 1)
held_with buttons (Release button) = without_key buttons (button - 1)
held_with buttons (Motion x y wheel) = buttons

unfoldable pub held_from : List Bool → List PointerChange → List Bool
held_from buttons [] = buttons
held_from buttons (change ∷ changes) = held_from (held_with buttons change) changes

abbrev pub held_after : List PointerChange → List Bool
held_after changes = held_from no_buttons changes

-- the last change, and all before it
unfoldable pub last_change : List PointerChange → Option PointerChange
last_change [] = None
last_change (change ∷ []) = Some change
last_change (first ∷ second ∷ changes) = last_change (second ∷ changes)

unfoldable pub before_last : List PointerChange → List PointerChange
before_last [] = []
before_last (change ∷ []) = []
before_last (first ∷ second ∷ changes) = first ∷ before_last (second ∷ changes)

-- what becomes of a change: it needs an entry of its own, it is added to the last one, it is refused, or there is
-- nothing to say
pub data Effect : Type 0 where
  Appended : Effect
  Added : ℤ → ℤ → ℤ → Effect
  TurnedAway : Effect
  PassedOver : Effect

-- whether so many places are free
abbrev pub has_free : ℕ → ℕ → List Bool → Bool
has_free places undelivered held = nat_le (undelivered + number_of_buttons held + places) PLACES

abbrev pub effect_of_motion : Join → ℕ → List Bool → Effect
effect_of_motion Apart undelivered held = if has_free 1 undelivered held then Appended else TurnedAway
effect_of_motion TooFar undelivered held = TurnedAway
effect_of_motion (Sum x y wheel) undelivered held = Added x y wheel

-- what becomes of a change, by the undelivered ones and the buttons that are held
abbrev pub effect_on : List PointerChange → List Bool → PointerChange → Effect
effect_on undelivered held (Press button) = if has_free 2 (length undelivered) held then Appended else TurnedAway
effect_on undelivered held (Release button) = if has_key held (button - 1) then Appended else PassedOver
effect_on undelivered held (Motion x y wheel) = effect_of_motion (join_of (last_change undelivered) x y wheel) (length undelivered) held

abbrev pub changed : Effect → PointerChange → List PointerChange → List PointerChange
changed Appended change changes = changes ++ change ∷ []
changed (Added x y wheel) change changes = before_last changes ++ Motion x y wheel ∷ []
changed TurnedAway change changes = changes
changed PassedOver change changes = changes

abbrev pub counted_by : Effect → Offered → Offered
counted_by Appended counts = counted Taken counts
counted_by (Added x y wheel) counts = counted Taken counts
counted_by TurnedAway counts = counted Refused counts
counted_by PassedOver counts = counts

-- the changes accepted so far, oldest first, and what was counted
pub record Offering : Type 0 where
  pub accepted : List PointerChange
  pub counts : Offered

abbrev pub offered_one : ℕ → Offering → PointerChange → Offering
offered_one given offering change =
    let effect = effect_on (drop given offering.accepted) (held_after offering.accepted) change in
    record { accepted = changed effect change offering.accepted; counts = counted_by effect offering.counts }

unfoldable pub offered_all : ℕ → Offering → List PointerChange → Offering
offered_all given offering [] = offering
offered_all given offering (change ∷ changes) = offered_all given (offered_one given offering change) changes

-- the changes accepted since the last flush or clearing, oldest first
unfoldable pub accepted : List PointerEntry → List PointerChange
accepted [] = []
accepted (Sampled sample ∷ past) =
    (offered_all (delivered past) (record { accepted = accepted past; counts = nothing_offered }) (changes_of (last_shown past) sample)).accepted
accepted (Took given ∷ past) = accepted past
accepted (Flushed ∷ past) = []
accepted (Cleared ∷ past) = []

-- what is counted for this sample
abbrev pub counts_of : Sample → List PointerEntry → Offered
counts_of sample past =
    (offered_all (delivered past) (record { accepted = accepted past; counts = nothing_offered }) (changes_of (last_shown past) sample)).counts

-- the accepted changes that weren't given yet, oldest first, and the next one
abbrev pub undelivered : List PointerEntry → List PointerChange
undelivered past = drop (delivered past) (accepted past)

abbrev pub next_change : List PointerEntry → Option PointerChange
next_change past = slice_get (undelivered past) 0

-- the buttons that are held
abbrev pub held : List PointerEntry → List Bool
held past = held_after (accepted past)
