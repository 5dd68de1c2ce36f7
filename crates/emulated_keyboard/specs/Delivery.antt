-- The latch and the emulated keyboard of one port together: what the reports of a selection show is what the latch
-- accepted.
use Rattle.std.specs.Prelude.{◌≡◌, ◌⊎◌, ℕ, ◌≤◌, Bool, true, false, List, [], ◌∷◌, ◌++◌, length, take, None, if◌then◌else◌}
use Rattle.control_pipe.specs.declared.hid_request.HidRequest.{HidRequest}
use Rattle.psd_base.specs.KeySet.{no_keys}
use Rattle.input_latch.specs.KeyHistory.{KeyEntry, Shown, Flushed, Cleared, accepted, delivered, next_change}
use Rattle.emulated_keyboard.specs.declared.given.Given.TheVariants.{Nothing}
use Rattle.emulated_keyboard.specs.KeyboardHistory.{KeyboardEntry, Entered, Parted, Reset, Configured, Restarted, Requested, Polled, PolledApart, shown, is_entered, given_at, given_apart}
use Rattle.emulated_keyboard.specs.HostReading.{fresh_reports, made_by_change, changes_read, never_repeats, unread_when_left, read_apart, last_read}
use Rattle.emulated_keyboard.specs.LatchCalls.{latch_after}

-- What happens, newest first: the console shows a set of keys, the port is selected at a tick or left, its bus is reset
-- at a tick, it is configured, its toggle is restarted, a class request is completed at a tick with the
-- bytes that the host sent, or its keyboard is polled at a tick.
pub data Moment : Type 0 where
  Showed : List Bool → Moment
  Selected : ℕ → Moment
  Left : Moment
  BusReset : ℕ → Moment
  SetUp : Moment
  ToggleRestarted : Moment
  Asked : ℕ → HidRequest → List ℕ → Moment
  Read : ℕ → Bool → Moment

-- the calls on the latch and those on the keyboard
pub record Sides : Type 0 where
  pub latch : List KeyEntry
  pub keyboard : List KeyboardEntry

abbrev pub both : List KeyEntry → List KeyboardEntry → Sides
both latch keyboard = record { latch = latch; keyboard = keyboard }

-- what a poll does, while the port is selected and while it isn't
abbrev pub read_selected : ℕ → Bool → Sides → Sides
read_selected tick acked sides =
    let given = given_at (next_change sides.latch) tick sides.keyboard in
    both (latch_after given sides.latch) (Polled tick given acked ∷ sides.keyboard)

abbrev pub after : Moment → Bool → Sides → Sides
after (Showed keys) selected sides = if selected then both (Shown keys ∷ sides.latch) sides.keyboard else sides
after (Selected tick) selected sides = if selected then sides else both sides.latch (Entered tick ∷ sides.keyboard)
after Left selected sides = if selected then both (Cleared ∷ sides.latch) (Parted ∷ sides.keyboard) else sides
after (BusReset tick) selected sides =
    if selected then both (Flushed ∷ sides.latch) (Reset tick ∷ sides.keyboard) else both sides.latch (Reset tick ∷ sides.keyboard)
after SetUp selected sides =
    if selected then both (Flushed ∷ sides.latch) (Configured ∷ sides.keyboard) else both sides.latch (Configured ∷ sides.keyboard)
after ToggleRestarted selected sides = both sides.latch (Restarted ∷ sides.keyboard)
after (Asked tick request bytes) selected sides = both sides.latch (Requested tick request bytes ∷ sides.keyboard)
after (Read tick acked) selected sides =
    if selected then read_selected tick acked sides else both sides.latch (PolledApart (given_apart sides.keyboard) acked ∷ sides.keyboard)

unfoldable pub sides_of : List Moment → Sides
sides_of [] = both [] []
sides_of (moment ∷ past) = after moment (is_entered (sides_of past).keyboard) (sides_of past)

-- In each selection the changes that its reports show are the first that the latch accepted in it, in order, as many as
-- were given. So where nothing is undelivered, all of them are shown.
pub record ShowsAccepted (sides : Sides) : Type 0 where
  pub shown_first : is_entered sides.keyboard ≡ true → shown sides.keyboard ≡ take (delivered sides.latch) (accepted sides.latch)
  pub none_apart : is_entered sides.keyboard ≡ false → accepted sides.latch ≡ []
  pub within : delivered sides.latch ≤ length (accepted sides.latch)

-- A poll finds nothing to answer only where all accepted changes are shown.
pub record AllShown (tick : ℕ) (sides : Sides) : Type 0 where
  pub nothing_left : given_at (next_change sides.latch) tick sides.keyboard ≡ Nothing → next_change sides.latch ≡ None
  pub all_shown : is_entered sides.keyboard ≡ true → given_at (next_change sides.latch) tick sides.keyboard ≡ Nothing → shown sides.keyboard ≡ accepted sides.latch

-- The host reads what was accepted: the changes from each fresh report to the next are the first accepted changes, as many
-- as the reports that were made by a change; and these reports alone give the same.
pub record ReadsAccepted (sides : Sides) : Type 0 where
  pub read : is_entered sides.keyboard ≡ true
      → changes_read (fresh_reports sides.keyboard) ≡ take (length (made_by_change (fresh_reports sides.keyboard))) (accepted sides.latch)
  pub by_change : is_entered sides.keyboard ≡ true
      → changes_read (made_by_change (fresh_reports sides.keyboard)) ≡ take (length (made_by_change (fresh_reports sides.keyboard))) (accepted sides.latch)
  pub within : is_entered sides.keyboard ≡ true
      → length (made_by_change (fresh_reports sides.keyboard)) ≤ length (accepted sides.latch)

-- A poll of the selected port finds nothing to answer only where the host has read all accepted changes.
abbrev pub ReadAll : ℕ → Sides → Type 0
ReadAll tick sides =
    is_entered sides.keyboard ≡ true → given_at (next_change sides.latch) tick sides.keyboard ≡ Nothing
    → changes_read (fresh_reports sides.keyboard) ≡ accepted sides.latch

-- Where the idle rate is 0 throughout the span, every fresh report was made by a change.
abbrev pub AllByChange : Sides → Type 0
AllByChange sides =
    never_repeats sides.keyboard ≡ true → made_by_change (fresh_reports sides.keyboard) ≡ fresh_reports sides.keyboard

-- Between a deselection and the next selection the host reads at most the one report that it hadn't acknowledged before,
-- and then one with nothing pressed.
pub record AtMostOwed (unread reports : List (List Bool)) : Type 0 where
  pub first : List (List Bool)
  pub second : List (List Bool)
  pub in_order : reports ≡ first ++ second
  pub first_is : (first ≡ []) ⊎ (first ≡ unread)
  pub second_is : (second ≡ []) ⊎ (second ≡ no_keys ∷ [])

abbrev pub ReadsOwed : Sides → Type 0
ReadsOwed sides =
    is_entered sides.keyboard ≡ false → AtMostOwed (unread_when_left sides.keyboard) (read_apart sides.keyboard)

-- A poll there finds nothing to answer only where the host has read that nothing is pressed.
abbrev pub ReleaseRead : Sides → Type 0
ReleaseRead sides =
    is_entered sides.keyboard ≡ false → given_apart sides.keyboard ≡ Nothing → last_read sides.keyboard ≡ no_keys
