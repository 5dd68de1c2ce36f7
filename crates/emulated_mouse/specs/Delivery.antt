-- The latch and the emulated mouse of one port together: what a host reads of the mouse is what the latch accepted.
use Rattle.std.specs.Prelude.{◌≡◌, ◌<◌, ◌≤◌, Bool, true, false, List, [], ◌∷◌, ◌++◌, length, take, if◌then◌else◌}
use Rattle.psd_base.specs.KeySet.{has_no_key}
use Rattle.psd_base.specs.declared.sample.Sample.{Sample}
use Rattle.control_pipe.specs.declared.hid_request.HidRequest.{HidRequest}
use Rattle.input_latch.specs.declared.pointer_latch.PointerChange.{PointerChange}
use Rattle.input_latch.specs.PointerHistory.{PointerEntry, Sampled, Flushed, Cleared, accepted, delivered, next_change}
use Rattle.emulated_mouse.specs.declared.given.Given.{Given}
use Rattle.emulated_mouse.specs.declared.given.Given.TheVariants.{Nothing}
use Rattle.emulated_mouse.specs.declared.report.Report.{Report}
use Rattle.emulated_mouse.specs.MouseHistory.{MouseEntry, Entered, Parted, Reset, Configured, Restarted, Requested, Polled, PolledApart, begun, is_entered, given_at, given_apart}
use Rattle.emulated_mouse.specs.LatchCalls.{latch_after}
use Rattle.emulated_mouse.specs.HostReading.{reports_of, reports_left, made, acknowledged, owed, fresh, last_read, BeginsWith, moved_by_changes, moved_by_reports, is_of_button, button_report}

-- What happens, newest first: the console shows a sample, the port is selected or left, its bus is reset, it is
-- configured, its toggle is restarted, a class request is completed, or its mouse is polled, and the answer acknowledged
-- or not.
pub data Moment : Type 0 where
  Showed : Sample → Moment
  Selected : Moment
  Left : Moment
  BusReset : Moment
  SetUp : Moment
  ToggleRestarted : Moment
  Asked : HidRequest → Moment
  Read : Bool → Moment

-- the calls on the latch and those on the mouse
pub record Sides : Type 0 where
  pub latch : List PointerEntry
  pub mouse : List MouseEntry

abbrev pub both : List PointerEntry → List MouseEntry → Sides
both latch mouse = record { latch = latch; mouse = mouse }

-- how a poll of the selected port is answered, and what it does
abbrev pub given_by : Sides → Given
given_by sides = given_at (next_change sides.latch) sides.mouse

abbrev pub read_selected : Bool → Sides → Sides
read_selected acked sides =
    both (latch_after (given_by sides) sides.latch) (Polled (given_by sides) acked ∷ sides.mouse)

abbrev pub after : Moment → Bool → Sides → Sides
after (Showed sample) selected sides = if selected then both (Sampled sample ∷ sides.latch) sides.mouse else sides
after Selected selected sides = if selected then sides else both sides.latch (Entered ∷ sides.mouse)
after Left selected sides = if selected then both (Cleared ∷ sides.latch) (Parted ∷ sides.mouse) else sides
after BusReset selected sides =
    if selected then both (Flushed ∷ sides.latch) (Reset ∷ sides.mouse) else both sides.latch (Reset ∷ sides.mouse)
after SetUp selected sides =
    if selected then both (Flushed ∷ sides.latch) (Configured ∷ sides.mouse) else both sides.latch (Configured ∷ sides.mouse)
after ToggleRestarted selected sides = both sides.latch (Restarted ∷ sides.mouse)
after (Asked request) selected sides = both sides.latch (Requested request ∷ sides.mouse)
after (Read acked) selected sides =
    if selected then read_selected acked sides else both sides.latch (PolledApart (given_apart sides.mouse) acked ∷ sides.mouse)

unfoldable pub sides_of : List Moment → Sides
sides_of [] = both [] []
sides_of (moment ∷ past) = after moment (is_entered (sides_of past).mouse) (sides_of past)

-- In each span of a selection the changes that were begun are the first that the latch accepted in it, in order, as many
-- as were given; and the reports that were made, with those that are left, are the reports of these changes.
pub record MakesAccepted (sides : Sides) : Type 0 where
  pub begun_first : is_entered sides.mouse ≡ true
      → begun sides.mouse ≡ take (delivered sides.latch) (accepted sides.latch)
  pub all_made : is_entered sides.mouse ≡ true
      → made sides.mouse ++ reports_left sides.mouse ≡ reports_of (begun sides.mouse)
  pub none_apart : is_entered sides.mouse ≡ false → accepted sides.latch ≡ []
  pub within : delivered sides.latch ≤ length (accepted sides.latch)

-- The reports that were acknowledged in the span are what it owed, and then the first of the reports of the accepted
-- changes, which are the fresh ones.
pub record ReadsAccepted (sides : Sides) : Type 0 where
  pub owed_first : is_entered sides.mouse ≡ true
      → BeginsWith (owed sides.mouse ++ reports_of (accepted sides.latch)) (acknowledged sides.mouse)
  pub fresh_first : is_entered sides.mouse ≡ true → BeginsWith (reports_of (accepted sides.latch)) (fresh sides.mouse)

-- Where a poll of the selected port has nothing to answer, all accepted changes were read.
abbrev pub ReadsAll : Sides → Type 0
ReadsAll sides =
    is_entered sides.mouse ≡ true → given_by sides ≡ Nothing
    → fresh sides.mouse ≡ reports_of (accepted sides.latch)

-- Between a deselection and the next selection no more is acknowledged than the report that wasn't, and then the release
-- that was due; and a poll has nothing to answer only where the last report that was read has no button down.
pub record ReadsOwed (sides : Sides) : Type 0 where
  pub owed_alone : is_entered sides.mouse ≡ false
      → BeginsWith (owed sides.mouse) (acknowledged sides.mouse)
  pub ends_released : is_entered sides.mouse ≡ false → given_apart sides.mouse ≡ Nothing
      → has_no_key (last_read sides.mouse).buttons ≡ true

-- Of two button changes that were read, the earlier was read first; the motions that were read before it and between
-- them add up to the accepted motions there.
pub record ReadInOrder (before between : List PointerChange) (first second : PointerChange) (read : List Report)
    : Type 0 where
  pub middle : List Report
  pub later : List Report
  pub in_order : read ≡ reports_of before ++ button_report before first
      ∷ (middle ++ button_report (before ++ first ∷ between) second ∷ later)
  pub adds_up_before : moved_by_reports (reports_of before) ≡ moved_by_changes before
  pub adds_up_between : moved_by_reports middle ≡ moved_by_changes between

-- The later of two accepted button changes was read where more reports were than those of all changes before it.
abbrev pub ReadsInOrder : Sides → Type 0
ReadsInOrder sides =
    (before between after : List PointerChange) (first second : PointerChange)
    → is_entered sides.mouse ≡ true
    → accepted sides.latch ≡ before ++ first ∷ (between ++ second ∷ after)
    → is_of_button first ≡ true → is_of_button second ≡ true
    → length (reports_of (before ++ first ∷ between)) < length (fresh sides.mouse)
    → ReadInOrder before between first second (fresh sides.mouse)
