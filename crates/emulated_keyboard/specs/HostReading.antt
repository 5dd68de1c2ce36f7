-- What a computer reads at its keyboard: the reports that it acknowledged, and the changes from one to the next.
use Rattle.std.specs.Prelude.{Bool, true, false, ◌&&◌, ◌==◌, List, [], ◌∷◌, ◌++◌, if◌then◌else◌}
use Rattle.psd_base.specs.KeySet.{no_keys}
use Rattle.control_pipe.specs.HidSettings.{settings_after}
use Rattle.input_latch.specs.declared.key_latch.KeyChange.{KeyChange}
use Rattle.input_latch.specs.KeyHistory.{changes_between}
use Rattle.emulated_keyboard.specs.declared.given.Given.{Given}
use Rattle.emulated_keyboard.specs.declared.given.Given.TheVariants.{Again, Due, Next, Repeated, Nothing}
use Rattle.emulated_keyboard.specs.KeyboardHistory.{KeyboardEntry, Entered, Parted, Reset, Configured, Restarted, Requested, Polled, PolledApart, is_report, is_unread, last_made, made_by, shown, settings, idle_rate}

-- How the report that was made last came about: earlier than this span, as what was unacknowledged or due at the selection;
-- by the latch's next change; or because the time to repeat it had come. A span begins at the selection, and while selected
-- also at a bus reset and a completed SET_CONFIGURATION.
pub data Origin : Type 0 where
  Earlier : Origin
  ByChange : Origin
  ByTime : Origin

abbrev pub origin_by : Given → Origin → Origin
origin_by Again before = before
origin_by Due before = Earlier
origin_by (Next change) before = ByChange
origin_by Repeated before = ByTime
origin_by Nothing before = before

abbrev pub origin : List KeyboardEntry → Origin
origin [] = Earlier
origin (Entered tick ∷ past) = Earlier
origin (Parted ∷ past) = Earlier
origin (Reset tick ∷ past) = Earlier
origin (Configured ∷ past) = Earlier
origin (Restarted ∷ past) = origin past
origin (Requested tick request bytes ∷ past) = origin past
origin (Polled tick given acked ∷ past) = origin_by given (origin past)
origin (PolledApart given acked ∷ past) = Earlier

-- a report that the host acknowledged: what it shows, and whether it was made by a change
pub record ReadReport : Type 0 where
  pub keys : List Bool
  pub by_change : Bool

-- the fresh reports of the span, oldest first: those acknowledged in it that were made in it
abbrev pub fresh_with : Origin → List Bool → List ReadReport → List ReadReport
fresh_with Earlier keys before = before
fresh_with ByChange keys before = before ++ record { keys = keys; by_change = true } ∷ []
fresh_with ByTime keys before = before ++ record { keys = keys; by_change = false } ∷ []

abbrev pub fresh_reports : List KeyboardEntry → List ReadReport
fresh_reports [] = []
fresh_reports (Entered tick ∷ past) = []
fresh_reports (Parted ∷ past) = []
fresh_reports (Reset tick ∷ past) = []
fresh_reports (Configured ∷ past) = []
fresh_reports (Restarted ∷ past) = fresh_reports past
fresh_reports (Requested tick request bytes ∷ past) = fresh_reports past
fresh_reports (Polled tick given acked ∷ past) =
    if is_report given && acked
    then fresh_with (origin_by given (origin past)) (made_by given (shown past) (last_made past)) (fresh_reports past)
    else fresh_reports past
fresh_reports (PolledApart given acked ∷ past) = fresh_reports past

-- those of them that were made by a change
abbrev pub made_by_change : List ReadReport → List ReadReport
made_by_change [] = []
made_by_change (report ∷ reports) =
    if report.by_change then report ∷ made_by_change reports else made_by_change reports

-- the changes that the host finds from each report to the next, beginning with these keys
abbrev pub changes_from : List Bool → List ReadReport → List KeyChange
changes_from keys [] = []
changes_from keys (report ∷ reports) = changes_between keys report.keys ++ changes_from report.keys reports

abbrev pub changes_read : List ReadReport → List KeyChange
changes_read reports = changes_from no_keys reports

-- whether the idle rate was 0 throughout the span
abbrev pub never_repeats : List KeyboardEntry → Bool
never_repeats [] = false
never_repeats (Entered tick ∷ past) = idle_rate past == 0
never_repeats (Parted ∷ past) = false
never_repeats (Reset tick ∷ past) = false
never_repeats (Configured ∷ past) = idle_rate past == 0
never_repeats (Restarted ∷ past) = never_repeats past
never_repeats (Requested tick request bytes ∷ past) =
    never_repeats past && (settings_after request (settings past)).idle_rate == 0
never_repeats (Polled tick given acked ∷ past) = never_repeats past
never_repeats (PolledApart given acked ∷ past) = never_repeats past

-- What is read between a deselection and the next selection

-- the report that wasn't acknowledged when the port was left last, if there was one
abbrev pub unread_when_left : List KeyboardEntry → List (List Bool)
unread_when_left [] = []
unread_when_left (Entered tick ∷ past) = unread_when_left past
unread_when_left (Parted ∷ past) = if is_unread past then last_made past ∷ [] else []
unread_when_left (Reset tick ∷ past) = unread_when_left past
unread_when_left (Configured ∷ past) = unread_when_left past
unread_when_left (Restarted ∷ past) = unread_when_left past
unread_when_left (Requested tick request bytes ∷ past) = unread_when_left past
unread_when_left (Polled tick given acked ∷ past) = unread_when_left past
unread_when_left (PolledApart given acked ∷ past) = unread_when_left past

-- the reports that were acknowledged since the port was left last, oldest first
abbrev pub read_apart : List KeyboardEntry → List (List Bool)
read_apart [] = []
read_apart (Entered tick ∷ past) = []
read_apart (Parted ∷ past) = []
read_apart (Reset tick ∷ past) = read_apart past
read_apart (Configured ∷ past) = read_apart past
read_apart (Restarted ∷ past) = read_apart past
read_apart (Requested tick request bytes ∷ past) = read_apart past
read_apart (Polled tick given acked ∷ past) = read_apart past
read_apart (PolledApart given acked ∷ past) =
    if is_report given && acked
    then read_apart past ++ made_by given (shown past) (last_made past) ∷ []
    else read_apart past

-- what the report shows that was acknowledged last since the last reset or configuration, or no key where there is none
abbrev pub read_after : Given → Bool → List Bool → List Bool → List Bool
read_after given acked made before = if is_report given && acked then made else before

abbrev pub last_read : List KeyboardEntry → List Bool
last_read [] = no_keys
last_read (Entered tick ∷ past) = last_read past
last_read (Parted ∷ past) = last_read past
last_read (Reset tick ∷ past) = no_keys
last_read (Configured ∷ past) = no_keys
last_read (Restarted ∷ past) = last_read past
last_read (Requested tick request bytes ∷ past) = last_read past
last_read (Polled tick given acked ∷ past) = read_after given acked (made_by given (shown past) (last_made past)) (last_read past)
last_read (PolledApart given acked ∷ past) = read_after given acked (made_by given (shown past) (last_made past)) (last_read past)
