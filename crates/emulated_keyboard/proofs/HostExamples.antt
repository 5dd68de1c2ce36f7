-- What the host reads in small histories, each computed.
use Rattle.std.specs.Prelude.{◌≡◌, true, false, List, [], ◌∷◌, length, refl}
use Rattle.psd_base.specs.KeySet.{no_keys, with_key, keys_from}
use Rattle.control_pipe.specs.declared.hid_request.HidRequest.TheVariants.{SetIdle}
use Rattle.input_latch.specs.declared.key_latch.KeyChange.TheVariants.{Press, Release}
use Rattle.input_latch.specs.KeyHistory.{held_from}
use Rattle.emulated_keyboard.specs.declared.given.Given.TheVariants.{Again, Due, Next, Repeated, Nothing}
use Rattle.emulated_keyboard.specs.KeyboardHistory.{KeyboardEntry, Entered, Parted, Reset, Configured, Requested, Polled, PolledApart}
use Rattle.emulated_keyboard.specs.HostReading.{fresh_reports, made_by_change, changes_read, never_repeats, unread_when_left, read_apart, last_read}

abbrev selected : List KeyboardEntry
selected = Entered 110 ∷ Configured ∷ []

-- key 4 is pressed, and its report is acknowledged, or it isn't
abbrev pressed : List KeyboardEntry
pressed = Polled 141 (Next (Press 4)) true ∷ selected

abbrev unread : List KeyboardEntry
unread = Polled 141 (Next (Press 4)) false ∷ selected

a_press_and_a_release : changes_read (fresh_reports (Polled 150 (Next (Release 4)) true ∷ pressed)) ≡ Press 4 ∷ Release 4 ∷ []
unfolding no_keys keys_from held_from
a_press_and_a_release = refl

nothing_unread : fresh_reports unread ≡ []
nothing_unread = refl

read_once : changes_read (fresh_reports (Polled 143 Again true ∷ Polled 142 Again false ∷ unread)) ≡ Press 4 ∷ []
unfolding no_keys keys_from held_from
read_once = refl

-- a repeated report is fresh and gives no change
repeated : changes_read (fresh_reports (Polled 641 Repeated true ∷ pressed)) ≡ Press 4 ∷ []
unfolding no_keys keys_from held_from
repeated = refl

two_reports : length (fresh_reports (Polled 641 Repeated true ∷ pressed)) ≡ 2
two_reports = refl

one_by_change : length (made_by_change (fresh_reports (Polled 641 Repeated true ∷ pressed))) ≡ 1
one_by_change = refl

-- what was owed at the selection isn't fresh, and what comes after it is
owed : fresh_reports (Polled 160 Due true ∷ Polled 151 Again true ∷ Entered 150 ∷ Parted ∷ unread) ≡ []
owed = refl

after_what_was_owed : changes_read (fresh_reports (Polled 170 (Next (Press 5)) true ∷ Polled 160 Due true ∷ Polled 151 Again true ∷ Entered 150 ∷ Parted ∷ unread)) ≡ Press 5 ∷ []
unfolding no_keys keys_from held_from
after_what_was_owed = refl

-- a bus reset begins a span
after_a_reset : changes_read (fresh_reports (Polled 170 (Next (Press 5)) true ∷ Reset 160 ∷ pressed)) ≡ Press 5 ∷ []
unfolding no_keys keys_from held_from
after_a_reset = refl

-- between two selections: the report that wasn't acknowledged, and the release
read_between : read_apart (PolledApart Nothing true ∷ PolledApart Due true ∷ PolledApart Again true ∷ Parted ∷ unread) ≡ with_key no_keys 4 ∷ no_keys ∷ []
unfolding no_keys held_from
read_between = refl

not_yet_read : unread_when_left (PolledApart Again true ∷ Parted ∷ unread) ≡ with_key no_keys 4 ∷ []
unfolding no_keys held_from
not_yet_read = refl

release_was_read : last_read (PolledApart Due true ∷ Parted ∷ pressed) ≡ no_keys
release_was_read = refl

release_was_not : last_read (PolledApart Due false ∷ Parted ∷ pressed) ≡ with_key no_keys 4
unfolding no_keys held_from
release_was_not = refl

-- the rate is 0 throughout a span from its selection on, or isn't
zero_at_the_selection : never_repeats (Polled 120 Nothing true ∷ Entered 110 ∷ Requested 100 (SetIdle 0) [] ∷ []) ≡ true
zero_at_the_selection = refl

set_later : never_repeats (Requested 120 (SetIdle 0) [] ∷ selected) ≡ false
set_later = refl

set_between : never_repeats (Requested 130 (SetIdle 0) [] ∷ Requested 120 (SetIdle 1) [] ∷ Entered 110 ∷ Requested 100 (SetIdle 0) [] ∷ []) ≡ false
set_between = refl
