-- The definitions at work on small histories of polls, each computed.
use Rattle.std.specs.Prelude.{◌≡◌, ℕ, Bool, true, false, List, [], ◌∷◌, Option, Some, None, refl}
use Rattle.psd_base.specs.KeySet.{no_keys, keys_from}
use Rattle.psd_base.specs.declared.act.Answer.{Answer}
use Rattle.psd_base.specs.declared.act.Answer.TheVariants.{Nak, Data}
use Rattle.input_latch.specs.declared.key_latch.KeyChange.{KeyChange}
use Rattle.input_latch.specs.declared.key_latch.KeyChange.TheVariants.{Press, Release}
use Rattle.input_latch.specs.KeyHistory.{held_from}
use Rattle.control_pipe.specs.declared.hid_request.HidRequest.TheVariants.{SetIdle}
use Rattle.emulated_keyboard.specs.Report.{filled, key_report}
use Rattle.emulated_keyboard.specs.KeyboardHistory.{KeyboardEntry, Entered, Parted, Reset, Configured, Requested, Polled, PolledApart, given_at, given_apart, toggle_of, last_made, answer_of}

-- a poll at a tick while the latch has this change next, or one while the port isn't selected
abbrev polled : ℕ → Option KeyChange → Bool → List KeyboardEntry → List KeyboardEntry
polled tick next acked past = Polled tick (given_at next tick past) acked ∷ past

abbrev polled_apart : Bool → List KeyboardEntry → List KeyboardEntry
polled_apart acked past = PolledApart (given_apart past) acked ∷ past

-- what the next such poll is answered
abbrev answered : ℕ → Option KeyChange → List KeyboardEntry → Answer
answered tick next past = answer_of (given_at next tick past) (toggle_of past) (last_made (polled tick next true past))

abbrev answered_apart : List KeyboardEntry → Answer
answered_apart past = answer_of (given_apart past) (toggle_of past) (last_made (polled_apart true past))

abbrev selected : List KeyboardEntry
selected = Entered 110 ∷ Configured ∷ []

-- key 4 is pressed, and its report isn't acknowledged; then the port is left
abbrev unread : List KeyboardEntry
unread = polled 141 (Some (Press 4)) false selected

first_report : answered 141 (Some (Press 4)) selected ≡ Data false (0 ∷ 0 ∷ 4 ∷ 0 ∷ 0 ∷ 0 ∷ 0 ∷ 0 ∷ [])
unfolding no_keys keys_from held_from filled key_report
first_report = refl

the_same_again : answered 142 (Some (Release 4)) unread ≡ Data false (0 ∷ 0 ∷ 4 ∷ 0 ∷ 0 ∷ 0 ∷ 0 ∷ 0 ∷ [])
unfolding no_keys keys_from held_from filled key_report
the_same_again = refl

left_unread : answered_apart (polled_apart false (Parted ∷ unread)) ≡ Data false (0 ∷ 0 ∷ 4 ∷ 0 ∷ 0 ∷ 0 ∷ 0 ∷ 0 ∷ [])
unfolding no_keys keys_from held_from filled key_report
left_unread = refl

then_its_release : answered_apart (polled_apart true (Parted ∷ unread)) ≡ Data true (0 ∷ 0 ∷ 0 ∷ 0 ∷ 0 ∷ 0 ∷ 0 ∷ 0 ∷ [])
unfolding no_keys keys_from held_from filled key_report
then_its_release = refl

then_nothing : answered_apart (polled_apart true (polled_apart true (Parted ∷ unread))) ≡ Nak
unfolding no_keys keys_from held_from filled key_report
then_nothing = refl

-- a due release comes before the changes of a later selection
over_a_selection : answered 300 (Some (Press 5)) (Entered 290 ∷ polled_apart true (Parted ∷ unread)) ≡ Data true (0 ∷ 0 ∷ 0 ∷ 0 ∷ 0 ∷ 0 ∷ 0 ∷ 0 ∷ [])
unfolding no_keys keys_from held_from filled key_report
over_a_selection = refl

no_second_release : answered_apart (Parted ∷ Entered 290 ∷ polled_apart true (polled_apart true (Parted ∷ unread))) ≡ Nak
unfolding no_keys keys_from held_from filled key_report
no_second_release = refl

reset_drops_both : answered_apart (Reset 260 ∷ Parted ∷ unread) ≡ Nak
unfolding no_keys keys_from held_from filled key_report
reset_drops_both = refl

-- modifiers are bits, and ordinary keys stand in order
in_one_report : answered 9 (Some (Press 4)) (polled 8 (Some (Press 6)) true (polled 7 (Some (Press 231)) true (polled 6 (Some (Press 225)) true selected)))
    ≡ Data true (130 ∷ 0 ∷ 4 ∷ 6 ∷ 0 ∷ 0 ∷ 0 ∷ 0 ∷ [])
unfolding no_keys keys_from held_from filled key_report
in_one_report = refl

-- idle rate 25, set at 130: the report with nothing pressed at 230 and not before, then 100 ticks after it is read
abbrev rated : List KeyboardEntry
rated = Requested 130 (SetIdle 25) [] ∷ selected

not_yet : answered 229 None rated ≡ Nak
unfolding no_keys keys_from held_from filled key_report
not_yet = refl

its_time : answered 230 None rated ≡ Data false (0 ∷ 0 ∷ 0 ∷ 0 ∷ 0 ∷ 0 ∷ 0 ∷ 0 ∷ [])
unfolding no_keys keys_from held_from filled key_report
its_time = refl

from_the_acknowledged_report : answered 330 None (polled 231 None true (polled 230 None false rated)) ≡ Nak
unfolding no_keys keys_from held_from filled key_report
from_the_acknowledged_report = refl

its_time_again : answered 331 None (polled 231 None true (polled 230 None false rated)) ≡ Data true (0 ∷ 0 ∷ 0 ∷ 0 ∷ 0 ∷ 0 ∷ 0 ∷ 0 ∷ [])
unfolding no_keys keys_from held_from filled key_report
its_time_again = refl

never : answered 100000 None (Requested 130 (SetIdle 0) [] ∷ selected) ≡ Nak
unfolding no_keys keys_from held_from filled key_report
never = refl
