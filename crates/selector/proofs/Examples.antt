-- The definitions at work on small sessions at the panel, each computed.
use Rattle.std.specs.Prelude.{◌≡◌, true, false, List, [], ◌∷◌, Some, None, refl}
use Rattle.psd_base.specs.declared.console.Panel.TheVariants.{Guard, Button, Check, Tamper}
use Rattle.selector.specs.declared.selector.Move.TheVariants.{Stay, Leave, Enter, LeaveEnter}
use Rattle.selector.specs.declared.selector.Move.{Move}
use Rattle.selector.specs.Moments.{Moment, Moved, Ticked}
use Rattle.selector.specs.Panel.{ports_down, are_buttons_up, pair_after, pair_since}
use Rattle.selector.specs.declared.choice.Choice.TheVariants.{Nobody, Target}
use Rattle.selector.specs.Choice.{chosen, choice_after, selected_in, move_of}

-- what a moment changes
abbrev move_at : Moment → List Moment → Move
move_at moment past = move_of (choice_after past) (choice_after (moment ∷ past))

nothing_at_first : choice_after [] ≡ Nobody
unfolding chosen
nothing_at_first = refl

-- the guard at 10, the button of port 1 at 10
abbrev pressed : List Moment
pressed = Moved 10 (Button 1 true) ∷ Moved 10 (Guard true) ∷ []

pair_of_one : pair_after pressed ≡ Some 1
unfolding ports_down
pair_of_one = refl

too_early : choice_after (Ticked 109 true ∷ pressed) ≡ Nobody
unfolding chosen ports_down
too_early = refl

in_time : move_at (Ticked 110 true) pressed ≡ Enter 1
unfolding chosen ports_down
in_time = refl

by_clock_events_alone : choice_after (Moved 120 (Check 1 true) ∷ pressed) ≡ Nobody
unfolding chosen ports_down
by_clock_events_alone = refl

-- the guard is let go at 60 and pressed at 61 besides
abbrev pressed_again : List Moment
pressed_again = Moved 61 (Guard true) ∷ Moved 60 (Guard false) ∷ pressed

not_by_the_first_pair : choice_after (Ticked 160 true ∷ Ticked 110 true ∷ pressed_again) ≡ Nobody
unfolding chosen ports_down
not_by_the_first_pair = refl

by_the_second_pair : move_at (Ticked 161 true) (Ticked 160 true ∷ Ticked 110 true ∷ pressed_again) ≡ Enter 1
unfolding chosen ports_down
by_the_second_pair = refl

-- a move that changes no button goes on with the pair
repeated : pair_since (Moved 90 Tamper ∷ Moved 80 (Button 2 false) ∷ Moved 70 (Guard true) ∷ Moved 65 (Button 1 true) ∷ pressed_again) ≡ 61
unfolding ports_down
repeated = refl

-- port 1 is selected, and the pair of port 2 stands from 150 on
abbrev second_pair : List Moment
second_pair = Moved 150 (Button 2 true) ∷ Moved 140 (Button 1 false) ∷ Ticked 110 true ∷ pressed

the_first_stays : move_at (Ticked 249 true) second_pair ≡ Stay
unfolding chosen ports_down
the_first_stays = refl

at_once : move_at (Ticked 250 true) second_pair ≡ LeaveEnter 1 2
unfolding chosen ports_down
at_once = refl

left_first : move_at (Ticked 250 false) second_pair ≡ Leave 1 2
unfolding chosen ports_down
left_first = refl

still_waiting : move_at (Ticked 251 false) (Ticked 250 false ∷ second_pair) ≡ Stay
unfolding chosen ports_down
still_waiting = refl

entered_later : move_at (Ticked 300 true) (Moved 260 (Guard false) ∷ Ticked 250 false ∷ second_pair) ≡ Enter 2
unfolding chosen ports_down
entered_later = refl

nobody_meanwhile : selected_in (choice_after (Ticked 250 false ∷ second_pair)) ≡ None
unfolding chosen ports_down
nobody_meanwhile = refl

-- an ask for the selected port changes nothing, whatever is pressed
asked_again : move_at (Ticked 111 false) (Ticked 110 true ∷ pressed) ≡ Stay
unfolding chosen ports_down
asked_again = refl

-- a target gives way to a later one
another_target : choice_after (Ticked 400 false ∷ Moved 290 (Button 3 true) ∷ Moved 280 (Button 2 false) ∷ Ticked 250 false ∷ second_pair) ≡ Target 3
unfolding chosen ports_down
another_target = refl

-- a port that was left waits again where it is asked for again
back_to_the_first : choice_after (Ticked 400 false ∷ Moved 290 (Button 1 true) ∷ Moved 280 (Button 2 false) ∷ Ticked 250 false ∷ second_pair) ≡ Target 1
unfolding chosen ports_down
back_to_the_first = refl

-- a third button ends the pair
third_button : pair_after (Moved 50 (Button 2 true) ∷ pressed) ≡ None
unfolding ports_down
third_button = refl

no_pair_no_ask : choice_after (Ticked 110 true ∷ Moved 50 (Button 2 true) ∷ pressed) ≡ Nobody
unfolding chosen ports_down
no_pair_no_ask = refl

hold_begins_again : move_at (Ticked 160 true) (Moved 60 (Button 2 false) ∷ Moved 50 (Button 2 true) ∷ pressed) ≡ Enter 1
unfolding chosen ports_down
hold_begins_again = refl

too_early_again : choice_after (Ticked 159 true ∷ Moved 60 (Button 2 false) ∷ Moved 50 (Button 2 true) ∷ pressed) ≡ Nobody
unfolding chosen ports_down
too_early_again = refl

a_port's_button_is_down : are_buttons_up (Moved 20 (Guard false) ∷ pressed) ≡ false
unfolding ports_down
a_port's_button_is_down = refl

all_up_again : are_buttons_up (Moved 30 (Button 1 false) ∷ Moved 20 (Guard false) ∷ pressed) ≡ true
unfolding ports_down
all_up_again = refl
