-- The definitions at work on small histories of polls, each computed.
use Rattle.std.specs.Prelude.{◌≡◌, pos, negsuc, Bool, true, false, List, [], ◌∷◌, Option, Some, None, refl}
use Rattle.psd_base.specs.declared.act.Answer.{Answer}
use Rattle.psd_base.specs.declared.act.Answer.TheVariants.{Nak, Data}
use Rattle.input_latch.specs.declared.pointer_latch.PointerChange.{PointerChange}
use Rattle.input_latch.specs.declared.pointer_latch.PointerChange.TheVariants.{Press, Motion}
use Rattle.input_latch.specs.Buttons.{no_buttons}
use Rattle.input_latch.specs.PointerHistory.{held_from}
use Rattle.emulated_mouse.specs.Motion.{motion, piece, pieces, pieces_of, pieces_left, still}
use Rattle.emulated_mouse.specs.MouseHistory.{MouseEntry, Entered, Parted, Reset, Polled, PolledApart, given_at, given_apart, toggle_of, last_made, answer_of}

-- a poll while the latch has this change next, or one while the port isn't selected
abbrev polled : Option PointerChange → Bool → List MouseEntry → List MouseEntry
polled next acked past = Polled (given_at next past) acked ∷ past

abbrev polled_apart : Bool → List MouseEntry → List MouseEntry
polled_apart acked past = PolledApart (given_apart past) acked ∷ past

-- what the next such poll is answered
abbrev answered : Option PointerChange → List MouseEntry → Answer
answered next past = answer_of (given_at next past) (toggle_of past) (last_made (polled next true past))

abbrev answered_apart : List MouseEntry → Answer
answered_apart past = answer_of (given_apart past) (toggle_of past) (last_made (polled_apart true past))

abbrev selected : List MouseEntry
selected = Entered ∷ []

-- 300 counts to the right and 5 away from the user take three reports
abbrev far : Option PointerChange
far = Some (Motion (pos 300) (negsuc 4) (pos 0))

three_pieces : pieces_of (motion (pos 300) (negsuc 4) (pos 0)) ≡ piece (pos 127) (negsuc 4) (pos 0) ∷ piece (pos 127) (pos 0) (pos 0) ∷ piece (pos 46) (pos 0) (pos 0) ∷ []
unfolding pieces
three_pieces = refl

first_piece : answered far selected ≡ Data false (0 ∷ 127 ∷ 251 ∷ 0 ∷ [])
unfolding no_buttons held_from
first_piece = refl

second_piece : answered None (polled far true selected) ≡ Data true (0 ∷ 127 ∷ 0 ∷ 0 ∷ [])
unfolding no_buttons held_from
second_piece = refl

third_piece : answered None (polled None true (polled far true selected)) ≡ Data false (0 ∷ 46 ∷ 0 ∷ 0 ∷ [])
unfolding no_buttons held_from
third_piece = refl

then_nothing : answered None (polled None true (polled None true (polled far true selected))) ≡ Nak
unfolding no_buttons held_from
then_nothing = refl

-- no piece says -128, and a motion of 127 counts or of none takes one report
no_piece_of_128 : pieces_of (motion (negsuc 127) (pos 127) (pos 0)) ≡ piece (negsuc 126) (pos 127) (pos 0) ∷ piece (negsuc 0) (pos 0) (pos 0) ∷ []
unfolding pieces
no_piece_of_128 = refl

one_piece : pieces_of (motion (negsuc 126) (pos 127) (pos 1)) ≡ piece (negsuc 126) (pos 127) (pos 1) ∷ []
unfolding pieces
one_piece = refl

one_piece_of_none : pieces_of still ≡ piece (pos 0) (pos 0) (pos 0) ∷ []
unfolding pieces
one_piece_of_none = refl

nothing_left : pieces_left still ≡ []
unfolding pieces
nothing_left = refl

-- button 3 is pressed in its own report, and a motion shows it
pressed : answered (Some (Press 3)) selected ≡ Data false (4 ∷ 0 ∷ 0 ∷ 0 ∷ [])
unfolding no_buttons held_from
pressed = refl

moved_with_it_down : answered (Some (Motion (pos 0) (pos 0) (negsuc 0))) (polled (Some (Press 3)) true selected) ≡ Data true (4 ∷ 0 ∷ 0 ∷ 255 ∷ [])
unfolding no_buttons held_from
moved_with_it_down = refl

-- the press isn't acknowledged; then the port is left: the same report, and then the release
abbrev unread : List MouseEntry
unread = Parted ∷ polled (Some (Press 1)) false selected

left_unread : answered_apart (polled_apart false unread) ≡ Data false (1 ∷ 0 ∷ 0 ∷ 0 ∷ [])
unfolding no_buttons held_from
left_unread = refl

then_its_release : answered_apart (polled_apart true unread) ≡ Data true (0 ∷ 0 ∷ 0 ∷ 0 ∷ [])
unfolding no_buttons held_from
then_its_release = refl

no_second_release : answered_apart (Parted ∷ Entered ∷ polled_apart true (polled_apart true unread)) ≡ Nak
unfolding no_buttons held_from
no_second_release = refl

-- a due release comes before the changes of a later selection
over_a_selection : answered (Some (Press 5)) (Entered ∷ polled_apart true unread) ≡ Data true (0 ∷ 0 ∷ 0 ∷ 0 ∷ [])
unfolding no_buttons held_from
over_a_selection = refl

-- a reset drops both, and what is left of a motion; so does leaving, of the latter
reset_drops_both : answered_apart (Reset ∷ unread) ≡ Nak
unfolding no_buttons held_from
reset_drops_both = refl

reset_drops_the_rest : answered None (Reset ∷ polled far true selected) ≡ Nak
unfolding no_buttons held_from
reset_drops_the_rest = refl

left_in_the_middle : answered None (Entered ∷ Parted ∷ polled far true selected) ≡ Nak
unfolding no_buttons held_from
left_in_the_middle = refl

-- a piece that wasn't acknowledged comes again before the next piece
the_piece_again : answered None (polled None false (polled far true selected)) ≡ Data true (0 ∷ 127 ∷ 0 ∷ 0 ∷ [])
unfolding no_buttons held_from
the_piece_again = refl
