-- The definitions at work on small histories, each computed.
use Rattle.std.specs.Prelude.{◌≡◌, ℕ, zero, suc, Bool, true, ℤ, pos, negsuc, List, [], ◌∷◌, length, Some, None, refl}
use Rattle.psd_base.specs.KeySet.{no_keys, with_key, keys_from}
use Rattle.psd_base.specs.declared.sample.Sample.{Sample}
use Rattle.input_latch.specs.declared.key_latch.KeyChange.TheVariants as key
use Rattle.input_latch.specs.declared.offered.Offered.{Offered}
use Rattle.input_latch.specs.declared.pointer_latch.PointerChange.TheVariants as pointer
use Rattle.input_latch.specs.Buttons.{only_from, no_buttons}
use Rattle.input_latch.specs.KeyHistory as keys
use Rattle.input_latch.specs.PointerHistory as pointers

abbrev counts : ℕ → ℕ → Offered
counts taken refused = record { taken = taken; refused = refused }

-- these keys are down
abbrev down : List ℕ → List Bool
down [] = no_keys
down (usage ∷ usages) = with_key (down usages) usage

-- six keys are taken, a seventh is refused, and it isn't tried again; one that goes makes room for another
abbrev six : List keys.KeyEntry
six = keys.Shown (down (4 ∷ 5 ∷ 6 ∷ 7 ∷ 8 ∷ 9 ∷ [])) ∷ []

abbrev seventh : List keys.KeyEntry
seventh = keys.Shown (down (4 ∷ 5 ∷ 6 ∷ 7 ∷ 8 ∷ 9 ∷ 10 ∷ [])) ∷ six

abbrev without_first : List keys.KeyEntry
without_first = keys.Shown (down (5 ∷ 6 ∷ 7 ∷ 8 ∷ 9 ∷ 10 ∷ [])) ∷ seventh

six_are_taken : keys.counts_of (down (4 ∷ 5 ∷ 6 ∷ 7 ∷ 8 ∷ 9 ∷ [])) [] ≡ counts 6 0
unfolding no_keys keys_from keys.accepted keys.offered_all keys.held_from
six_are_taken = refl

a_seventh_is_refused : keys.counts_of (down (4 ∷ 5 ∷ 6 ∷ 7 ∷ 8 ∷ 9 ∷ 10 ∷ [])) six ≡ counts 0 1
unfolding no_keys keys_from keys.accepted keys.offered_all keys.held_from
a_seventh_is_refused = refl

it_is_not_tried_again : keys.counts_of (down (5 ∷ 6 ∷ 7 ∷ 8 ∷ 9 ∷ 10 ∷ [])) seventh ≡ counts 1 0
unfolding no_keys keys_from keys.accepted keys.offered_all keys.held_from
it_is_not_tried_again = refl

another_has_room : keys.counts_of (down (5 ∷ 6 ∷ 7 ∷ 8 ∷ 9 ∷ 10 ∷ 11 ∷ [])) without_first ≡ counts 1 0
unfolding no_keys keys_from keys.accepted keys.offered_all keys.held_from
another_has_room = refl

-- releases first, modifiers inside
in_order : keys.accepted (keys.Shown (down (6 ∷ 7 ∷ 225 ∷ [])) ∷ keys.Shown (down (4 ∷ 5 ∷ 224 ∷ [])) ∷ [])
    ≡ key.Press 224 ∷ key.Press 4 ∷ key.Press 5 ∷ key.Release 4 ∷ key.Release 5 ∷ key.Release 224 ∷ key.Press 225 ∷ key.Press 6 ∷ key.Press 7 ∷ []
unfolding no_keys keys_from keys.accepted keys.offered_all keys.held_from
in_order = refl

-- a flush keeps the set that was shown last: a key that stays down gives nothing more
flushed_with_a_key_down : keys.accepted (keys.Shown (down (4 ∷ 5 ∷ [])) ∷ keys.Flushed ∷ keys.Shown (down (4 ∷ [])) ∷ []) ≡ key.Press 5 ∷ []
unfolding no_keys keys_from keys.accepted keys.offered_all keys.held_from
flushed_with_a_key_down = refl

its_release_is_nothing : keys.counts_of (down []) (keys.Flushed ∷ keys.Shown (down (4 ∷ [])) ∷ []) ≡ counts 0 0
unfolding no_keys keys_from keys.accepted keys.offered_all keys.held_from
its_release_is_nothing = refl

cleared_with_a_key_down : keys.accepted (keys.Shown (down (4 ∷ [])) ∷ keys.Cleared ∷ keys.Shown (down (4 ∷ [])) ∷ []) ≡ key.Press 4 ∷ []
unfolding no_keys keys_from keys.accepted keys.offered_all keys.held_from
cleared_with_a_key_down = refl

-- a key that is pressed and released so many times
abbrev pressed_times : ℕ → List keys.KeyEntry
pressed_times zero = []
pressed_times (suc n) = keys.Shown (down []) ∷ keys.Shown (down (4 ∷ [])) ∷ pressed_times n

abbrev full : List keys.KeyEntry
full = keys.Shown (down (4 ∷ [])) ∷ pressed_times 31

thirty_one_times : length (keys.undelivered (pressed_times 31)) ≡ 62
unfolding no_keys keys_from keys.accepted keys.offered_all keys.held_from
thirty_one_times = refl

one_more_press : keys.counts_of (down (4 ∷ [])) (pressed_times 31) ≡ counts 1 0
unfolding no_keys keys_from keys.accepted keys.offered_all keys.held_from
one_more_press = refl

no_place_for_two : keys.counts_of (down (4 ∷ 5 ∷ [])) full ≡ counts 0 1
unfolding no_keys keys_from keys.accepted keys.offered_all keys.held_from
no_place_for_two = refl

the_release_has_its_place : keys.counts_of (down []) full ≡ counts 1 0
unfolding no_keys keys_from keys.accepted keys.offered_all keys.held_from
the_release_has_its_place = refl

then_it_is_full : keys.counts_of (down (4 ∷ [])) (keys.Shown (down []) ∷ full) ≡ counts 0 1
unfolding no_keys keys_from keys.accepted keys.offered_all keys.held_from
then_it_is_full = refl

a_take_makes_no_place_for_two : keys.counts_of (down (4 ∷ [])) (keys.Took (Some (key.Press 4)) ∷ keys.Shown (down []) ∷ full) ≡ counts 0 1
unfolding no_keys keys_from keys.accepted keys.offered_all keys.held_from
a_take_makes_no_place_for_two = refl

-- samples
abbrev at : ℕ → ℤ → ℤ → ℤ → Sample
at buttons x y wheel = record { buttons = buttons; x = x; y = y; wheel = wheel }

motions_are_added : pointers.accepted (pointers.Sampled (at 0 (negsuc 4) (pos 2) (pos 1)) ∷ pointers.Sampled (at 0 (pos 300) (negsuc 4) (pos 0)) ∷ [])
    ≡ pointer.Motion (pos 295) (negsuc 2) (pos 1) ∷ []
unfolding only_from no_buttons keys_from pointers.accepted pointers.offered_all pointers.held_from pointers.last_change pointers.before_last
motions_are_added = refl

a_given_motion_is_not_added_to : pointers.accepted (pointers.Sampled (at 0 (pos 1) (pos 0) (pos 0)) ∷ pointers.Took (Some (pointer.Motion (pos 3) (pos 0) (pos 0))) ∷ pointers.Sampled (at 0 (pos 3) (pos 0) (pos 0)) ∷ [])
    ≡ pointer.Motion (pos 3) (pos 0) (pos 0) ∷ pointer.Motion (pos 1) (pos 0) (pos 0) ∷ []
unfolding only_from no_buttons keys_from pointers.accepted pointers.offered_all pointers.held_from pointers.last_change pointers.before_last
a_given_motion_is_not_added_to = refl

buttons_stand_between : pointers.accepted (pointers.Sampled (at 2 (pos 1) (pos 0) (pos 0)) ∷ pointers.Sampled (at 1 (pos 3) (pos 0) (pos 0)) ∷ [])
    ≡ pointer.Press 1 ∷ pointer.Motion (pos 3) (pos 0) (pos 0) ∷ pointer.Release 1 ∷ pointer.Press 2 ∷ pointer.Motion (pos 1) (pos 0) (pos 0) ∷ []
unfolding only_from no_buttons keys_from pointers.accepted pointers.offered_all pointers.held_from pointers.last_change pointers.before_last
buttons_stand_between = refl

the_largest_sum : pointers.counts_of (at 0 (pos 1) (pos 0) (pos 0)) (pointers.Sampled (at 0 (pos 2147483646) (pos 0) (pos 0)) ∷ []) ≡ counts 1 0
unfolding only_from no_buttons keys_from pointers.accepted pointers.offered_all pointers.held_from pointers.last_change pointers.before_last
the_largest_sum = refl

one_past_the_range : pointers.counts_of (at 0 (pos 1) (pos 0) (pos 0)) (pointers.Sampled (at 0 (pos 2147483647) (pos 0) (pos 0)) ∷ []) ≡ counts 0 1
unfolding only_from no_buttons keys_from pointers.accepted pointers.offered_all pointers.held_from pointers.last_change pointers.before_last
one_past_the_range = refl

one_below_the_range : pointers.counts_of (at 0 (pos 0) (pos 0) (negsuc 0)) (pointers.Sampled (at 0 (pos 0) (pos 0) (negsuc 2147483646)) ∷ []) ≡ counts 0 1
unfolding only_from no_buttons keys_from pointers.accepted pointers.offered_all pointers.held_from pointers.last_change pointers.before_last
one_below_the_range = refl
