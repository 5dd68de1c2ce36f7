-- The slot's definitions at work on small sessions, each computed.
use Rattle.std.specs.Prelude.{◌≡◌, true, false, List, [], ◌∷◌, Some, refl}
use Rattle.psd_base.specs.declared.console.RuleName.TheVariants.{Fixed}
use Rattle.auth_router.specs.SlotCalls.{SlotCall, Attach, Clock, Detach, Leave, Bar, Check, Route}
use Rattle.auth_router.specs.Slot.{comes_on, goes_off, lives, state_after}
use Rattle.auth_router.specs.declared.slot.SlotState.TheVariants as state

absent_at_first : state_after [] ≡ state.Absent
absent_at_first = refl

on_at_once : comes_on Attach [] ≡ true
on_at_once = refl

asking_with_power : state_after (Attach ∷ []) ≡ state.Asking
asking_with_power = refl

attached_again : comes_on Attach (Attach ∷ []) ≡ false
attached_again = refl

-- attached, accepted, routed to port 1, and left at 250
abbrev left : List SlotCall
left = Leave 250 ∷ Route 1 ∷ Check ∷ Attach ∷ []

routed : state_after (Route 1 ∷ Check ∷ Attach ∷ []) ≡ state.Routed 1
routed = refl

off_where_it_is_left : goes_off (Leave 250) (Route 1 ∷ Check ∷ Attach ∷ []) ≡ true
off_where_it_is_left = refl

off_since : state_after left ≡ state.Off (Some 250)
off_since = refl

left_without_power : goes_off (Leave 260) left ≡ false
left_without_power = refl

too_early : comes_on (Clock 1249) left ≡ false
too_early = refl

in_time : comes_on (Clock 1250) left ≡ true
in_time = refl

in_time_again : comes_on (Clock 1250) (Clock 1249 ∷ left) ≡ true
in_time_again = refl

asking_anew : state_after (Clock 1250 ∷ left) ≡ state.Asking
asking_anew = refl

second_life : lives (Clock 1250 ∷ left) ≡ 2
second_life = refl

only_once : comes_on (Clock 2250) (Clock 1250 ∷ left) ≡ false
only_once = refl

-- unplugged at 300 and plugged in at 400: the last OFF is that of 250
no_off_at_the_detach : goes_off (Detach 300) left ≡ false
no_off_at_the_detach = refl

not_at_the_attachment : comes_on Attach (Detach 300 ∷ left) ≡ false
not_at_the_attachment = refl

off_since_the_last_off : state_after (Attach ∷ Detach 300 ∷ left) ≡ state.Off (Some 250)
off_since_the_last_off = refl

not_while_unplugged : comes_on (Clock 1250) (Detach 300 ∷ left) ≡ false
not_while_unplugged = refl

later_in_time : comes_on (Clock 1250) (Attach ∷ Detach 300 ∷ left) ≡ true
later_in_time = refl

-- unplugged with power at 300
off_at_the_detach : goes_off (Detach 300) (Check ∷ Attach ∷ []) ≡ true
off_at_the_detach = refl

counts_from_the_detach : comes_on (Clock 1299) (Attach ∷ Detach 300 ∷ Check ∷ Attach ∷ []) ≡ false
counts_from_the_detach = refl

-- refused at 20
abbrev refused : List SlotCall
refused = Bar 20 (Fixed 4) ∷ Attach ∷ []

off_where_it_is_refused : goes_off (Bar 20 (Fixed 4)) (Attach ∷ []) ≡ true
off_where_it_is_refused = refl

barred : state_after (Clock 5000 ∷ refused) ≡ state.Barred (Fixed 4)
barred = refl

no_power_while_barred : comes_on (Clock 5000) refused ≡ false
no_power_while_barred = refl

power_after_a_detach : comes_on (Clock 1020) (Attach ∷ Detach 30 ∷ refused) ≡ true
power_after_a_detach = refl

-- a routing of an earlier life is forgotten
not_routed_anew : state_after (Check ∷ Clock 1250 ∷ left) ≡ state.Checked
not_routed_anew = refl

-- left at the tick at which power came on: it rests from that tick
off_at_the_same_tick : goes_off (Leave 1250) (Clock 1250 ∷ left) ≡ true
off_at_the_same_tick = refl

rests_from_there : comes_on (Clock 2249) (Leave 1250 ∷ Clock 1250 ∷ left) ≡ false
rests_from_there = refl

and_no_longer : comes_on (Clock 2250) (Leave 1250 ∷ Clock 1250 ∷ left) ≡ true
and_no_longer = refl

-- where no token is attached nothing goes off
nothing_to_detach : goes_off (Detach 5) [] ≡ false
nothing_to_detach = refl

nothing_to_leave : goes_off (Leave 5) [] ≡ false
nothing_to_leave = refl

no_power_without_a_token : comes_on (Clock 5000) [] ≡ false
no_power_without_a_token = refl

-- a refused token has no power to lose, and stays refused where the computer is left
refused_and_left : goes_off (Leave 30) refused ≡ false
refused_and_left = refl

barred_when_left : state_after (Leave 30 ∷ refused) ≡ state.Barred (Fixed 4)
barred_when_left = refl

refused_and_detached : goes_off (Detach 30) refused ≡ false
refused_and_detached = refl

-- a routed token keeps its power while time passes
routed_for_long : state_after (Clock 9000 ∷ Route 1 ∷ Check ∷ Attach ∷ []) ≡ state.Routed 1
routed_for_long = refl

still_the_first_life : lives (Attach ∷ Detach 300 ∷ left) ≡ 1
still_the_first_life = refl
