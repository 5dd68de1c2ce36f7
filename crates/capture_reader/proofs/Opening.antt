-- What the header says, whatever comes behind it.
use Rattle.std.proofs.Common.{◌≡◌, ℕ, ◌<◌, ◌≤◌, true, false, nat_lt, List, [], ◌++◌, length, drop, slice_index, Option, Some, None, option_map, IfSome, Result, Err, refl, sym, ap, ◌∙◌, subst, arith, length-append}
use Rattle.std.proofs.lemmas.Bool.Decides.{nat_tests}
use Rattle.std.proofs.lemmas.List.{get_or_append_left}
use Rattle.psd_base.specs.declared.outlet.Input.TheVariants as inputs
use Rattle.psd_base.specs.declared.stop.CaptureFault.TheVariants.{Truncated}
use Rattle.psd_base.specs.declared.stop.Stop.{Stop}
use Rattle.psd_base.specs.declared.stop.Stop.TheVariants as stops
use Rattle.psd_base.specs.Desk.{Told}
use Rattle.capture_reader.specs.declared.fault.RecordFault.{RecordFault}
use Rattle.capture_reader.specs.declared.fault.RecordFault.TheVariants as of_record
use Rattle.capture_reader.specs.Capture.{header, records}
use Rattle.capture_reader.specs.Fault.{record_stop}
use Rattle.capture_reader.specs.Source.{later, IsFaulty, OpenFailed}
use Rattle.capture_reader.specs.Window.{Held, coming, still}
use Rattle.capture_reader.proofs.Looks.{coming_is, coming_past, coming_ended}

pub header-append : (xs ys : List ℕ) → 8 ≤ length xs → header (xs ++ ys) ≡ header xs
unfolding header
header-append xs ys whole =
    let at : (k : ℕ) → k < 8 → slice_index (xs ++ ys) k ≡ slice_index xs k = λ k below. get_or_append_left xs ys 0 k (omega arith) in
    let longer : nat_lt (length (xs ++ ys)) 8 ≡ false = let size : 8 ≤ length (xs ++ ys) = omega (arith, length-append xs ys) in grind (arith, nat_tests) in
    let long : nat_lt (length xs) 8 ≡ false = grind (arith, nat_tests) in
    rw (longer, long, at 0 (omega arith), at 1 (omega arith), at 2 (omega arith), at 3 (omega arith), at 4 (omega arith), at 5 (omega arith), at 6 (omega arith), at 7 (omega arith)) refl

pub header-short : (xs : List ℕ) → length xs < 8 → header xs ≡ Err (stops.Capture 0 Truncated)
unfolding header
header-short xs short =
    let test : nat_lt (length xs) 8 ≡ true = grind (arith, nat_tests) in
    rw test refl

-- all that was left at the beginning is what is held and what is left now
pub all_is : (held : Held) (left left_after : Option (List ℕ)) → still held left_after ≡ still (record { bytes = []; ended = false }) left → left ≡ option_map (coming held) left_after
unfolding still
all_is held None left_after same = sym same
all_is held (Some left) left_after same = sym same

header_of_coming : (held : Held) (left : List ℕ) → 8 ≤ length held.bytes → header (coming held left) ≡ header held.bytes
header_of_coming held left whole =
    let behind = coming_is held.bytes held.ended left in
    ap header behind.1 ∙ header-append held.bytes behind.0 whole

pub header_told : (held : Held) (left left_after : Option (List ℕ)) (answer : Result ℕ Stop) → left ≡ option_map (coming held) left_after → 8 ≤ length held.bytes → header held.bytes ≡ answer
    → IfSome left (λ bytes. header bytes ≡ answer)
header_told held left None answer all whole is = subst (λ (told : Option (List ℕ)). IfSome told (λ bytes. header bytes ≡ answer)) (sym all) tt
header_told held left (Some after) answer all whole is =
    subst (λ (told : Option (List ℕ)). IfSome told (λ bytes. header bytes ≡ answer)) (sym all) (header_of_coming held after whole ∙ is)

pub header_cut : (held : Held) (left left_after : Option (List ℕ)) → left ≡ option_map (coming held) left_after → held.ended ≡ true → length held.bytes < 8
    → IfSome left (λ bytes. header bytes ≡ Err (stops.Capture 0 Truncated))
header_cut held left None all ended short = subst (λ (told : Option (List ℕ)). IfSome told (λ bytes. header bytes ≡ Err (stops.Capture 0 Truncated))) (sym all) tt
header_cut held left (Some after) all ended short =
    subst (λ (told : Option (List ℕ)). IfSome told (λ bytes. header bytes ≡ Err (stops.Capture 0 Truncated))) (sym all) (ap header (coming_ended held after ended) ∙ header-short held.bytes short)

pub records_told : (held : Held) (left left_after : Option (List ℕ)) (ports : ℕ) → left ≡ option_map (coming held) left_after → 8 ≤ length held.bytes
    → option_map (λ bytes. records ports 0 8 0 (drop 8 bytes)) left ≡ later (records ports 0 8 0) (record held { bytes = drop 8 held.bytes }) left_after
unfolding later still
records_told held left None ports all whole = ap (option_map (λ bytes. records ports 0 8 0 (drop 8 bytes))) all
records_told held left (Some after) ports all whole =
    ap (option_map (λ bytes. records ports 0 8 0 (drop 8 bytes))) all
    ∙ ap (λ bytes. Some (records ports 0 8 0 bytes)) (coming_past held.bytes held.ended after 8 whole)

pub open_failed : (desk desk_after : Told) (fault : RecordFault) → IsFaulty fault → IfSome (desk.left inputs.Capture) (λ bytes. header bytes ≡ Err (record_stop fault)) → OpenFailed desk desk_after fault
open_failed desk desk_after of_record.Unread is told = absurd is
open_failed desk desk_after (of_record.Faulty offset why) is told = told
