-- What the records in a list of bytes say, read record by record.
use Rattle.std.proofs.Common.{◌≡◌, ℕ, zero, suc, ◌+◌, ◌-◌, ◌*◌, ◌<◌, ◌≤◌, true, false, nat_lt, List, [], ◌∷◌, ◌++◌, length, take, drop, slice_range, slice_index, Some, Ok, Err, refl, sym, ap, ◌∙◌, arith, length-drop}
use Rattle.std.proofs.lemmas.Bool.Decides.{nat_tests}
use Rattle.std.proofs.lemmas.List.{get_or_append_left, drop-append-le, take-append-le}
use Rattle.psd_base.specs.declared.stop.CaptureFault.{CaptureFault}
use Rattle.psd_base.specs.declared.stop.CaptureFault.TheVariants.{Truncated}
use Rattle.psd_base.specs.declared.stop.Stop.TheVariants as stops
use Rattle.psd_base.specs.Event.{Happening, Seen}
use Rattle.capture_reader.specs.declared.form.Form.{Form}
use Rattle.capture_reader.specs.declared.form.Head.{Head}
use Rattle.capture_reader.specs.Capture.{head_of, size_of, payload_of, announced, happening_in, record_at, records}
use Rattle.capture_reader.specs.Schedule.{in_front, over}

-- so many bytes are passed over
pub records_skipped : (ports last offset skip : ℕ) (bytes : List ℕ) → records ports last offset skip bytes ≡ records ports last (offset + skip) 0 (drop skip bytes)
unfolding records
records_skipped ports last offset zero bytes = let same : offset + 0 ≡ offset = omega arith in ap (λ place. records ports last place 0 bytes) (sym same)
records_skipped ports last offset (suc skip) [] = refl
records_skipped ports last offset (suc skip) (byte ∷ bytes) =
    let same : offset + 1 + skip ≡ offset + suc skip = omega arith in
    records_skipped ports last (offset + 1) skip bytes ∙ ap (λ place. records ports last place 0 (drop skip bytes)) same

-- a record at the front, and the records after it
pub records_valid : (ports last offset : ℕ) (event : Seen) (bytes : List ℕ) → 0 < length bytes → record_at ports last bytes ≡ Ok event
    → records ports last offset 0 bytes ≡ in_front event (records ports event.tick (offset + size_of (head_of bytes)) 0 (drop (size_of (head_of bytes)) bytes))
unfolding records
records_valid ports last offset event [] some valid = absurd (omega arith)
records_valid ports last offset event (byte ∷ bytes) some valid =
    let size : ℕ = size_of (head_of (byte ∷ bytes)) in
    let place : offset + 1 + (size - 1) ≡ offset + size = omega arith in
    let positive : size ≡ suc (size - 1) = omega arith in
    rw (valid, records) (ap (in_front event) (records_skipped ports event.tick (offset + 1) (size - 1) bytes
    ∙ ap (λ place. records ports event.tick place 0 (drop (size - 1) bytes)) place
    ∙ ap (λ count. records ports event.tick (offset + size) 0 (drop count (byte ∷ bytes))) (sym positive)))

-- no record at the front
pub records_faulty : (ports last offset : ℕ) (why : CaptureFault) (bytes : List ℕ) → 0 < length bytes → record_at ports last bytes ≡ Err why
    → records ports last offset 0 bytes ≡ over (Some (stops.Capture offset why))
unfolding records
records_faulty ports last offset why [] some faulty = absurd (omega arith)
records_faulty ports last offset why (byte ∷ bytes) some faulty = rw (faulty, records) refl

-- a head as it is read, byte by byte
pub head_read : (read bytes : List ℕ) (tick size : ℕ) → read ≡ bytes
    → tick ≡ slice_index read 0 + slice_index read 1 * 256 + slice_index read 2 * 65536 + slice_index read 3 * 16777216
    → size ≡ slice_index read 6 + slice_index read 7 * 256
    → head_of bytes ≡ record { tick = tick; kind = slice_index read 4; who = slice_index read 5; length = size }
head_read read bytes tick size same tick_is size_is =
    let first : (head_of read).tick ≡ tick = omega arith in
    let last : (head_of read).length ≡ size = omega arith in
    let with_tick : ℕ → Head = λ n. record (head_of read) { tick = n } in
    let with_size : ℕ → Head = λ n. record (head_of read) { tick = tick; length = n } in
    ap head_of (sym same) ∙ ap with_tick first ∙ ap with_size last

-- bytes behind a head don't change it
pub head_of-append : (xs ys : List ℕ) → 8 ≤ length xs → head_of (xs ++ ys) ≡ head_of xs
head_of-append xs ys whole =
    let at : (k : ℕ) → k < 8 → slice_index (xs ++ ys) k ≡ slice_index xs k = λ k below. get_or_append_left xs ys 0 k (omega arith) in
    rw (at 0 (omega arith), at 1 (omega arith), at 2 (omega arith), at 3 (omega arith), at 4 (omega arith), at 5 (omega arith), at 6 (omega arith), at 7 (omega arith)) refl

-- nor do bytes behind a record change its payload
slice_range-append : (xs ys : List ℕ) (start end : ℕ) → start ≤ end → end ≤ length xs → slice_range (xs ++ ys) start end ≡ slice_range xs start end
slice_range-append xs ys start end ordered within =
    ap (take (end - start)) (drop-append-le start xs ys (omega arith)) ∙ take-append-le (end - start) (drop start xs) ys (omega (arith, length-drop start xs))

pub payload_of-append : (xs ys : List ℕ) → 8 ≤ length xs → size_of (head_of xs) ≤ length xs → payload_of (xs ++ ys) ≡ payload_of xs
payload_of-append xs ys whole fits =
    ap (λ (head : Head). slice_range (xs ++ ys) 8 (size_of head)) (head_of-append xs ys whole)
    ∙ slice_range-append xs ys 8 (size_of (head_of xs)) (omega arith) fits

-- the checks of a record, one after another
pub record_at-short : (ports last : ℕ) (bytes : List ℕ) → length bytes < 8 → record_at ports last bytes ≡ Err Truncated
unfolding record_at
record_at-short ports last bytes short =
    let test : nat_lt (length bytes) 8 ≡ true = grind (arith, nat_tests) in
    rw test refl

pub record_at-head : (ports last : ℕ) (bytes : List ℕ) (why : CaptureFault) → 8 ≤ length bytes → announced ports last (head_of bytes) ≡ Err why
    → record_at ports last bytes ≡ Err why
unfolding record_at
record_at-head ports last bytes why whole faulty =
    let test : nat_lt (length bytes) 8 ≡ false = grind (arith, nat_tests) in
    rw (test, faulty) refl

pub record_at-cut : (ports last : ℕ) (bytes : List ℕ) (form : Form) → 8 ≤ length bytes → announced ports last (head_of bytes) ≡ Ok form
    → length bytes < size_of (head_of bytes) → record_at ports last bytes ≡ Err Truncated
unfolding record_at
record_at-cut ports last bytes form whole sound short =
    let test : nat_lt (length bytes) 8 ≡ false = grind (arith, nat_tests) in
    let size : nat_lt (length bytes) (size_of (head_of bytes)) ≡ true = grind (arith, nat_tests) in
    rw (test, sound, size) refl

pub record_at-field : (ports last : ℕ) (bytes : List ℕ) (form : Form) (why : CaptureFault) → 8 ≤ length bytes → announced ports last (head_of bytes) ≡ Ok form
    → size_of (head_of bytes) ≤ length bytes → happening_in form (payload_of bytes) ≡ Err why → record_at ports last bytes ≡ Err why
unfolding record_at
record_at-field ports last bytes form why whole sound enough faulty =
    let test : nat_lt (length bytes) 8 ≡ false = grind (arith, nat_tests) in
    let size : nat_lt (length bytes) (size_of (head_of bytes)) ≡ false = grind (arith, nat_tests) in
    rw (test, sound, size, faulty) refl

pub record_at-valid : (ports last : ℕ) (bytes : List ℕ) (form : Form) (happening : Happening) → 8 ≤ length bytes → announced ports last (head_of bytes) ≡ Ok form
    → size_of (head_of bytes) ≤ length bytes → happening_in form (payload_of bytes) ≡ Ok happening
    → record_at ports last bytes ≡ Ok (record { tick = (head_of bytes).tick; happening = happening })
unfolding record_at
record_at-valid ports last bytes form happening whole sound enough valid =
    let test : nat_lt (length bytes) 8 ≡ false = grind (arith, nat_tests) in
    let size : nat_lt (length bytes) (size_of (head_of bytes)) ≡ false = grind (arith, nat_tests) in
    rw (test, sound, size, valid) refl
