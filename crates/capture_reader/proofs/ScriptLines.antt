-- What looking one line ahead finds, whatever bytes come behind those that are held.
use Rattle.std.proofs.Common.{◌≡◌, ℕ, zero, suc, ◌+◌, ◌<◌, ◌≤◌, ◌⊎◌, inl, inr, Bool, true, false, nat_lt, List, [], ◌∷◌, length, take, drop, Some, None, Result, Ok, Err, refl, sym, ap, ◌∙◌, arith, length-append, length-take}
use Rattle.std.proofs.lemmas.Bool.Decides.{nat_tests}
use Rattle.std.proofs.lemmas.List.{take_all, nil_from_length}
use Rattle.psd_base.specs.declared.stop.ScriptFault.{ScriptFault}
use Rattle.psd_base.specs.declared.stop.ScriptFault.TheVariants.{LineTooLong}
use Rattle.psd_base.specs.declared.stop.Stop.TheVariants as stops
use Rattle.psd_base.specs.Event.{Seen}
use Rattle.capture_reader.specs.Schedule.{in_front, over}
use Rattle.capture_reader.specs.Script.{first_line, line_at, lines}
use Rattle.capture_reader.specs.Source.{Ends}
use Rattle.capture_reader.specs.Window.{Held, coming, FrontLine}
use Rattle.capture_reader.proofs.Looks.{coming_is, coming_ended, coming_past}

-- so many bytes are passed over
lines_skipped : (ports last number skip : ℕ) (bytes : List ℕ) → lines ports last number skip bytes ≡ lines ports last number 0 (drop skip bytes)
unfolding lines
lines_skipped ports last number zero bytes = refl
lines_skipped ports last number (suc skip) [] = refl
lines_skipped ports last number (suc skip) (byte ∷ bytes) = lines_skipped ports last number skip bytes

-- a line at the front, and the lines after it
lines_valid : (ports last number : ℕ) (event : Seen) (bytes : List ℕ) → 0 < length bytes → line_at ports last (first_line bytes) ≡ Ok event
    → lines ports last number 0 bytes ≡ in_front event (lines ports event.tick (number + 1) 0 (drop (length (first_line bytes) + 1) bytes))
unfolding lines
lines_valid ports last number event [] some valid = absurd (omega arith)
lines_valid ports last number event (byte ∷ bytes) some valid =
    let size : ℕ = length (first_line (byte ∷ bytes)) in
    let more : size + 1 ≡ suc size = omega arith in
    rw (valid, lines) (ap (in_front event) (lines_skipped ports event.tick (number + 1) size bytes
    ∙ ap (λ n. lines ports event.tick (number + 1) 0 (drop n (byte ∷ bytes))) (sym more)))

-- no line at the front
lines_faulty : (ports last number : ℕ) (why : ScriptFault) (bytes : List ℕ) → 0 < length bytes → line_at ports last (first_line bytes) ≡ Err why
    → lines ports last number 0 bytes ≡ over (Some (stops.Script number why))
unfolding lines
lines_faulty ports last number why [] some faulty = absurd (omega arith)
lines_faulty ports last number why (byte ∷ bytes) some faulty = rw (faulty, lines) refl

too_long : (ports last : ℕ) (line : List ℕ) → 64 < length line → line_at ports last line ≡ Err LineTooLong
unfolding line_at
too_long ports last line long =
    let test : nat_lt 64 (length line) ≡ true = grind (arith, nat_tests) in
    rw test refl

short_or_long : (size : ℕ) → (size ≤ 64) ⊎ (64 < size)
short_or_long size = elim (nat_lt 64 size) as (λ b. nat_lt 64 size ≡ b → (size ≤ 64) ⊎ (64 < size)) [
  | true ↦ λ is. inr (grind (arith, nat_tests))
  | false ↦ λ is. inl (grind (arith, nat_tests))
] refl

-- a line is judged by its first 65 bytes
line_at-take : (ports last : ℕ) (xs ys : List ℕ) → take 65 xs ≡ ys → line_at ports last xs ≡ line_at ports last ys
line_at-take ports last xs ys front =
    elim (short_or_long (length xs)) [
      | inl short ↦ ap (line_at ports last) (sym (take_all 65 xs (omega arith)) ∙ front)
      | inr long ↦ too_long ports last xs long ∙ sym (too_long ports last ys (omega (arith, ap length (sym front), length-take 65 xs)))
    ]

coming_some : (held : Held) (left : List ℕ) → 0 < length held.bytes → 0 < length (coming held left)
coming_some held left some =
    let behind = coming_is held.bytes held.ended left in
    let size : length (coming held left) ≡ length held.bytes + length behind.0 = ap length behind.1 ∙ length-append held.bytes behind.0 in
    omega arith

-- the line that is held is the first of what comes
line_of_coming : (ports last : ℕ) (held : Held) (size : ℕ) (answer : Result Seen ScriptFault) → FrontLine held size → line_at ports last (take size held.bytes) ≡ answer
    → (left : List ℕ) → line_at ports last (first_line (coming held left)) ≡ answer
line_of_coming ports last held size answer front is left = line_at-take ports last (first_line (coming held left)) (take size held.bytes) (front.line left) ∙ is

pub lines_end-empty : (ports last number : ℕ) (held : Held) (size : ℕ) → FrontLine held size → length held.bytes ≡ 0 → Ends (lines ports last number 0) held None
unfolding lines
lines_end-empty ports last number held size front none left =
    let ended : held.ended ≡ true = front.last (omega (arith, front.within)) (omega arith) in
    ap (lines ports last number 0) (coming_ended held left ended ∙ nil_from_length held.bytes none)

pub lines_end-faulty : (ports last number : ℕ) (held : Held) (size : ℕ) (why : ScriptFault) → FrontLine held size → 0 < length held.bytes
    → line_at ports last (take size held.bytes) ≡ Err why → Ends (lines ports last number 0) held (Some (stops.Script number why))
lines_end-faulty ports last number held size why front some faulty left =
    lines_faulty ports last number why (coming held left) (coming_some held left some) (line_of_coming ports last held size (Err why) front faulty left)

-- what comes behind the line
past_line : (bytes : List ℕ) (ended : Bool) (left : List ℕ) (size : ℕ) → (length bytes ≤ size → ended ≡ true)
    → drop (size + 1) (coming (record { bytes = bytes; ended = ended }) left) ≡ coming (record { bytes = drop (size + 1) bytes; ended = ended }) left
past_line bytes true left size last = refl
past_line bytes false left size last =
    elim (within (length bytes) size last) as (λ _. drop (size + 1) (coming (record { bytes = bytes; ended = false }) left) ≡ coming (record { bytes = drop (size + 1) bytes; ended = false }) left) [
      | inl some ↦ coming_past bytes false left (size + 1) some
      | inr none ↦ absurd none
    ] where
      within : (count size : ℕ) → (count ≤ size → false ≡ true) → (size + 1 ≤ count) ⊎ ⊥
      within count size last = elim (nat_lt size count) as (λ b. nat_lt size count ≡ b → (size + 1 ≤ count) ⊎ ⊥) [
        | true ↦ λ is. inl (grind (arith, nat_tests))
        | false ↦ λ is. inr (let no : false ≡ true = last (grind (arith, nat_tests)) in cc)
      ] refl

pub line_moves_on : (ports last number : ℕ) (held : Held) (size : ℕ) (event : Seen) → FrontLine held size → 0 < length held.bytes → length (take size held.bytes) ≤ 64
    → line_at ports last (take size held.bytes) ≡ Ok event → (left : List ℕ)
    → lines ports last number 0 (coming held left) ≡ in_front event (lines ports event.tick (number + 1) 0 (coming (record held { bytes = drop (size + 1) held.bytes }) left))
line_moves_on ports last number held size event front some short valid left =
    let whole : List ℕ = coming held left in
    let fits : size ≤ 64 = omega (arith, length-take size held.bytes, front.within) in
    let front_size : length (take 65 (first_line whole)) ≡ size = ap length (front.line left) ∙ length-take size held.bytes ∙ omega (arith, front.within) in
    let line_size : length (first_line whole) ≡ size = omega (arith, length-take 65 (first_line whole)) in
    lines_valid ports last number event whole (coming_some held left some) (line_of_coming ports last held size (Ok event) front valid left)
    ∙ ap (λ n. in_front event (lines ports event.tick (number + 1) 0 (drop (n + 1) whole))) line_size
    ∙ ap (λ bytes. in_front event (lines ports event.tick (number + 1) 0 bytes)) (past_line held.bytes held.ended left size (front.last fits))
