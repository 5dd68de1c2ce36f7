-- Where no event is to come, whatever the desk has left, the end was met.
use Rattle.std.proofs.Common.{◌≡◌, ℕ, Bool, true, false, ◌+◌, ◌-◌, List, [], ◌∷◌, ◌++◌, length, Some, None, Result, Ok, Err, refl, ap}
use Rattle.std.proofs.lemmas.Option.{MatchOption-at_none}
use Rattle.psd_base.specs.declared.stop.Stop.{Stop}
use Rattle.psd_base.specs.declared.stop.Stop.TheVariants as stops
use Rattle.psd_base.specs.Event.{Seen}
use Rattle.capture_reader.specs.declared.progress.Progress.{Progress}
use Rattle.capture_reader.specs.declared.progress.State.TheVariants.{Waiting}
use Rattle.capture_reader.specs.Ahead.{ahead_of, line_of}
use Rattle.capture_reader.specs.Capture.{head_of, size_of, record_at, records}
use Rattle.capture_reader.specs.Progress.{IsSound}
use Rattle.capture_reader.specs.Schedule.{Schedule, in_front, over}
use Rattle.capture_reader.specs.Script.{first_line, line_at, lines}
use Rattle.capture_reader.specs.Source.{Ends}
use Rattle.capture_reader.proofs.Upcoming.{waiting_records, waiting_lines}

-- an event or a fault is no end
some_comes : {Fault : Type 0} (found : Result Seen Fault) (later : Seen → Schedule) (stop : Fault → Stop)
    → elim found [ Ok event ↦ in_front event (later event) | Err why ↦ over (Some (stop why)) ] ≡ over None → ⊥
some_comes (Ok event) later stop same = let none = ap (λ (schedule : Schedule). schedule.events) same in cc
some_comes (Err why) later stop same = let none = ap (λ (schedule : Schedule). schedule.stop) same in cc

no_bytes : (ports last offset : ℕ) (bytes : List ℕ) → records ports last offset 0 bytes ≡ over None → bytes ≡ []
unfolding records
no_bytes ports last offset [] none = refl
no_bytes ports last offset (byte ∷ bytes) none =
    absurd (some_comes (record_at ports last (byte ∷ bytes)) (λ event. records ports event.tick (offset + 1) (size_of (head_of (byte ∷ bytes)) - 1) bytes) (stops.Capture offset) none)

no_line_bytes : (ports last number : ℕ) (bytes : List ℕ) → lines ports last number 0 bytes ≡ over None → bytes ≡ []
unfolding lines
no_line_bytes ports last number [] none = refl
no_line_bytes ports last number (byte ∷ bytes) none =
    absurd (some_comes (line_at ports last (first_line (byte ∷ bytes))) (λ event. lines ports event.tick (number + 1) (length (first_line (byte ∷ bytes))) bytes) (stops.Script number) none)

one_more : (bytes : List ℕ) → bytes ++ (0 ∷ []) ≡ [] → ⊥
one_more [] none = cc
one_more (byte ∷ bytes) none = cc

is_met : (walk : List ℕ → Schedule) → ((bytes : List ℕ) → walk bytes ≡ over None → bytes ≡ []) → (bytes : List ℕ) (ended : Bool) → Ends walk (record { bytes = bytes; ended = ended }) None → ended ≡ true
is_met walk none bytes true ends = refl
is_met walk none bytes false ends = absurd (one_more bytes (none (bytes ++ (0 ∷ [])) (ends (0 ∷ []))))

-- neither source has an event
pub ends_are_met : (progress : Progress) → IsSound progress → progress.state ≡ Waiting → ahead_of progress.capture.ahead ≡ None → line_of progress.script.ahead ≡ None
    → (progress.capture.window.ended ≡ true) × (progress.script.window.ended ≡ true)
ends_are_met progress sound waiting no_record no_line =
    let capture = progress.capture in
    let script = progress.script in (
      is_met (records capture.ports capture.tick capture.offset 0) (no_bytes capture.ports capture.tick capture.offset) capture.window.bytes capture.window.ended (MatchOption-at_none _ _ no_record (waiting_records progress sound waiting)),
      is_met (lines capture.ports script.tick script.line 0) (no_line_bytes capture.ports script.tick script.line) script.window.bytes script.window.ended (MatchOption-at_none _ _ no_line (waiting_lines progress sound waiting)),
    )
